-- Entries that were written one after another are read back one after another.
use Rattle.std.proofs.Common.{◌≡◌, ◌<◌, ◌≤◌, ℕ, suc, ◌+◌, ◌-◌, ◌*◌, List, [], ◌∷◌, ◌++◌, length, drop, get_or, All, Some, refl, sym, ap, subst, ◌∙◌, append_assoc, append-nil, length-append, length-drop, arith}
use Rattle.std.specs.List.{flat_map}
use Rattle.std.specs.Option.{option_map_or}
use Rattle.std.proofs.lemmas.Grind.{flat_map-append}
use Rattle.std.proofs.lemmas.List.{length_push}
use Rattle.std.proofs.lemmas.List.Concat.{flat_map-cons}
use Rattle.std.proofs.lemmas.List.Elements.{All-head, All-tail, All-push}
use Rattle.be_entry_bytes.specs.Decoding.{entry_at}
use Rattle.be_entry_bytes.proofs.Entries.{entry_again}
use Rattle.be_journal.specs.Blocks.{bytes_of, entries_at, IsStored, AreEntries}
use Rattle.be_journal.specs.declared.entries.Entry.{Entry}

-- the first of several entries in the bytes
first_again : (e : Entry) (es : List Entry) (rest : List ℕ) → IsStored e → entry_at (flat_map bytes_of (e ∷ es) ++ rest) ≡ Some (e.by, e.ops, e.dones, flat_map bytes_of es ++ rest)
first_again e es rest is =
    ap (λ b. entry_at (b ++ rest)) (flat_map-cons bytes_of e es)
    ∙ ap entry_at (append_assoc (bytes_of e) (flat_map bytes_of es) rest)
    ∙ entry_again e.by e.ops e.dones (flat_map bytes_of es ++ rest) is.1

entries_again : (es : List Entry) (rest : List ℕ) → All IsStored es → entries_at (length es) (flat_map bytes_of es ++ rest) ≡ es
unfolding entries_at
entries_again [] rest are = refl
entries_again (e ∷ es) rest are =
    rw (first_again e es rest (All-head IsStored e es are)) (ap (λ (xs : List Entry). e ∷ xs) (entries_again es rest (All-tail IsStored e es are)))

-- the bytes encode these entries
pub record Holds (count : ℕ) (bytes : List ℕ) (es : List Entry) : Type 0 where
  pub same : entries_at count bytes ≡ es
  pub are : AreEntries count bytes

pub holds : (es : List Entry) (count : ℕ) (bytes : List ℕ) → All IsStored es → bytes ≡ flat_map bytes_of es → length es ≡ count → Holds count bytes es
holds es count bytes stored whole len =
    let beyond : bytes ≡ flat_map bytes_of es ++ [] = whole ∙ sym (append-nil (flat_map bytes_of es)) in
    let same : entries_at count bytes ≡ es = ap (λ n. entries_at n bytes) (sym len) ∙ ap (entries_at (length es)) beyond ∙ entries_again es [] stored in
    record {
      same = same;
      are = record { whole = whole ∙ ap (flat_map bytes_of) (sym same); counted = ap length same ∙ len; stored = subst (All IsStored) (sym same) stored };
    }

-- the bytes with one more entry
pub one_more : (es : List Entry) (e : Entry) → flat_map bytes_of (es ++ e ∷ []) ≡ flat_map bytes_of es ++ bytes_of e
one_more es e = flat_map-append bytes_of es (e ∷ []) ∙ ap (λ b. flat_map bytes_of es ++ b) (flat_map-cons bytes_of e [] ∙ append-nil (bytes_of e))

-- one more entry after the others
pub pushed : (count : ℕ) (bytes : List ℕ) (e : Entry) → AreEntries count bytes → IsStored e → Holds (count + 1) (bytes ++ bytes_of e) (entries_at count bytes ++ e ∷ [])
pushed count bytes e are is =
    let es = entries_at count bytes in
    holds (es ++ e ∷ []) (count + 1) (bytes ++ bytes_of e) (All-push IsStored es e are.stored is) (ap (λ b. b ++ bytes_of e) are.whole ∙ sym (one_more es e)) (length_push es e ∙ ap (λ n. n + 1) are.counted)

-- what is left after the first entry
pub record Taken (count : ℕ) (bytes : List ℕ) (e : Entry) (rest : List ℕ) : Type 0 where
  pub read : entry_at bytes ≡ Some (e.by, e.ops, e.dones, rest)
  pub first : entries_at (suc count) bytes ≡ e ∷ entries_at count rest
  pub stored : IsStored e
  pub left : AreEntries count rest

taken_of : (count : ℕ) (bytes : List ℕ) (es : List Entry) → bytes ≡ flat_map bytes_of es → length es ≡ suc count → All IsStored es → entries_at (suc count) bytes ≡ es →
    (e : Entry) × (rest : List ℕ) × Taken count bytes e rest
taken_of count bytes [] whole len are same = absurd (omega (arith, len))
taken_of count bytes (e ∷ es) whole len are same =
    let rest = flat_map bytes_of es in
    let others = holds es count rest (All-tail IsStored e es are) refl (omega (arith, len)) in
    let beyond : flat_map bytes_of (e ∷ es) ≡ flat_map bytes_of (e ∷ es) ++ [] = sym (append-nil (flat_map bytes_of (e ∷ es))) in (
      e,
      rest,
      record {
        read = ap entry_at (whole ∙ beyond) ∙ first_again e es [] (All-head IsStored e es are) ∙ ap (λ b. Some (e.by, e.ops, e.dones, b)) (append-nil rest);
        first = same ∙ ap (λ (xs : List Entry). e ∷ xs) (sym others.same);
        stored = All-head IsStored e es are;
        left = others.are;
      },
    )

-- the first of several entries is read, and the others are left
pub taken : (count : ℕ) (bytes : List ℕ) → AreEntries (suc count) bytes → (e : Entry) × (rest : List ℕ) × Taken count bytes e rest
taken count bytes are = taken_of count bytes (entries_at (suc count) bytes) are.whole are.counted are.stored refl
