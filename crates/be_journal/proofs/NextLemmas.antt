-- The next of several entries in bytes, as a reader reaches it.
use Rattle.std.proofs.Common.{◌≡◌, ◌<◌, ℕ, zero, suc, ◌-◌, List, [], ◌∷◌, length, drop, All, Some, None, refl, sym, ap, subst, ◌∙◌, arith}
use Rattle.std.specs.List.{flat_map}
use Rattle.std.specs.Option.{option_map}
use Rattle.std.specs.declared.option.Option.{Option}
use Rattle.std.proofs.lemmas.List.Elements.{All-nil}
use Rattle.be_volume.specs.declared.ops.Done.{Done}
use Rattle.be_volume.specs.declared.ops.Op.{Op}
use Rattle.be_entry_bytes.specs.Decoding.{entry_at, found, Found}
use Rattle.be_journal.specs.Blocks.{bytes_of, entries_at, IsStored, AreEntries}
use Rattle.be_journal.specs.Journal.{IsEntry}
use Rattle.be_journal.specs.declared.entries.Entry.{Entry}
use Rattle.be_journal.proofs.BlockLemmas.{Taken, taken}

-- empty bytes hold no entry
pub none_at : entries_at 0 [] ≡ []
unfolding entries_at
none_at = refl

pub are_none : AreEntries 0 []
are_none = record { whole = ap (flat_map bytes_of) (sym none_at); counted = ap length none_at; stored = subst (All IsStored) (sym none_at) (All-nil IsStored) }

-- the entry that is read, and the entries that are left
record Next (left : ℕ) (bytes : List ℕ) : Type 0 where
  e : Entry
  rest : List ℕ
  some : 0 < left
  read : entry_at bytes ≡ Some (e.by, e.ops, e.dones, rest)
  first : entries_at left bytes ≡ e ∷ entries_at (left - 1) rest
  stored : IsStored e
  are : AreEntries (left - 1) rest

next_of : (left : ℕ) (bytes : List ℕ) → AreEntries left bytes → 0 < length (entries_at left bytes) → Next left bytes
next_of zero bytes are some = absurd (omega (arith, some, are.counted))
next_of (suc count) bytes are some =
    let t = taken count bytes are in
    let one : suc count - 1 ≡ count = omega arith in
    record {
      e = t.0;
      rest = t.1;
      some = omega arith;
      read = t.2.read;
      first = t.2.first ∙ ap (λ n. t.0 ∷ entries_at n t.1) (sym one);
      stored = t.2.stored;
      are = subst (λ n. AreEntries n t.1) (sym one) t.2.left;
    }

-- the rest after an entry is skipped
pub record Skipped (left : ℕ) (bytes after : List ℕ) : Type 0 where
  pub some : 0 < left
  pub are : AreEntries (left - 1) after
  pub first : entries_at (left - 1) after ≡ drop 1 (entries_at left bytes)

same_of : (a b : List ℕ) → Some a ≡ Some b → b ≡ a
same_of a b h = cc

pub skipped : (left : ℕ) (bytes after : List ℕ) → AreEntries left bytes → 0 < length (entries_at left bytes) → Some after ≡ option_map (λ x. x.3) (entry_at bytes) → Skipped left bytes after
skipped left bytes after are some is =
    let n = next_of left bytes are some in
    let same : n.rest ≡ after = same_of after n.rest (is ∙ ap (λ (r : Option Found). option_map (λ x. x.3) r) n.read) in
    record {
      some = n.some;
      are = subst (AreEntries (left - 1)) same n.are;
      first = ap (entries_at (left - 1)) (sym same) ∙ ap (drop 1) (sym n.first);
    }

never : (r : List ℕ) → None ≡ Some r → ⊥
never r h = cc

pub never_skipped : (left : ℕ) (bytes : List ℕ) → AreEntries left bytes → 0 < length (entries_at left bytes) → None ≡ option_map (λ x. x.3) (entry_at bytes) → ⊥
never_skipped left bytes are some is =
    let n = next_of left bytes are some in
    never n.rest (is ∙ ap (λ (r : Option Found). option_map (λ x. x.3) r) n.read)

-- the rest after an entry is read
pub record Read (left : ℕ) (bytes : List ℕ) (entry : Entry) (after : List ℕ) : Type 0 where
  pub some : 0 < left
  pub is : IsEntry entry
  pub are : AreEntries (left - 1) after
  pub first : entries_at left bytes ≡ entry ∷ entries_at (left - 1) after

entry_in : Option Found → Entry → Entry
entry_in None e = e
entry_in (Some x) e = record { by = x.0; ops = x.1; dones = x.2 }

rest_in : Option Found → List ℕ → List ℕ
rest_in None bytes = bytes
rest_in (Some x) bytes = x.3

read_as : (left : ℕ) (bytes : List ℕ) (entry : Entry) (after : List ℕ) (n : Next left bytes) → n.e ≡ entry → n.rest ≡ after → Read left bytes entry after
read_as left bytes entry after n same rest =
    record {
      some = n.some;
      is = subst IsEntry same n.stored.0;
      are = subst (AreEntries (left - 1)) rest n.are;
      first = n.first ∙ ap (λ (x : Entry). x ∷ entries_at (left - 1) n.rest) same ∙ ap (λ (r : List ℕ). entry ∷ entries_at (left - 1) r) rest;
    }

pub read : (left : ℕ) (bytes : List ℕ) (by : ℕ) (ops : List Op) (dones : List Done) (after : List ℕ) → AreEntries left bytes → 0 < length (entries_at left bytes) →
    Some (by, ops, dones, after) ≡ entry_at bytes → Read left bytes (record { by = by; ops = ops; dones = dones }) after
unfolding next_of entry_in rest_in
read left bytes by ops dones after are some is =
    let n = next_of left bytes are some in
    let entry : Entry = record { by = by; ops = ops; dones = dones } in
    let same : found n.e.by n.e.ops n.e.dones n.rest ≡ found by ops dones after = sym (is ∙ n.read) in
    read_as left bytes entry after n (ap (λ (r : Option Found). entry_in r entry) same) (ap (λ (r : Option Found). rest_in r after) same)

pub never_read : (left : ℕ) (bytes : List ℕ) → AreEntries left bytes → 0 < length (entries_at left bytes) → None ≡ entry_at bytes → ⊥
never_read left bytes are some is =
    let n = next_of left bytes are some in
    ends (n.e.by, n.e.ops, n.e.dones, n.rest) (is ∙ n.read)
  where
    ends : (x : ℕ × List Op × List Done × List ℕ) → None ≡ Some x → ⊥
    ends x h = cc
