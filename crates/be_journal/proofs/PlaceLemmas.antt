-- Where every 16th entry of a block begins.
use Rattle.std.proofs.Common.{◌≡◌, ◌<◌, ◌≤◌, ℕ, ◌+◌, ◌-◌, ◌*◌, ◌/◌, ◌≢◌, true, false, nat_eq, nat_lt, List, [], ◌∷◌, ◌++◌, length, take, drop, get_or, All, refl, sym, ap, subst, ◌∙◌, append-nil, length-append, length-drop, arith}
use Rattle.std.specs.List.{flat_map}
use Rattle.std.proofs.lemmas.Bool.Decides.{nat_tests}
use Rattle.std.proofs.lemmas.Bool.{ltb-true}
use Rattle.std.proofs.lemmas.List.{length_push, get_or_append_left, get_or_push, get_or_read, drop-append-le, drop_at, take_rest}
use Rattle.std.proofs.lemmas.List.Concat.{flat_map-cons}
use Rattle.std.proofs.lemmas.List.Elements.{All-drop}
use Rattle.be_entry_bytes.proofs.Numbers.{choose}
use Rattle.be_journal.specs.Blocks.{bytes_of, entries_at, IsStored, AreEntries, with_place, IsPlace, ArePlaces}
use Rattle.be_journal.specs.declared.entries.Entry.{Entry}
use Rattle.be_journal.proofs.BlockLemmas.{Holds, holds, one_more, pushed}

-- a block without entries has no offsets
pub no_places : ArePlaces [] 0 []
no_places = record { each = λ k short. absurd (omega (arith, short)); all = omega arith }

-- the entries from an offset onward
pub from_place : (before place count : ℕ) (bytes : List ℕ) → AreEntries count bytes → IsPlace before place count bytes → Holds (count - before) (drop place bytes) (drop before (entries_at count bytes))
from_place before place count bytes are is =
    let es = entries_at count bytes in
    holds (drop before es) (count - before) (drop place bytes) (All-drop IsStored before es are.stored) is.beyond (length-drop before es ∙ ap (λ n. n - before) are.counted)

-- an offset is still valid when one more entry is added
still_place : (before place count : ℕ) (bytes : List ℕ) (e : Entry) → AreEntries count bytes → IsStored e → IsPlace before place count bytes → IsPlace before place (count + 1) (bytes ++ bytes_of e)
still_place before place count bytes e are stored is =
    let es = entries_at count bytes in
    let known : before ≤ count = is.known in
    let within : place ≤ length bytes = is.within in
    record {
      known = omega arith;
      within = omega (arith, length-append bytes (bytes_of e));
      beyond = drop-append-le place bytes (bytes_of e) within
          ∙ ap (λ b. b ++ bytes_of e) is.beyond
          ∙ sym (one_more (drop before es) e)
          ∙ ap (flat_map bytes_of) (sym (drop-append-le before es (e ∷ []) (omega (arith, are.counted))))
          ∙ ap (λ (xs : List Entry). flat_map bytes_of (drop before xs)) (sym (pushed count bytes e are stored).same);
    }

-- the offset at which one more entry begins
new_place : (count : ℕ) (bytes : List ℕ) (e : Entry) → AreEntries count bytes → IsStored e → IsPlace count (length bytes) (count + 1) (bytes ++ bytes_of e)
new_place count bytes e are stored =
    let es = entries_at count bytes in
    record {
      known = omega arith;
      within = omega (arith, length-append bytes (bytes_of e));
      beyond = drop_at bytes (bytes_of e) (length bytes) refl
          ∙ sym (append-nil (bytes_of e))
          ∙ sym (flat_map-cons bytes_of e [])
          ∙ ap (flat_map bytes_of) (sym (drop_at es (e ∷ []) count are.counted))
          ∙ ap (λ (xs : List Entry). flat_map bytes_of (drop count xs)) (sym (pushed count bytes e are stored).same);
    }

-- the numbers of entries and offsets
full : (count places : ℕ) → nat_eq (count / 16) places ≡ true → count ≤ 16 * places → count ≡ 16 * places
full count places h all = let same : count / 16 ≡ places = grind (arith, nat_tests, h) in omega (arith, same, all)

not_full : (count places : ℕ) → nat_eq (count / 16) places ≡ false → count ≤ 16 * places → count + 1 ≤ 16 * places
not_full count places h all = let other : count / 16 ≢ places = grind (arith, nat_tests, h) in omega (arith, other, all)

last_of : (k places : ℕ) → nat_lt k places ≡ false → k < places + 1 → k ≡ places
last_of k places h short = grind (arith, nat_tests, h, short)

-- one more entry, whose offset is kept
with_new : (places : List ℕ) (count : ℕ) (bytes : List ℕ) (e : Entry) → AreEntries count bytes → IsStored e → count ≡ 16 * length places → ArePlaces places count bytes →
    ArePlaces (places ++ length bytes ∷ []) (count + 1) (bytes ++ bytes_of e)
with_new places count bytes e are stored whole is =
    let len : length (places ++ length bytes ∷ []) ≡ length places + 1 = length_push places (length bytes) in
    record {
      each = λ k short. choose (nat_lt k (length places))
          (λ h. let below : k < length places = ltb-true k (length places) h in
          subst (λ p. IsPlace (16 * k) p (count + 1) (bytes ++ bytes_of e)) (sym (get_or_append_left places (length bytes ∷ []) 0 k below))
          (still_place (16 * k) (get_or places k 0) count bytes e are stored (is.each k below)))
          (λ h. let last : k ≡ length places = last_of k (length places) h (subst (λ n. k < n) len short) in
          subst (λ p. IsPlace (16 * k) p (count + 1) (bytes ++ bytes_of e)) (sym (get_or_push places (length bytes) 0 k (sym last)))
          (subst (λ n. IsPlace n (length bytes) (count + 1) (bytes ++ bytes_of e)) (whole ∙ ap (λ n. 16 * n) (sym last)) (new_place count bytes e are stored)));
      all = omega (arith, whole, len);
    }

-- one more entry
pub places_more : (places : List ℕ) (count : ℕ) (bytes : List ℕ) (e : Entry) → AreEntries count bytes → IsStored e → ArePlaces places count bytes →
    ArePlaces (with_place places count (length bytes)) (count + 1) (bytes ++ bytes_of e)
places_more places count bytes e are stored is =
    choose (nat_eq (count / 16) (length places))
    (λ h. rw h (with_new places count bytes e are stored (full count (length places) h is.all) is))
    (λ h. rw h (record {
      each = λ k short. still_place (16 * k) (get_or places k 0) count bytes e are stored (is.each k short);
      all = not_full count (length places) h is.all;
    }))

-- there is an offset at or before an entry
pub place_before : (i count places : ℕ) → i < count → count ≤ 16 * places → i / 16 < places
place_before i count places short all = omega (arith, short, all)

-- the entries from that offset onward, in a slice of the bytes
pub from_before : (places : List ℕ) (count i place : ℕ) (bytes : List ℕ) → AreEntries count bytes → ArePlaces places count bytes → i < count → place ≡ get_or places (i / 16) place →
    Holds (count - 16 * (i / 16)) (take (length bytes - place) (drop place bytes)) (drop (16 * (i / 16)) (entries_at count bytes))
from_before places count i place bytes are is short at =
    let below : i / 16 < length places = place_before i count (length places) short is.all in
    let same : place ≡ get_or places (i / 16) 0 = get_or_read places (i / 16) place below at 0 in
    let here : IsPlace (16 * (i / 16)) place count bytes = subst (λ p. IsPlace (16 * (i / 16)) p count bytes) (sym same) (is.each (i / 16) below) in
    subst (λ (b : List ℕ). Holds (count - 16 * (i / 16)) b (drop (16 * (i / 16)) (entries_at count bytes))) (sym (take_rest bytes place))
    (from_place (16 * (i / 16)) place count bytes are here)
