-- What a version encodes is unchanged while its pages keep their words.
use Rattle.std.proofs.Common.{◌≡◌, ℕ, zero, suc, ◌+◌, ne_eqb, slice_index, false, ◌<◌, ◌≤◌, List, [], ◌∷◌, ◌++◌, length, take, Bool, true, nat_lt, if◌then◌else◌, refl, sym, ap, ◌∙◌, inl, inr, arith, IsTrue}
use Rattle.std.proofs.lemmas.Bool.{cases_lt}
use Rattle.std.proofs.Math.ListN.{get_or-eq_default}
use borrow.Author.Tests.{lt-ltb, le-ltb}
use Rattle.be_core.specs.Machine.{has, bit}
use Rattle.be_pages.specs.declared.room.PageState.TheVariants.{Old}
use Rattle.be_pages.specs.Pages.{is_kept, is_from_before, after_undo, times}
use Rattle.be_tree_reading.specs.Forest.{IsWriteStart, IsUndone}
use Rattle.be_paged_reading.specs.Version.{IsVersion}
use Rattle.be_paged.proofs.StayingVersion.{version_stays, reach_stays, reaches_alone}
use Rattle.be_volume.specs.Volume.{State, empty}
use Rattle.be_table.specs.Rule.{word_place}
use Rattle.be_table.specs.Versions.{at_start, in_pages, EncodesVolume}

kept_old : (b : Bool) → IsTrue (is_kept (at_start b)) → at_start b ≡ Old
kept_old true h = refl
kept_old false h = absurd (cc)

undone_start : (b : Bool) → at_start b ≡ after_undo (at_start b)
undone_start true = refl
undone_start false = refl

from_before : (b : Bool) → IsTrue (is_from_before (at_start b)) → IsTrue b
from_before true h = refl
from_before false h = absurd (cc)

-- the words on the version's pages are the same
pub encodes_same : (pages : List ℕ) (v w : ℕ → ℕ → ℕ) (page : ℕ) (volume : State) → ((q : ℕ) → IsTrue (has pages q) → w q ≡ v q) → EncodesVolume pages v page volume → EncodesVolume pages w page volume
encodes_same pages v w page volume same h = record {
  version = version_stays start start v w clean was page volume h.version;
  exact = λ q. ap (λ ps. times q (page ∷ ps)) (reach_stays start start v w clean was page volume h.version) ∙ h.exact q;
}
  where
    start : ℕ → Rattle.be_pages.specs.declared.room.PageState.PageState
    start q = at_start (has pages q)

    clean : IsWriteStart start
    clean q h = kept_old (has pages q) h

    was : IsUndone start start v w
    was = record { page_state = λ q. undone_start (has pages q); same_words = λ q h. same q (from_before (has pages q) h) }

-- the words of one page, given that they agree at its places
pub clipped : (f g : ℕ → ℕ) → ((i : ℕ) → i < 512 → f i ≡ g i) → ◌≡◌ {A = ℕ → ℕ} (λ (i : ℕ). if nat_lt i 512 then f i else 0) (λ (i : ℕ). if nat_lt i 512 then g i else 0)
clipped f g same = λ k i. at i k
  where
    at : (i : ℕ) → (if nat_lt i 512 then f i else 0) ≡ (if nat_lt i 512 then g i else 0)
    at i = elim (cases_lt i 512) [
      | inl lt ↦ rw (lt-ltb i 512 lt) (same i lt)
      | inr le ↦ rw (le-ltb i 512 le) refl
    ]

-- the first elements of a longer list
pub take_front : {A : Type 0} (xs ys : List A) (n : ℕ) → n ≤ length xs → take n (xs ++ ys) ≡ take n xs
take_front xs ys zero le = refl
take_front [] ys (suc n) le = absurd (omega arith)
take_front (x ∷ xs) ys (suc n) le = ap (λ l. x ∷ l) (take_front xs ys n (omega arith))

pub take_all : {A : Type 0} (xs : List A) → take (length xs) xs ≡ xs
take_all [] = refl
take_all (x ∷ xs) = ap (λ l. x ∷ l) (take_all xs)

zero_page : (q : ℕ) → IsTrue (has (0 ∷ []) q) → q ≡ 0
zero_page zero h = refl
zero_page (suc q) h = absurd (let e : has (0 ∷ []) (suc q) ≡ false = rw (ne_eqb 0 (suc q) (λ z. absurd (omega arith))) refl in cc)

-- a list of 512 words has nothing past its end
unclipped : (first : List ℕ) (f : ℕ → ℕ) → length first ≡ 512 → ((i : ℕ) → i < 512 → f i ≡ slice_index first i) → ◌≡◌ {A = ℕ → ℕ} (λ (i : ℕ). if nat_lt i 512 then f i else 0) (λ (i : ℕ). slice_index first i)
unclipped first f long same = λ k i. at i k
  where
    at : (i : ℕ) → (if nat_lt i 512 then f i else 0) ≡ slice_index first i
    at i = elim (cases_lt i 512) [
      | inl lt ↦ rw (lt-ltb i 512 lt) (same i lt)
      | inr le ↦ rw (le-ltb i 512 le) (sym (get_or-eq_default first 0 (omega (arith, long, le))))
    ]

-- version 0 has only its one page
first_alone : (w : ℕ → ℕ → ℕ) (volume : State) → IsVersion (λ q. at_start (has (0 ∷ []) q)) w 0 volume → EncodesVolume (0 ∷ []) w 0 volume
first_alone w volume h = record {
  version = h;
  exact = λ q. reaches_alone (λ q. at_start (has (0 ∷ []) q)) w 0 volume h (λ p used. zero_page p (kept_there (has (0 ∷ []) p) used)) q ∙ once q;
}
  where
    kept_there : (b : Bool) → IsTrue (is_kept (at_start b)) → IsTrue b
    kept_there true used = refl
    kept_there false used = absurd (cc)

    once : (q : ℕ) → times q (0 ∷ []) ≡ bit (has (0 ∷ []) q)
    once zero = refl
    once (suc q) = rw (ne_eqb 0 (suc q) (λ z. absurd (omega arith))) refl

-- the first page is at page 0
pub first_encoded : (first words : List ℕ) → length first ≡ 512 → ((i : ℕ) → i < 512 → slice_index words (528 + i) ≡ slice_index first i)
    → IsVersion (λ q. at_start (has (0 ∷ []) q)) (λ q i. slice_index first i) 0 empty → EncodesVolume (0 ∷ []) (in_pages (λ p i. slice_index words (word_place p i))) 0 empty
first_encoded first words long same h = encodes_same (0 ∷ []) (λ q i. slice_index first i) (in_pages (λ p i. slice_index words (word_place p i))) 0 empty
    (λ q r. unclipped first (λ i. slice_index words (word_place q i)) long (λ i lt. ap (slice_index words) (let z = zero_page q r in omega arith) ∙ same i lt))
    (first_alone (λ q i. slice_index first i) empty h)
