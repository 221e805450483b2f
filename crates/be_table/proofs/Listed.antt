-- The pages in a list of places that pass a test.
use Rattle.std.proofs.Common.{◌≡◌, ◌≢◌, ℕ, zero, suc, ◌+◌, ◌<◌, ◌≤◌, if◌then◌else◌, eq-eqb, ne_eqb, Bool, true, false, List, [], ◌∷◌, map, length, get_or, IsTrue, All, AllPairs, refl, subst, arith}
use Rattle.std.proofs.lemmas.List.Kept.{AllPairs-cons}
use Rattle.be_core.specs.Machine.{has}
use Rattle.be_pages.specs.declared.page_pool.Place.{Place}
use Rattle.be_pages.specs.Place.{place_of}
use Rattle.be_table.specs.Steps.{pages_from}

module _ (f : Place → Bool) where
  below-none : (p : ℕ) (xs : List Place) (q : ℕ) → q < p → has (pages_from f p xs) q ≡ false
  below-none p [] q lt = refl
  below-none p (x ∷ xs) q lt = elim (f x) as (λ b. has (if b then p ∷ pages_from f (suc p) xs else pages_from f (suc p) xs) q ≡ false) [
    | true ↦ rw (ne_eqb p q (λ e. absurd (omega arith))) (below-none (suc p) xs q (omega arith))
    | false ↦ below-none (suc p) xs q (omega arith)
  ]

  listed-from : (p : ℕ) (xs : List Place) (k q : ℕ) → q ≡ p + k → has (pages_from f p xs) q ≡ get_or (map f xs) k false
  listed-from p [] k q e = refl
  listed-from p (x ∷ xs) zero q e = elim (f x) as (λ b. has (if b then p ∷ pages_from f (suc p) xs else pages_from f (suc p) xs) q ≡ b) [
    | true ↦ rw (eq-eqb p q (omega arith)) refl
    | false ↦ below-none (suc p) xs q (omega arith)
  ]
  listed-from p (x ∷ xs) (suc k) q e = elim (f x) as (λ b. has (if b then p ∷ pages_from f (suc p) xs else pages_from f (suc p) xs) q ≡ get_or (map f xs) k false) [
    | true ↦ rw (ne_eqb p q (λ z. absurd (omega arith))) (listed-from (suc p) xs k q (omega arith))
    | false ↦ listed-from (suc p) xs k q (omega arith)
  ]

  -- a page is listed if its place passes the test
  pub listed : (xs : List Place) (q : ℕ) → has (pages_from f 0 xs) q ≡ get_or (map f xs) q false
  listed xs q = listed-from 0 xs q q (omega arith)

  all-from : (P : ℕ → Type 0) (p : ℕ) (xs : List Place) → ((k : ℕ) → IsTrue (get_or (map f xs) k false) → P (p + k)) → All P (pages_from f p xs)
  all-from P p [] h = λ k d lt. absurd (omega arith)
  all-from P p (x ∷ xs) h = by_test (f x) refl (all-from P (suc p) xs (λ j r. subst P (omega arith) (h (suc j) r)))
    where
      by_test : (b : Bool) → f x ≡ b → All P (pages_from f (suc p) xs) → All P (if b then p ∷ pages_from f (suc p) xs else pages_from f (suc p) xs)
      by_test true e more zero d lt = subst P (omega arith) (h 0 e)
      by_test true e more (suc k) d lt = more k d (omega arith)
      by_test false e more k d lt = more k d lt

  pub all_listed : (P : ℕ → Type 0) (xs : List Place) → ((k : ℕ) → IsTrue (get_or (map f xs) k false) → P k) → All P (pages_from f 0 xs)
  all_listed P xs h = all-from P 0 xs (λ k r. subst P (omega arith) (h k r))

  distinct-from : (p : ℕ) (xs : List Place) → AllPairs ◌≢◌ (pages_from f p xs)
  distinct-from p [] = λ i j d lt b. absurd (omega arith)
  distinct-from p (x ∷ xs) = elim (f x) as (λ b. AllPairs ◌≢◌ (if b then p ∷ pages_from f (suc p) xs else pages_from f (suc p) xs)) [
    | true ↦ AllPairs-cons ◌≢◌ p (pages_from f (suc p) xs) (all-from (λ q. p ≢ q) (suc p) xs (λ k r e. absurd (omega arith))) (distinct-from (suc p) xs)
    | false ↦ distinct-from (suc p) xs
  ]

  pub distinct : (xs : List Place) → AllPairs ◌≢◌ (pages_from f 0 xs)
  distinct xs = distinct-from 0 xs

  -- within the list, this is the test of the page's place
  pub tested : (xs : List Place) (q : ℕ) → q < length xs → get_or (map f xs) q false ≡ f (place_of xs q)
  tested [] q lt = absurd (omega arith)
  tested (x ∷ xs) zero lt = refl
  tested (x ∷ xs) (suc q) lt = tested xs q (omega arith)

  pub untested : (xs : List Place) (q : ℕ) → length xs ≤ q → get_or (map f xs) q false ≡ false
  untested [] q le = refl
  untested (x ∷ xs) zero le = absurd (omega arith)
  untested (x ∷ xs) (suc q) le = untested xs q (omega arith)
