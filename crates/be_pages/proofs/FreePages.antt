-- A pool's free pages.
use Rattle.std.proofs.Common.{◌≡◌, ℕ, ◌<◌, ◌≤◌, ◌⊎◌, ◌||◌, length, Bool, true, false, refl, inl, inr, arith}
use Rattle.be_pages.specs.declared.free_pages.FreePages.{FreePages}
use Rattle.be_pages.specs.PageSet.{has_page}
use Rattle.be_pages.specs.FreePages.{has_free}
use Rattle.be_pages.proofs.PageSets.{flagged_below}

-- a free page is a page of the pool
pub free_below : (pages : FreePages) (q : ℕ) → has_free pages q ≡ true → q < length pages.plain.places.items
unfolding has_free
free_below pages q is = by_set (one_of (has_page pages.plain.places.items q) (has_page pages.spare.places.items q) is)
  where
    one_of : (a b : Bool) → (a || b) ≡ true → (a ≡ true) ⊎ (b ≡ true)
    one_of true b is = inl refl
    one_of false b is = inr is

    by_set : (has_page pages.plain.places.items q ≡ true) ⊎ (has_page pages.spare.places.items q ≡ true) → q < length pages.plain.places.items
    by_set (inl plain) = flagged_below pages.plain.places.items q plain
    by_set (inr spare) = omega (arith, flagged_below pages.spare.places.items q spare, pages.spare_pages)

-- a page outside the pool is not free
pub not_free : (pages : FreePages) (q : ℕ) → length pages.plain.places.items ≤ q → has_free pages q ≡ false
not_free pages q past = by_test (has_free pages q) refl
  where
    by_test : (b : Bool) → has_free pages q ≡ b → b ≡ false
    by_test true is = absurd (omega (arith, free_below pages q is, past))
    by_test false is = refl
