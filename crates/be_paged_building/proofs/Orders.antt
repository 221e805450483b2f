-- A catalog that gains a pair above the others.
use Rattle.std.proofs.Common.{◌≡◌, ℕ, ◌<◌, ◌^◌, List, [], ◌∷◌, ◌++◌, length, Some, None, ap, sym, ◌∙◌, refl, arith, append-nil}
use Rattle.std.specs.Prelude.{IfSome}
use Rattle.std.specs.Ordering.{ordering_then}
use Rattle.std.specs.Cmp.{nat_cmp_total, tied_itself}
use Rattle.std.specs.declared.cmp.Ordering.TheVariants.{Less}
use Rattle.std.specs.declared.option.Option.{Option}
use Rattle.be_tree.proofs.Builds.Ends.{below_end, rising_end}
use Rattle.be_tree_reading.specs.Key.{key_cmp, put, IsRising}
use Rattle.be_tree_reading.specs.Pair.{Pair}
use Rattle.be_tree_reading.proofs.Order.{key_total, put_right}
use Rattle.be_volume.specs.Maps.{name_cmp}
use Rattle.be_paged_reading.specs.Catalog.{catalog_key}
use Rattle.be_paged_reading.proofs.CatalogPairs.Segments.{key_order}
use Rattle.be_paged_building.specs.Building.{AreUpTo, name_of}
use Rattle.be_paged_building.proofs.Volumes.{number_less}

module _ (last : List ℕ) (pairs : List Pair) (pair : Pair) (up : AreUpTo last pairs) (above : key_cmp last pair.key ≡ Less) where
  pub rising_more : IsRising pairs → IsRising (pairs ++ pair ∷ [])
  rising_more rising = rising_end pairs pair rising (up pair.key above)

  pub put_more : put pair pairs ≡ pairs ++ pair ∷ []
  put_more = ap (put pair) (sym (append-nil pairs)) ∙ put_right pair pairs [] (up pair.key above)

  pub up_more : AreUpTo pair.key (pairs ++ pair ∷ [])
  up_more k lt = below_end k pairs pair (up k (key_total.trans last pair.key k above lt)) lt

-- a node's mark is above what a node with a lower number has
pub mark_above : (m n : ℕ) (name : List ℕ) → m < n → n < 2 ^ 63 → key_cmp (catalog_key m name) (catalog_key n []) ≡ Less
mark_above m n name lt fits = key_order m n name [] (omega (arith, lt, fits)) (omega (arith, fits)) ∙ ap (λ o. ordering_then o (name_cmp name [])) (number_less m n lt)

-- an attribute is above those with lower names
pub attribute_above : (n : ℕ) (last : Option (List ℕ)) (name : List ℕ) → n < 2 ^ 63 → 0 < length name → IfSome last (λ other. name_cmp other name ≡ Less) → key_cmp (catalog_key n (name_of last)) (catalog_key n name) ≡ Less
attribute_above n last name fits some above = key_order n n (name_of last) name (omega (arith, fits)) (omega (arith, fits)) ∙ ap (λ o. ordering_then o (name_cmp (name_of last) name)) (tied_itself nat_cmp_total n) ∙ by last name some above
  where
    by : (l : Option (List ℕ)) (m : List ℕ) → 0 < length m → IfSome l (λ other. name_cmp other m ≡ Less) → name_cmp (name_of l) m ≡ Less
    by None [] lt none = absurd (omega (arith, lt))
    by None (c ∷ m) lt none = refl
    by (Some other) m lt less = less
