-- The answers to queries are in ascending order.
use Rattle.std.proofs.Common.{◌≡◌, ◌<◌, ◌+◌, ℕ, suc, zero, Bool, true, false, List, [], ◌∷◌, slice_index, filter, refl, ap, subst, arith}
use Rattle.std.specs.Prelude.{Result, Ok, Err, if◌then◌else◌}
use Rattle.std.specs.FinMap as map
use Rattle.std.specs.List.Sorted.{IsStrictlyIncreasing}
use Rattle.std.proofs.lemmas.List.Kept.{IsStrictlyIncreasing-filter}
use Rattle.be_plan.proofs.Rising.{Rises, rises_keys, in_by_place}
use Rattle.be_query.specs.Grammar.{Formula}
use Rattle.be_value.specs.declared.refusals.Refusal.{Refusal}
use Rattle.be_value.specs.declared.refusals.Refusal.TheVariants.{NotCovered}
use Rattle.be_volume.specs.Query.{covered, sat, scan}
use Rattle.be_volume.specs.Volume.{State}

rising : (xs : List ℕ) → Rises xs → IsStrictlyIncreasing xs
rising [] r k lt = absurd (omega (arith, lt))
rising (x ∷ []) r k lt = absurd (omega (arith, lt))
rising (x ∷ y ∷ ys) r zero lt = r.0 y (in_by_place (y ∷ ys) y (0, omega arith, refl))
rising (x ∷ y ∷ ys) r (suc k) lt =
    let e : suc (k + 1) ≡ suc k + 1 = omega arith in
    subst (λ n. slice_index (y ∷ ys) k < slice_index (x ∷ y ∷ ys) n) e (rising (y ∷ ys) r.1 k (omega (arith, lt)))

list_of : List ℕ → Result (List ℕ) Refusal → List ℕ
list_of d (Ok xs) = xs
list_of d (Err e) = d

-- a query's answer is in ascending order
pub scan_rises : (s : State) (f : Formula) (nodes : List ℕ) → scan s f ≡ Ok nodes → IsStrictlyIncreasing nodes
unfolding list_of
scan_rises s f nodes h = by (covered s f) h
  where
    by : (b : Bool) → (if b then Ok (filter (sat s f) (map.keys s.nodes)) else Err NotCovered) ≡ Ok nodes → IsStrictlyIncreasing nodes
    by true e = subst IsStrictlyIncreasing (ap (list_of nodes) e) (IsStrictlyIncreasing-filter (sat s f) (map.keys s.nodes) (rising (map.keys s.nodes) (rises_keys s.nodes)))
    by false e = absurd cc
