-- The nodes of a range that decides a formula are its scan.
use Rattle.std.proofs.Common.{◌≡◌, ◌⊎◌, ℕ, List, [], None, Some, true, refl, sym, subst, ◌∙◌, inl, inr}
use Rattle.std.specs.List.{Contains}
use Rattle.std.specs.List.Sorted.{IsStrictlyIncreasing}
use Rattle.std.specs.declared.option.Option.{Option}
use Rattle.std.specs.declared.result.Result.TheVariants.{Ok}
use Rattle.be_value.specs.declared.values.Kind.{Kind}
use Rattle.be_query.specs.Grammar.{Formula, Leaf, And, Or}
use Rattle.be_volume.specs.Query.{sat, scan}
use Rattle.be_volume.specs.Reading.{index_kind}
use Rattle.be_volume.specs.Sound.{IsSound}
use Rattle.be_volume.specs.Volume.{State}
use Rattle.be_plan.specs.Prepared.{Decides}
use Rattle.be_plan.specs.Walk.{AreAllOn, HasNodes, HasOnly, IsNodeWithin, Keeps}
use Rattle.be_plan.proofs.Answering.{found_all}
use Rattle.be_plan.proofs.Marked.{nothing_in}
use Rattle.be_plan.proofs.Seen.{left_key}
use Rattle.be_plan.proofs.Sides.{named_found, named_rests}

-- If all comparisons are on two names, the names are equal.
pub same_name : (f : Formula) (a b : List ℕ) → AreAllOn f a → AreAllOn f b → a ≡ b
same_name (Leaf own op literal) a b x y = sym x ∙ y
same_name (And left right) a b x y = same_name left a b x.0 y.0
same_name (Or left right) a b x y = absurd x

-- If a range decides the formula, its nodes in order are the formula's scan.
pub decided_scan : (s : State) (f : Formula) (name : List ℕ) (kind : Kind) (low : List ℕ) (high : Option (List ℕ)) (found nodes : List ℕ) →
    IsSound s → AreAllOn f name → index_kind s name ≡ Some kind → Decides f kind low high →
    HasOnly s name low high [] found → HasNodes s name low high found → IsStrictlyIncreasing nodes → Keeps found nodes → Keeps nodes found → scan s f ≡ Ok nodes
decided_scan s f name kind low high found nodes sound on is_kind decides only has rising keeps back =
    found_all s f nodes sound (named_rests s f name (Some kind) on (sym is_kind)) rising
    (λ n h. true_of n (only n (back n h)))
    (λ n h. keeps n (named_found s f name kind low high found sound on is_kind (decides.keeps name on) (λ k is w _. has k is w) n h))
  where
    true_of : (n : ℕ) → Contains [] n ⊎ IsNodeWithin s name low high n → sat s f n ≡ true
    true_of n (inl old) = absurd (nothing_in [] n refl old)
    true_of n (inr w) =
        let P : ℕ → Type 0 = λ m. sat s f m ≡ true in
        subst P w.node_is (left_key s sound name w.key w.is_key kind is_kind f low high None (decides.leaves name on) w.within)
