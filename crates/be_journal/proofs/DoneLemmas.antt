-- Lists of outcomes that the test finds equal are equal.
use Rattle.std.proofs.Common.{◌≡◌, ℕ, Bool, true, false, ◌&&◌, nat_eq, List, [], ◌∷◌, refl, ap, subst, ◌∙◌, arith}
use Rattle.std.proofs.lemmas.Bool.Decides.{nat_tests}
use Rattle.std.specs.Cmp.Lexicographic.{pointwise}
use Rattle.std.specs.declared.result.Result.{Result}
use Rattle.std.specs.declared.result.Result.TheVariants.{Ok, Err}
use Rattle.be_value.specs.declared.refusals.Refusal.{Refusal}
use Rattle.be_volume.specs.Volume.{State, steps, Replays}
use Rattle.be_volume.specs.declared.ops.Op.{Op}
use Rattle.be_volume.specs.declared.ops.Done.{Done}
use Rattle.be_volume.specs.declared.ops.Done.TheVariants.{Node, Unit as Nothing}
use Rattle.be_volume.specs.contracts.ops.DonePartialEq.TheImpl.{eq-value as same}

same_number : (m n : ℕ) → nat_eq m n ≡ true → m ≡ n
same_number m n h = grind (arith, nat_tests)

own_number : (m : ℕ) → nat_eq m m ≡ true
own_number m = grind (arith, nat_tests)

same_done : (a b : Done) → same.it a b ≡ true → a ≡ b
same_done (Node m) (Node n) h = ap Node (same_number m n h)
same_done (Node m) Nothing h = cc
same_done Nothing (Node n) h = cc
same_done Nothing Nothing h = refl

own_done : (a : Done) → same.it a a ≡ true
own_done (Node m) = own_number m
own_done Nothing = refl

both : (a b : Bool) → (a && b) ≡ true → (a ≡ true) × (b ≡ true)
both true b h = (refl, h)
both false b h = cc

pub same_outcomes : (xs ys : List Done) → pointwise same.it xs ys ≡ true → xs ≡ ys
same_outcomes [] [] h = refl
same_outcomes [] (b ∷ ys) h = cc
same_outcomes (a ∷ xs) [] h = cc
same_outcomes (a ∷ xs) (b ∷ ys) h = let p = both (same.it a b) (pointwise same.it xs ys) h in
    ap (λ x. x ∷ xs) (same_done a b p.0) ∙ ap (λ zs. b ∷ zs) (same_outcomes xs ys p.1)

pub own_outcomes : (xs : List Done) → pointwise same.it xs xs ≡ true
own_outcomes [] = refl
own_outcomes (a ∷ xs) = ap (λ b. b && pointwise same.it xs xs) (own_done a) ∙ own_outcomes xs

-- the outcomes, if the operations were accepted
abbrev pub outcomes_of : List Done → Result (State × List Done) Refusal → List Done
outcomes_of d (Ok x) = x.1
outcomes_of d (Err e) = d

-- what a replay returns if the operations were accepted
pub reported : {X : Type 0} (view : X → List Done) (old new : State) (ops : List Op) (r : Result X Refusal) (x : X) → r ≡ Ok x → Replays view old ops r new → steps old ops ≡ Ok (new, view x)
reported view old new ops r x e h = subst (λ q. Replays view old ops q new) e h
