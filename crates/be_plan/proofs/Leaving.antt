-- The remaining condition of a formula, given the remaining conditions of its sides.
use Rattle.std.proofs.Common.{◌≡◌, ℕ, Bool, true, false, ◌&&◌, ◌||◌, List, refl, ap, ◌∙◌}
use Rattle.std.specs.declared.option.Option.{Option}
use Rattle.std.specs.declared.option.Option.TheVariants.{Some, None}
use Rattle.be_value.specs.Key.{key}
use Rattle.be_value.specs.declared.values.Kind.{Kind}
use Rattle.be_value.specs.declared.values.Value.{Value}
use Rattle.be_query.specs.Grammar.{Formula, And, Or}
use Rattle.be_volume.specs.Query.{sat, sees}
use Rattle.be_volume.specs.Volume.{State}
use Rattle.be_plan.specs.Narrow.{IsPair, LeavesRest, Within, rest_true}

-- For an "and": if a range is within the ranges of both sides, it leaves the remaining conditions
-- of both.
pub both_left : (a b : Formula) (name : List ℕ) (kind : Kind) (la lb low : List ℕ) (ha hb high : Option (List ℕ)) (left right : Option Formula) →
    LeavesRest a name kind la ha left → LeavesRest b name kind lb hb right →
    ((k : List ℕ) → Within low high k → Within la ha k) → ((k : List ℕ) → Within low high k → Within lb hb k) →
    (s : State) (value : Value) (node : ℕ) → IsPair kind value node → Within low high (key value node) → sees s node name ≡ Some value →
    sat s (And a b) node ≡ (rest_true s left node && rest_true s right node)
both_left a b name kind la lb low ha hb high left right l r in_a in_b s value node p w seen =
    ap (λ t. t && sat s b node) (l s value node p (in_a (key value node) w) seen)
    ∙ ap (λ t. rest_true s left node && t) (r s value node p (in_b (key value node) w) seen)

or_true : (a b : Bool) → b ≡ true → (a || b) ≡ true
or_true true b h = refl
or_true false b h = h

-- An "or" is true if nothing remains of one side.
pub left_done : (a b : Formula) (name : List ℕ) (kind : Kind) (low : List ℕ) (high : Option (List ℕ)) (rest : Option Formula) → LeavesRest a name kind low high rest →
    (s : State) (value : Value) (node : ℕ) → IsPair kind value node → Within low high (key value node) → sees s node name ≡ Some value →
    rest ≡ None → sat s (Or a b) node ≡ true
left_done a b name kind low high rest leaves s value node p w seen none =
    ap (λ t. t || sat s b node) (leaves s value node p w seen ∙ ap (λ r. rest_true s r node) none)

pub right_done : (a b : Formula) (name : List ℕ) (kind : Kind) (low : List ℕ) (high : Option (List ℕ)) (rest : Option Formula) → LeavesRest b name kind low high rest →
    (s : State) (value : Value) (node : ℕ) → IsPair kind value node → Within low high (key value node) → sees s node name ≡ Some value →
    rest ≡ None → sat s (Or a b) node ≡ true
right_done a b name kind low high rest leaves s value node p w seen none =
    or_true (sat s a node) (sat s b node) (leaves s value node p w seen ∙ ap (λ r. rest_true s r node) none)
