-- Building the tree of a query while its tokens are read.
-- This is used only by the proofs: `Grammar` defines the tree of a text.
use Rattle.std.specs.Prelude.{◌≡◌, ℕ, zero, suc, Bool, true, false, Option, Some, None, List, []}
use Rattle.std.specs.Prelude.{◌∷◌, not, if◌then◌else◌}
use Rattle.be_query.specs.declared.tree.Cmp.{Cmp}
use Rattle.be_query.specs.Tokens.{Token, Open, Close, Bang, Both, Either, Compares, Text, plain}
use Rattle.be_query.specs.Tokens.{is_name}
use Rattle.be_query.specs.Grammar.{Formula, Leaf, And, Or, complement, opposite, literal_of}
use Rattle.be_query.specs.Reading.{Awaited, Operand, Operator, Value, Joint, Mark, Paren, Negation}

-- The unfinished parts inside one pair of parentheses: the left sides of `||` and `&&`, and the
-- number of `!`. A tree inside an odd number of `!` is built as its complement, so each side here
-- is already complemented as its level requires.
pub record Level : Type 0 where
  -- Whether an odd number of `!` applies to the level.
  pub negated : Bool
  -- Whether an odd number of `!` applies to the next operand.
  pub operand_negated : Bool
  pub or_left : Option Formula
  pub and_left : Option Formula
  pub negations : ℕ

abbrev pub fresh : Bool → Level
fresh negated = record {
  negated = negated;
  operand_negated = negated;
  or_left = None;
  and_left = None;
  negations = 0;
}

-- What may come next, along with the name or tree that has been read.
pub data Stage : Type 0 where
  Operands : Stage
  Operators : List ℕ → Stage
  Values : List ℕ → Cmp → Stage
  Joints : Formula → Stage

-- What may come next, the innermost level, and the levels around it, from the innermost to the
-- outermost.
pub record State : Type 0 where
  pub stage : Stage
  pub level : Level
  pub outer : List Level

abbrev pub nothing_built : State
nothing_built = record { stage = Operands; level = fresh false; outer = [] }

-- The tree, or its complement if it is inside an odd number of `!`.
abbrev pub turned : Bool → Formula → Formula
turned false t = t
turned true t = complement t

-- The operator of a comparison, or its opposite if it is inside an odd number of `!`.
abbrev pub turned_operator : Bool → Cmp → Cmp
turned_operator false op = op
turned_operator true op = opposite op

-- The inner node that `&&` builds. Inside an odd number of `!`, it is `||`.
abbrev pub conjunction : Bool → Formula → Formula → Formula
conjunction false l r = And l r
conjunction true l r = Or l r

abbrev pub disjunction : Bool → Formula → Formula → Formula
disjunction negated = conjunction (not negated)

abbrev pub joined : (Formula → Formula → Formula) → Option Formula → Formula → Formula
joined join None t = t
joined join (Some l) t = join l t

-- The level after an operand, when no `!` and no `&&` is open.
abbrev pub ended_level : Level → Level
ended_level level = record {
  negated = level.negated;
  operand_negated = level.negated;
  or_left = level.or_left;
  and_left = None;
  negations = 0;
}

-- The state after an operand is complete, and with it the `!` and the `&&` that were open for it.
abbrev pub with_operand : Formula → Level → List Level → State
with_operand t level outer = record {
  stage = Joints
      (joined (conjunction level.negated) level.and_left t);
  level = ended_level level;
  outer = outer;
}

-- The tree after a side of `||` is complete.
abbrev pub with_side : Formula → Level → Formula
with_side t level = joined (disjunction level.negated) level.or_left t

abbrev pub close : Formula → List Level → Option State
close t [] = None
close t (level ∷ outer) = Some (with_operand t level outer)

abbrev pub build_at : Stage → Level → List Level → Token → Option State
build_at Operands level outer Open = Some
    (record { stage = Operands; level = fresh level.operand_negated; outer = level ∷ outer })
build_at Operands level outer Bang = Some
    (record {
      stage = Operands;
      level = record level
          { operand_negated = not level.operand_negated; negations = suc level.negations };
      outer = outer;
    })
build_at Operands level outer (Text raw) = if is_name raw
    then Some (record { stage = Operators (plain raw); level = level; outer = outer }) else None
build_at (Operators name) level outer (Compares op) = Some
    (record { stage = Values name op; level = level; outer = outer })
build_at (Values name op) level outer (Text raw) = Some
    (with_operand (turned level.operand_negated (Leaf name op (literal_of op raw))) level outer)
build_at (Joints t) level outer Both = Some
    (record { stage = Operands; level = record level { and_left = Some t }; outer = outer })
build_at (Joints t) level outer Either = Some
    (record {
      stage = Operands;
      level = record level { or_left = Some (with_side t level) };
      outer = outer;
    })
build_at (Joints t) level outer Close = close (with_side t level) outer
build_at _ _ _ _ = None

abbrev pub take_token : State → Token → Option State
take_token s t = build_at s.stage s.level s.outer t

abbrev pub build_from : Option State → List Token → Option State
build_from s [] = s
build_from None (t ∷ ts) = None
build_from (Some s) (t ∷ ts) = build_from (take_token s t) ts

abbrev pub tree_at : Stage → Level → List Level → Option Formula
tree_at (Joints t) level [] = Some (with_side t level)
tree_at _ _ _ = None

-- The tree, if nothing is unfinished.
abbrev pub tree_of : Option State → Option Formula
tree_of None = None
tree_of (Some s) = tree_at s.stage s.level s.outer

abbrev pub awaited_at : Stage → Awaited
awaited_at Operands = Operand
awaited_at (Operators n) = Operator
awaited_at (Values n op) = Value op
awaited_at (Joints t) = Joint

abbrev pub negations_on : ℕ → List Mark → List Mark
negations_on zero marks = marks
negations_on (suc n) marks = Negation ∷ negations_on n marks

abbrev pub outer_marks : List Level → List Mark
outer_marks [] = []
outer_marks (level ∷ outer) = Paren ∷ negations_on level.negations (outer_marks outer)

-- The `(` and `!` that are open.
abbrev pub marks_of : Level → List Level → List Mark
marks_of level outer = negations_on level.negations (outer_marks outer)

abbrev pub view_of : State → Awaited × List Mark
view_of s = (awaited_at s.stage, marks_of s.level s.outer)

-- After a complete operand, no `!` is open.
abbrev pub IsSettledAt : Stage → Level → Type 0
IsSettledAt (Joints t) level = level.negations ≡ 0
IsSettledAt _ level = Unit {0}

abbrev pub IsSettled : State → Type 0
IsSettled s = IsSettledAt s.stage s.level
