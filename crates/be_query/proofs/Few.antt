-- The number of comparisons in a tree that was read from a text or built from items.
use Rattle.std.proofs.Common.{◌≡◌, ℕ, ◌+◌, ◌<◌, ◌≤◌, Bool, true, false, Option, Some, None, Result, Ok, Err, List, [], ◌∷◌, length, refl, sym, ap, ◌∙◌, subst, arith, cond}
use Rattle.std.specs.Prelude.{nat_le, nat_lt}
use Rattle.std.proofs.lemmas.Bool.{leb-false, ltb-false, cond_both}
use Rattle.be_value.specs.Name.{has_nul}
use Rattle.be_value.specs.declared.refusals.Refusal.{Refusal}
use Rattle.be_value.specs.declared.refusals.Refusal.TheVariants.{Syntax, BadPattern, TooLong, TooMany}
use Rattle.be_query.specs.declared.tree.Cmp.{Cmp}
use Rattle.be_query.specs.Tokens.{Token, Open, Close, Bang, Both, Either, Compares, Text, plain, is_name}
use Rattle.be_query.specs.Grammar.{Formula, Leaf, And, Or, complement, comparisons, literal_of, ParsesTo}
use Rattle.be_query.specs.Reading.{Awaited, Operand, Mark, next}
use Rattle.be_query.specs.Building.{Level, Stage, Operands, Operators, Values, Joints, State, nothing_built, turned, conjunction, disjunction, joined, with_operand, with_side, close, build_at, take_token, build_from, tree_at, tree_of, awaited_at, marks_of, view_of, IsSettled}
use Rattle.be_query.specs.Lexing.{Placed, Lexeme, Whole, Broken, Odd, lexemes, whole, all_whole, tokens}
use Rattle.be_query.specs.Faults.{bad_pattern, value_fault, own_fault, comparisons_with, broken_at, first_fault, fault}
use Rattle.be_query.specs.Rpn as rpn
use Rattle.be_query.proofs.Trees.{seen, build_seen, tree_built}
use Rattle.be_query.proofs.Sentences.{settled_build, SettledIf}
use Rattle.be_query.proofs.Loop.{fault_within}
use Rattle.be_query.proofs.Steps.{goes_on, own_stops}

pub complement_same : (t : Formula) → comparisons (complement t) ≡ comparisons t
complement_same (Leaf n op v) = refl
complement_same (And l r) = omega (arith, complement_same l, complement_same r)
complement_same (Or l r) = omega (arith, complement_same l, complement_same r)

turned_same : (b : Bool) (t : Formula) → comparisons (turned b t) ≡ comparisons t
turned_same false t = refl
turned_same true t = complement_same t

-- The number of comparisons in a side, in a level, in all levels and in a stage.
in_side : Option Formula → ℕ
in_side None = 0
in_side (Some t) = comparisons t

in_level : Level → ℕ
in_level l = in_side l.or_left + in_side l.and_left

in_levels : List Level → ℕ
in_levels [] = 0
in_levels (l ∷ ls) = in_level l + in_levels ls

in_stage : Stage → ℕ
in_stage Operands = 0
in_stage (Operators n) = 0
in_stage (Values n op) = 0
in_stage (Joints t) = comparisons t

in_state : Stage → Level → List Level → ℕ
in_state stage level outer = in_stage stage + (in_level level + in_levels outer)

-- The number of comparisons that the next token completes: one or none.
ends_one : Stage → ℕ
ends_one Operands = 0
ends_one (Operators n) = 0
ends_one (Values n op) = 1
ends_one (Joints t) = 0

Holds : ℕ → Option State → Type 0
Holds n None = Unit {0}
Holds n (Some s) = in_state s.stage s.level s.outer ≤ n

joined_or : (b : Bool) (o : Option Formula) (t : Formula) → comparisons (joined (disjunction b) o t) ≡ in_side o + comparisons t
unfolding in_side
joined_or b None t = omega arith
joined_or false (Some l) t = refl
joined_or true (Some l) t = refl

joined_and : (b : Bool) (o : Option Formula) (t : Formula) → comparisons (joined (conjunction b) o t) ≡ in_side o + comparisons t
unfolding in_side
joined_and b None t = omega arith
joined_and false (Some l) t = refl
joined_and true (Some l) t = refl

operand_holds : (t : Formula) (level : Level) (outer : List Level) (n : ℕ) → comparisons t + (in_level level + in_levels outer) ≤ n → Holds n (Some (with_operand t level outer))
unfolding Holds in_state in_stage in_level in_side
operand_holds t level outer n h =
    let a = joined_and level.negated level.and_left t in
    omega arith

named_holds : (b : Bool) (name : List ℕ) (level : Level) (outer : List Level) → Holds (in_level level + in_levels outer) (cond b (Some (record { stage = Operators name; level = level; outer = outer })) None)
unfolding Holds in_state in_stage
named_holds true name level outer = omega arith
named_holds false name level outer = tt

closed_holds : (t : Formula) (level : Level) (outer : List Level) → Holds (comparisons t + (in_level level + in_levels outer)) (close (with_side t level) outer)
unfolding Holds in_level in_levels
closed_holds t level [] = tt
closed_holds t level (l ∷ ls) = operand_holds (with_side t level) l ls _ (let a = joined_or level.negated level.or_left t in omega arith)

build_holds : (stage : Stage) (level : Level) (outer : List Level) (t : Token) → Holds (in_state stage level outer + ends_one stage) (build_at stage level outer t)
unfolding Holds in_state in_stage in_level in_levels in_side ends_one
build_holds Operands level outer Open = omega arith
build_holds Operands level outer Close = tt
build_holds Operands level outer Bang = omega arith
build_holds Operands level outer Both = tt
build_holds Operands level outer Either = tt
build_holds Operands level outer (Compares op) = tt
build_holds Operands level outer (Text raw) = subst (λ n. Holds n (build_at Operands level outer (Text raw))) (omega arith) (named_holds (is_name raw) (plain raw) level outer)
build_holds (Operators name) level outer Open = tt
build_holds (Operators name) level outer Close = tt
build_holds (Operators name) level outer Bang = tt
build_holds (Operators name) level outer Both = tt
build_holds (Operators name) level outer Either = tt
build_holds (Operators name) level outer (Compares op) = omega arith
build_holds (Operators name) level outer (Text raw) = tt
build_holds (Values name op) level outer Open = tt
build_holds (Values name op) level outer Close = tt
build_holds (Values name op) level outer Bang = tt
build_holds (Values name op) level outer Both = tt
build_holds (Values name op) level outer Either = tt
build_holds (Values name op) level outer (Compares other) = tt
build_holds (Values name op) level outer (Text raw) = operand_holds _ level outer _ (let a = turned_same level.operand_negated (Leaf name op (literal_of op raw)) in omega arith)
build_holds (Joints t) level outer Open = tt
build_holds (Joints t) level outer Close = subst (λ n. Holds n (close (with_side t level) outer)) (omega arith) (closed_holds t level outer)
build_holds (Joints t) level outer Bang = tt
build_holds (Joints t) level outer Both = omega arith
build_holds (Joints t) level outer Either = let a = joined_or level.negated level.or_left t in omega arith
build_holds (Joints t) level outer (Compares op) = tt
build_holds (Joints t) level outer (Text raw) = tt

-- A value without an error is at most the 256th.
value_few : (n start : ℕ) (o : Option ℕ) → value_fault n start o ≡ None → n < 256
value_few n start (Some at) h = cc
value_few n start None h = go (nat_le 256 n) refl h
  where
    go : (b : Bool) → nat_le 256 n ≡ b → cond b (Some TooMany) None ≡ None → n < 256
    go true e k = cc
    go false e k = leb-false 256 n e

one_more : (stage : Stage) (level : Level) (outer : List Level) (n start : ℕ) (t : Token) → (s : State) → build_at stage level outer t ≡ Some s → own_fault (awaited_at stage) (marks_of level outer) n start t ≡ None → n ≤ 256
    → (ends_one stage + n ≡ comparisons_with (awaited_at stage) n) × (comparisons_with (awaited_at stage) n ≤ 256)
unfolding ends_one
one_more Operands level outer n start t s b h k = (omega arith, k)
one_more (Operators name) level outer n start t s b h k = (omega arith, k)
one_more (Joints u) level outer n start t s b h k = (omega arith, k)
one_more (Values name op) level outer n start (Text raw) s b h k = (omega arith, (let l = value_few n start (bad_pattern op raw) h in omega arith))
one_more (Values name op) level outer n start Open s b h k = cc
one_more (Values name op) level outer n start Close s b h k = cc
one_more (Values name op) level outer n start Bang s b h k = cc
one_more (Values name op) level outer n start Both s b h k = cc
one_more (Values name op) level outer n start Either s b h k = cc
one_more (Values name op) level outer n start (Compares other) s b h k = cc

end_few : (stage : Stage) (level : Level) (outer : List Level) (t : Formula) → tree_at stage level outer ≡ Some t → comparisons t ≤ in_state stage level outer
unfolding in_state in_stage in_level in_levels
end_few Operands level outer t e = cc
end_few (Operators n) level outer t e = cc
end_few (Values n op) level outer t e = cc
end_few (Joints u) level [] t e = let same : with_side u level ≡ t = cc in let a = joined_or level.negated level.or_left u in let b = ap comparisons same in omega arith
end_few (Joints u) level (l ∷ ls) t e = cc

none_built : (ts : List Token) (t : Formula) → tree_of (build_from None ts) ≡ Some t → ⊥
none_built [] t e = cc
none_built (x ∷ ts) t e = cc

-- A text that is read without an error has no more comparisons than were counted.
Few : List Placed → Type 0
Few xs = (s : State) (n len : ℕ) (t : Formula) → IsSettled s → first_fault (awaited_at s.stage) (marks_of s.level s.outer) n len xs ≡ None
    → in_state s.stage s.level s.outer ≤ n → n ≤ 256 → tree_of (build_from (Some s) (whole xs)) ≡ Some t → comparisons t ≤ 256

few_none : Few []
unfolding Few
few_none s n len t settled f h k e = let a = end_few s.stage s.level s.outer t e in omega arith

few_token : (at start : ℕ) (tk : Token) (xs : List Placed) → Few xs → Few (record { at = at; start = start; lexeme = Whole tk } ∷ xs)
unfolding Few Holds
few_token at start tk xs rest s n len t settled f h k e = by_next (take_token s tk) refl e
  where
    marks : List Mark
    marks = marks_of s.level s.outer

    x : Placed
    x = record { at = at; start = start; lexeme = Whole tk }

    by_own : (p : State) → take_token s tk ≡ Some p → tree_of (build_from (Some p) (whole xs)) ≡ Some t → (o : Option Refusal) → own_fault (awaited_at s.stage) (marks_of s.level s.outer) n start tk ≡ o → comparisons t ≤ 256
    by_own p b e (Some r) w = let stops = own_stops (awaited_at s.stage) (marks_of s.level s.outer) n len x tk xs (view_of p) r refl (build_seen s.stage s.level s.outer tk settled ∙ ap seen b) w in absurd (let no : Some r ≡ None = sym stops ∙ f in cc)
    by_own p b e None w =
        let g = goes_on (awaited_at s.stage) (marks_of s.level s.outer) n len x tk xs (view_of p) refl (build_seen s.stage s.level s.outer tk settled ∙ ap seen b) w in
        let held : in_state p.stage p.level p.outer ≤ in_state s.stage s.level s.outer + ends_one s.stage = subst (Holds (in_state s.stage s.level s.outer + ends_one s.stage)) b (build_holds s.stage s.level s.outer tk) in
        let c = one_more s.stage s.level s.outer n start tk p b w k in
        let counts = c.0 in
        rest p (comparisons_with (awaited_at s.stage) n) len t (subst SettledIf b (settled_build s.stage s.level s.outer tk)) (sym g ∙ f) (omega arith) c.1 e

    by_next : (p : Option State) → take_token s tk ≡ p → tree_of (build_from p (whole xs)) ≡ Some t → comparisons t ≤ 256
    by_next None b e = absurd (none_built (whole xs) t e)
    by_next (Some p) b e = by_own p b e (own_fault (awaited_at s.stage) (marks_of s.level s.outer) n start tk) refl

few_more : (x : Placed) (xs : List Placed) → Few xs → Few (x ∷ xs)
unfolding Few
few_more x xs rest = by_lexeme x.lexeme
  where
    by_lexeme : (l : Lexeme) → Few (record { at = x.at; start = x.start; lexeme = l } ∷ xs)
    by_lexeme Odd s n len t settled f h k e = absurd (let no : Some (Syntax x.at) ≡ None = f in cc)
    by_lexeme (Broken m) s n len t settled f h k e = absurd (let no : Some (Syntax (broken_at (awaited_at s.stage) x.at m)) ≡ None = f in cc)
    by_lexeme (Whole tk) s n len t settled f h k e = few_token x.at x.start tk xs rest s n len t settled f h k e

read_few : (xs : List Placed) → Few xs
read_few [] = few_none
read_few (x ∷ xs) = few_more x xs (read_few xs)

fault_short : (text : List ℕ) → fault text ≡ None → length text ≤ 4096
fault_short text h = go (nat_lt 4096 (length text)) refl h
  where
    go : (b : Bool) → nat_lt 4096 (length text) ≡ b → cond b (Some TooLong) (first_fault Operand [] 0 (length text) (lexemes 0 0 text)) ≡ None → length text ≤ 4096
    go true e k = absurd (let no : Some TooLong ≡ None = k in cc)
    go false e k = ltb-false 4096 (length text) e

-- If there is no error, every lexeme is a token.
Unbroken : ℕ → List Placed → Type 0
Unbroken len xs = (place : Awaited) (marks : List Mark) (n : ℕ) → first_fault place marks n len xs ≡ None → all_whole xs ≡ true

unbroken_more : (len : ℕ) (x : Placed) (xs : List Placed) → Unbroken len xs → Unbroken len (x ∷ xs)
unfolding Unbroken
unbroken_more len x xs rest place marks n = by_lexeme x.lexeme
  where
    by_own : (s : Awaited × List Mark) (o : Option Refusal) → ◌≡◌ {A = Option Refusal} (elim o [ Some r ↦ Some r | None ↦ first_fault s.0 s.1 (comparisons_with place n) len xs ]) None → all_whole xs ≡ true
    by_own s (Some r) f = absurd (let no : Some r ≡ None = f in cc)
    by_own s None f = rest s.0 s.1 (comparisons_with place n) f

    by_next : (t : Token) (o : Option (Awaited × List Mark))
        → ◌≡◌ {A = Option Refusal} (elim o [ None ↦ Some (Syntax x.at) | Some s ↦ elim (own_fault place marks n x.start t) [ Some r ↦ Some r | None ↦ first_fault s.0 s.1 (comparisons_with place n) len xs ] ]) None → all_whole xs ≡ true
    by_next t None f = absurd (let no : Some (Syntax x.at) ≡ None = f in cc)
    by_next t (Some s) f = by_own s (own_fault place marks n x.start t) f

    by_lexeme : (l : Lexeme) → first_fault place marks n len (record { at = x.at; start = x.start; lexeme = l } ∷ xs) ≡ None → all_whole (record { at = x.at; start = x.start; lexeme = l } ∷ xs) ≡ true
    by_lexeme Odd f = absurd (let no : Some (Syntax x.at) ≡ None = f in cc)
    by_lexeme (Broken m) f = absurd (let no : Some (Syntax (broken_at place x.at m)) ≡ None = f in cc)
    by_lexeme (Whole t) f = by_next t (next place marks t) f

unbroken : (len : ℕ) (xs : List Placed) → Unbroken len xs
unfolding Unbroken
unbroken len [] place marks n f = refl
unbroken len (x ∷ xs) place marks n f = unbroken_more len x xs (unbroken len xs) place marks n f

pub whole_text : (text : List ℕ) → fault text ≡ None → all_whole (lexemes 0 0 text) ≡ true
unfolding Unbroken
whole_text text f = unbroken (length text) (lexemes 0 0 text) Operand [] 0 (sym (fault_within text (fault_short text f)) ∙ f)

-- The tree of a text without an error has at most 256 comparisons.
pub few_parsed : (text : List ℕ) (t : Formula) → fault text ≡ None → ParsesTo (tokens text) t → comparisons t ≤ 256
unfolding Few in_state in_stage in_level in_levels in_side
few_parsed text t f (o, same, tree) =
    let first = sym (fault_within text (fault_short text f)) ∙ f in
    let built = ap (λ l. tree_of (build_from (Some nothing_built) l)) (sym same) ∙ tree_built o ∙ ap Some tree in
    read_few (lexemes 0 0 text) nothing_built 0 (length text) t tt first (omega arith) (omega arith) built

-- The number of comparisons in things on the stack.

on_stack : List rpn.Thing → ℕ
on_stack [] = 0
on_stack (rpn.Attribute n ∷ things) = on_stack things
on_stack (rpn.Value v ∷ things) = on_stack things
on_stack (rpn.Whole t ∷ things) = comparisons t + on_stack things

IsFew : Result (ℕ × List rpn.Thing) Refusal → Type 0
IsFew (Err e) = Unit {0}
IsFew (Ok s) = (on_stack s.1 ≤ s.0) × (s.0 ≤ 256)

LeavesComparison : List rpn.Thing → Option (List ℕ × List ℕ × List rpn.Thing) → Type 0
LeavesComparison things None = Unit {0}
LeavesComparison things (Some c) = on_stack c.2 ≡ on_stack things

LeavesTree : List rpn.Thing → Option (Formula × List rpn.Thing) → Type 0
LeavesTree things None = Unit {0}
LeavesTree things (Some s) = on_stack things ≡ comparisons s.0 + on_stack s.1

LeavesTrees : List rpn.Thing → Option (Formula × Formula × List rpn.Thing) → Type 0
LeavesTrees things None = Unit {0}
LeavesTrees things (Some s) = on_stack things ≡ comparisons s.0 + comparisons s.1 + on_stack s.2

below_comparison : (v : List ℕ) (things : List rpn.Thing) → LeavesComparison things (rpn.comparison_below (Some (v, things)))
unfolding LeavesComparison on_stack
below_comparison v [] = tt
below_comparison v (rpn.Attribute n ∷ things) = refl
below_comparison v (rpn.Value w ∷ things) = tt
below_comparison v (rpn.Whole t ∷ things) = tt

comparison_left : (things : List rpn.Thing) → LeavesComparison things (rpn.top_comparison things)
unfolding LeavesComparison on_stack
comparison_left [] = tt
comparison_left (rpn.Attribute n ∷ things) = tt
comparison_left (rpn.Value v ∷ things) = below_comparison v things
comparison_left (rpn.Whole t ∷ things) = tt

tree_left : (things : List rpn.Thing) → LeavesTree things (rpn.top_tree things)
unfolding LeavesTree on_stack
tree_left [] = tt
tree_left (rpn.Attribute n ∷ things) = tt
tree_left (rpn.Value v ∷ things) = tt
tree_left (rpn.Whole t ∷ things) = refl

below_trees : (r : Formula) (things : List rpn.Thing) → LeavesTrees (rpn.Whole r ∷ things) (rpn.tree_below (Some (r, things)))
unfolding LeavesTrees on_stack
below_trees r [] = tt
below_trees r (rpn.Attribute n ∷ things) = tt
below_trees r (rpn.Value w ∷ things) = tt
below_trees r (rpn.Whole t ∷ things) = omega arith

trees_left : (things : List rpn.Thing) → LeavesTrees things (rpn.top_trees things)
unfolding LeavesTrees
trees_left [] = tt
trees_left (rpn.Attribute n ∷ things) = tt
trees_left (rpn.Value v ∷ things) = tt
trees_left (rpn.Whole t ∷ things) = below_trees t things

counts_are_few : (n : ℕ) (leaf : Formula) (things : List rpn.Thing) → comparisons leaf ≡ 1 → on_stack things ≤ n → IsFew (rpn.counts n leaf things)
unfolding IsFew on_stack
counts_are_few n leaf things one h = cond_both (nat_le 256 n) _ _ IsFew (λ e. tt) (λ e. let few = leb-false 256 n e in (omega arith, omega arith))

compares_are_few : (at n : ℕ) (op : Cmp) (things : List rpn.Thing) (o : Option (List ℕ × List ℕ × List rpn.Thing)) → LeavesComparison things o → on_stack things ≤ n → IsFew (rpn.compares at n op o)
unfolding LeavesComparison IsFew
compares_are_few at n op things None l h = tt
compares_are_few at n op things (Some c) l h = go (bad_pattern op c.1)
  where
    go : (o : Option ℕ) → IsFew (elim o [ Some _ ↦ Err (BadPattern at) | None ↦ rpn.counts n (Leaf c.0 op (rpn.given_literal op c.1)) c.2 ])
    go (Some x) = tt
    go None = counts_are_few n (Leaf c.0 op (rpn.given_literal op c.1)) c.2 refl (omega arith)

surrounds_are_few : (at n : ℕ) (before beyond : Bool) (things : List rpn.Thing) (o : Option (List ℕ × List ℕ × List rpn.Thing)) → LeavesComparison things o → on_stack things ≤ n → IsFew (rpn.surrounds at n before beyond o)
unfolding LeavesComparison IsFew
surrounds_are_few at n before beyond things None l h = tt
surrounds_are_few at n before beyond things (Some c) l h = counts_are_few n _ c.2 refl (omega arith)

work_is_few : (at n : ℕ) (things : List rpn.Thing) (i : rpn.Item) → on_stack things ≤ n → n ≤ 256 → IsFew (rpn.work at n things i)
unfolding IsFew on_stack LeavesTree LeavesTrees LeavesComparison
work_is_few at n things (rpn.Attr name) h k = (h, k)
work_is_few at n things (rpn.Given text) h k = cond_both (has_nul text) _ _ IsFew (λ e. tt) (λ e. (h, k))
work_is_few at n things (rpn.Number text) h k = (h, k)
work_is_few at n things (rpn.Compare op) h k = compares_are_few at n op things _ (comparison_left things) h
work_is_few at n things (rpn.Around before beyond) h k = surrounds_are_few at n before beyond things _ (comparison_left things) h
work_is_few at n things rpn.Both h k = go (rpn.top_trees things) (trees_left things)
  where
    go : (o : Option (Formula × Formula × List rpn.Thing)) → LeavesTrees things o → IsFew (rpn.joins at n And o)
    go None l = tt
    go (Some s) l = (omega arith, k)
work_is_few at n things rpn.Either h k = go (rpn.top_trees things) (trees_left things)
  where
    go : (o : Option (Formula × Formula × List rpn.Thing)) → LeavesTrees things o → IsFew (rpn.joins at n Or o)
    go None l = tt
    go (Some s) l = (omega arith, k)
work_is_few at n things rpn.Complement h k = go (rpn.top_tree things) (tree_left things)
  where
    go : (o : Option (Formula × List rpn.Thing)) → LeavesTree things o → IsFew (rpn.complements at n o)
    go None l = tt
    go (Some s) l = (let same = complement_same s.0 in omega arith, k)

shallow_is_few : (r : Result (ℕ × List rpn.Thing) Refusal) → IsFew r → IsFew (rpn.shallow r)
unfolding IsFew
shallow_is_few (Err e) h = tt
shallow_is_few (Ok s) h = cond_both (nat_lt 64 (length s.1)) _ _ IsFew (λ e. tt) (λ e. h)

one_few : (at n : ℕ) (things : List rpn.Thing) (t : Formula) → rpn.one_tree at things ≡ Ok t → on_stack things ≤ n → comparisons t ≤ n
unfolding on_stack
one_few at n [] t e h = cc
one_few at n (rpn.Attribute a ∷ things) t e h = cc
one_few at n (rpn.Value v ∷ things) t e h = cc
one_few at n (rpn.Whole u ∷ []) t e h = let same : u ≡ t = cc in let a = ap comparisons same in omega arith
one_few at n (rpn.Whole u ∷ x ∷ things) t e h = cc

from_few : (at : ℕ) (r : Result (ℕ × List rpn.Thing) Refusal) (items : List rpn.Item) (t : Formula) → IsFew r → rpn.rpn_from at r items ≡ Ok t → comparisons t ≤ 256
unfolding IsFew
from_few at (Err x) items t h e = cc
from_few at (Ok s) [] t h e = let a = one_few at s.0 s.1 t e h.0 in let b = h.1 in omega arith
from_few at (Ok s) (i ∷ items) t h e = from_few (at + 1) (rpn.shallow (rpn.work at s.0 s.1 i)) items t (shallow_is_few _ (work_is_few at s.0 s.1 i h.0 h.1)) e

-- A tree built from items has at most 256 comparisons.
pub few_built : (items : List rpn.Item) (t : Formula) → rpn.rpn items ≡ Ok t → comparisons t ≤ 256
unfolding IsFew on_stack
few_built items t e = from_few 0 (Ok (0, [])) items t (omega arith, omega arith) e
