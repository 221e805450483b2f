-- What one token changes.
use Rattle.std.proofs.Common.{◌≡◌, ℕ, ◌+◌, ◌-◌, ◌<◌, ◌≤◌, Bool, true, false, zero, suc, Some, None, List, [], ◌∷◌, ◌++◌, length, map, reverse, refl, sym, ap, ◌∙◌, arith, cond}
use Rattle.std.proofs.lemmas.Bool.{lt-leb}
use Rattle.be_value.specs.declared.refusals.Refusal.{Refusal}
use Rattle.be_value.specs.declared.refusals.Refusal.TheVariants.{Syntax, BadPattern, TooMany}
use Rattle.be_query.specs.declared.tree.Cmp.{Cmp}
use Rattle.be_query.specs.Grammar.{Formula, Leaf, Literal, literal_of}
use Rattle.be_query.specs.Tokens.{Token, Close, Text}
use Rattle.be_query.specs.Reading.{Awaited, Value, Joint, Mark, Paren, ended, next}
use Rattle.be_query.specs.Building.{Level, Stage, Values, Joints, State, turned, turned_operator, conjunction, ended_level, with_side, joined, close, build_at, awaited_at, negations_on, outer_marks, marks_of, view_of, IsSettledAt}
use Rattle.be_query.specs.Lexing.{Placed, Whole}
use Rattle.be_query.specs.Faults.{first_fault, own_fault, comparisons_with, bad_pattern, value_fault, ends}
use Rattle.be_query.proofs.Trees.{seen, build_seen}
use Rattle.be_query.specs.declared.parser.Level as code_level
use Rattle.be_query.specs.View.{level_seen}
use Rattle.std.proofs.lemmas.List.{map-append, reverse-append, length-map, length-reverse}

pub length-negations : (n : ℕ) (marks : List Mark) → length (negations_on n marks) ≡ n + length marks
length-negations zero marks = omega arith
length-negations (suc n) marks = ap suc (length-negations n marks) ∙ omega arith

pub negations_within : (level : Level) (outer : List Level) → level.negations ≤ length (marks_of level outer)
negations_within level outer = omega (arith, length-negations level.negations (outer_marks outer))

-- Reading continues after a token that can follow and has no error.
pub goes_on : (place : Awaited) (marks : List Mark) (n len : ℕ) (x : Placed) (t : Token) (xs : List Placed) (s : Awaited × List Mark)
    → x.lexeme ≡ Whole t → next place marks t ≡ Some s → own_fault place marks n x.start t ≡ None
    → first_fault place marks n len (x ∷ xs) ≡ first_fault s.0 s.1 (comparisons_with place n) len xs
goes_on place marks n len x t xs s e k h = rw e (rw k (rw h refl))

pub built_on : (stage : Stage) (level : Level) (outer : List Level) (n len : ℕ) (x : Placed) (t : Token) (xs : List Placed) (p : State)
    → IsSettledAt stage level → x.lexeme ≡ Whole t → build_at stage level outer t ≡ Some p → own_fault (awaited_at stage) (marks_of level outer) n x.start t ≡ None
    → first_fault (awaited_at stage) (marks_of level outer) n len (x ∷ xs) ≡ first_fault (awaited_at p.stage) (marks_of p.level p.outer) (comparisons_with (awaited_at stage) n) len xs
built_on stage level outer n len x t xs p settled e k h = goes_on (awaited_at stage) (marks_of level outer) n len x t xs (view_of p) e (build_seen stage level outer t settled ∙ ap seen k) h

-- The levels around the innermost one, after the next one has been popped.
pub outer_pop : (xs rest : List code_level.Level) (l : code_level.Level) → xs ≡ rest ++ l ∷ [] → reverse (map level_seen xs) ≡ level_seen l ∷ reverse (map level_seen rest)
outer_pop xs rest l e = ap (λ v. reverse (map level_seen v)) e ∙ ap reverse (map-append level_seen rest (l ∷ [])) ∙ reverse-append (map level_seen rest) (level_seen l ∷ [])

pub outer_within : (level : Level) (outer rest : List Level) (l : Level) → outer ≡ l ∷ rest → 1 + l.negations + length (outer_marks rest) ≤ length (marks_of level outer)
outer_within level outer rest l e =
    let a = length-negations level.negations (outer_marks outer) in
    let b = ap (λ o. length (outer_marks o)) e in
    let d = length-negations l.negations (outer_marks rest) in
    omega arith

-- A token that can follow but has an error of its own.
pub own_stops : (place : Awaited) (marks : List Mark) (n len : ℕ) (x : Placed) (t : Token) (xs : List Placed) (s : Awaited × List Mark) (e : Refusal)
    → x.lexeme ≡ Whole t → next place marks t ≡ Some s → own_fault place marks n x.start t ≡ Some e
    → first_fault place marks n len (x ∷ xs) ≡ Some e
own_stops place marks n len x t xs s e l k h = rw l (rw k (rw h refl))

pub turned_leaf : (negated : Bool) (name : List ℕ) (op : Cmp) (value : Literal) → Leaf name (turned_operator negated op) value ≡ turned negated (Leaf name op value)
turned_leaf false name op value = refl
turned_leaf true name op value = refl

pub value_built : (name : List ℕ) (op : Cmp) (raw : List ℕ) (t : Token) (level after : Level) (outer : List Level) (leaf tree : Formula)
    → t ≡ Text raw → leaf ≡ turned level.operand_negated (Leaf name op (literal_of op raw)) → tree ≡ joined (conjunction level.negated) level.and_left leaf → after ≡ ended_level level
    → build_at (Values name op) level outer t ≡ Some (record { stage = Joints tree; level = after; outer = outer })
value_built name op raw t level after outer leaf tree e k h l =
    ap (build_at (Values name op) level outer) e
    ∙ (λ i. Some (record { stage = Joints ((ap (joined (conjunction level.negated) level.and_left) (sym k) ∙ sym h) i); level = sym l i; outer = outer }))

pub close_built : (t : Formula) (tok : Token) (level after l : Level) (outer rest : List Level) (side tree : Formula)
    → tok ≡ Close → outer ≡ l ∷ rest → side ≡ with_side t level → tree ≡ joined (conjunction l.negated) l.and_left side → after ≡ ended_level l
    → build_at (Joints t) level outer tok ≡ Some (record { stage = Joints tree; level = after; outer = rest })
close_built t tok level after l outer rest side tree e o s h k =
    ap (build_at (Joints t) level outer) e
    ∙ ap (close (with_side t level)) o
    ∙ (λ i. Some (record { stage = Joints ((ap (joined (conjunction l.negated) l.and_left) (sym s) ∙ sym h) i); level = sym k i; outer = rest }))

pub deep_ended : (level after : Level) (outer : List Level) (depth : ℕ) → depth ≡ length (marks_of level outer) → after ≡ ended_level level → depth - level.negations ≡ length (marks_of after outer)
deep_ended level after outer depth e k =
    let a = length-negations level.negations (outer_marks outer) in
    let b : length (marks_of after outer) ≡ length (outer_marks outer) = ap (λ l. length (marks_of l outer)) k in
    omega arith

pub deep_closed : (level after l : Level) (outer rest : List Level) (depth : ℕ) → level.negations ≡ 0 → outer ≡ l ∷ rest → depth ≡ length (marks_of level outer) → after ≡ ended_level l → depth - (1 + l.negations) ≡ length (marks_of after rest)
deep_closed level after l outer rest depth z o e k =
    let a = length-negations level.negations (outer_marks outer) in
    let b : length (outer_marks outer) ≡ suc (length (negations_on l.negations (outer_marks rest))) = ap (λ v. length (outer_marks v)) o in
    let d = length-negations l.negations (outer_marks rest) in
    let f : length (marks_of after rest) ≡ length (outer_marks rest) = ap (λ v. length (marks_of v rest)) k in
    omega arith

pub good_value : (op : Cmp) (raw : List ℕ) (t : Token) (marks : List Mark) (n start : ℕ) → t ≡ Text raw → bad_pattern op raw ≡ None → n < 256 → own_fault (Value op) marks n start t ≡ None
good_value op raw t marks n start e b h = ap (own_fault (Value op) marks n start) e ∙ ap (value_fault n start) b ∙ ap (λ v. cond v (Some TooMany) None) (lt-leb 256 n h)

pub bad_value : (op : Cmp) (raw : List ℕ) (t : Token) (marks : List Mark) (n start place : ℕ) → t ≡ Text raw → bad_pattern op raw ≡ Some place → own_fault (Value op) marks n start t ≡ Some (BadPattern (start + place))
bad_value op raw t marks n start place k b = ap (own_fault (Value op) marks n start) k ∙ ap (value_fault n start) b

-- A value that is a bad pattern is an error, whatever follows.
pub value_refused : (op : Cmp) (raw : List ℕ) (t : Token) (marks : List Mark) (n at start place : ℕ) → t ≡ Text raw → bad_pattern op raw ≡ Some place
    → (len : ℕ) (xs : List Placed) → first_fault (Value op) marks n len (record { at = at; start = start; lexeme = Whole t } ∷ xs) ≡ Some (BadPattern (start + place))
value_refused op raw t marks n at start place k b len xs = own_stops (Value op) marks n len _ t xs (Joint, ended marks) _ refl (ap (next (Value op) marks) k) (bad_value op raw t marks n start place k b)

pub close_fault : (t : Token) (marks : List Mark) (n start : ℕ) → t ≡ Close → own_fault Joint marks n start t ≡ None
close_fault t marks n start e = ap (own_fault Joint marks n start) e

pub not_ended : (level : Level) (outer : List Level) (len : ℕ) → (outer ≡ [] → ⊥) → ends Joint (marks_of level outer) len ≡ Some (Syntax len)
not_ended level [] len h = absurd (h refl)
not_ended level (l ∷ ls) len h = go level.negations
  where
    go : (n : ℕ) → ends Joint (negations_on n (Paren ∷ negations_on l.negations (outer_marks ls))) len ≡ Some (Syntax len)
    go zero = refl
    go (suc n) = refl

pub some_outer : (xs : List code_level.Level) → (length xs ≡ 0 → ⊥) → reverse (map level_seen xs) ≡ [] → ⊥
some_outer xs h e = h (sym (length-map xs level_seen) ∙ sym (length-reverse (map level_seen xs)) ∙ ap length e)
