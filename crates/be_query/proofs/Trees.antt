-- The tree that is built is the one that the grammar defines, so a list of tokens has at most one
-- tree.
use Rattle.std.proofs.Common.{◌≡◌, ℕ, Bool, true, false, zero, suc, Option, Some, None, List, [], ◌∷◌, ◌++◌, refl, sym, ap, ◌∙◌, append_assoc, append-nil, cond}
use Rattle.std.specs.Prelude.{not}
use Rattle.std.proofs.lemmas.Bool.{false≢true}
use Rattle.be_query.specs.declared.tree.Cmp.{Cmp}
use Rattle.be_query.specs.Tokens.{Token, Open, Close, Bang, Both, Either, Compares, Text, plain, is_name}
use Rattle.be_query.specs.Grammar.{OrPhrase, or_one, or_more, AndPhrase, and_one, and_more, NotPhrase, negation, group, comparison, or_tokens, and_tokens, not_tokens, or_tree, and_tree, not_tree, Formula, Leaf, And, Or, opposite, complement, ParsesTo}
use Rattle.be_query.specs.declared.tree.Cmp.TheVariants.{Eq, Ne, Lt, Le, Gt, Ge}
use Rattle.be_query.specs.Reading.{Awaited, Operator, Joint, Mark, ended, next}
use Rattle.be_query.specs.Building.{Level, fresh, Stage, Operands, Operators, Values, Joints, State, nothing_built, turned, conjunction, disjunction, joined, with_operand, with_side, close, build_at, build_from, tree_of, awaited_at, negations_on, outer_marks, marks_of, view_of, IsSettledAt}

opposite_twice : (op : Cmp) → opposite (opposite op) ≡ op
opposite_twice Eq = refl
opposite_twice Ne = refl
opposite_twice Lt = refl
opposite_twice Le = refl
opposite_twice Gt = refl
opposite_twice Ge = refl

pub complement_twice : (t : Formula) → complement (complement t) ≡ t
complement_twice (Leaf n op v) = ap (λ o. Leaf n o v) (opposite_twice op)
complement_twice (And l r) = λ i. And (complement_twice l i) (complement_twice r i)
complement_twice (Or l r) = λ i. Or (complement_twice l i) (complement_twice r i)

-- One more `!` around a tree complements it inside the existing ones.
turned_more : (b : Bool) (t : Formula) → turned (not b) t ≡ turned b (complement t)
turned_more false t = refl
turned_more true t = sym (complement_twice t)

both_turned : (b : Bool) (l r : Formula) → conjunction b (turned b l) (turned b r) ≡ turned b (And l r)
both_turned false l r = refl
both_turned true l r = refl

either_turned : (b : Bool) (l r : Formula) → disjunction b (turned b l) (turned b r) ≡ turned b (Or l r)
either_turned false l r = refl
either_turned true l r = refl

-- Levels in which an operand, a side or a phrase begins.
abbrev in_level : Bool → Option Formula → Option Formula → Level
in_level b o a = record { negated = b; operand_negated = b; or_left = o; and_left = a; negations = 0 }

abbrev at_operand : Level → List Level → Option State
at_operand level outer = Some (record { stage = Operands; level = level; outer = outer })

abbrev at_joint : Bool → Formula → Option Formula → List Level → Option State
at_joint b t o outer = Some (record { stage = Joints t; level = in_level b o None; outer = outer })

-- The left side of the last `||`, and its right side so far.
abbrev left_of : Bool → OrPhrase → Option Formula
left_of b (or_one a) = None
left_of b (or_more o a) = Some (turned b (or_tree o))

abbrev right_of : OrPhrase → Formula
right_of (or_one a) = and_tree a
right_of (or_more o a) = and_tree a

left_right : (b : Bool) (o : OrPhrase) → joined (disjunction b) (left_of b o) (turned b (right_of o)) ≡ turned b (or_tree o)
left_right b (or_one a) = refl
left_right b (or_more o a) = either_turned b (or_tree o) (and_tree a)

mutual
  pub or_built : (o : OrPhrase) (b : Bool) (outer : List Level) (us : List Token) → build_from (at_operand (fresh b) outer) (or_tokens o ++ us) ≡ build_from (at_joint b (turned b (right_of o)) (left_of b o) outer) us
  or_built (or_one a) b outer us = and_built a b None outer us
  or_built (or_more o a) b outer us =
      ap (build_from (at_operand (fresh b) outer)) (append_assoc (or_tokens o) (Either ∷ and_tokens a) us)
      ∙ or_built o b outer (Either ∷ (and_tokens a ++ us))
      ∙ ap (λ t. build_from (at_operand (in_level b (Some t) None) outer) (and_tokens a ++ us)) (left_right b o)
      ∙ and_built a b (Some (turned b (or_tree o))) outer us

  pub and_built : (a : AndPhrase) (b : Bool) (left : Option Formula) (outer : List Level) (us : List Token) → build_from (at_operand (in_level b left None) outer) (and_tokens a ++ us) ≡ build_from (at_joint b (turned b (and_tree a)) left outer) us
  and_built (and_one n) b left outer us = not_built n (in_level b left None) outer us
  and_built (and_more a n) b left outer us =
      ap (build_from (at_operand (in_level b left None) outer)) (append_assoc (and_tokens a) (Both ∷ not_tokens n) us)
      ∙ and_built a b left outer (Both ∷ (not_tokens n ++ us))
      ∙ not_built n (in_level b left (Some (turned b (and_tree a)))) outer us
      ∙ ap (λ t. build_from (at_joint b t left outer) us) (both_turned b (and_tree a) (not_tree n))

  pub not_built : (n : NotPhrase) (level : Level) (outer : List Level) (us : List Token) → build_from (at_operand level outer) (not_tokens n ++ us) ≡ build_from (Some (with_operand (turned level.operand_negated (not_tree n)) level outer)) us
  not_built (negation n) level outer us =
      not_built n (record level { operand_negated = not level.operand_negated; negations = suc level.negations }) outer us
      ∙ ap (λ t. build_from (Some (with_operand t level outer)) us) (turned_more level.operand_negated (not_tree n))
  not_built (group o) level outer us =
      ap (build_from (at_operand (fresh level.operand_negated) (level ∷ outer))) (append_assoc (or_tokens o) (Close ∷ []) us)
      ∙ or_built o level.operand_negated (level ∷ outer) (Close ∷ us)
      ∙ ap (λ t. build_from (Some (with_operand t level outer)) us) (left_right level.operand_negated o)
  not_built (comparison name valid op value) level outer us = named (is_name name) valid level outer (λ s. build_from s (Compares op ∷ Text value ∷ us))
    where
      named : (b : Bool) → b ≡ true → (l : Level) (ls : List Level) (k : Option State → Option State) → k (cond b (Some (record { stage = Operators (plain name); level = l; outer = ls })) None) ≡ k (Some (record { stage = Operators (plain name); level = l; outer = ls }))
      named true e l ls k = refl
      named false e l ls k = absurd (false≢true e)

-- The tree built from the tokens of a phrase is the tree of the phrase.
pub tree_built : (o : OrPhrase) → tree_of (build_from (Some nothing_built) (or_tokens o)) ≡ Some (or_tree o)
tree_built o =
    ap (λ ts. tree_of (build_from (Some nothing_built) ts)) (sym (append-nil (or_tokens o)))
    ∙ ap tree_of (or_built o false [] [])
    ∙ ap Some (left_right false o)

-- Tokens have at most one tree.
pub one_tree : (ts : List Token) (s t : Formula) → ParsesTo ts s → ParsesTo ts t → s ≡ t
one_tree ts s t (o, eo, es) (p, ep, et) =
    let same = sym (tree_built o) ∙ ap (λ l. tree_of (build_from (Some nothing_built) l)) (eo ∙ sym ep) ∙ tree_built p in
    sym es ∙ some_same same ∙ et
  where
    some_same : {a b : Formula} → Some a ≡ Some b → a ≡ b
    some_same e = cc

-- Building continues exactly as long as reading does.

abbrev pub seen : Option State → Option (Awaited × List Mark)
seen None = None
seen (Some s) = Some (view_of s)

ended_negations : (n : ℕ) (marks : List Mark) → ended (negations_on n marks) ≡ ended marks
ended_negations zero marks = refl
ended_negations (suc n) marks = ended_negations n marks

ended_outer : (outer : List Level) → ended (outer_marks outer) ≡ outer_marks outer
ended_outer [] = refl
ended_outer (level ∷ outer) = refl

pub ended_marks : (level : Level) (outer : List Level) → ended (marks_of level outer) ≡ outer_marks outer
ended_marks level outer = ended_negations level.negations (outer_marks outer) ∙ ended_outer outer

named_seen : (b : Bool) (raw : List ℕ) (level : Level) (outer : List Level) → cond b (Some (Operator, marks_of level outer)) None ≡ seen (cond b (Some (record { stage = Operators (plain raw); level = level; outer = outer })) None)
named_seen true raw level outer = refl
named_seen false raw level outer = refl

closed_seen : (t : Formula) (level : Level) (outer : List Level) → level.negations ≡ 0 → next Joint (marks_of level outer) Close ≡ seen (close (with_side t level) outer)
closed_seen t level outer h = ap (λ n. next Joint (negations_on n (outer_marks outer)) Close) h ∙ go outer (with_side t level)
  where
    go : (ls : List Level) (s : Formula) → next Joint (outer_marks ls) Close ≡ seen (close s ls)
    go [] s = refl
    go (l ∷ ls) s = ap (λ m. Some (Joint, m)) (ended_marks l ls)

pub build_seen : (stage : Stage) (level : Level) (outer : List Level) (t : Token) → IsSettledAt stage level → next (awaited_at stage) (marks_of level outer) t ≡ seen (build_at stage level outer t)
build_seen Operands level outer Open h = refl
build_seen Operands level outer Close h = refl
build_seen Operands level outer Bang h = refl
build_seen Operands level outer Both h = refl
build_seen Operands level outer Either h = refl
build_seen Operands level outer (Compares op) h = refl
build_seen Operands level outer (Text raw) h = named_seen (is_name raw) raw level outer
build_seen (Operators name) level outer Open h = refl
build_seen (Operators name) level outer Close h = refl
build_seen (Operators name) level outer Bang h = refl
build_seen (Operators name) level outer Both h = refl
build_seen (Operators name) level outer Either h = refl
build_seen (Operators name) level outer (Compares op) h = refl
build_seen (Operators name) level outer (Text raw) h = refl
build_seen (Values name op) level outer Open h = refl
build_seen (Values name op) level outer Close h = refl
build_seen (Values name op) level outer Bang h = refl
build_seen (Values name op) level outer Both h = refl
build_seen (Values name op) level outer Either h = refl
build_seen (Values name op) level outer (Compares other) h = refl
build_seen (Values name op) level outer (Text raw) h = ap (λ m. Some (Joint, m)) (ended_marks level outer)
build_seen (Joints t) level outer Open h = refl
build_seen (Joints t) level outer Close h = closed_seen t level outer h
build_seen (Joints t) level outer Bang h = refl
build_seen (Joints t) level outer Both h = refl
build_seen (Joints t) level outer Either h = refl
build_seen (Joints t) level outer (Compares op) h = refl
build_seen (Joints t) level outer (Text raw) h = refl
