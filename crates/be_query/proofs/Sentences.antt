-- A tree that was built to the end is the tree of a sentence.
use Rattle.std.proofs.Common.{◌≡◌, ℕ, ◌+◌, Bool, true, false, zero, suc, Option, Some, None, List, [], ◌∷◌, drop, refl, sym, ap, ◌∙◌, subst, arith, cond}
use Rattle.be_query.specs.Tokens.{Token, Open, Close, Bang, Both, Either, Compares, Text, is_name}
use Rattle.be_query.specs.Grammar.{or_tree, Formula, ParsesTo}
use Rattle.be_query.specs.Reading.{Joint, read_from}
use Rattle.be_query.specs.Building.{Level, Stage, Operands, Operators, Values, Joints, State, nothing_built, close, build_at, take_token, build_from, tree_at, tree_of, awaited_at, negations_on, marks_of, IsSettledAt, IsSettled}
use Rattle.be_query.specs.Lexing.{lexemes}
use Rattle.be_query.proofs.Viability.{read_sentence}
use Rattle.be_query.proofs.Trees.{seen, build_seen, tree_built}

abbrev pub SettledIf : Option State → Type 0
SettledIf None = Unit {0}
SettledIf (Some s) = IsSettled s

named_settled : (b : Bool) (name : List ℕ) (level : Level) (outer : List Level) → SettledIf (cond b (Some (record { stage = Operators name; level = level; outer = outer })) None)
named_settled true name level outer = tt
named_settled false name level outer = tt

closed_settled : (t : Formula) (outer : List Level) → SettledIf (close t outer)
closed_settled t [] = tt
closed_settled t (level ∷ outer) = refl

pub settled_build : (stage : Stage) (level : Level) (outer : List Level) (t : Token) → SettledIf (build_at stage level outer t)
settled_build Operands level outer Open = tt
settled_build Operands level outer Close = tt
settled_build Operands level outer Bang = tt
settled_build Operands level outer Both = tt
settled_build Operands level outer Either = tt
settled_build Operands level outer (Compares op) = tt
settled_build Operands level outer (Text raw) = named_settled (is_name raw) _ level outer
settled_build (Operators name) level outer Open = tt
settled_build (Operators name) level outer Close = tt
settled_build (Operators name) level outer Bang = tt
settled_build (Operators name) level outer Both = tt
settled_build (Operators name) level outer Either = tt
settled_build (Operators name) level outer (Compares op) = tt
settled_build (Operators name) level outer (Text raw) = tt
settled_build (Values name op) level outer Open = tt
settled_build (Values name op) level outer Close = tt
settled_build (Values name op) level outer Bang = tt
settled_build (Values name op) level outer Both = tt
settled_build (Values name op) level outer Either = tt
settled_build (Values name op) level outer (Compares other) = tt
settled_build (Values name op) level outer (Text raw) = refl
settled_build (Joints t) level outer Open = tt
settled_build (Joints t) level outer Close = closed_settled _ outer
settled_build (Joints t) level outer Bang = tt
settled_build (Joints t) level outer Both = tt
settled_build (Joints t) level outer Either = tt
settled_build (Joints t) level outer (Compares op) = tt
settled_build (Joints t) level outer (Text raw) = tt

build_none : (ts : List Token) → build_from None ts ≡ None
build_none [] = refl
build_none (t ∷ ts) = refl

build_read : (s : Option State) (ts : List Token) → SettledIf s → read_from (seen s) ts ≡ seen (build_from s ts)
build_read s [] h = refl
build_read None (t ∷ ts) h = refl
build_read (Some s) (t ∷ ts) h =
    ap (λ o. read_from o ts) (build_seen s.stage s.level s.outer t h)
    ∙ build_read (take_token s t) ts (settled_build s.stage s.level s.outer t)

settled_from : (s : Option State) (ts : List Token) → SettledIf s → SettledIf (build_from s ts)
settled_from s [] h = h
settled_from None (t ∷ ts) h = tt
settled_from (Some s) (t ∷ ts) h = settled_from (take_token s t) ts (settled_build s.stage s.level s.outer t)

whole_view : (stage : Stage) (level : Level) (outer : List Level) (t : Formula) → IsSettledAt stage level → tree_at stage level outer ≡ Some t → (awaited_at stage ≡ Joint) × (marks_of level outer ≡ [])
whole_view Operands level outer t h e = cc
whole_view (Operators n) level outer t h e = cc
whole_view (Values n op) level outer t h e = cc
whole_view (Joints u) level [] t h e = (refl, ap (λ n. negations_on n []) h)
whole_view (Joints u) level (l ∷ ls) t h e = cc

-- The tokens encode the tree that is built from them to the end.
pub built_parses : (ts : List Token) (s : State) (t : Formula) → build_from (Some nothing_built) ts ≡ Some s → tree_at s.stage s.level s.outer ≡ Some t → ParsesTo ts t
built_parses ts s t e h =
    let settled : IsSettled s = subst SettledIf e (settled_from (Some nothing_built) ts tt) in
    let w = whole_view s.stage s.level s.outer t settled h in
    let seen_is : seen (build_from (Some nothing_built) ts) ≡ Some (Joint, []) = ap seen e ∙ (λ i. Some (w.0 i, w.1 i)) in
    let o = read_sentence ts (build_read (Some nothing_built) ts tt ∙ seen_is) in
    let same : Some (or_tree o.0) ≡ Some t = sym (tree_built o.0) ∙ ap (λ l. tree_of (build_from (Some nothing_built) l)) o.1 ∙ ap tree_of e ∙ h in
    (o.0, o.1, cc)

-- The lexemes after the bytes of one lexeme.
pub lexemes_after : (n at : ℕ) (bs : List ℕ) → lexemes n at bs ≡ lexemes 0 (at + n) (drop n bs)
lexemes_after zero at bs = ap (λ a. lexemes 0 a bs) (omega arith)
lexemes_after (suc n) at [] = refl
lexemes_after (suc n) at (b ∷ bs) = lexemes_after n (at + 1) bs ∙ ap (λ a. lexemes 0 a (drop n bs)) (omega arith)
