-- Printing preserves whatever was read from clean tokens.
use Rattle.std.proofs.Common.{◌≡◌, ℕ, Bool, true, false, Option, Some, None, Result, Ok, Err, List, [], ◌∷◌, ◌&&◌, refl, sym, ap, ◌∙◌, subst, cond, arith}
use Rattle.std.specs.Prelude.{not, encode_utf8, encode_utf8_all, IsUtf8}
use Rattle.std.specs.List.{list_all}
use Rattle.std.specs.Str.{chars, all_scalars}
use Rattle.std.specs.Bool.{◌==◌}
use Rattle.std.proofs.Math.Utf8.{scalar}
use Rattle.std.proofs.Math.Logic.{⊎_elim}
use Rattle.std.proofs.lemmas.Bool.{cond_both, cases_Bool, and_parts, and_from, or_parts, or_from, eqb-true, false≢true}
use Rattle.std.proofs.lemmas.Str.{scalars-chars, encodes-chars, encode_ascii}
use Rattle.be_value.specs.Name.{name_from, has_nul}
use Rattle.be_pattern.specs.Match.{Part}
use Rattle.be_pattern.specs.Parse.{pattern}
use Rattle.be_pattern.specs.Canonical.{canonical, has_only}
use Rattle.be_pattern.proofs.Back.{canonical_back}
use Rattle.be_pattern.proofs.Drawn.{pattern_on, canonical_on}
use Rattle.be_query.specs.declared.tree.Cmp.{Cmp}
use Rattle.be_query.specs.declared.tree.Cmp.TheVariants.{Eq, Ne, Lt, Le, Gt, Ge}
use Rattle.be_query.specs.Tokens.{Token, Open, Close, Bang, Both, Either, Compares, Text, plain, is_name}
use Rattle.be_query.specs.Grammar.{Formula, Leaf, And, Or, Literal, Wild, Exact, opposite, complement, wild_or_none, literal_of}
use Rattle.be_query.specs.Building.{Level, Stage, Operands, Operators, Values, Joints, State, turned, conjunction, disjunction, joined, with_operand, with_side, close, build_at, tree_at}
use Rattle.be_query.specs.Faults.{takes_pattern}
use Rattle.be_query.specs.Printing.{IsKept, IsKeptBy}
use Rattle.be_query.specs.View.{IsClean}
use Rattle.be_query.proofs.Names.{own_name}
use Rattle.be_query.proofs.Kept.{nul_parts}

-- Strings without a NUL.

abbrev pub some : ℕ → Bool
some c = not (c == 0)

pub all_some : (cs : List ℕ) → has_nul cs ≡ false → list_all some cs ≡ true
all_some [] h = refl
all_some (c ∷ cs) h = let k = or_parts (c == 0) (has_nul cs) h in and_from _ _ (ap not k.0) (all_some cs k.1)

not_some : (b : Bool) → not b ≡ true → b ≡ false
not_some true h = absurd (false≢true h)
not_some false h = refl

none_nul : (cs : List ℕ) → list_all some cs ≡ true → has_nul cs ≡ false
none_nul [] h = refl
none_nul (c ∷ cs) h = let k = and_parts _ _ h in or_from (c == 0) (has_nul cs) (not_some (c == 0) k.0) (none_nul cs k.1)

zero_byte : (c : ℕ) → has_nul (encode_utf8 c) ≡ false → (c == 0) ≡ false
zero_byte c h = ⊎_elim (λ e. absurd (false≢true (sym h ∙ ap (λ n. has_nul (encode_utf8 n)) (eqb-true c 0 e) ∙ ap has_nul (encode_ascii 0 (omega arith))))) (λ e. e) (cases_Bool (c == 0))

encoded_nul : (cs : List ℕ) → has_nul (encode_utf8_all cs) ≡ false → has_nul cs ≡ false
encoded_nul [] h = refl
encoded_nul (c ∷ cs) h = let k = nul_parts (encode_utf8 c) (encode_utf8_all cs) h in or_from (c == 0) (has_nul cs) (zero_byte c k.0) (encoded_nul cs k.1)

pub chars_clean : (bs : List ℕ) → IsUtf8 bs → has_nul bs ≡ false → has_nul (chars bs) ≡ false
chars_clean bs u h = encoded_nul (chars bs) (ap has_nul (encodes-chars bs u) ∙ h)

pub scalars_all : (cs : List ℕ) → all_scalars cs ≡ list_all scalar cs
scalars_all [] = refl
scalars_all (c ∷ cs) = ap (λ b. scalar c && b) (scalars_all cs)

-- The tokens of a pattern are preserved if its characters are scalar values.
pub parts_kept : (ps : List Part) → pattern (canonical ps) ≡ Ok ps → list_all (has_only some) ps ≡ true → list_all (has_only scalar) ps ≡ true
    → (pattern (canonical ps) ≡ Ok ps) × (has_nul (canonical ps) ≡ false) × (all_scalars (canonical ps) ≡ true)
parts_kept ps r n s = (r, none_nul (canonical ps) (canonical_on some ps refl n), scalars_all (canonical ps) ∙ canonical_on scalar ps refl s)

pub plain_clean : (bs : List ℕ) → has_nul bs ≡ false → has_nul (plain bs) ≡ false
plain_clean [] h = refl
plain_clean (b ∷ []) h = h
plain_clean (b ∷ c ∷ bs) h =
    let k = or_parts (b == 0) (has_nul (c ∷ bs)) h in
    let l = or_parts (c == 0) (has_nul bs) k.1 in
    cond_both (b == 92) (c ∷ plain bs) (b ∷ plain (c ∷ bs)) (λ t. has_nul t ≡ false)
    (λ w. or_from (c == 0) (has_nul (plain bs)) l.0 (plain_clean bs l.1))
    (λ w. or_from (b == 0) (has_nul (plain (c ∷ bs))) k.0 (plain_clean (c ∷ bs) k.1))

wild_kept : (op : Cmp) (cs : List ℕ) (r : Result (List Part) ℕ) → takes_pattern op ≡ true → pattern cs ≡ r → list_all some cs ≡ true → list_all scalar cs ≡ true → IsKeptBy op (wild_or_none r)
wild_kept op cs (Ok ps) t e n s = let k = parts_kept ps (canonical_back cs ps e) (pattern_on some cs ps e n) (pattern_on scalar cs ps e s) in (t, k.0, k.1, k.2)
wild_kept op cs (Err at) t e n s = (t, refl, refl, refl)

-- The value that clean bytes encode is preserved.
pub literal_kept : (op : Cmp) (raw : List ℕ) → has_nul raw ≡ false → IsUtf8 raw → IsKeptBy op (literal_of op raw)
literal_kept op raw h u = go op
  where
    somes : list_all some (chars raw) ≡ true
    somes = all_some (chars raw) (chars_clean raw u h)

    numbers : list_all scalar (chars raw) ≡ true
    numbers = sym (scalars_all (chars raw)) ∙ scalars-chars raw u

    go : (op : Cmp) → IsKeptBy op (literal_of op raw)
    go Eq = wild_kept Eq (chars raw) (pattern (chars raw)) refl refl somes numbers
    go Ne = wild_kept Ne (chars raw) (pattern (chars raw)) refl refl somes numbers
    go Lt = (refl, plain_clean raw h)
    go Le = (refl, plain_clean raw h)
    go Gt = (refl, plain_clean raw h)
    go Ge = (refl, plain_clean raw h)

-- Trees.

opposite_takes : (op : Cmp) → takes_pattern (opposite op) ≡ takes_pattern op
opposite_takes Eq = refl
opposite_takes Ne = refl
opposite_takes Lt = refl
opposite_takes Le = refl
opposite_takes Gt = refl
opposite_takes Ge = refl

opposite_kept : (op : Cmp) (v : Literal) → IsKeptBy op v → IsKeptBy (opposite op) v
opposite_kept op (Wild ps) h = (opposite_takes op ∙ h.0, h.1, h.2, h.3)
opposite_kept op (Exact bs) h = (opposite_takes op ∙ h.0, h.1)

pub complement_kept : (t : Formula) → IsKept t → IsKept (complement t)
complement_kept (Leaf n op v) h = (h.0, opposite_kept op v h.1)
complement_kept (And l r) h = (complement_kept l h.0, complement_kept r h.1)
complement_kept (Or l r) h = (complement_kept l h.0, complement_kept r h.1)

turned_kept : (b : Bool) (t : Formula) → IsKept t → IsKept (turned b t)
turned_kept false t h = h
turned_kept true t h = complement_kept t h

-- While a text is being read.

abbrev pub SideKept : Option Formula → Type 0
SideKept None = Unit {0}
SideKept (Some t) = IsKept t

abbrev pub LevelKept : Level → Type 0
LevelKept l = SideKept l.or_left × SideKept l.and_left

abbrev pub LevelsKept : List Level → Type 0
LevelsKept [] = Unit {0}
LevelsKept (l ∷ ls) = LevelKept l × LevelsKept ls

abbrev pub StageKept : Stage → Type 0
StageKept Operands = Unit {0}
StageKept (Operators n) = name_from n ≡ Ok n
StageKept (Values n op) = name_from n ≡ Ok n
StageKept (Joints t) = IsKept t

-- Everything that has been built is preserved by printing.
abbrev pub StateKept : State → Type 0
StateKept s = StageKept s.stage × LevelKept s.level × LevelsKept s.outer

abbrev pub IfKept : Option State → Type 0
IfKept None = Unit {0}
IfKept (Some s) = StateKept s

both_kept : (b : Bool) (o : Option Formula) (t : Formula) → SideKept o → IsKept t → IsKept (joined (conjunction b) o t)
both_kept b None t h k = k
both_kept false (Some l) t h k = (h, k)
both_kept true (Some l) t h k = (h, k)

side_kept : (b : Bool) (o : Option Formula) (t : Formula) → SideKept o → IsKept t → IsKept (joined (disjunction b) o t)
side_kept b None t h k = k
side_kept false (Some l) t h k = (h, k)
side_kept true (Some l) t h k = (h, k)

operand_kept : (t : Formula) (level : Level) (outer : List Level) → IsKept t → LevelKept level → LevelsKept outer → StateKept (with_operand t level outer)
operand_kept t level outer h k o = (both_kept level.negated level.and_left t k.1 h, (k.0, tt), o)

closed_kept : (t : Formula) (outer : List Level) → IsKept t → LevelsKept outer → IfKept (close t outer)
closed_kept t [] h o = tt
closed_kept t (l ∷ ls) h o = operand_kept t l ls h o.0 o.1

named_kept : (raw : List ℕ) (level : Level) (outer : List Level) → LevelKept level → LevelsKept outer → IfKept (cond (is_name raw) (Some (record { stage = Operators (plain raw); level = level; outer = outer })) None)
named_kept raw level outer k o = cond_both (is_name raw) (Some (record { stage = Operators (plain raw); level = level; outer = outer })) None IfKept (λ e. (own_name (plain raw) e, k, o)) (λ e. tt)

-- Building with a clean token adds only what printing preserves.
pub build_kept : (stage : Stage) (level : Level) (outer : List Level) (t : Token) → StageKept stage → LevelKept level → LevelsKept outer → IsClean t → IfKept (build_at stage level outer t)
build_kept Operands level outer Open s k o c = (tt, (tt, tt), (k, o))
build_kept Operands level outer Close s k o c = tt
build_kept Operands level outer Bang s k o c = (tt, k, o)
build_kept Operands level outer Both s k o c = tt
build_kept Operands level outer Either s k o c = tt
build_kept Operands level outer (Compares op) s k o c = tt
build_kept Operands level outer (Text raw) s k o c = named_kept raw level outer k o
build_kept (Operators name) level outer Open s k o c = tt
build_kept (Operators name) level outer Close s k o c = tt
build_kept (Operators name) level outer Bang s k o c = tt
build_kept (Operators name) level outer Both s k o c = tt
build_kept (Operators name) level outer Either s k o c = tt
build_kept (Operators name) level outer (Compares op) s k o c = (s, k, o)
build_kept (Operators name) level outer (Text raw) s k o c = tt
build_kept (Values name op) level outer Open s k o c = tt
build_kept (Values name op) level outer Close s k o c = tt
build_kept (Values name op) level outer Bang s k o c = tt
build_kept (Values name op) level outer Both s k o c = tt
build_kept (Values name op) level outer Either s k o c = tt
build_kept (Values name op) level outer (Compares other) s k o c = tt
build_kept (Values name op) level outer (Text raw) s k o c = operand_kept _ level outer (turned_kept level.operand_negated (Leaf name op (literal_of op raw)) (s, literal_kept op raw c.0 c.1)) k o
build_kept (Joints t) level outer Open s k o c = tt
build_kept (Joints t) level outer Close s k o c = closed_kept (with_side t level) outer (side_kept level.negated level.or_left t k.0 s) o
build_kept (Joints t) level outer Bang s k o c = tt
build_kept (Joints t) level outer Both s k o c = (tt, (k.0, s), o)
build_kept (Joints t) level outer Either s k o c = (tt, (side_kept level.negated level.or_left t k.0 s, k.1), o)
build_kept (Joints t) level outer (Compares op) s k o c = tt
build_kept (Joints t) level outer (Text raw) s k o c = tt

pub step_kept : (s p : State) (t : Token) → StateKept s → IsClean t → build_at s.stage s.level s.outer t ≡ Some p → StateKept p
step_kept s p t h c e = subst IfKept e (build_kept s.stage s.level s.outer t h.0 h.1 h.2 c)

-- At the end, the tree is preserved.
pub end_kept : (s : State) (t : Formula) → StateKept s → tree_at s.stage s.level s.outer ≡ Some t → IsKept t
end_kept s t h e = subst SideKept e (go s.stage s.outer h.0)
  where
    go : (stage : Stage) (outer : List Level) → StageKept stage → SideKept (tree_at stage s.level outer)
    go Operands outer k = tt
    go (Operators n) outer k = tt
    go (Values n op) outer k = tt
    go (Joints u) [] k = side_kept s.level.negated s.level.or_left u h.1.0 k
    go (Joints u) (l ∷ ls) k = tt
