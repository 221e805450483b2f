-- The characters that fold to the same character, as the members of a set.
use Rattle.std.proofs.Common.{◌≡◌, ◌⊎◌, ℕ, zero, suc, Bool, true, false, ◌||◌, ◌&&◌, nat_le, List, [], ◌∷◌, map, filter, Contains, inl, inr, refl, sym, ap, ◌∙◌, arith}
use Rattle.std.specs.Prelude.{not}
use Rattle.std.specs.Bool.{◌==◌}
use Rattle.std.specs.List.{list_any, list_all}
use Rattle.std.specs.Str.{all_scalars}
use Rattle.std.proofs.Math.Logic.{⊎_elim}
use Rattle.std.proofs.lemmas.Bool.{true≢false, cond-true, cond-false, cond_both, cases_Bool, and_parts, and_from, or_cases, eqb-true, eq-eqb, leb-true, le-leb}
use Rattle.be_pattern.specs.Canonical.{is_special_in_set}
use Rattle.be_pattern.specs.Match.{is_within}
use Rattle.ucd_case.specs.CaseFolding.{simple_fold, fold_pairs, IsFoldPairs}
use Rattle.ucd_case.specs.FoldOtherRows.{fold_other_rows}
use Rattle.be_query_text.specs.Encoded.{is_special}
use Rattle.be_query_text.specs.Cases.{others}

-- The second parts of those pairs that begin with this character.
abbrev pub others_among : ℕ → List (ℕ × ℕ) → List ℕ
others_among folded ps = map (λ p. p.1) (filter (λ p. p.0 == folded) ps)

-- A member that is a single character.
abbrev pub single : ℕ → ℕ × ℕ
single c = (c, c)

pub others_step : (f : ℕ) (p : ℕ × ℕ) (ps : List (ℕ × ℕ)) → (p.0 == f) ≡ true → others_among f (p ∷ ps) ≡ p.1 ∷ others_among f ps
others_step f p ps h = ap (map (λ q. q.1)) (cond-true (p.0 == f) (p ∷ filter (λ q. q.0 == f) ps) (filter (λ q. q.0 == f) ps) h)

pub others_skip : (f : ℕ) (p : ℕ × ℕ) (ps : List (ℕ × ℕ)) → (p.0 == f) ≡ false → others_among f (p ∷ ps) ≡ others_among f ps
others_skip f p ps h = ap (map (λ q. q.1)) (cond-false (p.0 == f) (p ∷ filter (λ q. q.0 == f) ps) (filter (λ q. q.0 == f) ps) h)

within_single : (c d : ℕ) → is_within c (single d) ≡ true → d ≡ c
within_single c d h =
    let p = and_parts (nat_le d c) (nat_le c d) h in
    omega (arith, leb-true d c p.0, leb-true c d p.1)

pub single_within : (c : ℕ) → is_within c (single c) ≡ true
single_within c = and_from (nat_le c c) (nat_le c c) (le-leb c c (omega arith)) (le-leb c c (omega arith))

-- c is one of the characters.
abbrev pub is_member : ℕ → List ℕ → Bool
is_member c ds = list_any (is_within c) (map single ds)

later : (p : ℕ × ℕ) (ps : List (ℕ × ℕ)) (x : ℕ × ℕ) → Contains ps x → Contains (p ∷ ps) x
later p ps x (k, lt, at) = (suc k, omega arith, at)

from_member : (f c : ℕ) (ps : List (ℕ × ℕ)) → is_member c (others_among f ps) ≡ true → Contains ps (f, c)
from_member f c [] h = absurd (true≢false (sym h))
from_member f c (p ∷ ps) h = ⊎_elim
    (λ w.
    let k : is_member c (p.1 ∷ others_among f ps) ≡ true = sym (ap (is_member c) (others_step f p ps w)) ∙ h in
    ⊎_elim
    (λ v. (zero, omega arith, λ i. (eqb-true p.0 f w i, within_single c p.1 v i)))
    (λ v. later p ps (f, c) (from_member f c ps v))
    (or_cases (is_within c (single p.1)) (is_member c (others_among f ps)) k))
    (λ w. later p ps (f, c) (from_member f c ps (sym (ap (is_member c) (others_skip f p ps w)) ∙ h)))
    (cases_Bool (p.0 == f))

left_or : (x y : Bool) → x ≡ true → (x || y) ≡ true
left_or x y h = ap (λ z. z || y) h

right_or : (x y : Bool) → y ≡ true → (x || y) ≡ true
right_or true y h = refl
right_or false y h = h

to_member : (f c : ℕ) (ps : List (ℕ × ℕ)) → Contains ps (f, c) → is_member c (others_among f ps) ≡ true
to_member f c [] (k, lt, at) = absurd (omega arith)
to_member f c (p ∷ ps) (zero, lt, at) =
    let same : p.1 ≡ c = ap (λ q. q.1) at in
    ap (is_member c) (others_step f p ps (eq-eqb p.0 f (ap (λ q. q.0) at))) ∙ left_or _ _ (ap (λ d. is_within c (single d)) same ∙ single_within c)
to_member f c (p ∷ ps) (suc k, lt, at) =
    let rest = to_member f c ps (k, omega arith, at) in
    cond_both (p.0 == f) (p ∷ filter (λ q. q.0 == f) ps) (filter (λ q. q.0 == f) ps) (λ l. is_member c (map (λ q. q.1) l) ≡ true) (λ w. right_or _ _ rest) (λ w. rest)

-- If f folds to itself, a character folds to f if and only if it is f or one of its others.
pub fold_member : (f c : ℕ) → IsFoldPairs fold_pairs → simple_fold f ≡ f → is_member c (f ∷ others f) ≡ true → simple_fold c ≡ f
fold_member f c pairs idem h = ⊎_elim
    (λ v. ap simple_fold (sym (within_single c f v)) ∙ idem)
    (λ v. sym ((pairs f c).0 (from_member f c fold_pairs v)).1 ∙ idem)
    (or_cases (is_within c (single f)) (is_member c (others f)) h)

pub member_fold : (f c : ℕ) → IsFoldPairs fold_pairs → simple_fold f ≡ f → simple_fold c ≡ f → is_member c (f ∷ others f) ≡ true
member_fold f c pairs idem e = ⊎_elim
    (λ v. left_or _ _ (ap (λ d. is_within c (single d)) (eqb-true f c v) ∙ single_within c))
    (λ v. right_or _ _ (to_member f c fold_pairs ((pairs f c).1 ((λ k. true≢false (sym (eq-eqb f c k) ∙ v)), idem ∙ sym e))))
    (cases_Bool (f == c))

-- The characters of the table never need a backslash.

abbrev pub is_plain_char : ℕ → Bool
is_plain_char c = not (is_special c) && (not (is_special_in_set c) && (not (c == 0) && all_scalars (c ∷ [])))

abbrev pub are_plain_pairs : List (ℕ × ℕ) → Bool
are_plain_pairs ps = list_all (λ p. is_plain_char p.0 && is_plain_char p.1) ps

pub pairs_plain : are_plain_pairs fold_pairs ≡ true
unfolding fold_pairs fold_other_rows
pairs_plain = refl

-- All of the others are plain, and so is the first character if there are others.
pub others_plain : (f : ℕ) (ps : List (ℕ × ℕ)) → are_plain_pairs ps ≡ true → list_all is_plain_char (others_among f ps) ≡ true
others_plain f [] h = refl
others_plain f (p ∷ ps) h =
    let q = and_parts (is_plain_char p.0 && is_plain_char p.1) (are_plain_pairs ps) h in
    let one = and_parts (is_plain_char p.0) (is_plain_char p.1) q.0 in
    let rest = others_plain f ps q.1 in
    cond_both (p.0 == f) (p ∷ filter (λ x. x.0 == f) ps) (filter (λ x. x.0 == f) ps) (λ l. list_all is_plain_char (map (λ x. x.1) l) ≡ true) (λ w. and_from _ _ one.1 rest) (λ w. rest)

pub first_plain : (f d : ℕ) (ds : List ℕ) (ps : List (ℕ × ℕ)) → are_plain_pairs ps ≡ true → others_among f ps ≡ d ∷ ds → is_plain_char f ≡ true
first_plain f d ds [] h e = cc
first_plain f d ds (p ∷ ps) h e =
    let q = and_parts (is_plain_char p.0 && is_plain_char p.1) (are_plain_pairs ps) h in
    let one = and_parts (is_plain_char p.0) (is_plain_char p.1) q.0 in
    ⊎_elim
    (λ w. ap is_plain_char (sym (eqb-true p.0 f w)) ∙ one.0)
    (λ w. first_plain f d ds ps q.1 (sym (others_skip f p ps w) ∙ e))
    (cases_Bool (p.0 == f))

contained_plain : (a b : ℕ) (ps : List (ℕ × ℕ)) → are_plain_pairs ps ≡ true → Contains ps (a, b) → is_plain_char b ≡ true
contained_plain a b [] h (k, lt, at) = absurd (omega arith)
contained_plain a b (p ∷ ps) h (zero, lt, at) =
    let q = and_parts (is_plain_char p.0 && is_plain_char p.1) (are_plain_pairs ps) h in
    ap (λ x. is_plain_char x.1) (sym at) ∙ (and_parts (is_plain_char p.0) (is_plain_char p.1) q.0).1
contained_plain a b (p ∷ ps) h (suc k, lt, at) =
    contained_plain a b ps (and_parts (is_plain_char p.0 && is_plain_char p.1) (are_plain_pairs ps) h).1 (k, omega arith, at)

-- A character is its own folding, or its folding is plain.
pub folded_plain : (c : ℕ) → IsFoldPairs fold_pairs → simple_fold (simple_fold c) ≡ simple_fold c → (simple_fold c ≡ c) ⊎ (is_plain_char (simple_fold c) ≡ true)
folded_plain c pairs idem = ⊎_elim
    (λ v. inl (sym (eqb-true c (simple_fold c) v)))
    (λ v. inr (contained_plain c (simple_fold c) fold_pairs pairs_plain ((pairs c (simple_fold c)).1 ((λ k. true≢false (sym (eq-eqb c (simple_fold c) k) ∙ v)), sym idem))))
    (cases_Bool (c == simple_fold c))
