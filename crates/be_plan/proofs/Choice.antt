-- The choice covers the query, and there is no choice if and only if the indices don't cover it.
use Rattle.std.proofs.Common.{◌≡◌, ◌<◌, zero, suc, length, ◌+◌, ◌⊎◌, inl, inr, ℕ, Bool, true, false, ◌&&◌, ◌||◌, List, [], ◌∷◌, ◌++◌, nat_eq, nat_lt, refl, sym, ap, ◌∙◌, subst, arith, Some, None, add-zero, is_some, if◌then◌else◌}
use Rattle.std.specs.Prelude.{slice_get}
use Rattle.std.proofs.lemmas.Bool.Decides.{nat_tests}
use Rattle.std.specs.List.{list_any, list_all}
use Rattle.std.specs.Option.{option_map, option_map_or, IfSome}
use Rattle.std.specs.Result.{IfOk, IfErr}
use Rattle.std.specs.declared.option.Option.{Option}
use Rattle.std.specs.declared.result.Result.{Result}
use Rattle.std.specs.declared.result.Result.TheVariants.{Ok, Err}
use Rattle.be_value.specs.Refusal.{Answers}
use Rattle.be_value.specs.declared.refusals.Refusal.{Refusal}
use Rattle.be_value.specs.declared.refusals.Refusal.TheVariants.{OutOfMemory, NotCovered}
use Rattle.be_query.specs.Grammar.{Formula, Leaf, And, Or, Literal, comparisons}
use Rattle.be_query.specs.declared.tree.Cmp.{Cmp}
use Rattle.be_volume.specs.Query.{rests}
use Rattle.be_plan.specs.Explain.{are_places}
use Rattle.be_plan.specs.Cover.{Comparison, leaves, covers, covers_part, rests_on, choice, chosen, cheaper, both_covers, or_not_covered, score_of}
use Rattle.be_plan.specs.declared.plans.Cover.{Cover}
use Rattle.be_plan.specs.Covering.{Covering, IsChoice, IsPart}
use Rattle.be_plan.proofs.Ways.{length-leaves, left_part, right_part, or_cases, and_first, and_second}

any_front : (p : ℕ → Bool) (xs ys : List ℕ) → list_any p xs ≡ true → list_any p (xs ++ ys) ≡ true
any_front p [] ys h = cc
any_front p (x ∷ xs) ys h = or_cases (p x) (list_any p xs) h (list_any p ((x ∷ xs) ++ ys) ≡ true) (λ e. ap (λ t. t || list_any p (xs ++ ys)) e) (λ e. beyond (p x) _ (any_front p xs ys e))
  where
    beyond : (a b : Bool) → b ≡ true → (a || b) ≡ true
    beyond true b h = refl
    beyond false b h = h

any_back : (p : ℕ → Bool) (xs ys : List ℕ) → list_any p ys ≡ true → list_any p (xs ++ ys) ≡ true
any_back p [] ys h = h
any_back p (x ∷ xs) ys h = beyond (p x) _ (any_back p xs ys h)
  where
    beyond : (a b : Bool) → b ≡ true → (a || b) ≡ true
    beyond true b h = refl
    beyond false b h = h

beyond : (a b : Bool) → b ≡ true → (a || b) ≡ true
beyond true b h = refl
beyond false b h = h

all_both : (p : ℕ → Bool) (xs ys : List ℕ) → list_all p xs ≡ true → list_all p ys ≡ true → list_all p (xs ++ ys) ≡ true
all_both p [] ys h g = g
all_both p (x ∷ xs) ys h g = ap (λ t. t && list_all p (xs ++ ys)) (and_first (p x) (list_all p xs) h) ∙ all_both p xs ys (and_second (p x) (list_all p xs) h) g

-- Whatever some picks cover is also covered by a superset of these picks.
grows : (ps qs : List ℕ) → ((n : ℕ) → list_any (nat_eq n) ps ≡ true → list_any (nat_eq n) qs ≡ true) → (at : ℕ) (f : Formula) → covers_part ps at f ≡ true → covers_part qs at f ≡ true
grows ps qs g at (Leaf name op literal) h = g at h
grows ps qs g at (And a b) h =
    or_cases (covers_part ps at a) (covers_part ps (at + comparisons a) b) h (covers_part qs at (And a b) ≡ true)
    (λ e. ap (λ t. t || covers_part qs (at + comparisons a) b) (grows ps qs g at a e)) (λ e. beyond (covers_part qs at a) _ (grows ps qs g (at + comparisons a) b e))
grows ps qs g at (Or a b) h =
    ap (λ t. t && covers_part qs (at + comparisons a) b) (grows ps qs g at a (and_first (covers_part ps at a) (covers_part ps (at + comparisons a) b) h))
    ∙ grows ps qs g (at + comparisons a) b (and_second (covers_part ps at a) (covers_part ps (at + comparisons a) b) h)

itself : (n : ℕ) → nat_eq n n ≡ true
itself n = grind (arith, nat_tests)

neither : (a b : Bool) → a ≡ false → b ≡ false → (a || b) ≡ false
neither true b h g = cc
neither false b h g = g

not_both : (a b : Bool) → b ≡ false → (a && b) ≡ false
not_both true b h = h
not_both false b h = refl

module _ (indexed : List ℕ → Bool) (whole : Formula) where
  abbrev pub Covers : ℕ → Formula → List ℕ → Type 0
  Covers = Covering indexed whole

  abbrev pub Is : ℕ → Formula → Option Cover → Type 0
  Is = IsChoice indexed whole

  -- Picks that cover one side of an "and" cover it.
  pub to_left : (at : ℕ) (a b : Formula) (picks : List ℕ) → Covers at a picks → Covers at (And a b) picks
  to_left at a b picks h = record {
    rest = ap (λ t. t || rests indexed b) h.rest;
    indices = h.indices;
    part = ap (λ t. t || covers_part picks (at + comparisons a) b) h.part;
  }

  pub to_right : (at : ℕ) (a b : Formula) (picks : List ℕ) → Covers (at + comparisons a) b picks → Covers at (And a b) picks
  to_right at a b picks h = record { rest = beyond (rests indexed a) _ h.rest; indices = h.indices; part = beyond (covers_part picks at a) _ h.part }

  -- The picks for both sides of an "or" cover it.
  pub to_both : (at : ℕ) (a b : Formula) (xs ys : List ℕ) → Covers at a xs → Covers (at + comparisons a) b ys → Covers at (Or a b) (xs ++ ys)
  to_both at a b xs ys h g = record {
    rest = ap (λ t. t && rests indexed b) h.rest ∙ g.rest;
    indices = all_both (rests_on indexed whole) xs ys h.indices g.indices;
    part = ap (λ t. t && covers_part (xs ++ ys) (at + comparisons a) b) (grows xs (xs ++ ys) (λ n. any_front (nat_eq n) xs ys) at a h.part)
        ∙ grows ys (xs ++ ys) (λ n. any_back (nat_eq n) xs ys) (at + comparisons a) b g.part;
  }

  pub of_both : (at : ℕ) (a b : Formula) (x y : Option Cover) → Is at a x → Is (at + comparisons a) b y → Is at (And a b) (cheaper x y)
  of_both at a b None None h g = neither _ _ h g
  of_both at a b None (Some y) h g = to_right at a b y.picks g
  of_both at a b (Some x) None h g = to_left at a b x.picks h
  of_both at a b (Some x) (Some y) h g = by (nat_lt y.score x.score)
    where
      by : (t : Bool) → Is at (And a b) (if t then Some y else Some x)
      by true = to_right at a b y.picks g
      by false = to_left at a b x.picks h

  pub of_either : (at : ℕ) (a b : Formula) (x y : Option Cover) → Is at a x → Is (at + comparisons a) b y → Is at (Or a b) (both_covers x y)
  of_either at a b None y h g = ap (λ t. t && rests indexed b) h
  of_either at a b (Some x) None h g = not_both (rests indexed a) _ g
  of_either at a b (Some x) (Some y) h g = to_both at a b x.picks y.picks h g

  -- A comparison on an indexed name is covered by its own position.
  pub to_leaf : (at : ℕ) (name : List ℕ) (op : Cmp) (literal : Literal) → IsPart whole at (Leaf name op literal) → indexed name ≡ true → Covers at (Leaf name op literal) (at ∷ [])
  to_leaf at name op literal part e = record {
    rest = e;
    indices = ap (λ o. option_map_or (λ (d : Comparison). indexed d.name) o false && true) (ap (slice_get (leaves whole)) (sym (add-zero at)) ∙ part 0 (omega arith)) ∙ ap (λ t. t && true) e;
    part = ap (λ t. t || false) (itself at);
  }

  is_choice : (at : ℕ) (f : Formula) → IsPart whole at f → Is at f (choice indexed at f)
  is_choice at (Leaf name op literal) part = by (indexed name) refl
    where
      by : (t : Bool) → indexed name ≡ t → Is at (Leaf name op literal) (if t then Some (record { picks = at ∷ []; score = score_of op literal }) else None)
      by false e = e
      by true e = to_leaf at name op literal part e
  is_choice at (And a b) part = of_both at a b _ _ (is_choice at a (left_part whole at a b part)) (is_choice (at + comparisons a) b (right_part whole at a b part))
  is_choice at (Or a b) part = of_either at a b _ _ (is_choice at a (left_part whole at a b part)) (is_choice (at + comparisons a) b (right_part whole at a b part))

-- Whether a cover is a choice depends only on its picks.
pub same_picks : (indexed : List ℕ → Bool) (whole : Formula) (at : ℕ) (f : Formula) (x y : Option Cover) → option_map (λ (c : Cover). c.picks) y ≡ option_map (λ (c : Cover). c.picks) x →
    IsChoice indexed whole at f x → IsChoice indexed whole at f y
same_picks indexed whole at f None None e h = h
same_picks indexed whole at f None (Some y) e h = cc
same_picks indexed whole at f (Some x) None e h = cc
same_picks indexed whole at f (Some x) (Some y) e h = let same : x.picks ≡ y.picks = cc in subst (Covering indexed whole at f) same h

module _ (indexed : List ℕ → Bool) (whole : Formula) (at : ℕ) (f l a b : Formula) (first : l ≡ a) (x : Option Cover) (left : IsPart whole at l → IsChoice indexed whole at l x) where
  left_is : IsPart whole at (And a b) → IsChoice indexed whole at a x
  left_is part = subst (λ g. IsChoice indexed whole at g x) first (left (subst (IsPart whole at) (sym first) (left_part whole at a b part)))

  -- The choice for the left side of an "and", if there is one.
  pub left_choice : f ≡ And a b → IsPart whole at f → is_some x ≡ true → IsChoice indexed whole at f x
  left_choice is part some = subst (λ g. IsChoice indexed whole at g x) (sym is) (by x some (left_is (subst (IsPart whole at) is part)))
    where
      by : (y : Option Cover) → is_some y ≡ true → IsChoice indexed whole at a y → IsChoice indexed whole at (And a b) y
      by None e h = cc
      by (Some y) e h = to_left indexed whole at a b y.picks h

  module _ (r : Formula) (second : r ≡ b) (y : Option Cover) (middle : ℕ) (middle_is : middle ≡ at + comparisons l) (right : IsPart whole middle r → IsChoice indexed whole middle r y) where
    right_is : IsPart whole at (And a b) → IsChoice indexed whole (at + comparisons a) b y
    right_is part =
        let here : middle ≡ at + comparisons a = middle_is ∙ ap (λ g. at + comparisons g) first in
        let there : IsPart whole middle r = subst (IsPart whole middle) (sym second) (subst (λ m. IsPart whole m b) (sym here) (right_part whole at a b part)) in
        subst (λ m. IsChoice indexed whole m b y) here (subst (λ g. IsChoice indexed whole middle g y) second (right there))

    -- The cheaper choice of both sides of an "and".
    pub both_choice : f ≡ And a b → IsPart whole at f → IsChoice indexed whole at f (cheaper x y)
    both_choice is part =
        let p = subst (IsPart whole at) is part in
        subst (λ g. IsChoice indexed whole at g (cheaper x y)) (sym is) (of_both indexed whole at a b x y (left_is p) (right_is p))

    -- The choices of both sides of an "or".
    pub either_choice : (z : Option Cover) → option_map (λ (c : Cover). c.picks) z ≡ option_map (λ (c : Cover). c.picks) (both_covers x y) → f ≡ Or a b → IsPart whole at f →
        IsChoice indexed whole at f z
    either_choice z picks is part =
        let p : IsPart whole at (Or a b) = subst (IsPart whole at) is part in
        subst (λ g. IsChoice indexed whole at g z) (sym is)
        (same_picks indexed whole at (Or a b) (both_covers x y) z picks (of_either indexed whole at a b x y (left_is p) (right_is p)))

-- What follows from a choice for the whole.
pub choice_covers : (indexed : List ℕ → Bool) (f : Formula) (x : Option Cover) → IsChoice indexed f 0 f x →
    IfSome x (λ c. covers indexed c.picks f ≡ true) × (is_some x ≡ rests indexed f)
choice_covers indexed f None h = (tt, sym h)
choice_covers indexed f (Some x) h = (ap (λ t. t && covers_part x.picks 0 f) h.indices ∙ h.part, sym h.rest)

-- If the comparison at a position has an index, the position is that of a comparison.
below : (indexed : List ℕ → Bool) (xs : List Comparison) (p : ℕ) → option_map_or (λ c. indexed c.name) (slice_get xs p) false ≡ true → p < length xs
below indexed [] p h = cc
below indexed (x ∷ xs) zero h = omega arith
below indexed (x ∷ xs) (suc p) h = omega (arith, below indexed xs p h)

-- A pick on an indexed name is the position of a comparison.
pub pick_below : (indexed : List ℕ → Bool) (f : Formula) (pick : ℕ) → rests_on indexed f pick ≡ true → pick < comparisons f
pick_below indexed f pick h = let here : pick < length (leaves f) = below indexed (leaves f) pick h in omega (arith, length-leaves f)

less : (n m : ℕ) → n < m → nat_lt n m ≡ true
less n m h = grind (arith, nat_tests)

-- Picks on indexed names are positions of comparisons.
pub placed : (indexed : List ℕ → Bool) (f : Formula) (picks : List ℕ) → list_all (rests_on indexed f) picks ≡ true → are_places f picks ≡ true
placed indexed f [] h = refl
placed indexed f (p ∷ picks) h =
    let here : p < length (leaves f) = below indexed (leaves f) p (and_first (rests_on indexed f p) (list_all (rests_on indexed f) picks) h) in
    ap (λ t. t && are_places f picks) (less p (comparisons f) (omega (arith, length-leaves f)))
    ∙ placed indexed f picks (and_second (rests_on indexed f p) (list_all (rests_on indexed f) picks) h)

-- Picks that cover a query are positions of comparisons.
pub covers_placed : (indexed : List ℕ → Bool) (f : Formula) (picks : List ℕ) → covers indexed picks f ≡ true → are_places f picks ≡ true
covers_placed indexed f picks h = placed indexed f picks (and_first (list_all (rests_on indexed f) picks) (covers_part picks 0 f) h)

pub whole_part : (f : Formula) → IsPart f 0 f
whole_part f i h = let e : 0 + i ≡ i = omega arith in ap (slice_get (leaves f)) e

-- What follows from the choice that was returned.
pub choice_reported : (indexed : List ℕ → Bool) (f : Formula) (result : Result Cover Refusal) → Answers (λ cover. cover) result (chosen indexed f) →
    IfOk result (λ cover. (covers indexed cover.picks f ≡ true) × (rests indexed f ≡ true))
    × IfErr result (λ e. (e ≡ OutOfMemory) ⊎ ((e ≡ NotCovered) × (rests indexed f ≡ false)))
choice_reported indexed f result answers = by result (choice indexed 0 f) (is_choice indexed f 0 f (whole_part f)) answers
  where
    by : (r : Result Cover Refusal) (c : Option Cover) → IsChoice indexed f 0 f c → Answers (λ cover. cover) r (or_not_covered c) →
        IfOk r (λ cover. (covers indexed cover.picks f ≡ true) × (rests indexed f ≡ true))
        × IfErr r (λ e. (e ≡ OutOfMemory) ⊎ ((e ≡ NotCovered) × (rests indexed f ≡ false)))
    by (Ok x) None is a = cc
    by (Ok x) (Some c) is a =
        let same : c ≡ x = cc in
        let P : Cover → Type 0 = λ d. covers indexed d.picks f ≡ true in
        ((subst P same (ap (λ t. t && covers_part c.picks 0 f) is.indices ∙ is.part), is.rest), tt)
    by (Err e) None is (inl memory) = (tt, inl memory)
    by (Err e) None is (inr same) = let named : e ≡ NotCovered = cc in (tt, inr (named, is))
    by (Err e) (Some c) is (inl memory) = (tt, inl memory)
    by (Err e) (Some c) is (inr same) = cc
