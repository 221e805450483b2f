-- Picks that cover a query reach every node that matches it.
use Rattle.std.proofs.Common.{◌≡◌, ◌<◌, ◌≤◌, ◌+◌, ◌-◌, ℕ, zero, suc, Bool, true, false, ◌&&◌, ◌||◌, List, [], ◌∷◌, ◌++◌, length, length-append, add-zero, add_assoc, nat_eq, refl, sym, ap, ◌∙◌, arith, Some, None}
use Rattle.std.proofs.lemmas.Bool.Decides.{nat_tests}
use Rattle.std.specs.Prelude.{slice_get}
use Rattle.std.specs.List.{list_any, list_all}
use Rattle.std.specs.Option.{option_map_or}
use Rattle.std.specs.Result.{IfOk}
use Rattle.std.specs.declared.option.Option.{Option}
use Rattle.std.specs.declared.result.Result.{Result}
use Rattle.std.specs.declared.result.Result.TheVariants.{Ok, Err}
use Rattle.be_value.specs.declared.values.Value.{Value}
use Rattle.be_query.specs.Grammar.{Formula, Leaf, And, Or, comparisons}
use Rattle.be_volume.specs.Query.{sat, sees, holds, covered, has_index}
use Rattle.be_volume.specs.Volume.{State}
use Rattle.be_plan.specs.Cover.{Comparison, leaves, covers_part, rests_on}
use Rattle.be_plan.specs.Covering.{IsPart}
use Rattle.be_plan.specs.Narrow.{Allows}

slice_get_left : (xs ys : List Comparison) (i : ℕ) → i < length xs → slice_get (xs ++ ys) i ≡ slice_get xs i
slice_get_left [] ys i h = absurd (omega arith)
slice_get_left (x ∷ xs) ys zero h = refl
slice_get_left (x ∷ xs) ys (suc i) h = slice_get_left xs ys i (omega arith)

slice_get_right : (xs ys : List Comparison) (i : ℕ) → slice_get (xs ++ ys) (length xs + i) ≡ slice_get ys i
slice_get_right [] ys i = let e : 0 + i ≡ i = omega arith in ap (slice_get ys) e
slice_get_right (x ∷ xs) ys i = let e : suc (length xs) + i ≡ suc (length xs + i) = omega arith in ap (slice_get (x ∷ (xs ++ ys))) e ∙ slice_get_right xs ys i

-- There are as many leaves as comparisons.
pub length-leaves : (f : Formula) → length (leaves f) ≡ comparisons f
length-leaves (Leaf name op literal) = refl
length-leaves (And a b) = length-append (leaves a) (leaves b) ∙ ap (λ n. n + length (leaves b)) (length-leaves a) ∙ ap (λ n. comparisons a + n) (length-leaves b)
length-leaves (Or a b) = length-append (leaves a) (leaves b) ∙ ap (λ n. n + length (leaves b)) (length-leaves a) ∙ ap (λ n. comparisons a + n) (length-leaves b)

-- A position in the left part, and a position in the right part.
pub leaf_left : (a b : Formula) (i : ℕ) → i < comparisons a → slice_get (leaves a ++ leaves b) i ≡ slice_get (leaves a) i
leaf_left a b i h = slice_get_left (leaves a) (leaves b) i (omega (arith, length-leaves a))

pub leaf_right : (a b : Formula) (i : ℕ) → comparisons a ≤ i → slice_get (leaves a ++ leaves b) i ≡ slice_get (leaves b) (i - comparisons a)
leaf_right a b i h =
    let e : length (leaves a) + (i - comparisons a) ≡ i = omega (arith, length-leaves a) in
    ap (slice_get (leaves a ++ leaves b)) (sym e) ∙ slice_get_right (leaves a) (leaves b) (i - comparisons a)

-- No comparison follows those of both parts.
slice_get_after : (xs : List Comparison) (i : ℕ) → length xs ≤ i → None ≡ slice_get xs i
slice_get_after [] i h = refl
slice_get_after (x ∷ xs) zero h = absurd (omega arith)
slice_get_after (x ∷ xs) (suc i) h = slice_get_after xs i (omega arith)

pub none_after : (f : Formula) (i : ℕ) → comparisons f ≤ i → None ≡ slice_get (leaves f) i
none_after f i h = slice_get_after (leaves f) i (omega (arith, length-leaves f))

pub left_part : (whole : Formula) (at : ℕ) (a b : Formula) → IsPart whole at (And a b) → IsPart whole at a
left_part whole at a b p i h = p i (omega arith) ∙ slice_get_left (leaves a) (leaves b) i (omega (arith, length-leaves a))

pub right_part : (whole : Formula) (at : ℕ) (a b : Formula) → IsPart whole at (And a b) → IsPart whole (at + comparisons a) b
right_part whole at a b p i h =
    ap (slice_get (leaves whole)) (add_assoc at (comparisons a) i) ∙ p (comparisons a + i) (omega arith)
    ∙ ap (λ n. slice_get (leaves a ++ leaves b) (n + i)) (sym (length-leaves a)) ∙ slice_get_right (leaves a) (leaves b) i

pub or_cases : (a b : Bool) → (a || b) ≡ true → (P : Type 0) → (a ≡ true → P) → (b ≡ true → P) → P
or_cases true b h P f g = f refl
or_cases false b h P f g = g h

pub and_first : (a b : Bool) → (a && b) ≡ true → a ≡ true
and_first true b h = refl
and_first false b h = cc

pub and_second : (a b : Bool) → (a && b) ≡ true → b ≡ true
and_second true b h = h
and_second false b h = cc

-- How a node is reached through a pick in the part.
pub record Way (s : State) (picks : List ℕ) (whole : Formula) (node : ℕ) (at : ℕ) (f : Formula) : Type 0 where
  pub pick : ℕ
  pub is_pick : list_any (nat_eq pick) picks ≡ true
  pub from : at ≤ pick
  pub below : pick < at + comparisons f
  pub picked : Comparison
  pub there : slice_get (leaves whole) pick ≡ Some picked
  pub value : Value
  pub seen : sees s node picked.name ≡ Some value
  pub allows : (name : List ℕ) (v : Value) → sees s node name ≡ Some v → Allows pick at f name v

module _ (s : State) (node : ℕ) where
  -- A comparison that is true is true of what it sees.
  true_of_seen : (c : Comparison) → sat s (Leaf c.name c.op c.literal) node ≡ true → (name : List ℕ) (v : Value) → sees s node name ≡ Some v → c.name ≡ name → holds c.op v c.literal ≡ true
  true_of_seen c h name v seen e = sym (ap (λ o. option_map_or (λ w. holds c.op w c.literal) o false) (ap (λ n. sees s node n) e ∙ seen)) ∙ h

  sees_some : (test : Value → Bool) (found : Option Value) → option_map_or test found false ≡ true → (v : Value) × (found ≡ Some v)
  sees_some test None h = cc
  sees_some test (Some v) h = (v, refl)

  -- A true part that doesn't contain the pick allows what is seen.
  outside : (pick at : ℕ) (f : Formula) → sat s f node ≡ true → (at ≤ pick → pick < at + comparisons f → ⊥) →
      (name : List ℕ) (v : Value) → sees s node name ≡ Some v → Allows pick at f name v
  outside pick at (Leaf own op literal) h out name v seen = true_of_seen (record { name = own; op = op; literal = literal }) h name v seen
  outside pick at (And a b) h out name v seen = (
    outside pick at a (and_first (sat s a node) (sat s b node) h) (λ p q. out p (omega arith)) name v seen,
    outside pick (at + comparisons a) b (and_second (sat s a node) (sat s b node) h) (λ p q. out (omega arith) (omega arith)) name v seen,
  )
  outside pick at (Or a b) h out name v seen =
      (λ p q. absurd (out p (omega arith)), λ p q. absurd (out (omega arith) (omega arith)))

  module _ (picks : List ℕ) (whole : Formula) where
    pub way : (at : ℕ) (f : Formula) → IsPart whole at f → covers_part picks at f ≡ true → sat s f node ≡ true → Way s picks whole node at f
    way at (Leaf own op literal) part covers h =
        let found = sees_some (λ w. holds op w literal) (sees s node own) h in
        record {
          pick = at;
          is_pick = covers;
          from = omega arith;
          below = omega arith;
          picked = record { name = own; op = op; literal = literal };
          there = ap (slice_get (leaves whole)) (sym (add-zero at)) ∙ part 0 (omega arith);
          value = found.0;
          seen = found.1;
          allows = true_of_seen (record { name = own; op = op; literal = literal }) h;
        }
    way at (And a b) part covers h =
        or_cases (covers_part picks at a) (covers_part picks (at + comparisons a) b) covers (Way s picks whole node at (And a b))
        (λ cover.
        let w : Way s picks whole node at a = way at a (left_part whole at a b part) cover (and_first (sat s a node) (sat s b node) h) in
        record {
          pick = w.pick;
          is_pick = w.is_pick;
          from = w.from;
          below = omega (arith, w.below);
          picked = w.picked;
          there = w.there;
          value = w.value;
          seen = w.seen;
          allows = λ name v seen. (w.allows name v seen, outside w.pick (at + comparisons a) b (and_second (sat s a node) (sat s b node) h) (λ p q. absurd (omega (arith, w.below))) name v seen);
        })
        (λ cover.
        let w : Way s picks whole node (at + comparisons a) b = way (at + comparisons a) b (right_part whole at a b part) cover (and_second (sat s a node) (sat s b node) h) in
        record {
          pick = w.pick;
          is_pick = w.is_pick;
          from = omega (arith, w.from);
          below = omega (arith, w.below);
          picked = w.picked;
          there = w.there;
          value = w.value;
          seen = w.seen;
          allows = λ name v seen. (outside w.pick at a (and_first (sat s a node) (sat s b node) h) (λ p q. absurd (omega (arith, w.from))) name v seen, w.allows name v seen);
        })
    way at (Or a b) part covers h =
        or_cases (sat s a node) (sat s b node) h (Way s picks whole node at (Or a b))
        (λ sat_a.
        let w : Way s picks whole node at a = way at a (left_part whole at a b part) (and_first (covers_part picks at a) (covers_part picks (at + comparisons a) b) covers) sat_a in
        record {
          pick = w.pick;
          is_pick = w.is_pick;
          from = w.from;
          below = omega (arith, w.below);
          picked = w.picked;
          there = w.there;
          value = w.value;
          seen = w.seen;
          allows = λ name v seen. (λ p q. w.allows name v seen, λ p q. absurd (omega (arith, w.below)));
        })
        (λ sat_b.
        let w : Way s picks whole node (at + comparisons a) b = way (at + comparisons a) b (right_part whole at a b part) (and_second (covers_part picks at a) (covers_part picks (at + comparisons a) b) covers) sat_b in
        record {
          pick = w.pick;
          is_pick = w.is_pick;
          from = omega (arith, w.from);
          below = omega (arith, w.below);
          picked = w.picked;
          there = w.there;
          value = w.value;
          seen = w.seen;
          allows = λ name v seen. (λ p q. absurd (omega (arith, w.from)), λ p q. w.allows name v seen);
        })

pub nat_is : (n m : ℕ) → nat_eq n m ≡ true → n ≡ m
nat_is n m h = grind (arith, nat_tests)

-- What holds for every pick holds for this one.
pub at_pick : (p : ℕ → Bool) (picks : List ℕ) (n : ℕ) → list_all p picks ≡ true → list_any (nat_eq n) picks ≡ true → p n ≡ true
at_pick p [] n h i = cc
at_pick p (x ∷ picks) n h i =
    or_cases (nat_eq n x) (list_any (nat_eq n) picks) i (p n ≡ true)
    (λ e. ap p (nat_is n x e) ∙ and_first (p x) (list_all p picks) h)
    (λ e. at_pick p picks n (and_second (p x) (list_all p picks) h) e)

-- What picks cover, indices cover.
pub is_covered : (s : State) (picks : List ℕ) (whole : Formula) → list_all (rests_on (has_index s) whole) picks ≡ true →
    (at : ℕ) (f : Formula) → IsPart whole at f → covers_part picks at f ≡ true → covered s f ≡ true
is_covered s picks whole rest at (Leaf name op literal) part covers =
    let there : slice_get (leaves whole) at ≡ Some (record { name = name; op = op; literal = literal }) = ap (slice_get (leaves whole)) (sym (add-zero at)) ∙ part 0 (omega arith) in
    sym (ap (λ o. option_map_or (λ (d : Comparison). has_index s d.name) o false) there) ∙ at_pick (rests_on (has_index s) whole) picks at rest covers
is_covered s picks whole rest at (And a b) part covers =
    or_cases (covers_part picks at a) (covers_part picks (at + comparisons a) b) covers ((covered s a || covered s b) ≡ true)
    (λ c. ap (λ t. t || covered s b) (is_covered s picks whole rest at a (left_part whole at a b part) c))
    (λ c. or_true (covered s a) _ (is_covered s picks whole rest (at + comparisons a) b (right_part whole at a b part) c))
  where
    or_true : (a b : Bool) → b ≡ true → (a || b) ≡ true
    or_true true b h = refl
    or_true false b h = h
is_covered s picks whole rest at (Or a b) part covers =
    ap (λ t. t && covered s b) (is_covered s picks whole rest at a (left_part whole at a b part) (and_first (covers_part picks at a) (covers_part picks (at + comparisons a) b) covers))
    ∙ is_covered s picks whole rest (at + comparisons a) b (right_part whole at a b part) (and_second (covers_part picks at a) (covers_part picks (at + comparisons a) b) covers)

pub if_ok : {A E : Type 0} {P Q : A → Type 0} (r : Result A E) → ((x : A) → P x → Q x) → IfOk r P → IfOk r Q
if_ok (Ok x) f h = f x h
if_ok (Err e) f h = h
