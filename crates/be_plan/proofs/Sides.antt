-- What is found for comparisons on one name, and for the sides of an "or".
use Rattle.std.proofs.Common.{◌≡◌, ◌⊎◌, ◌≤◌, ◌<◌, ◌+◌, ◌&&◌, ◌||◌, ℕ, Bool, true, false, List, refl, sym, ap, ◌∙◌, subst, inl, inr, Some, None, is_some, arith}
use Rattle.std.specs.List.{Contains}
use Rattle.std.specs.Option.{option_map, option_map_or}
use Rattle.std.specs.FinMap as map
use Rattle.std.specs.Result.{IfErr, IsErrAnd}
use Rattle.std.specs.declared.option.Option.{Option}
use Rattle.std.specs.declared.result.Result.{Result}
use Rattle.std.specs.declared.result.Result.TheVariants.{Ok, Err}
use Rattle.be_value.specs.Key.{key}
use Rattle.be_value.specs.declared.values.Kind.{Kind}
use Rattle.be_value.specs.declared.values.Value.{Value}
use Rattle.be_query.specs.Grammar.{Formula, Leaf, And, Or, comparisons}
use Rattle.be_volume.specs.Query.{covered, has_index, holds, sat, sees}
use Rattle.be_volume.specs.Reading.{index_kind}
use Rattle.be_volume.specs.Sound.{IsSound}
use Rattle.be_volume.specs.Volume.{State}
use Rattle.be_volume.specs.declared.maps.Index.{Index}
use Rattle.be_plan.specs.Narrow.{Allows, IsPair, Within}
use Rattle.be_plan.specs.Walk.{AreAllOn, HasWithin}
use Rattle.be_plan.proofs.Reaching.{has_seen}
use Rattle.be_plan.proofs.Ways.{and_first, and_second, or_cases}

has_kind : (s : State) (name : List ℕ) (o : Option Kind) → o ≡ index_kind s name → is_some o ≡ has_index s name
has_kind s name o e = ap (λ (k : Option Kind). is_some k) e ∙ by (map.get s.indices name)
  where
    by : (i : Option Index) → is_some (option_map (λ (i : Index). i.kind) i) ≡ is_some i
    by None = refl
    by (Some index) = refl

-- Comparisons on one name are covered if and only if the name has an index.
pub named_rests : (s : State) (f : Formula) (name : List ℕ) (o : Option Kind) → AreAllOn f name → o ≡ index_kind s name → covered s f ≡ is_some o
named_rests s (Leaf own op literal) name o on kind = ap (has_index s) on ∙ sym (has_kind s name o kind)
named_rests s (And a b) name o on kind =
    ap (λ t. t || covered s b) (named_rests s a name o on.0 kind) ∙ ap (λ t. is_some o || t) (named_rests s b name o on.1 kind) ∙ twice (is_some o)
  where
    twice : (x : Bool) → (x || x) ≡ x
    twice true = refl
    twice false = refl
named_rests s (Or a b) name o on kind = absurd on

-- If comparisons on one name are true of a node, that name sees a value for it.
named_seen : (s : State) (f : Formula) (name : List ℕ) (n : ℕ) → AreAllOn f name → sat s f n ≡ true → sees s n name ≡ None → ⊥
named_seen s (Leaf own op literal) name n on h none =
    let no : false ≡ true = ap (λ o. option_map_or (λ value. holds op value literal) o false) (sym none ∙ ap (sees s n) (sym on)) ∙ h in cc
named_seen s (And a b) name n on h none = named_seen s a name n on.0 (and_first (sat s a n) (sat s b n) h) none
named_seen s (Or a b) name n on h none = on

-- Comparisons that are true allow this value, through any of them.
named_allows : (s : State) (f : Formula) (name : List ℕ) (n : ℕ) (value : Value) (pick at : ℕ) → AreAllOn f name → sat s f n ≡ true → sees s n name ≡ Some value → Allows pick at f name value
named_allows s (Leaf own op literal) name n value pick at on h seen =
    λ same. ap (λ o. option_map_or (λ v. holds op v literal) o false) (sym seen ∙ ap (sees s n) (sym on)) ∙ h
named_allows s (And a b) name n value pick at on h seen = (
  named_allows s a name n value pick at on.0 (and_first (sat s a n) (sat s b n) h) seen,
  named_allows s b name n value pick (at + comparisons a) on.1 (and_second (sat s a n) (sat s b n) h) seen,
)
named_allows s (Or a b) name n value pick at on h seen = absurd on

-- A formula that is true allows the value that is seen, through a pick after the formula.
pub seen_allows : (s : State) (f : Formula) (name : List ℕ) (n : ℕ) (value : Value) (pick at : ℕ) → at + comparisons f ≤ pick → sat s f n ≡ true → sees s n name ≡ Some value → Allows pick at f name value
seen_allows s (Leaf own op literal) name n value pick at end h seen =
    λ same. ap (λ o. option_map_or (λ v. holds op v literal) o false) (sym seen ∙ ap (sees s n) (sym same)) ∙ h
seen_allows s (And a b) name n value pick at end h seen = (
  seen_allows s a name n value pick at (omega (arith, end)) (and_first (sat s a n) (sat s b n) h) seen,
  seen_allows s b name n value pick (at + comparisons a) (omega (arith, end)) (and_second (sat s a n) (sat s b n) h) seen,
)
seen_allows s (Or a b) name n value pick at end h seen = (
  λ from below. absurd (omega (arith, end, below)),
  λ from below. absurd (omega (arith, end, below)),
)

-- A walk over the range for comparisons on one name finds all nodes that satisfy them.
pub named_found : (s : State) (f : Formula) (name : List ℕ) (kind : Kind) (low : List ℕ) (high : Option (List ℕ)) (found : List ℕ) →
    IsSound s → AreAllOn f name → index_kind s name ≡ Some kind →
    ((v : Value) (n : ℕ) → IsPair kind v n → Allows 0 0 f name v → Within low high (key v n)) → HasWithin s f name low high found →
    (n : ℕ) → sat s f n ≡ true → Contains found n
named_found s f name kind low high found sound on is_kind range within n h = by (sees s n name) refl
  where
    by : (o : Option Value) → sees s n name ≡ o → Contains found n
    by None none = absurd (named_seen s f name n on h none)
    by (Some value) seen =
        has_seen s f name kind low high found sound is_kind within n value seen (λ pair. range value n pair (named_allows s f name n value 0 0 on h seen)) h

-- If every error means that memory ran out, every error means that memory ran out or an index is
-- missing.
pub by_memory : {A E : Type 0} (P Q : E → Type 0) (r : Result A E) → IfErr r P → IfErr r (λ e. P e ⊎ Q e)
by_memory P Q (Ok x) h = h
by_memory P Q (Err e) h = inl h

-- An error that is passed on.
pub passed_up : {A E : Type 0} (r : Result A E) (e : E) (P : E → Type 0) → IsErrAnd r (λ y. y ≡ e) → P e → IfErr r P
passed_up (Ok x) e P is p = tt
passed_up (Err y) e P is p = subst P (sym is) p

-- What follows from an error.
pub refused_by : {A E : Type 0} (P Q : E → Type 0) (r : Result A E) → ((e : E) → P e → Q e) → IfErr r P → IfErr r Q
refused_by P Q (Ok x) f h = h
refused_by P Q (Err e) f h = f e h

-- A formula has at least one comparison.
comparison_there : (f : Formula) → 0 < comparisons f
comparison_there (Leaf name op literal) = omega arith
comparison_there (And a b) = omega (arith, comparison_there a)
comparison_there (Or a b) = omega (arith, comparison_there a)

-- An "or" is true if one of its sides is true.
module _ (s : State) (f a b : Formula) (one : f ≡ Or a b) where
  pub few_left : (most : ℕ) → comparisons f ≤ most → comparisons a ≤ most
  few_left most few = omega (arith, few, ap comparisons one)

  pub few_right : (most : ℕ) → comparisons f ≤ most → comparisons b ≤ most
  few_right most few = omega (arith, few, ap comparisons one)

  pub less_left : comparisons a < comparisons f
  less_left = omega (arith, comparison_there b, ap comparisons one)

  pub by_left : (n : ℕ) → sat s a n ≡ true → sat s f n ≡ true
  by_left n h = ap (λ g. sat s g n) one ∙ ap (λ t. t || sat s b n) h

  pub by_right : (n : ℕ) → sat s b n ≡ true → sat s f n ≡ true
  by_right n h = ap (λ g. sat s g n) one ∙ second (sat s a n) (sat s b n) h
    where
      second : (x y : Bool) → y ≡ true → (x || y) ≡ true
      second true y e = refl
      second false y e = e

  pub by_either : (n : ℕ) → sat s f n ≡ true → (sat s a n ≡ true) ⊎ (sat s b n ≡ true)
  by_either n h = or_cases (sat s a n) (sat s b n) (sym (ap (λ g. sat s g n) one) ∙ h) ((sat s a n ≡ true) ⊎ (sat s b n ≡ true)) (λ e. inl e) (λ e. inr e)

  -- If one side is covered, the whole is covered if and only if the other side is.
  pub left_rests : covered s b ≡ true → covered s f ≡ covered s a
  left_rests h = ap (covered s) one ∙ ap (λ t. covered s a && t) h ∙ both (covered s a)
    where
      both : (x : Bool) → (x && true) ≡ x
      both true = refl
      both false = refl

  pub right_lacks : covered s b ≡ false → covered s f ≡ false
  right_lacks h = ap (covered s) one ∙ ap (λ t. covered s a && t) h ∙ neither (covered s a)
    where
      neither : (x : Bool) → (x && false) ≡ false
      neither true = refl
      neither false = refl
