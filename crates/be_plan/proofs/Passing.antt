-- The keys that a walk over an index has visited.
use Rattle.std.proofs.Common.{◌≡◌, ◌<◌, ◌≤◌, ◌+◌, ◌^◌, ℕ, suc, Bool, true, false, cond, not, List, [], ◌∷◌, refl, sym, ap, ◌∙◌, subst, arith, Some, None}
use Rattle.std.proofs.Math.Nat.{add-le-add}
use Rattle.std.proofs.lemmas.Option.{same_Some}
use Rattle.std.specs.List.{Contains}
use Rattle.std.specs.Ordering.{nat_cmp, is_lt, is_gt, is_eq, eq_by_cmp, ordering_reverse}
use Rattle.std.specs.Cmp.{IsTotalOrder, tied_itself}
use Rattle.std.specs.Cmp.Lexicographic.{nat_list_cmp_total}
use Rattle.std.specs.FinMap as map
use Rattle.std.specs.FinMap.{nat_cmp-IsAntisymmetric, slice_cmp-IsAntisymmetric}
use Rattle.std.specs.FinMap.Entries.{find}
use Rattle.std.specs.declared.option.Option.{Option}
use Rattle.std.specs.declared.cmp.Ordering.{Ordering}
use Rattle.std.specs.declared.cmp.Ordering.TheVariants.{Less, Equal, Greater}
use Rattle.be_value.specs.Key.{key}
use Rattle.be_value.specs.declared.values.Value.{Value}
use Rattle.be_volume.specs.Maps.{name_cmp}
use Rattle.be_volume.specs.Volume.{State}
use Rattle.be_volume.specs.declared.maps.Index.{Index}
use Rattle.be_volume.specs.Keys.{IsKey, IsNextKey}
use Rattle.be_volume.specs.PairKeys.{is_at_or_after}
use Rattle.be_volume.specs.Sound.{IsSound, IsPaired}
use Rattle.be_plan.specs.Narrow.{Within, is_above}
use Rattle.be_plan.specs.Walk.{HasWanted, HasPassed, Keeps}

abbrev pub one_if : Bool → ℕ
one_if true = 1
one_if false = 0

abbrev pub how_many : (ℕ → Value → Bool) → List (ℕ × Value) → ℕ
how_many p [] = 0
how_many p (e ∷ es) = one_if (p e.0 e.1) + how_many p es

abbrev pub ahead_in : Option Index → List ℕ → Bool → ℕ
ahead_in None from after = 0
ahead_in (Some index) from after = how_many (λ n v. is_at_or_after from after (key v n)) (map.entries index.pairs)

-- The number of keys of the index ahead of a walk that is at `from`.
abbrev pub ahead : State → List ℕ → List ℕ → Bool → ℕ
ahead s name from after = ahead_in (map.get s.indices name) from after

pub total : IsTotalOrder name_cmp
total = nat_list_cmp_total

pub reversed : (a b : List ℕ) → name_cmp a b ≡ Greater → name_cmp b a ≡ Less
reversed a b e = total.antisymm b a ∙ ap ordering_reverse e

pub greater_trans : (a b c : List ℕ) → name_cmp a b ≡ Greater → name_cmp b c ≡ Greater → name_cmp a c ≡ Greater
greater_trans a b c p q = total.antisymm a c ∙ ap ordering_reverse (total.trans c b a (reversed b c q) (reversed a b p))

is_greater : (r : Ordering) → is_gt r ≡ true → r ≡ Greater
is_greater Less h = cc
is_greater Equal h = cc
is_greater Greater h = refl

-- If a key isn't below another key, and that key is above the bound, so is the first.
pub above_too : (k next high : List ℕ) (r : Ordering) → name_cmp k next ≡ r → is_lt r ≡ false → name_cmp next high ≡ Greater → name_cmp k high ≡ Greater
above_too k next high Less e h g = cc
above_too k next high Equal e h g = total.congr k next high e ∙ g
above_too k next high Greater e h g = greater_trans k next high e g

-- If a key is above another key that is ahead of the walk, it is ahead of the walk, too.
from_too : (from : List ℕ) (after : Bool) (next k : List ℕ) → is_at_or_after from after next ≡ true → name_cmp k next ≡ Greater → is_at_or_after from after k ≡ true
from_too from true next k h g = ap is_gt (greater_trans k next from g (is_greater _ h))
from_too from false next k h g = by (name_cmp next from) refl h
  where
    by : (r : Ordering) → name_cmp next from ≡ r → not (is_lt r) ≡ true → not (is_lt (name_cmp k from)) ≡ true
    by Less e i = cc
    by Equal e i = ap (λ r. not (is_lt r)) (total.antisymm k from ∙ ap ordering_reverse (sym (total.congr next from k e) ∙ reversed k next g))
    by Greater e i = ap (λ r. not (is_lt r)) (greater_trans k next from g e)

neither : (r : Ordering) → is_lt r ≡ false → is_gt r ≡ false → r ≡ Equal
neither Less h g = cc
neither Equal h g = refl
neither Greater h g = cc

module _ (p q : ℕ → Value → Bool) (only : (n : ℕ) (v : Value) → q n v ≡ true → p n v ≡ true) where
  at_one : (b c : Bool) → (c ≡ true → b ≡ true) → one_if c ≤ one_if b
  at_one true true h = omega arith
  at_one true false h = omega arith
  at_one false true h = absurd (cc (h refl))
  at_one false false h = omega arith

  no_more : (es : List (ℕ × Value)) → how_many q es ≤ how_many p es
  no_more [] = omega arith
  no_more (e ∷ es) = add-le-add (at_one (p e.0 e.1) (q e.0 e.1) (only e.0 e.1)) (no_more es)

  fewer : (node : ℕ) (value : Value) (es : List (ℕ × Value)) → find nat_cmp node es ≡ Some value → p node value ≡ true → q node value ≡ false →
      suc (how_many q es) ≤ how_many p es
  fewer node value [] h a b = cc
  fewer node value (e ∷ es) h a b = by (eq_by_cmp nat_cmp node e.0) refl h (λ f. fewer node value es f a b)
    where
      by : (t : Bool) → eq_by_cmp nat_cmp node e.0 ≡ t → cond t (Some e.1) (find nat_cmp node es) ≡ Some value →
          (find nat_cmp node es ≡ Some value → suc (how_many q es) ≤ how_many p es) →
          suc (one_if (q e.0 e.1) + how_many q es) ≤ one_if (p e.0 e.1) + how_many p es
      by true t f _ =
          let nodes : node ≡ e.0 = nat_cmp-IsAntisymmetric node e.0 (tied (nat_cmp node e.0) t) in
          let values : e.1 ≡ value = same_Some e.1 value f in
          let here : one_if (p e.0 e.1) ≡ 1 = ap one_if (ap (λ n. p n e.1) (sym nodes) ∙ ap (p node) values ∙ a) in
          let gone : one_if (q e.0 e.1) ≡ 0 = ap one_if (ap (λ n. q n e.1) (sym nodes) ∙ ap (q node) values ∙ b) in
          omega (arith, here, gone, no_more es)
        where
          tied : (r : Ordering) → is_eq r ≡ true → r ≡ Equal
          tied Less h = cc
          tied Equal h = refl
          tied Greater h = cc
      by false t f more = omega (arith, at_one (p e.0 e.1) (q e.0 e.1) (only e.0 e.1), more f)

module _ (s : State) (Wanted : ℕ → Type 0) (name low : List ℕ) (high : Option (List ℕ)) where
  -- If the next key is above the range, the walk has visited the whole range.
  pub ends_above : (from : List ℕ) (after : Bool) (next : List ℕ) (found : List ℕ) → IsNextKey s name from after (Some next) → is_above high next ≡ true →
      HasPassed s Wanted name low high from after found → HasWanted s Wanted name low high found
  ends_above from after next found is up passed = λ k h w wanted. by k h w wanted (is_at_or_after from after k) refl
    where
      beyond : (bound : Option (List ℕ)) (k : List ℕ) → is_above bound next ≡ true → is_lt (name_cmp k next) ≡ false → is_above bound k ≡ true
      beyond None k u l = u
      beyond (Some b) k u l = ap is_gt (above_too k next b _ refl l (is_greater _ u))

      by : (k : List ℕ) (h : IsKey s name k) → Within low high k → Wanted h.node → (t : Bool) → is_at_or_after from after k ≡ t → Contains found h.node
      by k h w wanted false t = passed k h w t wanted
      by k h w wanted true t = let u : is_above high k ≡ true = beyond high k up (is.2 k h t) in let v : is_above high k ≡ false = w.to_high in cc

  -- Once the node of the next key has been visited, the walk has visited that key, too.
  pub passes : (from : List ℕ) (after : Bool) (next : List ℕ) (before now : List ℕ) → IsSound s → IsNextKey s name from after (Some next) →
      HasPassed s Wanted name low high from after before → Keeps before now →
      ((v : Value) (n : ℕ) → n < 2 ^ 64 → next ≡ key v n → Wanted n → Contains now n) → HasPassed s Wanted name low high next true now
  passes from after next before now sound is passed keeps has = λ k h w not_ahead wanted. by k h w not_ahead wanted (is_at_or_after from after k) refl
    where
      by : (k : List ℕ) (h : IsKey s name k) → Within low high k → is_at_or_after next true k ≡ false → Wanted h.node →
          (t : Bool) → is_at_or_after from after k ≡ t → Contains now h.node
      by k h w not_ahead wanted false t = keeps h.node (passed k h w t wanted)
      by k h w not_ahead wanted true t =
          let paired : IsPaired s name h.index.kind h.node h.value = sound.pairs name h.index h.node h.value h.there h.paired in
          let same : k ≡ next = slice_cmp-IsAntisymmetric nat_cmp-IsAntisymmetric k next (neither _ (is.2 k h t) not_ahead) in
          has h.value h.node paired.node_fits (sym same ∙ h.is) wanted

-- Fewer keys are ahead of the next key.
pub falls : (s : State) (name from : List ℕ) (after : Bool) (next : List ℕ) → IsNextKey s name from after (Some next) → suc (ahead s name next true) ≤ ahead s name from after
falls s name from after next is =
    let P : Option Index → Type 0 = λ i. suc (ahead_in i next true) ≤ ahead_in i from after in
    subst P (sym k.there)
    (fewer (λ n v. is_at_or_after from after (key v n)) (λ n v. is_at_or_after next true (key v n))
    (λ n v g. from_too from after next (key v n) is.1 (is_greater _ g))
    k.node k.value (map.entries k.index.pairs) (sym (map.get-entries k.index.pairs k.node) ∙ k.paired)
    (ap (is_at_or_after from after) (sym k.is) ∙ is.1)
    (ap is_gt (ap (λ l. name_cmp l next) (sym k.is) ∙ tied_itself total next)))
  where
    k : IsKey s name next
    k = is.0

-- The number of steps that are left in a walk whose next key is this one.
abbrev pub steps : State → List ℕ → Option (List ℕ) → ℕ
steps s name None = 0
steps s name (Some key) = suc (ahead s name key true)

-- Each key takes a step.
pub steps_fall : (s : State) (name key : List ℕ) (next : Option (List ℕ)) → IsNextKey s name key true next → suc (steps s name next) ≤ suc (ahead s name key true)
steps_fall s name key None is = omega arith
steps_fall s name key (Some next) is = omega (arith, falls s name key true next is)
