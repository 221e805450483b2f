-- The nodes that a walk for a pick reaches.
use Rattle.std.proofs.Common.{◌≡◌, ◌⊎◌, ℕ, true, List, [], refl, sym, ap, ◌∙◌, subst, inl, inr, Some, None}
use Rattle.std.proofs.lemmas.Option.{same_Some}
use Rattle.std.specs.List.{Contains}
use Rattle.std.specs.Option.{option_map}
use Rattle.std.specs.Result.{OnOk}
use Rattle.std.specs.FinMap as map
use Rattle.std.specs.declared.option.Option.{Option}
use Rattle.std.specs.declared.result.Result.{Result}
use Rattle.std.specs.declared.result.Result.TheVariants.{Ok, Err}
use Rattle.be_value.specs.Key.{key}
use Rattle.be_value.specs.declared.values.Kind.{Kind}
use Rattle.be_value.specs.declared.values.Value.{Value}
use Rattle.be_query.specs.Grammar.{Formula}
use Rattle.be_plan.specs.Cover.{Comparison, leaves}
use Rattle.std.specs.Prelude.{slice_get}
use Rattle.be_volume.specs.Query.{sat, sees, seen_in}
use Rattle.be_volume.specs.Volume.{State}
use Rattle.be_volume.specs.declared.maps.Index.{Index}
use Rattle.be_volume.specs.Sound.{IsSound, IsPaired}
use Rattle.be_volume.specs.Reading.{attribute, index_kind}
use Rattle.be_plan.specs.Narrow.{Allows, IsPair, Within}
use Rattle.be_plan.specs.Walk.{HasWithin, HasReached, HasOnly, IsNodeWithin}
use Rattle.be_plan.proofs.Marked.{nothing_in}

pub on_ok : {A E : Type 0} {P Q : Type 0} (r : Result A E) → (P → Q) → OnOk r P → OnOk r Q
on_ok (Ok x) f h = f h
on_ok (Err e) f h = h

-- A walk over a range of an index finds every node that satisfies the formula and has its key in
-- the range.
pub has_seen : (s : State) (f : Formula) (name : List ℕ) (kind : Kind) (low : List ℕ) (high : Option (List ℕ)) (found : List ℕ) →
    IsSound s → index_kind s name ≡ Some kind → HasWithin s f name low high found →
    (node : ℕ) (value : Value) → sees s node name ≡ Some value → (IsPair kind value node → Within low high (key value node)) → sat s f node ≡ true → Contains found node
has_seen s f name kind low high found sound is_kind within node value seen range sat_n = by (map.get s.indices name) refl
  where
    by : (i : Option Index) → map.get s.indices name ≡ i → Contains found node
    by None none = let no : None ≡ Some kind = sym (ap (λ i. option_map (λ (i : Index). i.kind) i) none) ∙ is_kind in cc
    by (Some index) some =
        let paired : map.get index.pairs node ≡ Some value = sym (ap (λ i. seen_in i (attribute s node name) node) some) ∙ seen in
        let p : IsPaired s name index.kind node value = sound.pairs name index node value some paired in
        let kinds : index.kind ≡ kind = same_Some index.kind kind (sym (ap (λ i. option_map (λ (i : Index). i.kind) i) some) ∙ is_kind) in
        within (key value node) (record { index = index; node = node; value = value; there = some; paired = paired; is = refl })
        (range (record { is_value = p.is_value; kind_is = p.kind_is ∙ kinds; node_fits = p.node_fits })) sat_n

-- A walk over the range of a pick finds every node that is reached through the pick.
pub has_reached : (s : State) (f : Formula) (pick : ℕ) (c : Comparison) (kind : Kind) (low : List ℕ) (high : Option (List ℕ)) (found : List ℕ) →
    IsSound s → slice_get (leaves f) pick ≡ Some c → index_kind s c.name ≡ Some kind →
    ((v : Value) (n : ℕ) → IsPair kind v n → Allows pick 0 f c.name v → Within low high (key v n)) →
    HasWithin s f c.name low high found → HasReached s f pick found
has_reached s f pick c kind low high found sound there is_kind range within = λ node r sat_n.
    let P : Comparison → Type 0 = λ d. (sees s node d.name ≡ Some r.value) × Allows pick 0 f d.name r.value in
    let same : r.picked ≡ c = same_Some r.picked c (sym r.there ∙ there) in
    let at_c : (sees s node c.name ≡ Some r.value) × Allows pick 0 f c.name r.value = subst P same (r.seen, r.allows) in
    has_seen s f c.name kind low high found sound is_kind within node r.value at_c.0 (λ pair. range r.value node pair at_c.1) sat_n

-- Every node in the list was there before, or is wanted and has a key in the range, whatever the
-- names of what was read.
pub added_within : (s : State) (name l low : List ℕ) (h high : Option (List ℕ)) (none nodes before : List ℕ) (Wanted : ℕ → Type 0) →
    l ≡ low → h ≡ high → none ≡ [] → HasOnly s name l h none nodes → (n : ℕ) →
    Contains before n ⊎ (Contains nodes n × Wanted n) → Contains before n ⊎ (IsNodeWithin s name low high n × Wanted n)
added_within s name l low h high none nodes before Wanted is_low is_high empty only n there =
    let L : List ℕ → Type 0 = λ b. HasOnly s name b h none nodes in
    let H : Option (List ℕ) → Type 0 = λ b. HasOnly s name low b none nodes in
    let all : HasOnly s name low high none nodes = subst H is_high (subst L is_low only) in
    let by : Contains nodes n × Wanted n → Contains before n ⊎ (IsNodeWithin s name low high n × Wanted n) = λ is.
    elim (all n is.0) [ inl before_all ↦ absurd (nothing_in none n empty before_all) | inr w ↦ inr (w, is.1) ] in
    elim there [ inl old ↦ inl old | inr is ↦ by is ]
