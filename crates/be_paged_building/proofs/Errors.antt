-- Why something may not come next: what the builder's fields say, and what the volume says.
use Rattle.std.proofs.Common.{◌≡◌, ℕ, zero, suc, ◌<◌, Bool, true, false, List, [], length, get_or, Some, None, Result, Ok, Err, is_some, ap, sym, subst, ◌∙◌, refl, arith, inl, inr}
use Rattle.std.specs.Prelude.{IfErr, IfSome}
use Rattle.std.specs.FinMap as fin
use Rattle.std.specs.Ordering.{nat_cmp}
use Rattle.std.specs.declared.cmp.Ordering.TheVariants.{Less}
use Rattle.std.specs.declared.option.Option.{Option}
use Rattle.be_pages.specs.declared.room.PageState.{PageState}
use Rattle.be_paged_building.specs.Building.{AreBelow, Builds, IsAboveAttributes, IsAboveIndices, IsLastName, MayTake, Refuses}
use Rattle.be_paged_building.specs.Errors.{AttributeError, AttributeErrorAfter, HeldError, HeldErrorAmong, IndexError, IndexErrorAfter}
use Rattle.be_paged_building.specs.declared.building.VolumeBuilder.{VolumeBuilder}
use Rattle.be_paged_building.proofs.Adding.{above_last}
use Rattle.be_paged_building.proofs.Collected.{entry_there, gap_none, named_found, same_lengths}
use Rattle.be_paged_reading.specs.Entry.{Entry}
use Rattle.be_value.specs.Value.{kind_of}
use Rattle.be_value.specs.declared.refusals.Refusal.{Refusal}
use Rattle.be_value.specs.declared.values.Kind.{Kind}
use Rattle.be_value.specs.declared.values.Value.{Value}
use Rattle.be_volume.specs.Maps.{Attributes, Nodes, attributes_of, name_cmp}
use Rattle.be_volume.specs.Volume.{State}
use Rattle.be_volume.specs.declared.maps.Index.{Index}

never : {A : Type 0} → false ≡ true → A
never e = absurd (cc)

-- a call passes an error on, and changes nothing
pub refuses : {S A : Type 0} (before after : VolumeBuilder) (why : Refusal → Type 0) (room : Refusal → Type 0) (r : Result A Refusal) (old new : S) → IfErr r why → after ≡ before → new ≡ old → Refuses before after why room r old new
refuses before after why room (Ok x) old new reason same still = tt
refuses before after why room (Err e) old new reason same still = inl (reason, same, still)

pub passed : {A : Type 0} (r : Result A Refusal) (e : Refusal) (why : Refusal → Type 0) → IfErr r (λ f. f ≡ e) → why e → IfErr r why
passed (Ok x) e why is reason = tt
passed (Err f) e why is reason = subst why (sym is) reason

module _ (page_state : ℕ → PageState) (words : ℕ → ℕ → ℕ) (b : VolumeBuilder) (volume : State) (name : List ℕ) (builds : Builds page_state words b volume) where
  abbrev indices : List (List ℕ × Index)
  indices = fin.entries volume.indices

  abbrev attributes : Attributes
  attributes = attributes_of volume.nodes b.node

  -- no node has number 0
  none_at : (nodes : Nodes) (node : ℕ) → nodes ≡ fin.empty → fin.contains_key nodes node ≡ true → ⊥
  none_at nodes node none there = never (sym (ap is_some (fin.get-empty nat_cmp node)) ∙ ap (λ (m : Nodes). fin.contains_key m node) (sym none) ∙ there)

  no_node : volume.nodes ≡ fin.empty → b.node ≡ 0
  no_node none = by b.node refl
    where
      by : (n : ℕ) → b.node ≡ n → b.node ≡ 0
      by zero e = e
      by (suc n) e = absurd (none_at volume.nodes b.node none (builds.node.1 (omega (arith, e))))

  some_node : fin.contains_key volume.nodes b.node ≡ true → 0 < b.node
  some_node there = by b.node refl
    where
      by : (n : ℕ) → b.node ≡ n → 0 < b.node
      by zero e = absurd (none_at volume.nodes b.node (builds.node.0 e) there)
      by (suc n) e = omega (arith, e)

  as_many : length b.entries.items ≡ fin.len volume.indices
  as_many = omega (arith, fin.len-entries volume.indices, (same_lengths b.entries.items b.keys.items indices builds.indices).1)

  entries_below : IsAboveIndices volume name → AreBelow b.entries.items name
  entries_below above = λ j d lt. above (get_or b.entries.items j d).name (ap is_some (fin.get-entries volume.indices (get_or b.entries.items j d).name) ∙ entry_there b.entries.items b.keys.items indices builds.indices j d lt)

  pub index_error : (kind : Kind) (e : Refusal) → IndexErrorAfter b.node b.entries.items name kind e → IndexError volume name kind e
  index_error kind e (inl first) = inl ((λ none. first.0 (no_node none)), first.1)
  index_error kind e (inr (none, inl fits)) = inr (builds.node.0 none, inl fits)
  index_error kind e (inr (none, inr (fits, inl few))) = inr (builds.node.0 none, inr (fits, inl ((λ less. few.0 (omega (arith, less, as_many))), few.1)))
  index_error kind e (inr (none, inr (fits, inr (few, above)))) = inr (builds.node.0 none, inr (fits, inr (omega (arith, few, as_many), ((λ all. above.0 (entries_below all)), above.1))))

  last_below : (last : Option (List ℕ)) → IsLastName last attributes → IsAboveAttributes volume b.node name → IfSome last (λ other. name_cmp other name ≡ Less)
  last_below None is above = tt
  last_below (Some other) is above = above other is.0

  pub attribute_error : (value : Value) (held : Bool) (e : Refusal) → AttributeErrorAfter b.node b.attributes b.name name e → AttributeError volume b.node name value held e
  attribute_error value held e (inl first) = inl ((λ there. first.0 (some_node there)), first.1)
  attribute_error value held e (inr (some, inl few)) = inr (builds.node.1 some, inl ((λ less. few.0 (omega (arith, less, builds.count))), few.1))
  attribute_error value held e (inr (some, inr (few, above))) = inr (builds.node.1 some, inr (omega (arith, few, builds.count), inl ((λ all. above.0 (last_below b.name builds.name all)), above.1)))

  none_there : fin.get volume.indices name ≡ None → fin.contains_key volume.indices name ≡ true → ⊥
  none_there none there = never (sym (ap is_some none) ∙ there)

  -- no index can hold the attribute
  among : (value : Value) (e : Refusal) → HeldErrorAmong b.entries.items name value e → HeldError volume name value e
  among value e (inl gap) = inl (none_there (fin.get-entries volume.indices name ∙ gap_none b.entries.items b.keys.items indices name gap.0.0 builds.indices (fin.entries_sorted volume.indices) gap.0.1), gap.1)
  among value e (inr other) =
      let place = named_found b.entries.items b.keys.items indices name other.0.0 builds.indices other.0.1 in
      let there : fin.get volume.indices name ≡ Some place.index = fin.get-entries volume.indices name ∙ place.found in
      let nowhere : Entry = record { name = []; kind = kind_of value; root = 0 } in
      inr (ap is_some there, ((λ kind. other.0.2 nowhere (place.kind nowhere ∙ kind place.index there)), other.1))

  pub held_error : (value : Value) (held : Bool) (e : Refusal) → MayTake b.node b.attributes b.name name → held ≡ true → HeldErrorAmong b.entries.items name value e → AttributeError volume b.node name value held e
  held_error value held e take truth error = inr (builds.node.1 take.there, inr (omega (arith, take.few, builds.count), inr (above_last b.name attributes name builds.name take.above, (truth, among value e error))))
