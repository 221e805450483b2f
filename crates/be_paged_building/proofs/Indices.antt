-- A builder that is given an index, or an attribute that an index has.
use Rattle.std.proofs.Common.{◌≡◌, ℕ, ◌<◌, ◌≤◌, Bool, true, false, List, [], ◌∷◌, ◌++◌, IsTrue, length, get_or, Some, None, is_some, nat_eq, ap, sym, subst, ◌∙◌, refl, arith}
use Rattle.std.specs.Prelude.{IfSome}
use Rattle.std.proofs.lemmas.Bool.Decides.{nat_tests}
use Rattle.std.specs.declared.option.Option.{Option}
use Rattle.std.proofs.Math.ListN.{set}
use Rattle.std.proofs.lemmas.List.Elements.{All-append, All-cons, All-nil}
use Rattle.std.specs.FinMap as fin
use Rattle.std.specs.Cmp.{tied_itself}
use Rattle.std.specs.Ordering.{nat_cmp}
use Rattle.std.specs.declared.cmp.Ordering.TheVariants.{Equal, Greater, Less}
use Rattle.be_pages.specs.declared.room.PageState.{PageState}
use Rattle.be_paged_building.specs.Building.{AreBelow, AreCollected, Builds, IsPlaceFor, MayBeIndex, MayIndex}
use Rattle.be_paged_building.specs.Given.{with_held, with_index}
use Rattle.be_paged_building.specs.Keys.{keys_with}
use Rattle.be_paged_building.specs.declared.building.VolumeBuilder.{VolumeBuilder}
use Rattle.be_paged_building.proofs.Collected.{Found, collected_end, collected_named, indices_below, named_found, same_lengths}
use Rattle.be_paged_building.proofs.KeysOf.{keys_more, keys_none}
use Rattle.be_paged_building.proofs.Volumes.{above_absent, index_sound, no_pair, pair_more}
use Rattle.be_paged_reading.specs.Entry.{Entry}
use Rattle.be_paged_reading.specs.Page.{IsGapAt, IsNamedAt}
use Rattle.be_paged_reading.proofs.IndexEntries.Indexing.{names_total}
use Rattle.be_value.specs.Key.{key}
use Rattle.be_value.specs.Value.{is_indexable, kind_of}
use Rattle.be_value.specs.declared.values.Kind.{Kind}
use Rattle.be_value.specs.declared.values.Value.{Value}
use Rattle.be_volume.specs.Maps.{name_cmp}
use Rattle.be_volume.specs.Reading.{attribute}
use Rattle.be_volume.specs.Sound.{IsName, IsSound}
use Rattle.be_volume.specs.Volume.{State}
use Rattle.be_volume.specs.declared.maps.Index.{Index}

never : {A : Type 0} → false ≡ true → A
never e = absurd (cc)

module _ (page_state : ℕ → PageState) (words : ℕ → ℕ → ℕ) (b : VolumeBuilder) (volume : State) (name : List ℕ) (kind : Kind) (builds : Builds page_state words b volume) where
  abbrev is : List (List ℕ × Index)
  is = fin.entries volume.indices

  module _ (may : MayIndex b.node b.entries.items name kind) where
    others_below : (other : List ℕ) → fin.contains_key volume.indices other ≡ true → name_cmp other name ≡ Less
    others_below other there = indices_below b.entries.items b.keys.items is name builds.indices may.above other (sym (ap is_some (fin.get-entries volume.indices other)) ∙ there)

    few : fin.len volume.indices < 32
    few = omega (arith, may.few, fin.len-entries volume.indices, (same_lengths b.entries.items b.keys.items is builds.indices).1)

    pub index_may : MayBeIndex volume name kind
    index_may = record { first = builds.node.0 may.none; few = few; kind_fits = may.kind_fits; above = others_below }

    abbrev new : Index
    new = record { kind = kind; pairs = fin.empty }

    pub index_collected : AreCollected (b.entries.items ++ record { name = name; kind = kind; root = 0 } ∷ []) (b.keys.items ++ [] ∷ []) (fin.entries (with_index volume name kind).indices)
    index_collected = subst (AreCollected (b.entries.items ++ record { name = name; kind = kind; root = 0 } ∷ []) (b.keys.items ++ [] ∷ [])) (sym (fin.entries-insert names_total volume.indices name new))
        (collected_end b.entries.items b.keys.items is name new (record { name = name; kind = kind; root = 0 }) [] builds.indices may.above
        (record { name_is = refl; kind_is = refl; root = refl; keys_are = keys_none new (fin.get-empty nat_cmp); short = All-nil (λ k. length k ≤ 264) }))

    pub index_is_sound : IsName name → IsSound (with_index volume name kind)
    index_is_sound named = index_sound volume name kind builds.sound (omega (arith, builds.next, builds.fits)) named may.kind_fits (above_absent volume.indices name others_below) few

-- an attribute's index
module _ (page_state : ℕ → PageState) (words : ℕ → ℕ → ℕ) (b : VolumeBuilder) (volume : State) (name : List ℕ) (value : Value) (builds : Builds page_state words b volume) where
  abbrev all : List (List ℕ × Index)
  all = fin.entries volume.indices

  module _ (at : ℕ) (named : IsNamedAt b.entries.items name at) (kind : (d : Entry) → (get_or b.entries.items at d).kind ≡ kind_of value) where
    found : Found b.entries.items b.keys.items all name at
    found = named_found b.entries.items b.keys.items all name at builds.indices named

    there : fin.get volume.indices name ≡ Some found.index
    there = fin.get-entries volume.indices name ∙ found.found

    abbrev nowhere : Entry
    nowhere = record { name = []; kind = kind_of value; root = 0 }

    same_kind : found.index.kind ≡ kind_of value
    same_kind = sym (found.kind nowhere) ∙ kind nowhere

    pub index_there : (index : Index) × (fin.get volume.indices name ≡ Some index) × (index.kind ≡ kind_of value)
    index_there = (found.index, there, same_kind)

    pub value_indexable : IsTrue (is_indexable (kind_of value))
    value_indexable = subst (λ k. IsTrue (is_indexable k)) same_kind (builds.sound.kinds name found.index there)

    pub at_in_range : at < length b.keys.items
    at_in_range = omega (arith, named.in_range, (same_lengths b.entries.items b.keys.items all builds.indices).0)

    pub held_collected : attribute volume b.node name ≡ None → length (key value b.node) ≤ 264 → (d : List (List ℕ))
        → AreCollected b.entries.items (set b.keys.items at (get_or b.keys.items at d ++ key value b.node ∷ [])) (fin.entries (with_held volume b.node name value true).indices)
    held_collected none short d =
        let index = found.index in
        let more : Index = record { kind = index.kind; pairs = fin.insert index.pairs b.node value } in
        subst (λ m. AreCollected b.entries.items (set b.keys.items at (get_or b.keys.items at d ++ key value b.node ∷ [])) (fin.entries m)) (sym (pair_more volume b.node name value index there same_kind))
        (subst (AreCollected b.entries.items (set b.keys.items at (get_or b.keys.items at d ++ key value b.node ∷ []))) (sym (fin.entries-insert names_total volume.indices name more))
        (collected_named b.entries.items b.keys.items all name more (get_or b.keys.items at d ++ key value b.node ∷ []) at builds.indices named found.kind
        (keys_more (get_or b.keys.items at d) index b.node value (found.keys d) (no_pair volume name index b.node builds.sound none there))
        (All-append (λ k. length k ≤ 264) (get_or b.keys.items at d) (key value b.node ∷ []) (found.short d) (All-cons (λ k. length k ≤ 264) (key value b.node) [] short (All-nil (λ k. length k ≤ 264))))))

  -- where the value's key is put, if the attribute is held
  pub place_within : (held : Bool) (at : Option ℕ) → IsPlaceFor b.entries.items name value held at → IfSome at (λ i. i < length b.keys.items)
  place_within held None place = tt
  place_within held (Some at) place = at_in_range at place.1.named place.1.kind

  pub place_indexable : (held : Bool) (at : Option ℕ) → IsPlaceFor b.entries.items name value held at → IfSome at (λ i. IsTrue (is_indexable (kind_of value)))
  place_indexable held None place = tt
  place_indexable held (Some at) place = value_indexable at place.1.named place.1.kind

  pub place_index : (held : Bool) (at : Option ℕ) → IsPlaceFor b.entries.items name value held at → held ≡ true → (index : Index) × (fin.get volume.indices name ≡ Some index) × (index.kind ≡ kind_of value)
  place_index held None place truth = never (sym place ∙ truth)
  place_index held (Some at) place truth = index_there at place.1.named place.1.kind

  pub place_collected : (held : Bool) (at : Option ℕ) → IsPlaceFor b.entries.items name value held at → attribute volume b.node name ≡ None → IfSome at (λ i. length (key value b.node) ≤ 264)
      → AreCollected b.entries.items (keys_with b.keys.items at (key value b.node)) (fin.entries (with_held volume b.node name value held).indices)
  place_collected false None place none short = builds.indices
  place_collected true None place none short = never (sym place)
  place_collected true (Some at) place none short = held_collected at place.1.named place.1.kind none short []
  place_collected false (Some at) place none short = never place.0

-- a position among the entries, and whether the name is above them all
pub named_not_below : (es : List Entry) (name : List ℕ) (at : ℕ) → IsNamedAt es name at → AreBelow es name → ⊥
named_not_below [] name at named below = omega (arith, named.in_range)
named_not_below (e ∷ es) name at named below = clash (sym (below at e named.in_range) ∙ ap (λ n. name_cmp n name) (named.here e) ∙ tied_itself names_total name)
  where
    clash : Less ≡ Equal → ⊥
    clash f = cc

pub gap_not_below : (es : List Entry) (name : List ℕ) (at : ℕ) → IsGapAt es name at → (at ≡ length es → ⊥) → AreBelow es name → ⊥
gap_not_below [] name at gap other below = other (omega (arith, gap.in_range))
gap_not_below (e ∷ es) name at gap other below =
    let lt : at < length (e ∷ es) = omega (arith, gap.in_range, other) in
    clash (sym (below at e lt) ∙ gap.above e lt)
  where
    clash : Less ≡ Greater → ⊥
    clash f = cc

reflexive : (n : ℕ) → nat_eq n n ≡ true
reflexive n = grind (arith, nat_tests)

pub not_same : (a b n : ℕ) → nat_eq a b ≡ false → b ≡ n → a ≡ n → ⊥
not_same a b n f p q = never (sym (sym (reflexive a) ∙ ap (nat_eq a) (q ∙ sym p) ∙ f))
