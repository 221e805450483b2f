-- The volume that a builder has been given, and what may come next.
use Rattle.std.specs.Prelude.{◌≡◌, ◌≢◌, ℕ, ◌+◌, ◌<◌, ◌≤◌, ◌^◌, ◌⊎◌, List, [], ◌∷◌, All, Bool, true}
use Rattle.std.specs.Prelude.{false, Some, None, IsTrue, IfErr, IfSome, Result, length}
use Rattle.std.specs.Prelude.{slice_index_or}
use Rattle.std.specs.FinMap as map
use Rattle.std.specs.declared.cmp.Ordering.TheVariants.{Less, Greater}
use Rattle.std.specs.declared.option.Option.{Option}
use Rattle.be_pages.specs.declared.room.PageState.{PageState}
use Rattle.be_pages.specs.declared.room.PageState.TheVariants.{Taken}
use Rattle.be_pages.specs.Refusal.{IsFullOf}
use Rattle.be_paged_building.specs.Keys.{AreKeysOf}
use Rattle.be_paged_building.specs.declared.building.VolumeBuilder.{VolumeBuilder}
use Rattle.be_paged_reading.specs.Catalog.{IsCatalog, catalog_key}
use Rattle.be_paged_reading.specs.Entry.{Entry}
use Rattle.be_paged_reading.specs.Page.{IsNamedAt, reach}
use Rattle.be_paged_reading.specs.Version.{IsVersion}
use Rattle.be_tree.specs.Building.{IsBuilder, pages_taken, pairs_given}
use Rattle.be_tree.specs.Counting.{HasInHand, in_hand}
use Rattle.be_tree_reading.specs.Key.{AllBelow, key_cmp}
use Rattle.be_tree_reading.specs.Pair.{Pair}
use Rattle.be_value.specs.Value.{is_indexable, kind_of}
use Rattle.be_value.specs.declared.refusals.Refusal.{Refusal}
use Rattle.be_value.specs.declared.refusals.Refusal.TheVariants.{OutOfMemory}
use Rattle.be_value.specs.declared.values.Kind.{Kind}
use Rattle.be_value.specs.declared.values.Value.{Value}
use Rattle.be_volume.specs.Maps.{Attributes, Nodes, attributes_of, name_cmp}
use Rattle.be_volume.specs.Sound.{IsName, IsSound}
use Rattle.be_volume.specs.Volume.{State}
use Rattle.be_volume.specs.declared.maps.Index.{Index}

-- the name is above those of the indices
abbrev pub IsAboveIndices : State → List ℕ → Type 0
IsAboveIndices volume name = (other : List ℕ) → map.contains_key volume.indices other ≡ true
    → name_cmp other name ≡ Less

-- the name is above those of the node's attributes
abbrev pub IsAboveAttributes : State → ℕ → List ℕ → Type 0
IsAboveAttributes volume node name = (other : List ℕ)
    → map.contains_key (attributes_of volume.nodes node) other ≡ true → name_cmp other name ≡ Less

-- the index of this name, if there is one, has the value's kind
abbrev pub IsKindOf : State → List ℕ → Value → Type 0
IsKindOf volume name value = (index : Index) → map.get volume.indices name ≡ Some index
    → index.kind ≡ kind_of value

-- An index may come next: no node has been given, and the name is above those of the other indices.
pub record MayBeIndex (volume : State) (name : List ℕ) (kind : Kind) : Type 0 where
  pub first : volume.nodes ≡ map.empty
  pub few : map.len volume.indices < 32
  pub kind_fits : IsTrue (is_indexable kind)
  pub above : IsAboveIndices volume name

-- a node may come next: its number isn't below the next one
abbrev pub MayBeNode : State → ℕ → Type 0
MayBeNode volume node = (volume.next ≤ node) × (node < 2 ^ 63)

-- an attribute of a node may come next
pub record MayHave (volume : State) (node : ℕ) (name : List ℕ) (value : Value)
    (held : Bool) : Type 0 where
  pub there : map.contains_key volume.nodes node ≡ true
  pub few : map.len (attributes_of volume.nodes node) < 64
  pub above : IsAboveAttributes volume node name
  pub index : held ≡ true → (found : Index) × (map.get volume.indices name ≡ Some found)
      × (found.kind ≡ kind_of value)

-- an attribute of this name may come after these many of a node, the last of which has this name
pub record MayTake (node attributes : ℕ) (last : Option (List ℕ)) (name : List ℕ) : Type 0 where
  pub there : 0 < node
  pub few : attributes < 64
  pub above : IfSome last (λ other. name_cmp other name ≡ Less)

-- the entries have lower names
abbrev pub AreBelow : List Entry → List ℕ → Type 0
AreBelow entries name = (j : ℕ) (d : Entry) → j < length entries
    → name_cmp (slice_index_or entries j d).name name ≡ Less

-- An index of this name and kind may come after these if no node has been given.
pub record MayIndex (node : ℕ) (entries : List Entry) (name : List ℕ) (kind : Kind) : Type 0 where
  pub none : node ≡ 0
  pub few : length entries < 32
  pub kind_fits : IsTrue (is_indexable kind)
  pub above : AreBelow entries name

-- the index at this position has this name and the value's kind
pub record IsIndexFor (entries : List Entry) (name : List ℕ) (value : Value) (at : ℕ) : Type 0 where
  pub named : IsNamedAt entries name at
  pub kind : (d : Entry) → (slice_index_or entries at d).kind ≡ kind_of value

-- the position of the index for a value that is held
abbrev pub IsPlaceFor : List Entry → List ℕ → Value → (held : Bool) → Option ℕ → Type 0
IsPlaceFor entries name value held None = held ≡ false
IsPlaceFor entries name value held (Some at) = (held ≡ true) × IsIndexFor entries name value at

-- the name of the last attribute, or no bytes if the node has none
abbrev pub name_of : Option (List ℕ) → List ℕ
name_of None = []
name_of (Some name) = name

-- no pair has a key above this one
abbrev pub AreUpTo : List ℕ → List Pair → Type 0
AreUpTo last pairs = (k : List ℕ) → key_cmp last k ≡ Less → AllBelow k pairs

-- this is the highest number of a node, or 0 if there is none
abbrev pub IsLastNode : ℕ → Nodes → Type 0
IsLastNode node nodes = (node ≡ 0 → nodes ≡ map.empty)
    × (0 < node → map.contains_key nodes node ≡ true)

-- this is the highest name, if there is one
abbrev pub IsLastName : Option (List ℕ) → Attributes → Type 0
IsLastName None attributes = attributes ≡ map.empty
IsLastName (Some name) attributes = (map.contains_key attributes name ≡ true)
    × ((other : List ℕ) → map.contains_key attributes other ≡ true → name_cmp other name ≢ Greater)

-- the entry has the name and the kind of an index without a tree, and these are its keys
pub record IsCollected (entry : Entry) (keys : List (List ℕ)) (name : List ℕ) (index : Index) :
    Type 0 where
  pub name_is : entry.name ≡ name
  pub kind_is : entry.kind ≡ index.kind
  pub root : entry.root ≡ 0
  pub keys_are : AreKeysOf keys index
  pub short : All (λ k. length k ≤ 264) keys

-- each entry, with the keys at the same position, is that of the index at this position
abbrev pub AreCollected : List Entry → List (List (List ℕ)) → List (List ℕ × Index) → Type 0
AreCollected [] [] [] = Unit {0}
AreCollected [] [] (i ∷ is) = ⊥
AreCollected [] (k ∷ ks) is = ⊥
AreCollected (e ∷ es) [] is = ⊥
AreCollected (e ∷ es) (k ∷ ks) [] = ⊥
AreCollected (e ∷ es) (k ∷ ks) (i ∷ is) = IsCollected e k i.0 i.1 × AreCollected es ks is

-- the builder has been given this volume
pub record Builds (page_state : ℕ → PageState) (words : ℕ → ℕ → ℕ) (builder : VolumeBuilder)
    (volume : State) : Type 0 where
  pub catalog : IsBuilder page_state words builder.catalog
  pub pairs : IsCatalog (pairs_given words builder.catalog) volume.nodes
  pub highest : AreUpTo (catalog_key builder.node (name_of builder.name))
      (pairs_given words builder.catalog)
  pub fits : builder.node < 2 ^ 63
  pub next : volume.next ≡ builder.node + 1
  pub node : IsLastNode builder.node volume.nodes
  pub count : builder.attributes ≡ map.len (attributes_of volume.nodes builder.node)
  pub name : IsLastName builder.name (attributes_of volume.nodes builder.node)
  pub indices : AreCollected builder.entries.items builder.keys.items (map.entries volume.indices)
  pub named : All (λ entry. IsName entry.name) builder.entries.items
  pub sound : IsSound volume
  pub page : page_state builder.page ≡ Taken

-- the pages that a builder has taken: the version page, and the leaves of its catalog
abbrev pub pages_held : (words : ℕ → ℕ → ℕ) → VolumeBuilder → List ℕ
pages_held words builder = builder.page ∷ pages_taken words builder.catalog

-- If the write held no other pages than these before, each version of the volume has more pages
-- than the write holds.
abbrev pub IsTooLarge : State → (held : List ℕ) → (old new : ℕ → PageState) → Type 0
IsTooLarge volume held old new = HasInHand old held → (page_state : ℕ → PageState)
    (words : ℕ → ℕ → ℕ) (page : ℕ) → IsVersion page_state words page volume
    → (n : ℕ) → in_hand n new < length (reach words page)

-- an error of a write: memory ran out, or no page was free and no version of the volume fits
abbrev pub IsNoRoom : (full : ℕ → Type 0) → (large : Type 0) → Refusal → Type 0
IsNoRoom full large e = (e ≡ OutOfMemory) ⊎ (IsFullOf full e × large)

-- A call either gives the builder more, or refuses what may not come next, says why, and changes
-- nothing, or runs out of room.
abbrev pub Refuses : {S A : Type 0} → (before after : VolumeBuilder) → (why : Refusal → Type 0)
    → (room : Refusal → Type 0) → Result A Refusal → (old new : S) → Type 0
Refuses before after why room result old new = IfErr result (λ e.
    (why e × (after ≡ before) × (new ≡ old)) ⊎ room e)
