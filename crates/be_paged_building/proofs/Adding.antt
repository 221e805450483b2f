-- A builder that is given one more node or attribute.
use Rattle.std.proofs.Common.{◌≡◌, ℕ, ◌+◌, ◌<◌, ◌≤◌, ◌^◌, Bool, true, false, List, [], ◌∷◌, ◌++◌, length, Some, None, Ok, is_some, ap, sym, subst, ◌∙◌, refl, arith}
use Rattle.std.specs.Prelude.{IfSome}
use Rattle.std.proofs.lemmas.List.{length-append}
use Rattle.std.specs.FinMap as fin
use Rattle.std.specs.Cmp.{nat_cmp_total, tied_itself}
use Rattle.std.specs.FinMap.{nat_cmp-IsAntisymmetric}
use Rattle.std.specs.declared.cmp.Ordering.{Ordering}
use Rattle.std.specs.declared.cmp.Ordering.TheVariants.{Less, Equal, Greater}
use Rattle.std.specs.declared.option.Option.{Option}
use Rattle.be_pages.specs.declared.room.PageState.{PageState}
use Rattle.be_paged_building.specs.Building.{AreUpTo, Builds, IsLastName, IsLastNode, IsTooLarge, MayHave, MayTake, name_of}
use Rattle.be_paged_building.specs.Given.{with_held, with_node}
use Rattle.be_paged_building.specs.declared.building.VolumeBuilder.{VolumeBuilder}
use Rattle.be_paged_building.proofs.Counts.{catalog_few}
use Rattle.be_paged_building.proofs.Orders.{attribute_above, mark_above, put_more, rising_more, up_more}
use Rattle.be_paged_building.proofs.Room.{version_large}
use Rattle.be_paged_building.proofs.Volumes.{above_absent, attributes_are, attributes_more, count_more, held_sound, no_value, none_of, not_there}
use Rattle.be_paged_reading.specs.Catalog.{IsCatalog, catalog_key, payload_of}
use Rattle.be_paged_reading.proofs.CatalogPairs.Items.{catalog_new, catalog_set, get_here, get_other}
use Rattle.be_paged_reading.proofs.CatalogPairs.Validity.{named}
use Rattle.be_paged_reading.proofs.IndexEntries.Indexing.{names_exact, names_total}
use Rattle.be_tree.specs.Building.{IsShort, pages_taken, pairs_given}
use Rattle.be_tree_reading.specs.Key.{IsRising, key_cmp}
use Rattle.be_tree_reading.specs.Pair.{Pair}
use Rattle.be_value.specs.Key.{IsValue}
use Rattle.be_value.specs.Name.{name_from}
use Rattle.be_value.specs.Value.{kind_of}
use Rattle.be_value.specs.declared.values.Value.{Value}
use Rattle.be_volume.specs.Maps.{Attributes, Nodes, attributes_of, name_cmp, with_attribute}
use Rattle.be_volume.specs.Reading.{attribute}
use Rattle.be_volume.specs.Sound.{IsName, IsSound}
use Rattle.be_volume.specs.Volume.{State}
use Rattle.be_volume.specs.declared.maps.Index.{Index}

-- a name isn't empty
name_some : (name : List ℕ) → name_from name ≡ Ok name → 0 < length name
name_some [] valid = absurd (named [] valid refl)
name_some (c ∷ name) valid = omega arith

-- a name that is above the last one is above all
pub above_last : (last : Option (List ℕ)) (attributes : Attributes) (name : List ℕ) → IsLastName last attributes → IfSome last (λ other. name_cmp other name ≡ Less)
    → (other : List ℕ) → fin.contains_key attributes other ≡ true → name_cmp other name ≡ Less
above_last None attributes name none above other has = absurd (never (sym (ap (λ (m : Attributes). fin.contains_key m other) none ∙ ap is_some (fin.get-empty name_cmp other)) ∙ has))
  where
    never : false ≡ true → ⊥
    never e = cc
above_last (Some last) attributes name is above other has = by (name_cmp other last) refl
  where
    by : (o : Ordering) → name_cmp other last ≡ o → name_cmp other name ≡ Less
    by Less e = names_total.trans other last name e above
    by Equal e = ap (λ n. name_cmp n name) (names_exact other last e) ∙ above
    by Greater e = absurd (is.1 other has e)

-- such a name is the last one then
last_name : (attributes : Attributes) (name : List ℕ) (value : Value) → ((other : List ℕ) → fin.contains_key attributes other ≡ true → name_cmp other name ≡ Less) → IsLastName (Some name) (fin.insert attributes name value)
last_name attributes name value above = (ap is_some (get_here names_total names_exact attributes name value), λ other has greater. not_greater other has greater)
  where
    clash : {A : Type 0} → Less ≡ Greater → A
    clash e = absurd (cc)

    not_greater : (other : List ℕ) → fin.contains_key (fin.insert attributes name value) other ≡ true → name_cmp other name ≡ Greater → ⊥
    not_greater other has greater =
        let ne : other ≡ name → ⊥ = λ e. untied (sym (ap (λ n. name_cmp n name) e ∙ tied_itself names_total name) ∙ greater) in
        clash (sym (above other (sym (ap is_some (get_other names_total names_exact attributes name value other ne)) ∙ has)) ∙ greater)
      where
        untied : Equal ≡ Greater → ⊥
        untied e = cc

-- the pairs of the catalog, with one more
module _ (last : List ℕ) (pairs : List Pair) (pair : Pair) (nodes new : Nodes) (up : AreUpTo last pairs) (rising : IsRising pairs) (above : key_cmp last pair.key ≡ Less) (catalog : IsCatalog (pairs ++ pair ∷ []) new) where
  pub push_few : (ys : List Pair) → IsRising ys → IsCatalog ys new → length pairs + 1 ≤ length ys
  push_few ys other same = omega (arith, length-append pairs (pair ∷ []), catalog_few (pairs ++ pair ∷ []) ys new catalog same (rising_more last pairs pair up above rising) other)

module _ (page_state : ℕ → PageState) (words : ℕ → ℕ → ℕ) (b : VolumeBuilder) (volume : State) (node : ℕ) (k : List ℕ)
    (builds : Builds page_state words b volume) (later : b.node < node) (fits : node < 2 ^ 63) (key : k ≡ catalog_key node []) where
  abbrev mark : Pair
  mark = record { key = k; payload = [] }

  abbrev old : List Pair
  old = pairs_given words b.catalog

  abbrev last : List ℕ
  last = catalog_key b.node (name_of b.name)

  above : key_cmp last k ≡ Less
  above = ap (key_cmp last) key ∙ mark_above b.node node (name_of b.name) later fits

  absent : fin.get volume.nodes node ≡ None
  absent = none_of (fin.get volume.nodes node) (not_there (fin.contains_key volume.nodes node) (λ there. absurd (omega (arith, builds.sound.nodes node there, builds.next, later))))

  pub node_rising : IsRising (pairs_given words b.catalog ++ record { key = k; payload = [] } ∷ [])
  node_rising = rising_more last old mark builds.highest above builds.catalog.begun.rising

  pub node_catalog : IsCatalog (pairs_given words b.catalog ++ record { key = k; payload = [] } ∷ []) (with_node volume node).nodes
  node_catalog = subst (λ xs. IsCatalog xs (with_node volume node).nodes) (put_more last old mark builds.highest above)
      (catalog_new old volume.nodes node mark (omega (arith, fits)) absent key refl builds.pairs)

  pub node_large : (new_state : ℕ → PageState) → IsShort (length (pages_taken words b.catalog)) (length (pairs_given words b.catalog) + 1) page_state new_state
      → IsTooLarge (with_node volume node) (b.page ∷ pages_taken words b.catalog) page_state new_state
  node_large new_state short = version_large b.page (pages_taken words b.catalog) (length old + 1) page_state new_state (with_node volume node) short
      (push_few last old mark volume.nodes (with_node volume node).nodes builds.highest builds.catalog.begun.rising above node_catalog)

  pub node_up : AreUpTo (catalog_key node []) (pairs_given words b.catalog ++ record { key = k; payload = [] } ∷ [])
  node_up = subst (λ q. AreUpTo q (old ++ mark ∷ [])) key (up_more last old mark builds.highest above)

  pub node_last : IsLastNode node (with_node volume node).nodes
  node_last = (λ e. absurd (omega (arith, later, e)), λ some. ap is_some (get_here nat_cmp_total nat_cmp-IsAntisymmetric volume.nodes node fin.empty))

  pub node_none : attributes_of (with_node volume node).nodes node ≡ fin.empty
  node_none = attributes_are volume.nodes node fin.empty

  pub node_count : 0 ≡ fin.len (attributes_of (with_node volume node).nodes node)
  node_count = sym (ap fin.len node_none ∙ fin.len-empty name_cmp Value)

-- an attribute of the last node
module _ (page_state : ℕ → PageState) (words : ℕ → ℕ → ℕ) (b : VolumeBuilder) (volume : State) (name : List ℕ) (value : Value) (k payload : List ℕ)
    (builds : Builds page_state words b volume) (take : MayTake b.node b.attributes b.name name) (valid : name_from name ≡ Ok name) (key : k ≡ catalog_key b.node name) (paid : payload ≡ payload_of value) where
  there : fin.contains_key volume.nodes b.node ≡ true
  there = builds.node.1 take.there

  abbrev set : Pair
  set = record { key = k; payload = payload }

  abbrev before : List Pair
  before = pairs_given words b.catalog

  abbrev highest : List ℕ
  highest = catalog_key b.node (name_of b.name)

  higher : key_cmp highest k ≡ Less
  higher = ap (key_cmp highest) key ∙ attribute_above b.node b.name name builds.fits (name_some name valid) take.above

  pub attribute_rising : IsRising (pairs_given words b.catalog ++ record { key = k; payload = payload } ∷ [])
  attribute_rising = rising_more highest before set builds.highest higher builds.catalog.begun.rising

  pub attribute_catalog : IsCatalog (pairs_given words b.catalog ++ record { key = k; payload = payload } ∷ []) (with_attribute volume.nodes b.node name value)
  attribute_catalog = subst (λ xs. IsCatalog xs (with_attribute volume.nodes b.node name value)) (put_more highest before set builds.highest higher)
      (catalog_set before volume.nodes b.node name value set (omega (arith, builds.fits)) there valid key paid builds.pairs)

  pub attribute_large : (held : Bool) (new_state : ℕ → PageState) → IsShort (length (pages_taken words b.catalog)) (length (pairs_given words b.catalog) + 1) page_state new_state
      → IsTooLarge (with_held volume b.node name value held) (b.page ∷ pages_taken words b.catalog) page_state new_state
  attribute_large held new_state short = version_large b.page (pages_taken words b.catalog) (length before + 1) page_state new_state (with_held volume b.node name value held) short
      (push_few highest before set volume.nodes (with_attribute volume.nodes b.node name value) builds.highest builds.catalog.begun.rising higher attribute_catalog)

  pub attribute_up : AreUpTo (catalog_key b.node name) (pairs_given words b.catalog ++ record { key = k; payload = payload } ∷ [])
  attribute_up = subst (λ q. AreUpTo q (before ++ set ∷ [])) key (up_more highest before set builds.highest higher)

  pub attribute_node : IsLastNode b.node (with_attribute volume.nodes b.node name value)
  attribute_node = (λ e. absurd (omega (arith, take.there, e)), λ some. ap is_some (get_here nat_cmp_total nat_cmp-IsAntisymmetric volume.nodes b.node (fin.insert (attributes_of volume.nodes b.node) name value)))

  -- the name is above the others
  pub name_above : (other : List ℕ) → fin.contains_key (attributes_of volume.nodes b.node) other ≡ true → name_cmp other name ≡ Less
  name_above = above_last b.name (attributes_of volume.nodes b.node) name builds.name take.above

  absent_name : fin.contains_key (attributes_of volume.nodes b.node) name ≡ false
  absent_name = above_absent (attributes_of volume.nodes b.node) name name_above

  few : fin.len (attributes_of volume.nodes b.node) < 64
  few = omega (arith, builds.count, take.few)

  pub attribute_count : b.attributes + 1 ≡ fin.len (attributes_of (with_attribute volume.nodes b.node name value) b.node)
  attribute_count = omega (arith, builds.count, count_more volume b.node name value there few absent_name)

  pub attribute_last : IsLastName (Some name) (attributes_of (with_attribute volume.nodes b.node name value) b.node)
  attribute_last = subst (IsLastName (Some name)) (sym (attributes_more volume b.node name value there few absent_name)) (last_name (attributes_of volume.nodes b.node) name value name_above)

  pub attribute_sound : IsName name → IsValue value → (held : Bool) → IsSound (with_held volume b.node name value held)
  attribute_sound named is_value held = held_sound volume b.node name value there few absent_name builds.sound (omega (arith, builds.next, builds.fits)) named is_value held

  pub attribute_none : attribute volume b.node name ≡ None
  attribute_none = no_value volume.nodes b.node name absent_name

  pub attribute_may : (held : Bool) → (held ≡ true → (found : Index) × (fin.get volume.indices name ≡ Some found) × (found.kind ≡ kind_of value)) → MayHave volume b.node name value held
  attribute_may held index = record { there = there; few = few; above = name_above; index = index }
