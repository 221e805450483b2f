-- A version's trees have no more pairs than its volume has items.
use Rattle.std.proofs.Common.{◌≡◌, ℕ, suc, ◌+◌, ◌*◌, ◌≤◌, true, false, List, [], ◌∷◌, map, length, All, Some, None, is_some, ap, sym, ◌∙◌, refl, arith}
use Rattle.std.specs.FinMap as fin
use Rattle.std.specs.FinMap.{nat_cmp-IsAntisymmetric}
use Rattle.std.specs.List.{flat_map, sum_by}
use Rattle.std.specs.Option.{option_map, option_and_then}
use Rattle.std.specs.Ordering.{eq_by_cmp, nat_cmp}
use Rattle.std.specs.declared.option.Option.{Option}
use Rattle.std.proofs.lemmas.List.{length-append, length-map}
use Rattle.std.proofs.lemmas.List.Sums.{sum_by-cons}
use Rattle.be_value.specs.Key.{key}
use Rattle.be_value.specs.declared.values.Value.{Value}
use Rattle.be_pages.specs.declared.room.PageState.{PageState}
use Rattle.be_tree.specs.Counting.{pairs_of_all}
use Rattle.be_tree_reading.specs.Key.{IsRising, key_cmp, payload_at}
use Rattle.be_tree_reading.specs.Pair.{Pair}
use Rattle.be_tree_reading.specs.Tree.{IsTree, pairs}
use Rattle.be_tree.proofs.Sizes.Trees.{forest_size}
use Rattle.be_tree_reading.proofs.Trees.{tree_rising}
use Rattle.be_volume.specs.Items.{items}
use Rattle.be_volume.specs.Maps.{Attributes, Nodes, name_cmp}
use Rattle.be_volume.specs.Volume.{State}
use Rattle.be_volume.specs.declared.maps.Index.{Index}
use Rattle.be_paged_reading.specs.Catalog.{IsCatalog, IsCatalogKey, IsIndexOf, IsPairOf, catalog_key, payload_of, stored}
use Rattle.be_paged_reading.specs.Entry.{Entry}
use Rattle.be_paged_reading.specs.Page.{contents_of, reach, roots}
use Rattle.be_paged_reading.specs.Version.{AreEntriesOf, IsVersion}
use Rattle.be_paged_reading.proofs.CatalogPairs.Finding.{found_pair}
use Rattle.be_paged_reading.proofs.IndexEntries.Indexing.{names_exact}
use Rattle.be_paged.proofs.Sizes.Keys.{is_in, same_key, few_pairs, or_left, or_right, any_entry, any_flat, any_map}

-- a node's keys: its mark's, and its attributes'
abbrev node_keys : ℕ × Attributes → List (List ℕ)
node_keys e = catalog_key e.0 [] ∷ map (λ a. catalog_key e.0 a.0) (fin.entries e.1)

abbrev catalog_keys : Nodes → List (List ℕ)
catalog_keys nodes = flat_map node_keys (fin.entries nodes)

none_there : false ≡ true → ⊥
none_there e = cc

at_node : (nodes : Nodes) (node : ℕ) (attributes : Attributes) (q : List ℕ) → fin.get nodes node ≡ Some attributes → is_in (node_keys (node, attributes)) q ≡ true → is_in (catalog_keys nodes) q ≡ true
at_node nodes node attributes q there passes =
    any_flat node_keys q (fin.entries nodes)
    ∙ any_entry nat_cmp nat_cmp-IsAntisymmetric (λ e. is_in (node_keys e) q) (fin.entries nodes) node attributes (sym (fin.get-entries nodes node) ∙ there) passes

stored_among : (nodes : Nodes) (node : ℕ) (name : List ℕ) → is_some (stored nodes node name) ≡ true → is_in (catalog_keys nodes) (catalog_key node name) ≡ true
stored_among nodes node [] some = by (fin.get nodes node) refl some
  where
    q : List ℕ
    q = catalog_key node []

    by : (x : Option Attributes) → fin.get nodes node ≡ x → is_some (option_map {U = List ℕ} (λ _. []) x) ≡ true → is_in (catalog_keys nodes) (catalog_key node []) ≡ true
    by None e some = absurd (none_there some)
    by (Some attributes) e some = at_node nodes node attributes (catalog_key node []) e (or_left (eq_by_cmp key_cmp (catalog_key node []) (catalog_key node [])) _ (same_key.refl (catalog_key node [])))
stored_among nodes node (c ∷ name) some = by (fin.get nodes node) refl some
  where
    within : (attributes : Attributes) → fin.get nodes node ≡ Some attributes → (y : Option Value) → fin.get attributes (c ∷ name) ≡ y → is_some (option_map payload_of y) ≡ true → is_in (catalog_keys nodes) (catalog_key node (c ∷ name)) ≡ true
    within attributes e None f some = absurd (none_there some)
    within attributes e (Some value) f some =
        let q = catalog_key node (c ∷ name) in
        let inner = any_map (λ (a : List ℕ × Value). catalog_key node a.0) q (fin.entries attributes)
        ∙ any_entry name_cmp names_exact (λ (a : List ℕ × Value). eq_by_cmp key_cmp q (catalog_key node a.0)) (fin.entries attributes) (c ∷ name) value (sym (fin.get-entries attributes (c ∷ name)) ∙ f) (same_key.refl q) in
        at_node nodes node attributes q e (or_right (eq_by_cmp key_cmp q (catalog_key node [])) _ inner)

    by : (x : Option Attributes) → fin.get nodes node ≡ x → is_some (option_map payload_of (option_and_then (λ (a : Attributes). fin.get a (c ∷ name)) x)) ≡ true → is_in (catalog_keys nodes) (catalog_key node (c ∷ name)) ≡ true
    by None e some = absurd (none_there some)
    by (Some attributes) e some = within attributes e (fin.get attributes (c ∷ name)) refl some

keys_count : (es : List (ℕ × Attributes)) → length (flat_map node_keys es) ≡ length es + sum_by (λ e. fin.len e.1) es
keys_count [] = refl
keys_count (e ∷ es) = omega (
  arith,
  keys_count es,
  length-append (node_keys e) (flat_map node_keys es),
  length-map (fin.entries e.1) (λ a. catalog_key e.0 a.0),
  fin.len-entries e.1,
  sum_by-cons (λ (a : ℕ × Attributes). fin.len a.1) e es,
)

pub catalog_size : (xs : List Pair) (nodes : Nodes) → IsRising xs → IsCatalog xs nodes → length xs ≤ fin.len nodes + sum_by (λ e. fin.len e.1) (fin.entries nodes)
catalog_size xs nodes rising catalog =
    let few = few_pairs xs (catalog_keys nodes) rising among in
    omega (arith, few, keys_count (fin.entries nodes), fin.len-entries nodes)
  where
    among : (q : List ℕ) → is_some (payload_at xs q) ≡ true → is_in (catalog_keys nodes) q ≡ true
    among q some =
        let at = found_pair (λ x. IsCatalogKey x.key) q xs catalog.only some in
        let is : q ≡ catalog_key at.1.node at.1.name = sym at.2 ∙ at.1.is in
        let there = ap is_some (sym (catalog.each at.1.node at.1.name at.1.fits)) ∙ ap (λ k. is_some (payload_at xs k)) (sym is) ∙ some in
        ap (is_in (catalog_keys nodes)) is ∙ stored_among nodes at.1.node at.1.name there

pub index_size : (xs : List Pair) (index : Index) → IsRising xs → IsIndexOf xs index → length xs ≤ fin.len index.pairs
index_size xs index rising is_index =
    let few = few_pairs xs (map (λ (e : ℕ × Value). key e.1 e.0) (fin.entries index.pairs)) rising among in
    omega (arith, few, length-map (fin.entries index.pairs) (λ (e : ℕ × Value). key e.1 e.0), fin.len-entries index.pairs)
  where
    among : (q : List ℕ) → is_some (payload_at xs q) ≡ true → is_in (map (λ (e : ℕ × Value). key e.1 e.0) (fin.entries index.pairs)) q ≡ true
    among q some =
        let at = found_pair (IsPairOf index) q xs is_index.only some in
        let is : q ≡ key at.1.value at.1.node = sym at.2 ∙ at.1.is in
        any_map (λ (e : ℕ × Value). key e.1 e.0) q (fin.entries index.pairs)
        ∙ any_entry nat_cmp nat_cmp-IsAntisymmetric (λ (e : ℕ × Value). eq_by_cmp key_cmp q (key e.1 e.0)) (fin.entries index.pairs) at.1.node at.1.value (sym (fin.get-entries index.pairs at.1.node) ∙ at.1.there)
        (ap (λ k. eq_by_cmp key_cmp q k) (sym is) ∙ same_key.refl q)

pub record AreCounted (words : ℕ → ℕ → ℕ) (es : List Entry) (is : List (List ℕ × Index)) : Type 0 where
  pub count : length es ≡ length is
  pub pairs_count : length (pairs_of_all words (map (λ e. e.root) es)) ≤ sum_by (λ i. fin.len i.1.pairs) is

pub indices_size : (page_state : ℕ → PageState) (words : ℕ → ℕ → ℕ) (es : List Entry) (is : List (List ℕ × Index)) → All (IsTree page_state words) (map (λ e. e.root) es) → AreEntriesOf words es is → AreCounted words es is
indices_size page_state words [] [] trees h = record { count = refl; pairs_count = omega arith }
indices_size page_state words [] (i ∷ is) trees h = absurd h
indices_size page_state words (e ∷ es) [] trees h = absurd h
indices_size page_state words (e ∷ es) (i ∷ is) trees h =
    let rest = indices_size page_state words es is (λ j d lt. trees (suc j) d (omega (arith, lt))) h.1 in
    let here = index_size (pairs words e.root) i.1 (tree_rising page_state words e.root (trees 0 0 (omega arith))) h.0.keys in
    record {
      count = omega (arith, rest.count);
      pairs_count = omega (arith, rest.pairs_count, here, length-append (pairs words e.root) (pairs_of_all words (map (λ e. e.root) es)), sum_by-cons (λ (a : List ℕ × Index). fin.len a.1.pairs) i is);
    }

-- the number of a version's pages
pub version_size : (page_state : ℕ → PageState) (words : ℕ → ℕ → ℕ) (page : ℕ) (volume : State) → IsVersion page_state words page volume
    → 5 * length (reach words page) ≤ items volume + 4 * fin.len volume.indices + 9
version_size page_state words page volume version =
    let c = contents_of (words page) in
    let trees = version.in_hand.trees.each in
    let forest = forest_size page_state words (roots c) trees in
    let catalog = catalog_size (pairs words c.catalog) volume.nodes (tree_rising page_state words c.catalog (trees 0 0 (omega arith))) version.encodes.catalog in
    let indices = indices_size page_state words c.entries (fin.entries volume.indices) (λ j d lt. trees (suc j) d (omega (arith, lt))) version.encodes.indices in
    omega (
      arith,
      forest,
      catalog,
      indices.count,
      indices.pairs_count,
      fin.len-entries volume.indices,
      length-append (pairs words c.catalog) (pairs_of_all words (map (λ e. e.root) c.entries)),
      length-map c.entries (λ e. e.root),
    )
