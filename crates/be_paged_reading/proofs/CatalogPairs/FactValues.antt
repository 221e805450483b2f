-- What the trees of a loaded version say about its volume.
use Rattle.std.proofs.Common.{◌≡◌, ℕ, ◌<◌, ◌^◌, Bool, true, false, unwrap_or, List, [], ◌∷◌, length, Some, None, Ok, Err, ap, sym, subst, ◌∙◌, refl, is_some}
use Rattle.std.specs.Int.{to_be_bytes, w64}
use Rattle.std.specs.Option.{option_map, option_map_or, option_or}
use Rattle.std.specs.Result.{IfOk, IfErr, is_ok}
use Rattle.std.specs.declared.option.Option.{Option}
use Rattle.std.specs.declared.result.Result.{Result}
use Rattle.std.specs.FinMap as fin
use Rattle.std.proofs.lemmas.List.{append-nil}
use Rattle.be_value.specs.Name.{name_from}
use Rattle.be_value.specs.Key.{IsValue}
use Rattle.be_value.specs.declared.values.Value.{Value}
use Rattle.be_pages.specs.declared.room.PageState.{PageState}
use Rattle.be_tree_reading.specs.Pair.{Pair}
use Rattle.be_tree_reading.specs.Key.{payload_at}
use Rattle.be_value.specs.declared.refusals.Refusal.TheVariants.{NoNode}
use Rattle.be_volume.specs.Maps.{Nodes, Attributes, attributes_of, name_cmp}
use Rattle.be_volume.specs.Reading.{attributes_at}
use Rattle.be_volume.specs.Volume.{State}
use Rattle.be_volume.specs.Indices.{Indices}
use Rattle.be_paged_reading.specs.Entry.{Entry}
use Rattle.be_paged_reading.specs.Facts.{FactsOf, IsCounted}
use Rattle.be_paged_reading.specs.Page.{Contents, IsNamedAt, IsGapAt}
use Rattle.be_paged_reading.specs.Place.{IsFoundAt}
use Rattle.be_paged_reading.specs.Catalog.{catalog_key, payload_of, value_at, stored, IsCatalog}
use Rattle.be_paged_reading.specs.Reading.{AreValid}
use Rattle.be_paged_reading.specs.declared.asked.Asked.{Asked}
use Rattle.be_paged_reading.specs.Version.{AreEntriesOf}
use Rattle.be_paged_reading.proofs.CatalogPairs.Places.{asked_or}
use Rattle.be_paged_reading.proofs.CatalogPairs.Segments.{value_there}
use Rattle.be_paged_reading.proofs.CatalogPairs.Validity.{named}
use Rattle.be_paged_reading.proofs.IndexEntries.Indexing.{entries_len, named_found, gap_none}

mapped : {A B : Type 0} (f : A → B) (a : Option A) → is_some (option_map f a) ≡ is_some a
mapped f None = refl
mapped f (Some a) = refl

pub node_there : (items : List Pair) (nodes : Nodes) (node : ℕ) (k : List ℕ) → IsCatalog items nodes → node < 2 ^ 64 → k ≡ to_be_bytes w64 node → is_some (payload_at items k) ≡ fin.contains_key nodes node
node_there items nodes node k catalog fits e =
    ap (λ q. is_some (payload_at items q)) (e ∙ sym (append-nil (to_be_bytes w64 node))) ∙ ap is_some (catalog.each node [] fits) ∙ mapped _ (fin.get nodes node)

pub stored_there : (nodes : Nodes) (node : ℕ) (name : List ℕ) → name_from name ≡ Ok name → stored nodes node name ≡ option_map payload_of (value_at nodes node name)
stored_there nodes node [] ok = absurd (named [] ok refl)
stored_there nodes node (c ∷ name) ok = refl

-- The payload at the key for a node and a name.
stored_at : (items : List Pair) (nodes : Nodes) (node : ℕ) (name k : List ℕ) → IsCatalog items nodes → node < 2 ^ 64 → name_from name ≡ Ok name → k ≡ catalog_key node name
    → payload_at items k ≡ option_map payload_of (value_at nodes node name)
stored_at items nodes node name k catalog fits ok e = ap (payload_at items) e ∙ catalog.each node name fits ∙ stored_there nodes node name ok

-- If there is no payload, the node has no value.
pub value_absent : (items : List Pair) (nodes : Nodes) (node : ℕ) (name k : List ℕ) → IsCatalog items nodes → node < 2 ^ 64 → name_from name ≡ Ok name → k ≡ catalog_key node name
    → payload_at items k ≡ None → None ≡ value_at nodes node name
value_absent items nodes node name k catalog fits ok e none = by (value_at nodes node name) (sym none ∙ stored_at items nodes node name k catalog fits ok e)
  where
    by : (v : Option Value) → None ≡ option_map payload_of v → None ≡ v
    by None h = refl
    by (Some v) h = cc

-- If `read` decodes the payload of every value, it decodes the payload found there to the node's
-- value.
pub value_read : (items : List Pair) (nodes : Nodes) (node : ℕ) (name k payload : List ℕ) (read : Option Value) → IsCatalog items nodes → AreValid nodes → node < 2 ^ 64 → name_from name ≡ Ok name
    → k ≡ catalog_key node name → payload_at items k ≡ Some payload → ((v : Value) → IsValue v → payload ≡ payload_of v → read ≡ Some v) → read ≡ value_at nodes node name
value_read items nodes node name k payload read catalog valid fits ok e there reads =
    by (value_at nodes node name) (λ v is. (valid node name v is).1) (sym there ∙ stored_at items nodes node name k catalog fits ok e)
  where
    by : (v : Option Value) → ((w : Value) → v ≡ Some w → IsValue w) → Some payload ≡ option_map payload_of v → read ≡ v
    by None all h = cc
    by (Some v) all h = reads v (all v refl) (ap (λ o. unwrap_or o []) h)

pub attribute_there : (items : List Pair) (nodes : Nodes) (node : ℕ) (name k : List ℕ) → IsCatalog items nodes → node < 2 ^ 64 → name_from name ≡ Ok name → k ≡ catalog_key node name
    → is_some (payload_at items k) ≡ fin.contains_key (attributes_of nodes node) name
attribute_there items nodes node name k catalog fits ok e =
    ap (λ q. is_some (payload_at items q)) e ∙ ap is_some (catalog.each node name fits ∙ stored_there nodes node name ok) ∙ mapped payload_of (value_at nodes node name)
    ∙ ap is_some (sym (value_there nodes node name))

pub index_there : (w : ℕ → ℕ → ℕ) (es : List Entry) (m : Indices) (name : List ℕ) (r : Result ℕ ℕ) → AreEntriesOf w es (fin.entries m) → IfOk r (IsNamedAt es name) → IfErr r (IsGapAt es name)
    → is_ok r ≡ fin.contains_key m name
index_there w es m name (Ok i) h found absent = sym (ap is_some (fin.get-entries m name ∙ (named_found w es (fin.entries m) name i h found).found))
index_there w es m name (Err i) h found absent = sym (ap is_some (fin.get-entries m name ∙ gap_none w es (fin.entries m) name i h (fin.entries_sorted m) absent))

pub index_count : (w : ℕ → ℕ → ℕ) (es : List Entry) (m : Indices) → AreEntriesOf w es (fin.entries m) → length es ≡ fin.len m
index_count w es m h = entries_len w es (fin.entries m) h ∙ sym (fin.len-entries m)

-- The attributes of a node that doesn't exist, and of one that does.
pub attributes_none : (s : State) (node : ℕ) → fin.contains_key s.nodes node ≡ false → attributes_at s node ≡ Err NoNode
attributes_none s node = by (fin.get s.nodes node)
  where
    by : (a : Option Attributes) → is_some a ≡ false → option_map_or (λ (b : Attributes). Ok (fin.entries b)) a (Err NoNode) ≡ Err NoNode
    by None h = refl
    by (Some a) h = cc

pub attributes_some : (s : State) (node : ℕ) → fin.contains_key s.nodes node ≡ true → attributes_at s node ≡ Ok (fin.entries (attributes_of s.nodes node))
attributes_some s node = by (fin.get s.nodes node)
  where
    by : (a : Option Attributes) → is_some a ≡ true → option_map_or (λ (b : Attributes). Ok (fin.entries b)) a (Err NoNode) ≡ Ok (fin.entries (unwrap_or a fin.empty))
    by None h = cc
    by (Some a) h = refl

-- A node without attributes has none with this name.
pub no_attribute : (nodes : Nodes) (node : ℕ) (name : List ℕ) → fin.len (attributes_of nodes node) ≡ 0 → fin.contains_key (attributes_of nodes node) name ≡ false
no_attribute nodes node name bare = ap (λ (a : Attributes). is_some (fin.get a name)) (fin.empty_of_len (attributes_of nodes node) bare) ∙ ap is_some (fin.get-empty name_cmp name)

-- The facts after pages were only read, with what is now remembered about a node.
pub facts_since : (s t : ℕ → PageState) (v w : ℕ → ℕ → ℕ) (c : Contents) (counted now : Option (ℕ × Option ℕ)) (asked : Option Asked) (volume : State) → t ≡ s → w ≡ v → FactsOf s v c counted asked volume
    → IsCounted now volume → FactsOf t w c now asked volume
facts_since s t v w c counted now asked volume page_state words of reported =
    let read : FactsOf t w c counted asked volume =
    subst (λ (u : ℕ → PageState). FactsOf u w c counted asked volume) (sym page_state) (subst (λ (x : ℕ → ℕ → ℕ). FactsOf s x c counted asked volume) (sym words) of) in
    record { reported = read.reported; counted_is = reported; asked_is = read.asked_is }

-- The facts after pages were only read, with what is now remembered about an attribute.
pub facts_asked : (s t : ℕ → PageState) (v w : ℕ → ℕ → ℕ) (c : Contents) (counted : Option (ℕ × Option ℕ)) (asked : Option Asked) (last : Asked) (volume : State) → t ≡ s → w ≡ v → FactsOf s v c counted asked volume
    → IsFoundAt t w c.catalog (catalog_key last.node last.name) last.place → FactsOf t w c counted (option_or asked (Some last)) volume
facts_asked s t v w c counted asked last volume page_state words of found =
    let read = facts_since s t v w c counted counted asked volume page_state words of of.counted_is in
    record { reported = read.reported; counted_is = read.counted_is; asked_is = asked_or t w c.catalog asked last read.asked_is found }

-- What holds for every value with the payload found there holds for the node's value. Without a
-- value, it is false.
pub holds_read : (items : List Pair) (nodes : Nodes) (node : ℕ) (name k payload : List ℕ) (reported : Bool) (holds : Value → Bool) → IsCatalog items nodes → AreValid nodes → node < 2 ^ 64 → name_from name ≡ Ok name
    → k ≡ catalog_key node name → payload_at items k ≡ Some payload → ((v : Value) → IsValue v → payload ≡ payload_of v → reported ≡ holds v) → reported ≡ option_map_or holds (value_at nodes node name) false
holds_read items nodes node name k payload reported holds catalog valid fits ok e there reports =
    by (value_at nodes node name) (λ v is. (valid node name v is).1) (sym there ∙ stored_at items nodes node name k catalog fits ok e)
  where
    by : (v : Option Value) → ((w : Value) → v ≡ Some w → IsValue w) → Some payload ≡ option_map payload_of v → reported ≡ option_map_or holds v false
    by None all h = cc
    by (Some v) all h = reports v (all v refl) (ap (λ o. unwrap_or o []) h)
