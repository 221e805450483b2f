-- What is written for nodes and names: a cell for each pair, and the bytes of all strings.
use Rattle.std.specs.Prelude.{◌≡◌, ◌≢◌, ◌≤◌, ◌⊎◌, ◌+◌, ◌*◌, ℕ, Bool, List, [], ◌∷◌, ◌++◌, None}
use Rattle.std.specs.Prelude.{Some, Ok, Err, IfNone, IfSome, length, take, drop, map as each}
use Rattle.std.specs.Prelude.{if◌then◌else◌}
use Rattle.std.specs.FinMap as map
use Rattle.std.specs.Int.{cast_unsigned, w64}
use Rattle.std.specs.Option.{option_map_or}
use Rattle.std.specs.declared.option.Option.{Option}
use Rattle.std.specs.declared.result.Result.{Result}
use Rattle.be_pages.specs.declared.room.PageState.{PageState}
use Rattle.be_tree_reading.specs.Cursor.{IsCursor, remaining}
use Rattle.be_tree_reading.specs.Page.{item_at}
use Rattle.be_tree_reading.specs.Pair.{Pair}
use Rattle.be_tree_reading.specs.Range.{pairs_from}
use Rattle.be_tree_reading.specs.Tree.{IsTree, pairs}
use Rattle.be_tree_reading.specs.declared.cursor.Cursor.{Cursor}
use Rattle.be_value.specs.Key.{IsValue}
use Rattle.be_value.specs.Refusal.{refusal_number}
use Rattle.be_value.specs.Value.{code_of, kind_of}
use Rattle.be_value.specs.declared.refusals.Refusal.{Refusal}
use Rattle.be_value.specs.declared.refusals.Refusal.TheVariants.{NoAttr, NoNode}
use Rattle.be_value.specs.declared.values.Value.{Value}
use Rattle.be_value.specs.declared.values.Value.TheVariants.{Cstr, Long, Llng, Mims, Rawt, Ulng}
use Rattle.be_value.specs.declared.values.Value.TheVariants.{Ullg}
use Rattle.be_volume.specs.Maps.{Nodes}
use Rattle.be_volume.specs.Volume.{State}
use Rattle.be_paged_reading.specs.Catalog.{IsCatalog, payload_of, value_at}
use Rattle.be_paged_reading.specs.Reading.{AreValid}
use Rattle.be_paged_reading.specs.declared.cells.Cell.{Cell}
use Rattle.be_paged_reading.specs.declared.cells.Filled.{Filled}
use Rattle.be_paged_reading.specs.declared.cells.HeldName.{HeldName}
use Rattle.be_paged_reading.specs.declared.rows.Row.{Row}

-- The items replace the first places of the list, as many as fit. All other places are unchanged.
abbrev pub over : {X : Type 0} → List X → List X → List X
over xs places = take (length places) xs ++ drop (length xs) places

-- The name in a caller's memory: the first `length` of its bytes.
abbrev pub name_in : HeldName → List ℕ
name_in held = take held.length held.bytes

-- The reason why a node has no attribute with a name: either the node doesn't exist, or it exists
-- without the attribute.
abbrev pub why_none : Bool → Refusal
why_none there = if there then NoAttr else NoNode

-- The node's value for the name, or the reason why there is none.
abbrev pub found_at : Nodes → ℕ → List ℕ → Result Value Refusal
found_at nodes node name = option_map_or (λ value. Ok value) (value_at nodes node name)
    (Err (why_none (map.contains_key nodes node)))

-- `found_at` for each node and each name: all names of the first node, then those of the second,
-- and so on.
abbrev pub found_in : Nodes → List ℕ → List (List ℕ) → List (Result Value Refusal)
found_in nodes [] names = []
found_in nodes (node ∷ rest) names = each (found_at nodes node) names ++ found_in nodes rest names

-- The bytes of a string or of raw bytes. A number has none.
abbrev pub data_of : Value → List ℕ
data_of (Cstr text) = text
data_of (Long n) = []
data_of (Llng n) = []
data_of (Mims text) = text
data_of (Rawt bytes) = bytes
data_of (Ulng n) = []
data_of (Ullg n) = []

-- A number, in two's complement if it is signed. For a string it is 0.
abbrev pub number_of : Value → ℕ
number_of (Cstr text) = 0
number_of (Long n) = cast_unsigned w64 n
number_of (Llng n) = cast_unsigned w64 n
number_of (Mims text) = 0
number_of (Rawt bytes) = 0
number_of (Ulng n) = n
number_of (Ullg n) = n

abbrev pub data_in : Result Value Refusal → List ℕ
data_in (Ok value) = data_of value
data_in (Err why) = []

-- The cell for a result whose bytes begin at an offset. If the result is an error, the cell
-- contains the error's number.
abbrev pub cell_of : ℕ → Result Value Refusal → Cell
cell_of offset (Ok value) = record {
  error = 0;
  code = code_of (kind_of value);
  number = number_of value;
  offset = offset;
  length = length (data_of value);
}
cell_of offset (Err why) = record {
  error = refusal_number why;
  code = 0;
  number = 0;
  offset = offset;
  length = 0;
}

-- The bytes of all results, one after another.
abbrev pub all_data : List (Result Value Refusal) → List ℕ
all_data [] = []
all_data (x ∷ xs) = data_in x ++ all_data xs

-- The cells for all results. The bytes of each result begin after those of the previous one.
abbrev pub cells_from : ℕ → List (Result Value Refusal) → List Cell
cells_from offset [] = []
cells_from offset (x ∷ xs) = cell_of offset x ∷ cells_from (offset + length (data_in x)) xs

-- The cells and bytes of the results have been written, as many as there was room for. `filled` has
-- the total numbers of both.
pub record AreReported (found : List (Result Value Refusal)) (cell_places cells : List Cell)
    (byte_places bytes : List ℕ) (filled : Filled) : Type 0 where
  pub cells_are : cells ≡ over (cells_from 0 found) cell_places
  pub bytes_are : bytes ≡ over (all_data found) byte_places
  pub cell_count : filled.cells ≡ length found
  pub byte_count : filled.bytes ≡ length (all_data found)

-- The counts are so small that no sum of them overflows.
pub record IsFew (filled : Filled) : Type 0 where
  pub few : filled.bytes ≤ 512 * filled.cells

-- The cursor is either past all pairs, or before those that start at some key.
abbrev pub IsAmong : (words : ℕ → ℕ → ℕ) (root : ℕ) → Cursor → Type 0
IsAmong words root cursor =
    (remaining words cursor ≡ []) ⊎ ((from : List ℕ) × (after : Bool)
    × (remaining words cursor ≡ pairs_from (pairs words root) from after))

-- If there is a first pair, its key is a different one.
abbrev pub StartsElsewhere : List ℕ → List Pair → Type 0
StartsElsewhere key [] = Unit {0}
StartsElsewhere key (x ∷ xs) = x.key ≢ key

-- The cursor can continue, and it is in this tree.
pub record WalksIn (page_state : ℕ → PageState) (words : ℕ → ℕ → ℕ) (root : ℕ) (cursor : Cursor) :
    Type 0 where
  pub walks : IsCursor page_state words cursor
  pub among : IsAmong words root cursor

-- What is known about a row of the catalog tree: the position of the cursor, and possibly whether
-- the node exists.
pub record IsInRow (page_state : ℕ → PageState) (words : ℕ → ℕ → ℕ) (row : Row) : Type 0 where
  pub tree : IsTree page_state words row.catalog
  pub cursor : WalksIn page_state words row.catalog row.cursor
  pub is_known : (nodes : Nodes) → IsCatalog (pairs words row.catalog) nodes → AreValid nodes
      → IfSome row.known (λ there. there ≡ map.contains_key nodes row.node)

-- The row continues with the same node.
pub record GoesOn (page_state : ℕ → PageState) (words : ℕ → ℕ → ℕ) (old new : Row) : Type 0 where
  pub in_row : IsInRow page_state words new
  pub same_catalog : new.catalog ≡ old.catalog
  pub same_node : new.node ≡ old.node

-- For each node and each name, the cell for the node's value in the volume has been written, and so
-- have the bytes of all strings, as many of both as there was room for. `needed` is the total
-- length of the strings.
pub record ReportsColumns (volume : State) (nodes : List ℕ) (names : List (List ℕ))
    (cell_places cells : List Cell) (byte_places bytes : List ℕ) (needed : ℕ) : Type 0 where
  pub cells_are : cells ≡ over (cells_from 0 (found_in volume.nodes nodes names)) cell_places
  pub bytes_are : bytes ≡ over (all_data (found_in volume.nodes nodes names)) byte_places
  pub needed_is : needed ≡ length (all_data (found_in volume.nodes nodes names))

-- What reading an attribute writes: its cell, and as many of its bytes as there is room for. For a
-- missing attribute it writes nothing.
abbrev pub IsReadInto : Option Value → Option Cell → List ℕ → List ℕ → Type 0
IsReadInto None reported places bytes = (reported ≡ None) × (bytes ≡ places)
IsReadInto (Some value) reported places bytes = IsValue value
    × (reported ≡ Some (cell_of 0 (Ok value)))
    × (bytes ≡ over (data_of value) places)

-- The node has an attribute with this name, and the attribute's value has this payload.
pub record HasPayload (nodes : Nodes) (node : ℕ) (name payload : List ℕ) : Type 0 where
  pub value : Value
  pub there : value_at nodes node name ≡ Some value
  pub is_value : IsValue value
  pub is : payload ≡ payload_of value

-- If looking up a node's attribute found an item, the payload of the item is that of the attribute.
abbrev pub IsValuePlace : (old new : ℕ → ℕ → ℕ) (catalog node : ℕ) (name : List ℕ)
    → Option (ℕ × ℕ) → Type 0
IsValuePlace old new catalog node name place = (nodes : Nodes) → IsCatalog (pairs old catalog) nodes
    → AreValid nodes
    → IfSome place (λ at. HasPayload nodes node name (item_at (new at.0) at.1).payload)

-- If looking up a node's attribute found no item, the node has no such attribute.
abbrev pub IsValueAbsent : (words : ℕ → ℕ → ℕ) (catalog node : ℕ) (name : List ℕ)
    → Option (ℕ × ℕ) → Type 0
IsValueAbsent words catalog node name place = (nodes : Nodes)
    → IsCatalog (pairs words catalog) nodes → AreValid nodes
    → IfNone place (value_at nodes node name ≡ None)

-- The call writes these results, which depend on the nodes in the catalog, after what has already
-- been written.
abbrev pub Reports : (words : ℕ → ℕ → ℕ) (catalog : ℕ) → (Nodes → List (Result Value Refusal))
    → (old_cells new_cells : List Cell) (old_bytes new_bytes : List ℕ) (old new : Filled) → Type 0
Reports words catalog answers old_cells new_cells old_bytes new_bytes old new = (nodes : Nodes)
    → IsCatalog (pairs words catalog) nodes → AreValid nodes
    → (found : List (Result Value Refusal)) (cell_places : List Cell) (byte_places : List ℕ)
    → AreReported found cell_places old_cells byte_places old_bytes old
    → AreReported (found ++ answers nodes) cell_places new_cells byte_places new_bytes new
