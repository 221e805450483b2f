-- What an index reader for a version knows and remembers.
use Rattle.std.specs.Prelude.{◌≡◌, ℕ, ◌<◌, ◌&&◌, Bool, IfSome, IfNone, List, Some, true}
use Rattle.std.specs.Prelude.{◌++◌, is_some, length, slice_index_or, take}
use Rattle.std.specs.declared.option.Option.{Option}
use Rattle.be_pages.specs.declared.room.PageState.{PageState}
use Rattle.be_tree_reading.specs.Page.{IsReadableAt, item_at}
use Rattle.be_tree_reading.specs.Cursor.{IsCursor, remaining}
use Rattle.be_tree_reading.specs.Key.{payload_at}
use Rattle.be_tree_reading.specs.Pair.{Pair}
use Rattle.be_tree_reading.specs.Range.{pairs_from}
use Rattle.be_tree_reading.specs.Tree.{pairs}
use Rattle.be_tree_reading.specs.Way.{numbers_in, walk_of}
use Rattle.be_tree_reading.specs.declared.cursor.Cursor.{Cursor}
use Rattle.be_tree_reading.specs.declared.way.Way.{Way}
use Rattle.be_plan.specs.KeyTests.{reads_texts}
use Rattle.be_plan.specs.declared.keytests.KeyTest.{KeyTest}
use Rattle.be_value.specs.Key.{IsValue, key}
use Rattle.be_value.specs.Value.{kind_of, is_indexable}
use Rattle.be_value.specs.declared.values.Kind.TheVariants.{Cstr}
use Rattle.be_value.specs.declared.values.Value.{Value}
use Rattle.be_volume.specs.Volume.{State}
use Rattle.be_paged_reading.specs.Catalog.{payload_of}
use Rattle.be_paged_reading.specs.Entry.{Entry}
use Rattle.be_paged_reading.specs.Page.{contents_of, IsGapAt, IsNamedAt}
use Rattle.be_paged_reading.specs.KeyTests.{nodes_passing}
use Rattle.be_paged_reading.specs.Version.{IsVersion}
use Rattle.be_paged_reading.specs.declared.on_page.FoundIndex.{FoundIndex}

-- If a lookup found a location, there is a readable item at it.
abbrev pub HasItem : (page_state : ℕ → PageState) (words : ℕ → ℕ → ℕ) → Option (ℕ × ℕ) → Type 0
HasItem page_state words place = IfSome place (λ at. IsReadableAt page_state words at.0 at.1)

-- The cursor is in the tree of the index at this position, just past the key of the last item. If
-- there is no index at this position, the cursor is in no tree.
pub record LiesAfter (page_state : ℕ → PageState) (words : ℕ → ℕ → ℕ) (entries : List Entry)
    (cursor : Cursor) (place : ℕ) (last_page last_at : ℕ) : Type 0 where
  pub can_go_on : place < length entries → IsCursor page_state words cursor
  pub last : place < length entries → IsReadableAt page_state words last_page last_at
  pub rest : (d : Entry) → place < length entries → remaining words cursor
      ≡ pairs_from (pairs words (slice_index_or entries place d).root)
      (item_at (words last_page) last_at).key true

-- The index with this name among the entries, or None if there is no such index.
pub record IsFound (entries : List Entry) (name : List ℕ) (found : Option FoundIndex) : Type 0 where
  pub named : IfSome found (λ index. IsNamedAt entries name index.place)
  pub kind : IfSome found (λ index. (d : Entry) → index.kind
      ≡ (slice_index_or entries index.place d).kind)
  pub root : IfSome found (λ index. (d : Entry) → index.root
      ≡ (slice_index_or entries index.place d).root)
  pub absent : IfNone found ((i : ℕ) × IsGapAt entries name i)

-- What is remembered about an index matches the entries.
pub record IsIndexOf (entries : List Entry) (index : FoundIndex) : Type 0 where
  pub in_range : index.place < length entries
  pub kind : (d : Entry) → index.kind ≡ (slice_index_or entries index.place d).kind
  pub root : (d : Entry) → index.root ≡ (slice_index_or entries index.place d).root

-- The numbers of the first `most` keys on a way over the index with this name were added to the
-- list, in the order of the way. If there is no such index, the list is unchanged.
pub record HasNumbers (words : ℕ → ℕ → ℕ) (entries : List Entry) (name : List ℕ) (way : Way)
    (most : ℕ) (before after : List ℕ) : Type 0 where
  pub index : Option FoundIndex
  pub found : IsFound entries name index
  pub added : IfSome index (λ i. after
      ≡ before ++ numbers_in (take most (walk_of way (pairs words i.root))))
  pub same : IfNone index (after ≡ before)

abbrev pub IsKnown : List Entry → Option FoundIndex → Type 0
IsKnown entries known = IfSome known (λ last. IsIndexOf entries last)

-- Whether the pairs of the index contain the key for the value and the node.
abbrev pub has_pair : List Pair → ℕ → Value → Bool
has_pair items node v = is_indexable (kind_of v) && is_some (payload_at items (key v node))

-- Whether an index has a pair for the node and the value that an item encodes.
abbrev pub DecidesPair : (words : ℕ → ℕ → ℕ) (index node page at : ℕ) → Bool → Type 0
DecidesPair words index node page at has = (v : Value) → IsValue v
    → (item_at (words page) at).payload ≡ payload_of v
    → has ≡ has_pair (pairs words index) node v

-- The page encodes the volume, what is remembered matches that page, and the cursor is where
-- `place` and the last item say.
pub record SourceOf (page_state : ℕ → PageState) (words : ℕ → ℕ → ℕ) (page : ℕ)
    (known : Option FoundIndex)
    (cursor : Cursor) (place : ℕ) (last_page last_at : ℕ) (volume : State) : Type 0 where
  pub version : IsVersion page_state words page volume
  pub known_is : IsKnown (contents_of (words page)).entries known
  pub beyond : LiesAfter page_state words (contents_of (words page)).entries cursor place last_page
      last_at

-- A walk over the index with this name has tested its keys. The list contains the nodes of the
-- first `most` keys that pass, in the order of the way. If the test reads strings, the index
-- contains strings.
pub record HasPassing (words : ℕ → ℕ → ℕ) (entries : List Entry) (name : List ℕ) (way : Way)
    (test : KeyTest) (most : ℕ) (nodes : List ℕ) : Type 0 where
  pub index : FoundIndex
  pub found : IsFound entries name (Some index)
  pub has_texts : reads_texts test ≡ true → index.kind ≡ Cstr
  pub nodes_are : nodes ≡ take most (nodes_passing test (walk_of way (pairs words index.root)))
