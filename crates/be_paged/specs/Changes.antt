-- What a write does to the contents in hand, and to the version that it started from.
use Rattle.std.specs.Prelude.{◌≡◌, ◌⊎◌, ℕ, ◌+◌, ◌^◌, ◌<◌, ◌≤◌, List, [], All, Some, IsTrue, IsOk}
use Rattle.std.specs.Prelude.{Ok, Err, true}
use Rattle.std.specs.FinMap as map
use Rattle.std.specs.declared.option.Option.{Option}
use Rattle.std.specs.declared.option.Option.TheVariants as options
use Rattle.be_value.specs.Value.{kind_of, is_indexable}
use Rattle.be_value.specs.declared.refusals.Refusal.{Refusal}
use Rattle.be_value.specs.declared.values.Kind.{Kind}
use Rattle.be_value.specs.declared.values.Value.{Value}
use Rattle.be_pages.specs.declared.room.PageState.{PageState}
use Rattle.be_pages.specs.declared.room.PageState.TheVariants.{Filled}
use Rattle.be_pages.specs.Pages.{Swaps, KeepsStart, IsUnchanged}
use Rattle.be_pages.specs.Refusal.{IsFullOf}
use Rattle.be_tree_reading.specs.Forest.{pages_of}
use Rattle.be_tree_reading.specs.Key.{put, without}
use Rattle.be_tree_reading.specs.Pair.{Pair}
use Rattle.be_value.specs.Key.{IsValue}
use Rattle.be_volume.specs.Indices.{Indices, paired, unpaired, with_pair, without_node}
use Rattle.be_volume.specs.Indices.{without_pair}
use Rattle.be_volume.specs.Maps.{attributes_of}
use Rattle.be_volume.specs.Sound.{IsSound}
use Rattle.be_volume.specs.Volume.{State, step, steps}
use Rattle.be_volume.specs.declared.maps.Index.{Index}
use Rattle.be_volume.specs.declared.ops.Done.{Done}
use Rattle.be_volume.specs.declared.ops.Done.TheVariants.{Unit as Nothing}
use Rattle.be_volume.specs.declared.ops.Op.{Op}
use Rattle.be_volume.specs.declared.ops.Op.TheVariants.{New, Set, MkIndex, Drop, Unset, RmIndex}
use Rattle.be_paged.specs.declared.changes.Turn.{Turn}
use Rattle.be_paged.specs.declared.changes.Turn.TheVariants as turns
use Rattle.be_paged_reading.specs.Page.{Contents, contents_of, roots, reach}
use Rattle.be_paged_reading.specs.Version.{IsInHand, IsVersion, Encodes}

-- an index without the node's pair, or with the pair of the node and a value
abbrev pub repaired : Index → ℕ → Option Value → Index
repaired index node options.None = unpaired index node
repaired index node (options.Some value) = paired index node value

-- the indices after that change to the index with this name
abbrev pub with_change : Indices → List ℕ → ℕ → Option Value → Indices
with_change indices name node options.None = without_pair indices name node
with_change indices name node (options.Some value) = with_pair indices name node value

-- the volume after that change to its indices; its nodes are unchanged
abbrev pub with_indices : State → List ℕ → ℕ → Option Value → State
with_indices s name node value = record {
  next = s.next;
  nodes = s.nodes;
  indices = with_change s.indices name node value;
}

-- a list of pairs without a key, if there is one to remove
abbrev pub key_taken : Option (List ℕ) → List Pair → List Pair
key_taken options.None pairs = pairs
key_taken (options.Some k) pairs = without k pairs

-- a list of pairs with a key that has no payload, if there is one to insert
abbrev pub key_put : Option (List ℕ) → List Pair → List Pair
key_put options.None pairs = pairs
key_put (options.Some k) pairs = put (record { key = k; payload = [] }) pairs

-- a list of pairs after a key is removed or inserted
abbrev pub key_turned : Turn → Option (List ℕ) → List Pair → List Pair
key_turned turns.Leaves key pairs = key_taken key pairs
key_turned turns.Enters key pairs = key_put key pairs

-- `left` is the volume without some of the node's attributes: without the node, both are the same
pub record Leaves (volume left : State) (node : ℕ) : Type 0 where
  pub sound : IsSound left
  pub there : map.contains_key left.nodes node ≡ true
  pub next : left.next ≡ volume.next
  pub nodes : map.remove left.nodes node ≡ map.remove volume.nodes node
  pub indices : without_node left.indices node ≡ without_node volume.indices node

-- what is known about an index before a node's pair changes: if the node has a pair, it is the old
-- value's
pub record IsReady (index : Index) (kind : Kind) (node : ℕ) (old : Option Value) : Type 0 where
  pub kind_is : index.kind ≡ kind
  pub indexable : IsTrue (is_indexable kind)
  pub fits : (n : ℕ) (value : Value) → map.get index.pairs n ≡ Some value → n < 2 ^ 64
  pub valid : (n : ℕ) (value : Value) → map.get index.pairs n ≡ Some value → IsValue value
      × (kind_of value ≡ kind)
  pub own : (value : Value) → map.get index.pairs node ≡ Some value → old ≡ Some value

-- contents in hand, with enough numbers left for `more` nodes
abbrev pub IsInHandFor : (page_state : ℕ → PageState) (words : ℕ → ℕ → ℕ) (more : ℕ) → Contents
    → Type 0
IsInHandFor page_state words more c = IsInHand page_state words c × (c.next + more < 2 ^ 64)

-- a write has changed the contents in hand, and exchanged the pages of their trees for those of the
-- new trees
pub record Changes {S K : Type 0} (kept_of : S → K) (page_state_of : S → ℕ → PageState)
    (words_of : S → ℕ → ℕ → ℕ)
    (before after : Contents) (old new : S) : Type 0 where
  pub in_hand : IsInHand (page_state_of new) (words_of new) after
  pub swaps : Swaps kept_of page_state_of words_of (pages_of (words_of old) (roots before))
      (pages_of (words_of new) (roots after)) old new

-- an accepted operation on contents in hand: they encode the volume after the step
pub record Steps (words : ℕ → ℕ → ℕ) (after : Contents) (volume : State) (op : Op) (done : Done) :
    Type 0 where
  pub made : State
  pub stepped : step volume op ≡ Ok (made, done)
  pub encodes : Encodes words after made

-- as in `Steps`, for a list of operations; the resulting volume is sound
pub record Reaches (words : ℕ → ℕ → ℕ) (after : Contents) (volume : State) (ops : List Op)
    (dones : List Done) : Type 0 where
  pub made : State
  pub stepped : steps volume ops ≡ Ok (made, dones)
  pub encodes : Encodes words after made
  pub sound : IsSound made

-- the contents encode the volume without some of a node's attributes, of which at most 64 - `gone`
-- remain
pub record IsThinned (words : ℕ → ℕ → ℕ) (c : Contents) (volume : State) (node gone : ℕ) : Type 0
  where
    pub left : State
    pub encodes : Encodes words c left
    pub leaves : Leaves volume left node
    pub counted : map.len (attributes_of left.nodes node) + gone ≤ 64

-- the contents encode the volume without any of a node's attributes; the node is still there
pub record IsBare (words : ℕ → ℕ → ℕ) (c : Contents) (volume : State) (node : ℕ) : Type 0 where
  pub left : State
  pub encodes : Encodes words c left
  pub leaves : Leaves volume left node
  pub bare : map.len (attributes_of left.nodes node) ≡ 0

-- the operation sets what is already set: it is a Set that leaves the volume unchanged, including
-- its indices
abbrev pub SetsSameValue : State → Op → Type 0
SetsSameValue volume New = ⊥
SetsSameValue volume (Set node name value) = step volume (Set node name value)
    ≡ Ok (volume, Nothing)
SetsSameValue volume (MkIndex name kind) = ⊥
SetsSameValue volume (Drop node) = ⊥
SetsSameValue volume (Unset node name) = ⊥
SetsSameValue volume (RmIndex name) = ⊥

-- The result of a list of operations on a version. The new version page encodes the volume after
-- the steps. The pages of the old version are exchanged for exactly those of the new one, each of
-- which is old or filled. This write has taken the new version page. If all operations set what is
-- already set, each index keeps its root.
pub record Applies {S K : Type 0} (kept_of : S → K) (page_state_of : S → ℕ → PageState)
    (words_of : S → ℕ → ℕ → ℕ)
    (page new_page : ℕ) (volume : State) (ops : List Op) (dones : List Done) (old new : S) : Type 0
  where
    pub made : State
    pub stepped : steps volume ops ≡ Ok (made, dones)
    pub version : IsVersion (page_state_of new) (words_of new) new_page made
    pub swaps : Swaps kept_of page_state_of words_of (reach (words_of old) page)
        (reach (words_of new) new_page) old new
    pub taken : page_state_of new new_page ≡ Filled
    pub stays : All (SetsSameValue volume) ops → (contents_of (words_of new new_page)).entries
        ≡ (contents_of (words_of old page)).entries

-- A list is refused in one of two ways. Either the steps refuse it with this error, and nothing has
-- changed. Or the steps accept it but no page was free, and undoing the write restores what was
-- there when it began.
abbrev pub IsRefusedList : {S K : Type 0} (kept_of : S → K) (page_state_of : S → ℕ → PageState)
    (words_of : S → ℕ → ℕ → ℕ) (full_of : S → ℕ → Type 0)
    (volume : State) (ops : List Op) (e : Refusal) (old new : S) → Type 0
IsRefusedList kept_of page_state_of words_of full_of volume ops e old new =
    ((steps volume ops ≡ Err e) × IsUnchanged kept_of page_state_of words_of old new)
    ⊎ (IsFullOf (full_of new) e × IsOk (steps volume ops)
    × KeepsStart kept_of page_state_of words_of old new)
