-- Answers in the order of an index, one page at a time.
--
-- An index contains a pair (value, node) for each node in it. Pairs are ordered by value, and pairs
-- with the same value by node. The bytes of their keys have the same order (`key_order` of
-- be_value), so keys represent pairs here.
use Rattle.std.specs.Prelude.{◌≡◌, ℕ, ◌<◌, ◌^◌, Bool, true, List, [], ◌∷◌, ◌++◌, Some}
use Rattle.std.specs.Prelude.{flat_map, filter, map as each, length, nat_lt, take, if◌then◌else◌}
use Rattle.std.specs.FinMap as map
use Rattle.std.specs.Option.{option_map, option_map_or}
use Rattle.std.specs.Ordering.{is_lt}
use Rattle.std.specs.Result.{result_map_both}
use Rattle.std.specs.Int.{to_be_bytes, w64}
use Rattle.std.specs.declared.cmp.Ordering.{Ordering}
use Rattle.std.specs.declared.option.Option.{Option}
use Rattle.std.specs.declared.result.Result.{Result}
use Rattle.std.specs.declared.result.Result.TheVariants.{Err}
use Rattle.arrayvec.specs.ArrayVec.{ArrayVec}
use Rattle.be_value.specs.Key.{key}
use Rattle.be_value.specs.declared.refusals.Refusal.{Refusal}
use Rattle.be_value.specs.declared.refusals.Refusal.TheVariants.{NoSuchIndex}
use Rattle.be_query.specs.Grammar.{Formula}
use Rattle.be_volume.specs.Maps.{name_cmp}
use Rattle.be_volume.specs.Query.{has_index, scan, sees}
use Rattle.be_volume.specs.Volume.{State}

-- Compares keys bytewise, in reverse if `descending` is true.
abbrev pub key_cmp : Bool → List ℕ → List ℕ → Ordering
key_cmp descending a b = if descending then name_cmp b a else name_cmp a b

-- The node with the key of its pair in the index of `by`, or the empty list if the index has no
-- pair for it.
abbrev pub keyed : State → List ℕ → ℕ → List (List ℕ × ℕ)
keyed s by node = option_map_or (λ value. (key value node, node) ∷ []) (sees s node by) []

-- Those nodes that have a pair in the index, each with its key, in the order of the keys.
abbrev pub in_order : State → List ℕ → Bool → List ℕ → List (List ℕ × ℕ)
in_order s by descending nodes = map.entries
    (map.from_entries {R = key_cmp descending} (flat_map (keyed s by) nodes))

-- The whole answer: the nodes of the scan in the order of the index, or NoSuchIndex if the name has
-- no index.
abbrev pub ordered : State → Formula → List ℕ → Bool → Result (List (List ℕ × ℕ)) Refusal
ordered s f by descending = if has_index s by
    then result_map_both (in_order s by descending) (λ e. e) (scan s f) else Err NoSuchIndex

-- The key comes strictly after the cursor, or there is no cursor.
abbrev pub is_after : Bool → Option (List ℕ) → List ℕ → Bool
is_after descending cursor k = option_map_or (λ c. is_lt (key_cmp descending c k)) cursor true

-- A page of an answer: its nodes, whether more nodes follow, and the cursor to continue from.
pub record Page : Type 0 where
  pub nodes : List ℕ
  pub more : Bool
  pub cursor : Option (List ℕ)

-- The keys of an answer.
abbrev pub keys_of : List (List ℕ × ℕ) → List (List ℕ)
keys_of es = each (λ e. e.0) es

-- The nodes of an answer.
abbrev pub nodes_of : List (List ℕ × ℕ) → List ℕ
nodes_of es = each (λ e. e.1) es

-- The last of the keys, or the old cursor if there are no keys.
abbrev pub cursor_at : Option (List ℕ) → List (List ℕ) → Option (List ℕ)
cursor_at cursor [] = cursor
cursor_at cursor (k ∷ ks) = cursor_at (Some k) ks

-- The entries that come strictly after the cursor.
abbrev pub after : Bool → Option (List ℕ) → List (List ℕ × ℕ) → List (List ℕ × ℕ)
after descending cursor = filter (λ e. is_after descending cursor e.0)

-- The page of the first `most` entries.
abbrev pub page_of : Option (List ℕ) → ℕ → List (List ℕ × ℕ) → Page
page_of cursor most es = record {
  nodes = nodes_of (take most es);
  more = nat_lt most (length es);
  cursor = cursor_at cursor (keys_of (take most es));
}

-- The page of the whole answer that starts after the cursor.
abbrev pub page : State → Formula → List ℕ → Bool → Option (List ℕ) → ℕ → Result Page Refusal
page s f by descending cursor most = result_map_both
    (λ es. page_of cursor most (after descending cursor es)) (λ e. e) (ordered s f by descending)

-- A page with these nodes that leaves this cursor.
abbrev pub page_with : List ℕ → Option (List ℕ) → Bool → Page
page_with nodes cursor more = record { nodes = nodes; more = more; cursor = cursor }

-- The bytes of the cursor, if there is one.
abbrev pub cursor_bytes : Option (ArrayVec ℕ) → Option (List ℕ)
cursor_bytes = option_map (λ k. k.items)

-- The bytes of the keys.
abbrev pub bytes_of : List (ArrayVec ℕ) → List (List ℕ)
bytes_of = each (λ k. k.items)

-- The key ends with this node.
pub record EndsWith (k : List ℕ) (node : ℕ) : Type 0 where
  pub front : List ℕ
  pub fits : node < 2 ^ 64
  pub is : k ≡ front ++ to_be_bytes w64 node

-- The key, if there is one and it comes after the cursor.
abbrev pub key_after : Bool → Option (List ℕ) → Option (List ℕ) → List (List ℕ)
key_after descending cursor k = option_map_or
    (λ k. if is_after descending cursor k then k ∷ [] else []) k []
