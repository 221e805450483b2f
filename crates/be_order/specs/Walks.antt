-- What a walk over an index finds, in the order of the index.
use Rattle.std.specs.Prelude.{◌≡◌, ◌⊎◌, ℕ, ◌≤◌, Bool, true, List, ◌++◌, length}
use Rattle.std.specs.List.{Contains}
use Rattle.std.specs.List.Sorted.{IsStrictlySortedBy}
use Rattle.std.specs.declared.option.Option.{Option}
use Rattle.std.specs.declared.cmp.Ordering.TheVariants.{Less}
use Rattle.be_query.specs.Grammar.{Formula}
use Rattle.be_volume.specs.Keys.{IsKey}
use Rattle.be_volume.specs.Query.{sat}
use Rattle.be_volume.specs.Volume.{State}
use Rattle.be_plan.specs.KeyTests.{passes_node}
use Rattle.be_plan.specs.Narrow.{Within}
use Rattle.be_plan.specs.declared.keytests.KeyTest.{KeyTest}
use Rattle.be_order.specs.Ordered.{is_after, key_cmp, keys_of, nodes_of}

-- The index of that name contains the key, which is from `low` to `high` and belongs to this node.
pub record IsEntry (s : State) (name low : List ℕ) (high : Option (List ℕ)) (k : List ℕ)
    (node : ℕ) : Type 0 where
  pub is_key : IsKey s name k
  pub within : Within low high k
  pub node_is : is_key.node ≡ node

-- These are the first `most` entries after the cursor, in order.
pub record AreFirst (Is : List ℕ → ℕ → Type 0) (descending : Bool) (cursor : Option (List ℕ))
    (most : ℕ) (es : List (List ℕ × ℕ)) : Type 0 where
  pub rising : IsStrictlySortedBy (key_cmp descending) (keys_of es)
  pub few : length es ≤ most
  pub only : (k : List ℕ) (node : ℕ) → Contains es (k, node)
      → Is k node × (is_after descending cursor k ≡ true)
  pub all : (k : List ℕ) (node : ℕ) → Is k node → is_after descending cursor k ≡ true
      → Contains es (k, node) ⊎ ((length es ≡ most)
      × ((x : List ℕ) (n : ℕ) → Contains es (x, n) → key_cmp descending x k ≡ Less))

-- The nodes of the first `most` entries after the cursor were added to the list.
pub record HasWalked (Is : List ℕ → ℕ → Type 0) (descending : Bool) (cursor : Option (List ℕ))
    (most : ℕ) (before after : List ℕ) : Type 0 where
  pub entries : List (List ℕ × ℕ)
  pub first : AreFirst Is descending cursor most entries
  pub added : after ≡ before ++ nodes_of entries

-- The entry's node passes a test.
abbrev pub IsPassing : State → List ℕ → List ℕ → Option (List ℕ) → KeyTest → List ℕ → ℕ → Type 0
IsPassing s name low high test k node = IsEntry s name low high k node
    × (passes_node s name test node ≡ true)

-- The index of that name has a pair for the node.
abbrev pub IsHeld : State → List ℕ → ℕ → Type 0
IsHeld s name node = (k : List ℕ) × (h : IsKey s name k) × (h.node ≡ node)

abbrev pub AreHeld : State → List ℕ → List ℕ → Type 0
AreHeld s name nodes = (n : ℕ) → Contains nodes n → IsHeld s name n

-- Every node of the keys from `low` to `high` satisfies the formula.
abbrev pub HasAllWithin : State → Formula → List ℕ → List ℕ → Option (List ℕ) → Type 0
HasAllWithin s f name low high = (k : List ℕ) (h : IsKey s name k) → Within low high k
    → sat s f h.node ≡ true
