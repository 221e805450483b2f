-- What a walk finds if it tests each node against the remaining condition of a query.
use Rattle.std.specs.Prelude.{◌≡◌, ◌⊎◌, ◌<◌, ◌&&◌, ℕ, Bool, true, false, not, List, [], ◌++◌}
use Rattle.std.specs.Prelude.{IfSome, Ok, Some, drop, filter, length, take}
use Rattle.std.specs.List.{Contains}
use Rattle.std.specs.FinMap as map
use Rattle.std.specs.List.Sorted.{IsStrictlyIncreasing}
use Rattle.std.specs.Ordering.{is_lt}
use Rattle.std.specs.declared.option.Option.{Option}
use Rattle.be_value.specs.declared.values.Kind.{Kind}
use Rattle.be_query.specs.Grammar.{And, Formula, Leaf, Literal, Or}
use Rattle.be_query.specs.declared.tree.Cmp.{Cmp}
use Rattle.be_volume.specs.Maps.{name_cmp}
use Rattle.be_volume.specs.Query.{covered, sat}
use Rattle.be_volume.specs.Volume.{State}
use Rattle.be_plan.specs.Bounding.{Bounding}
use Rattle.be_plan.specs.KeyTests.{passes_node}
use Rattle.be_plan.specs.Narrow.{is_above}
use Rattle.be_plan.specs.declared.keytests.KeyTest.{KeyTest}
use Rattle.be_order.specs.Ordered.{after, in_order, nodes_of, page, page_with}

-- Whether a key is in the range from `low` to `high`.
abbrev pub is_within : List ℕ → Option (List ℕ) → List ℕ → Bool
is_within low high k = not (is_lt (name_cmp k low)) && not (is_above high k)

-- All entries from `low` to `high` in the index of `by` that come after the cursor, in the order of
-- the index.
abbrev pub index_after : State → List ℕ → List ℕ → Option (List ℕ) → Bool → Option (List ℕ)
    → List (List ℕ × ℕ)
index_after s by low high descending cursor = after descending cursor
    (filter (λ e. is_within low high e.0) (in_order s by descending (map.keys s.nodes)))

-- The nodes of these entries that satisfy the formula.
abbrev pub true_after : State → Formula → List ℕ → List ℕ → Option (List ℕ) → Bool
    → Option (List ℕ) → List ℕ
true_after s f by low high descending cursor = filter (sat s f)
    (nodes_of (index_after s by low high descending cursor))

-- The nodes are those of the next part of the range, and the walk continues from the cursor `next`.
pub record IsPart (s : State) (by low : List ℕ) (high : Option (List ℕ)) (descending : Bool)
    (count : ℕ) (cursor next : Option (List ℕ)) (nodes : List ℕ) (more : Bool) : Type 0 where
  pub nodes_are : nodes ≡ nodes_of (take count (index_after s by low high descending cursor))
  pub rest_is : index_after s by low high descending next
      ≡ drop count (index_after s by low high descending cursor)
  pub ended : more ≡ false → drop count (index_after s by low high descending cursor) ≡ []

-- The nodes found are the first of all: either every one of them, or more than `most`.
pub record HasFront (most : ℕ) (all found : List ℕ) : Type 0 where
  pub rest : List ℕ
  pub parts : all ≡ found ++ rest
  pub enough : (rest ≡ []) ⊎ (most < length found)

-- These are the nodes on a page, the cursor after it, and whether more nodes follow. The page is
-- that of any query that the indices cover, if the keys from `low` to `high` reduce the query to
-- this remaining condition.
abbrev pub IsPageOfRest : State → Formula → List ℕ → Kind → List ℕ → Option (List ℕ) → Bool → ℕ
    → Option (List ℕ) → List ℕ → Option (List ℕ) → Bool → Type 0
IsPageOfRest s rest by kind low high descending most cursor nodes next more = (f : Formula)
    → covered s f ≡ true → Bounding f by kind low high (Some rest)
    → page s f by descending cursor most ≡ Ok (page_with nodes next more)

-- The list contains exactly the nodes that satisfy the formula, in ascending order.
pub record Lists (s : State) (f : Formula) (nodes : List ℕ) : Type 0 where
  pub rising : IsStrictlyIncreasing nodes
  pub only : (n : ℕ) → Contains nodes n → sat s f n ≡ true
  pub all : (n : ℕ) → sat s f n ≡ true → Contains nodes n

-- If the formula is a comparison, the test is that comparison.
abbrev pub IsTestOf : Formula → Cmp × Literal → Type 0
IsTestOf (Leaf name op literal) test = test ≡ (op, literal)
IsTestOf (And a b) test = Unit {0}
IsTestOf (Or a b) test = Unit {0}

-- The test, if there is one, is that of the formula, and the list, if there is one, contains
-- exactly the nodes that satisfy the formula.
abbrev pub IsAsked : State → Formula → Option (Cmp × Literal) → Option (List ℕ) → Type 0
IsAsked s f test nodes = IfSome test (IsTestOf f) × IfSome nodes (Lists s f)

-- In the index of that name, the test passes exactly the nodes that satisfy the formula.
abbrev pub IsTestFor : State → List ℕ → KeyTest → Formula → Type 0
IsTestFor s name test f = (n : ℕ) → passes_node s name test n ≡ sat s f n
