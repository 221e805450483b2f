-- What a walk over an index collects.
use Rattle.std.specs.Prelude.{◌≡◌, ◌⊎◌, ◌||◌, ℕ, Bool, true, false, List, Some, nat_eq, slice_get}
use Rattle.std.specs.Cmp.Lexicographic.{pointwise}
use Rattle.std.specs.List.{Contains}
use Rattle.std.specs.Ordering.{is_lt}
use Rattle.std.specs.declared.option.Option.{Option}
use Rattle.be_value.specs.declared.refusals.Refusal.{Refusal}
use Rattle.be_value.specs.declared.refusals.Refusal.TheVariants.{OutOfMemory, NotCovered}
use Rattle.be_value.specs.declared.values.Kind.{Kind}
use Rattle.be_value.specs.declared.values.Value.{Value}
use Rattle.be_query.specs.Grammar.{Formula, Leaf, And, Or}
use Rattle.be_query.specs.View.{formula}
use Rattle.be_plan.specs.Cover.{Comparison, leaves}
use Rattle.be_volume.specs.Maps.{name_cmp}
use Rattle.be_volume.specs.Query.{covered, sat, sees}
use Rattle.be_volume.specs.Volume.{State}
use Rattle.be_volume.specs.Keys.{IsKey, IsNextKey}
use Rattle.be_volume.specs.PairKeys.{is_at_or_after}
use Rattle.be_volume.specs.Reading.{index_kind}
use Rattle.be_plan.specs.Narrow.{Within, Allows, LeavesRest, high_of}
use Rattle.be_plan.specs.declared.walks.Walk.{Walk}

-- At least one comparison of the formula is on this name.
abbrev pub asks_name : Formula → List ℕ → Bool
asks_name (Leaf own op literal) name = pointwise nat_eq own name
asks_name (And a b) name = asks_name a name || asks_name b name
asks_name (Or a b) name = asks_name a name || asks_name b name

-- All comparisons of the formula are on this name, and none of them is under "or".
abbrev pub AreAllOn : Formula → List ℕ → Type 0
AreAllOn (Leaf own op literal) name = own ≡ name
AreAllOn (And a b) name = AreAllOn a name × AreAllOn b name
AreAllOn (Or a b) name = ⊥

-- All comparisons of the formula are on this name, none of them is under "or", and the name's index
-- has this kind.
pub record AreOnIndex (s : State) (f : Formula) (name : List ℕ) (kind : Kind) : Type 0 where
  pub named : AreAllOn f name
  pub kind_is : index_kind s name ≡ Some kind

-- The bytes are a key of the index of that name, and the index has this kind.
pub record IsKeyOfKind (s : State) (name : List ℕ) (kind : Kind) (bytes : List ℕ) : Type 0 where
  pub kind_is : index_kind s name ≡ Some kind
  pub is_key : IsKey s name bytes

-- The index of that name has this kind. A node with a key from `low` to `high` satisfies the
-- formula if and only if it satisfies the remaining condition.
pub record LeavesInIndex (s : State) (f : Formula) (name : List ℕ) (kind : Kind) (low : List ℕ)
    (high : Option (List ℕ)) (rest : Option Formula) : Type 0 where
  pub kind_is : index_kind s name ≡ Some kind
  pub leaves : LeavesRest f name kind low high rest

-- Every node that was in the list is still in it.
abbrev pub Keeps : List ℕ → List ℕ → Type 0
Keeps before after = (n : ℕ) → Contains before n → Contains after n

-- Every node in the list was there before or satisfies the formula.
abbrev pub AddsTrue : State → Formula → List ℕ → List ℕ → Type 0
AddsTrue s f before after = (n : ℕ) → Contains after n → Contains before n ⊎ (sat s f n ≡ true)

-- The list loses no node, and every node added to it satisfies the formula.
pub record Collects (s : State) (f : Formula) (before after : List ℕ) : Type 0 where
  pub keeps : Keeps before after
  pub only : AddsTrue s f before after

-- Every node that satisfies the formula has been found.
abbrev pub HasAllTrue : State → Formula → List ℕ → Type 0
HasAllTrue s f found = (n : ℕ) → sat s f n ≡ true → Contains found n

-- Every node in the list was there before, or is one of `nodes` and satisfies the formula.
abbrev pub AddsTrueOf : State → Formula → List ℕ → List ℕ → List ℕ → Type 0
AddsTrueOf s f nodes before after = (n : ℕ) → Contains after n → Contains before n
    ⊎ (Contains nodes n × (sat s f n ≡ true))

-- Every one of these nodes that satisfies the formula has been found.
abbrev pub HasTrueOf : State → Formula → List ℕ → List ℕ → Type 0
HasTrueOf s f nodes found = (n : ℕ) → Contains nodes n → sat s f n ≡ true → Contains found n

-- Either memory ran out, or the indices don't cover the query.
abbrev pub IsNoAnswer : State → Formula → Refusal → Type 0
IsNoAnswer s f e = (e ≡ OutOfMemory) ⊎ ((e ≡ NotCovered) × (covered s f ≡ false))

-- Every wanted node with a key from `low` to `high` has been found.
abbrev pub HasWanted : State → (ℕ → Type 0) → List ℕ → List ℕ → Option (List ℕ) → List ℕ → Type 0
HasWanted s Wanted name low high found = (k : List ℕ) (h : IsKey s name k) → Within low high k
    → Wanted h.node → Contains found h.node

-- Every node that satisfies the formula and has a key from `low` to `high` has been found.
abbrev pub HasWithin : State → Formula → List ℕ → List ℕ → Option (List ℕ) → List ℕ → Type 0
HasWithin s f = HasWanted s (λ n. sat s f n ≡ true)

-- The list loses no node, and every node added to it satisfies the walk's tree.
abbrev pub CollectsFor : State → Walk → List ℕ → List ℕ → Type 0
CollectsFor s walk = Collects s (formula walk.tree.now)

-- Every node that satisfies the walk's tree and has a key in its range has been found.
abbrev pub HasWalked : State → Walk → List ℕ → Type 0
HasWalked s walk = HasWithin s (formula walk.tree.now) walk.index.name.now walk.range.now.low.items
    (high_of walk.range.now)

-- Every node with a key from `low` to `high` has been found.
abbrev pub HasNodes : State → List ℕ → List ℕ → Option (List ℕ) → List ℕ → Type 0
HasNodes s name low high found = (k : List ℕ) (h : IsKey s name k) → Within low high k
    → Contains found h.node

-- The node has a key from `low` to `high`.
pub record IsNodeWithin (s : State) (name low : List ℕ) (high : Option (List ℕ)) (node : ℕ) : Type 0
  where
    pub key : List ℕ
    pub is_key : IsKey s name key
    pub within : Within low high key
    pub node_is : is_key.node ≡ node

-- Every node in the list was there before or has a key from `low` to `high`.
abbrev pub HasOnly : State → List ℕ → List ℕ → Option (List ℕ) → List ℕ → List ℕ → Type 0
HasOnly s name low high before after = (n : ℕ) → Contains after n → Contains before n
    ⊎ IsNodeWithin s name low high n

-- Every node in the list was there before, or has a key from `low` to `high` and satisfies the
-- formula.
abbrev pub HasOnlyTrue : State → Formula → List ℕ → List ℕ → Option (List ℕ) → List ℕ → List ℕ
    → Type 0
HasOnlyTrue s f name low high before after = (n : ℕ) → Contains after n → Contains before n
    ⊎ (IsNodeWithin s name low high n × (sat s f n ≡ true))

-- Of the keys from `low` to `high` that the walk has visited, every wanted node has been found. The
-- walk is at `from`, and `after` says whether it has already visited the key there.
abbrev pub HasPassed : State → (ℕ → Type 0) → List ℕ → List ℕ → Option (List ℕ) → List ℕ → Bool
    → List ℕ → Type 0
HasPassed s Wanted name low high from after found =
    (k : List ℕ) (h : IsKey s name k) → Within low high k → is_at_or_after from after k ≡ false
    → Wanted h.node → Contains found h.node

-- `next` is the walk's next key, or None if there are no more keys. Every wanted node among those
-- of the visited keys has been found.
pub record HasCome (s : State) (Wanted : ℕ → Type 0) (name low : List ℕ)
    (high next : Option (List ℕ)) (found : List ℕ) : Type 0 where
  pub from : List ℕ
  pub after : Bool
  pub is_next : IsNextKey s name from after next
  pub start : is_lt (name_cmp from low) ≡ false
  pub passed : HasPassed s Wanted name low high from after found

-- The node is reached through the pick: the picked comparison sees a value of the node, and the
-- query allows this value through the pick.
pub record Reaches (s : State) (f : Formula) (pick : ℕ) (node : ℕ) : Type 0 where
  pub picked : Comparison
  pub there : slice_get (leaves f) pick ≡ Some picked
  pub value : Value
  pub seen : sees s node picked.name ≡ Some value
  pub allows : Allows pick 0 f picked.name value

-- Every node that is reached through the pick and satisfies the formula has been found.
abbrev pub HasReached : State → Formula → ℕ → List ℕ → Type 0
HasReached s f pick found = (node : ℕ) → Reaches s f pick node → sat s f node ≡ true
    → Contains found node
