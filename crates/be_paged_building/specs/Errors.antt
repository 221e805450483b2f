-- Which error a builder returns for what may not come next. Each definition lists the conditions in
-- the order in which they are checked.
use Rattle.std.specs.Prelude.{◌≡◌, ◌≢◌, ◌⊎◌, ℕ, ◌<◌, ◌≤◌, ◌^◌, List, Bool, true, IfSome, IsTrue}
use Rattle.std.specs.Prelude.{length, slice_index_or}
use Rattle.std.specs.FinMap as map
use Rattle.std.specs.declared.cmp.Ordering.TheVariants.{Less}
use Rattle.std.specs.declared.option.Option.{Option}
use Rattle.be_paged_building.specs.Building.{AreBelow, IsAboveAttributes, IsAboveIndices, IsKindOf}
use Rattle.be_paged_building.specs.Building.{MayBeNode}
use Rattle.be_paged_reading.specs.Entry.{Entry}
use Rattle.be_paged_reading.specs.Page.{IsGapAt, IsNamedAt}
use Rattle.be_value.specs.Value.{is_indexable, kind_of}
use Rattle.be_value.specs.declared.refusals.Refusal.{Refusal}
use Rattle.be_value.specs.declared.refusals.Refusal.TheVariants.{IndexExists, NoAttr, NoNode}
use Rattle.be_value.specs.declared.refusals.Refusal.TheVariants.{NoSuchIndex, NotIndexable}
use Rattle.be_value.specs.declared.refusals.Refusal.TheVariants.{TooManyAttrs, TooManyIndices}
use Rattle.be_value.specs.declared.values.Kind.{Kind}
use Rattle.be_value.specs.declared.values.Value.{Value}
use Rattle.be_volume.specs.Maps.{attributes_of, name_cmp}
use Rattle.be_volume.specs.Volume.{State}

-- it is this error if the condition doesn't hold, and one of the others if it does
abbrev pub Unless : (condition : Type 0) → (error : Refusal) → (others : Refusal → Type 0) → Refusal
    → Type 0
Unless condition error others e = ((condition → ⊥) × (e ≡ error)) ⊎ (condition × others e)

-- it is this error, and the condition doesn't hold
abbrev pub UnlessLast : (condition : Type 0) → (error : Refusal) → Refusal → Type 0
UnlessLast condition error e = (condition → ⊥) × (e ≡ error)

-- why an index may not come next
abbrev pub IndexError : State → List ℕ → Kind → Refusal → Type 0
IndexError volume name kind =
    Unless (volume.nodes ≡ map.empty) NoNode
    (Unless (IsTrue (is_indexable kind)) NotIndexable
    (Unless (map.len volume.indices < 32) TooManyIndices
    (UnlessLast (IsAboveIndices volume name) IndexExists)))

-- why a node may not come next
abbrev pub NodeError : State → ℕ → Refusal → Type 0
NodeError volume node = UnlessLast (MayBeNode volume node) NoNode

-- why no index can hold an attribute
abbrev pub HeldError : State → List ℕ → Value → Refusal → Type 0
HeldError volume name value =
    Unless (map.contains_key volume.indices name ≡ true) NoSuchIndex
    (UnlessLast (IsKindOf volume name value) NotIndexable)

-- why an attribute of a node may not come next
abbrev pub AttributeError : State → ℕ → List ℕ → Value → (held : Bool) → Refusal → Type 0
AttributeError volume node name value held =
    Unless (map.contains_key volume.nodes node ≡ true) NoNode
    (Unless (map.len (attributes_of volume.nodes node) < 64) TooManyAttrs
    (Unless (IsAboveAttributes volume node name) NoAttr
    (λ e. (held ≡ true) × HeldError volume name value e)))

-- why this may not be the next node's number
abbrev pub FinishError : State → (next : ℕ) → Refusal → Type 0
FinishError volume next = UnlessLast ((volume.next ≤ next) × (next ≤ 2 ^ 63)) NoNode

-- why an index may not come after these
abbrev pub IndexErrorAfter : (node : ℕ) → List Entry → List ℕ → Kind → Refusal → Type 0
IndexErrorAfter node entries name kind =
    Unless (node ≡ 0) NoNode
    (Unless (IsTrue (is_indexable kind)) NotIndexable
    (Unless (length entries < 32) TooManyIndices
    (UnlessLast (AreBelow entries name) IndexExists)))

-- why an attribute may not come after these many of a node, the last of which has this name
abbrev pub AttributeErrorAfter : (node attributes : ℕ) → (last : Option (List ℕ)) → List ℕ
    → Refusal → Type 0
AttributeErrorAfter node attributes last name =
    Unless (0 < node) NoNode
    (Unless (attributes < 64) TooManyAttrs
    (UnlessLast (IfSome last (λ other. name_cmp other name ≡ Less)) NoAttr))

-- why none of these indices can hold an attribute: none has its name, or the one that has it is of
-- another kind
abbrev pub HeldErrorAmong : List Entry → List ℕ → Value → Refusal → Type 0
HeldErrorAmong entries name value e =
    (((at : ℕ) × IsGapAt entries name at) × (e ≡ NoSuchIndex))
    ⊎ (((at : ℕ) × IsNamedAt entries name at
    × ((d : Entry) → (slice_index_or entries at d).kind ≢ kind_of value)) × (e ≡ NotIndexable))
