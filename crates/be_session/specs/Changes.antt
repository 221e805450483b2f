-- Changes through a session's calls: what they collect, what they read, and how they end.
use Rattle.std.specs.Prelude.{◌≡◌, ◌⊎◌, ℕ, true, List, [], ◌∷◌, ◌++◌, None, length}
use Rattle.std.specs.declared.option.Option.{Option}
use Rattle.std.specs.declared.result.Result.{Result}
use Rattle.std.specs.declared.result.Result.TheVariants.{Ok, Err}
use Rattle.be_change.specs.Changing.{After, Changing, Reads, outcomes, with_op}
use Rattle.be_change.specs.Collecting.{HasNoRoom, IsOfRightKind, IsOfWrongKind}
use Rattle.be_change.specs.Ending.{EndsOnce, Releases}
use Rattle.be_change.specs.Comparing.{HaveRightKinds, IsFirstOfWrongKind}
use Rattle.be_change.specs.declared.ending.Ended.{Ended}
use Rattle.be_change.specs.declared.ending.Ended.TheVariants.{Accepted, Again}
use Rattle.be_change.specs.declared.errors.CollectError.{CollectError}
use Rattle.be_store.specs.Conditional.{AcceptsAt, IsUnapplied}
use Rattle.be_store.specs.Passes.{HasRead, IsPinnedTo, volume_pinned}
use Rattle.be_store.specs.declared.conditional.ApplyIfError.{ApplyIfError}
use Rattle.be_table.specs.Seats.{pinned_number}
use Rattle.be_table.specs.declared.pass.Knowledge.{Knowledge}
use Rattle.be_value.specs.Value.{kind_of}
use Rattle.be_value.specs.declared.refusals.Refusal.{Refusal}
use Rattle.be_value.specs.declared.values.Kind.{Kind}
use Rattle.be_value.specs.declared.values.Value.{Value}
use Rattle.be_volume.specs.Reading.{attribute}
use Rattle.be_volume.specs.Volume.{State}
use Rattle.be_volume.specs.declared.ops.Done.{Done}
use Rattle.be_volume.specs.declared.ops.Done.TheVariants.{Node}
use Rattle.be_volume.specs.declared.ops.Op.{Op}
use Rattle.be_volume.specs.declared.ops.Op.TheVariants.{New, Drop, Set, Unset, MkIndex, RmIndex}
use Rattle.be_session.specs.Fault.{fault_carried, fault_of, fault_of_collecting}
use Rattle.be_session.specs.Operations.{ArePartsWithin, IsBadCount, IsMeantBy, IsInvalidAt}
use Rattle.be_session.specs.declared.faults.Fault.{Fault}
use Rattle.be_session.specs.declared.faults.Fault.TheVariants.{BadCount, Conflict, NotPinned}
use Rattle.be_session.specs.declared.faults.Fault.TheVariants.{Refused, WrongKind}
use Rattle.be_session.specs.declared.lists.Operation.{Operation}

-- The number that a change returns for an operation that it has collected. For a new node, this is
-- the next number after the operations before it, which is also the outcome of the operation.
-- Otherwise it is 0.
abbrev pub IsGiven : Changing → Changing → Op → ℕ → Type 0
IsGiven was now New node =
    (outcomes now.first now.ops ≡ outcomes was.first was.ops ++ Node node ∷ [])
    × ((base : State) → Reads was base → After was base (λ s. node ≡ s.next))
IsGiven was now (Drop dropped) node = node ≡ 0
IsGiven was now (Set changed name value) node = node ≡ 0
IsGiven was now (Unset changed name) node = node ≡ 0
IsGiven was now (MkIndex name kind) node = node ≡ 0
IsGiven was now (RmIndex name) node = node ≡ 0

-- If the change checks kinds and this operation sets an attribute, the value has the kind of the
-- index of its name, as the operations before it leave that index.
abbrev pub SetsRightKind : Changing → Op → Type 0
SetsRightKind c New = Unit {0}
SetsRightKind c (Drop node) = Unit {0}
SetsRightKind c (Set node name value) = c.checks ≡ true → IsOfRightKind c name (kind_of value)
SetsRightKind c (Unset node name) = Unit {0}
SetsRightKind c (MkIndex name kind) = Unit {0}
SetsRightKind c (RmIndex name) = Unit {0}

-- This operation sets an attribute, and the index of its name takes another kind.
abbrev pub SetsWrongKind : Changing → Op → CollectError → Type 0
SetsWrongKind c New e = ⊥
SetsWrongKind c (Drop node) e = ⊥
SetsWrongKind c (Set node name value) e = IsOfWrongKind c name (kind_of value) e
SetsWrongKind c (Unset node name) e = ⊥
SetsWrongKind c (MkIndex name kind) e = ⊥
SetsWrongKind c (RmIndex name) e = ⊥

-- The change has collected exactly this operation and has returned this number.
abbrev pub Collects : Changing → Changing → Op → ℕ → Type 0
Collects was now op node = (now ≡ with_op was op) × IsGiven was now op node × SetsRightKind was op

-- The reason why an operation wasn't collected. Its kind is checked before there is found to be no
-- room.
abbrev pub IsUncollected : Changing → Op → CollectError → Type 0
IsUncollected c op e = (HasNoRoom c e × SetsRightKind c op) ⊎ SetsWrongKind c op e

-- The operation that is encoded here was collected.
abbrev pub CollectsMeant : Changing → Changing → Operation → List ℕ → ℕ → Type 0
CollectsMeant was now o bytes node = (op : Op) × ArePartsWithin o (length bytes)
    × IsMeantBy o bytes op × Collects was now op node

-- The reason why the operation that is encoded here wasn't collected. Either the encoding is
-- invalid, or the change doesn't take the operation.
abbrev pub IsNotCollected : Changing → Operation → List ℕ → Fault → Type 0
IsNotCollected c o bytes e = IsInvalidAt o bytes e
    ⊎ ((op : Op) × IsMeantBy o bytes op
    × (why : CollectError) × (e ≡ fault_of_collecting why) × IsUncollected c op why)

-- The session's pass began the change, and is pinned to its snapshot.
abbrev pub IsOwnChange : Changing → Knowledge → Type 0
IsOwnChange change a = IsPinnedTo a change.number × (change.by ≡ a.number)

-- What a change reads at an attribute. If it is the session's own change, this is what the change's
-- operations leave of the snapshot's attribute, and otherwise the result is NotPinned.
abbrev pub ReadsChanged : Changing → Knowledge → ℕ → List ℕ → Result (Option Value) Fault → Type 0
ReadsChanged change a node name (Ok found) = IsOwnChange change a
    × (Reads change (volume_pinned a)
    → After change (volume_pinned a) (λ s. found ≡ attribute s node name))
ReadsChanged change a node name (Err e) = (¬ (IsOwnChange change a)) × (e ≡ NotPinned)

-- What a session returns about how a change ended.
abbrev pub as_answer : Result Ended Refusal → Result ℕ Fault
as_answer (Ok (Accepted n)) = Ok n
as_answer (Ok (Again found)) = Err (Conflict found)
as_answer (Err why) = Err (Refused why)

-- How a change ends. If it isn't the session's own change, nothing happens. Otherwise the change
-- ends as be_change defines it, and the pin is then released if the change made it.
abbrev pub EndsChange : Changing → (a d : Knowledge) → Result ℕ Fault → Type 0
EndsChange change a d result =
    ((¬ (IsOwnChange change a)) × (d ≡ a) × (result ≡ Err NotPinned))
    ⊎ (IsOwnChange change a × (ended : Result Ended Refusal) × (result ≡ as_answer ended)
    × (c : Knowledge) × EndsOnce change a c ended × Releases change.pins c d)

-- An abandoned change writes nothing. If it is the session's own change and made the pin, the pin
-- is released.
abbrev pub Abandons : Changing → (a d : Knowledge) → Type 0
Abandons change a d = ((¬ (IsOwnChange change a)) × (d ≡ a))
    ⊎ (IsOwnChange change a × Releases change.pins a d)

-- Operations were written in one call as a change on the pinned snapshot, with this commit number.
-- Exactly these operations were written, on exactly what was read, as the next entry after the
-- snapshot. Each set has the kind of the index of its name, and new nodes have the next numbers of
-- the snapshot.
abbrev pub WritesChange : (a d : Knowledge) → List Op → ℕ → Type 0
WritesChange a d ops n = (number : ℕ) × IsPinnedTo a number
    × HaveRightKinds (volume_pinned a) ops (length ops)
    × (c : Knowledge) × HasRead a c × (dones : List Done) × AcceptsAt c d number ops n dones
    × (dones ≡ outcomes (volume_pinned a).next ops)

-- The first operation of a wrong kind is at this place, and the pass has only read.
abbrev pub IsMismatch : (a d : Knowledge) → List Op → Fault → ℕ → Type 0
IsMismatch a d ops e place = HasRead a d × (index : Kind) × (e ≡ WrongKind index)
    × IsFirstOfWrongKind (volume_pinned a) ops place index

-- All operations have the right kinds, but the conditional write at the pin's number wasn't made.
-- The place is the number that comes with the error.
abbrev pub IsUnmade : (a d : Knowledge) → ℕ → List Op → Fault → ℕ → Type 0
IsUnmade a d number ops e place = HaveRightKinds (volume_pinned a) ops (length ops)
    × (c : Knowledge) × HasRead a c × (why : ApplyIfError) × (e ≡ fault_of why)
    × IsUnapplied c d number ops why × (place ≡ fault_carried e)

-- The reason why operations weren't written as a change, and the place that is returned. Either the
-- count isn't 1 to 64 or there is no pin, in which cases nothing has happened, or a set is of a
-- wrong kind, or the store returned an error.
abbrev pub IsUnwrittenChange : (a d : Knowledge) → List Op → Fault → ℕ → Type 0
IsUnwrittenChange a d ops e place =
    (IsBadCount (length ops) × (e ≡ BadCount) × (place ≡ 0) × (d ≡ a))
    ⊎ ((pinned_number a.phase ≡ None) × (e ≡ NotPinned) × (place ≡ 0) × (d ≡ a))
    ⊎ ((number : ℕ) × IsPinnedTo a number
    × (IsMismatch a d ops e place ⊎ IsUnmade a d number ops e place))
