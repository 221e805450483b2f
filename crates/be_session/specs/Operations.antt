-- What a list of operations means, as other languages encode it.
use Rattle.std.specs.Prelude.{◌≡◌, ◌⊎◌, ◌+◌, ◌<◌, ◌≤◌, ◌++◌, ℕ, List, [], ◌∷◌, Some, length}
use Rattle.std.specs.Prelude.{slice_get, take, drop}
use Rattle.be_value.specs.declared.refusals.Refusal.TheVariants.{OutOfMemory}
use Rattle.be_value.specs.declared.values.Kind.{Kind}
use Rattle.be_value.specs.declared.values.Value.{Value}
use Rattle.be_volume.specs.declared.ops.Op.{Op}
use Rattle.be_volume.specs.declared.ops.Done.{Done}
use Rattle.be_volume.specs.declared.ops.Done.TheVariants.{Node}
use Rattle.be_volume.specs.declared.ops.Op.TheVariants.{New, Set, MkIndex}
use Rattle.be_session.specs.Meaning.{HasOnly, IsMeant, IsNoOperation}
use Rattle.be_session.specs.declared.faults.Fault.{Fault}
use Rattle.be_session.specs.declared.faults.Fault.TheVariants.{BadCount, BadPart, Refused}
use Rattle.be_session.specs.declared.lists.Operation.{Operation}

-- The part of the bytes with this offset and length.
abbrev pub part : List ℕ → ℕ → ℕ → List ℕ
part bytes at len = take len (drop at bytes)

-- The operation that is encoded here, with its name and its value as parts of these bytes.
abbrev pub IsMeantBy : Operation → List ℕ → Op → Type 0
IsMeantBy o bytes op = IsMeant o.kind o.node (part bytes o.name_at o.name_length) o.code o.number
    (part bytes o.value_at o.value_length) op

-- The encoding has nothing that the operation doesn't use.
abbrev pub HasOnlyParts : Operation → List ℕ → Op → Type 0
HasOnlyParts o bytes op = HasOnly o.node (part bytes o.name_at o.name_length) o.code o.number
    (part bytes o.value_at o.value_length) op

-- Both parts of this operation lie within the first n bytes.
abbrev pub ArePartsWithin : Operation → ℕ → Type 0
ArePartsWithin o n = (o.name_at + o.name_length ≤ n) × (o.value_at + o.value_length ≤ n)

-- The operations that are encoded here, in order. Each part lies within the bytes, even if its
-- operation doesn't use it.
abbrev pub AreMeant : List Operation → List ℕ → List Op → Type 0
AreMeant [] bytes [] = Unit {0}
AreMeant [] bytes (op ∷ ops) = ⊥
AreMeant (o ∷ os) bytes [] = ⊥
AreMeant (o ∷ os) bytes (op ∷ ops) = (ArePartsWithin o (length bytes) × IsMeantBy o bytes op)
    × AreMeant os bytes ops

-- The bytes of this operation's name, followed by those of its value.
abbrev pub both_parts : Operation → List ℕ → List ℕ
both_parts o bytes = part bytes o.name_at o.name_length ++ part bytes o.value_at o.value_length

-- The parts of these operations, concatenated.
abbrev pub all_parts : List Operation → List ℕ → List ℕ
all_parts [] bytes = []
all_parts (o ∷ os) bytes = both_parts o bytes ++ all_parts os bytes

-- None of the encodings has anything that its operation doesn't use.
abbrev pub HaveOnlyParts : List Operation → List ℕ → List Op → Type 0
HaveOnlyParts (o ∷ os) bytes (op ∷ ops) = HasOnlyParts o bytes op × HaveOnlyParts os bytes ops
HaveOnlyParts [] bytes ops = Unit {0}
HaveOnlyParts (o ∷ os) bytes [] = Unit {0}

-- These encode the operations. The bytes are their parts, concatenated, and nothing else.
abbrev pub AreEncoded : List Operation → List ℕ → List Op → Type 0
AreEncoded os bytes ops = AreMeant os bytes ops × (all_parts os bytes ≡ bytes)
    × HaveOnlyParts os bytes ops

-- What an operation of an entry has in addition, which for `New` is the node that it created.
abbrev pub ReportsNode : Operation → Op → Done → Type 0
ReportsNode o New (Node n) = o.node ≡ n
ReportsNode o op done = Unit {0}

-- `ReportsNode` holds for each of the operations.
abbrev pub ReportNodes : List Operation → List Op → List Done → Type 0
ReportNodes os ops dones = (i : ℕ) (o : Operation) (op : Op) (done : Done) → slice_get os i ≡ Some o
    → slice_get ops i ≡ Some op → slice_get dones i ≡ Some done → ReportsNode o op done

-- The operation that sets this attribute of the node.
abbrev pub sets : ℕ → (List ℕ × Value) → Op
sets node a = Set node a.0 a.1

-- The operation that creates this index.
abbrev pub makes : (List ℕ × Kind) → Op
makes i = MkIndex i.0 i.1

-- The reason why this isn't a valid operation. Either a part isn't within the bytes, or its number
-- or content is invalid.
abbrev pub IsInvalidAt : Operation → List ℕ → Fault → Type 0
IsInvalidAt o bytes e =
    ((e ≡ BadPart) × ((length bytes < o.name_at + o.name_length)
    ⊎ (length bytes < o.value_at + o.value_length)))
    ⊎ IsNoOperation o.kind (part bytes o.name_at o.name_length) o.code o.number
    (part bytes o.value_at o.value_length) e

-- A write can have this many operations.
abbrev pub IsWriteCount : ℕ → Type 0
IsWriteCount n = (1 ≤ n) × (n ≤ 64)

-- A write can't have this many operations.
abbrev pub IsBadCount : ℕ → Type 0
IsBadCount n = (n ≡ 0) ⊎ (64 < n)

-- The first invalid operation is at this place, counting from 0, and has this error. If memory ran
-- out, the place is 0.
abbrev pub IsFirstInvalid : List Operation → List ℕ → Fault → ℕ → Type 0
IsFirstInvalid os bytes e place =
    ((o : Operation) × (ops : List Op) × (take (place + 1) os ≡ take place os ++ o ∷ [])
    × AreMeant (take place os) bytes ops × IsInvalidAt o bytes e)
    ⊎ ((e ≡ Refused OutOfMemory) × (place ≡ 0))

-- The reason why these aren't a valid write, and the place that is reported. The number of
-- operations is checked first, with place 0. Otherwise it is the place of the first invalid
-- operation.
abbrev pub IsInvalid : List Operation → List ℕ → Fault → ℕ → Type 0
IsInvalid os bytes e place =
    (IsBadCount (length os) × (e ≡ BadCount) × (place ≡ 0))
    ⊎ (IsWriteCount (length os) × IsFirstInvalid os bytes e place)
