-- The bytes of a transaction's batch. Numbers are little-endian.
use Rattle.std.specs.Prelude.{ℕ, List, [], ◌∷◌, ◌++◌, length}
use Rattle.std.specs.Int.{cast_unsigned, to_le_bytes, w32, w64}
use Rattle.be_value.specs.Value.{code_of, kind_of}
use Rattle.be_value.specs.declared.values.Kind.{Kind}
use Rattle.be_value.specs.declared.values.Value.{Value}
use Rattle.be_value.specs.declared.values.Value.TheVariants.{Cstr, Llng, Long, Mims, Rawt, Ulng}
use Rattle.be_value.specs.declared.values.Value.TheVariants.{Ullg}
use Rattle.be_volume.specs.declared.ops.Done.{Done}
use Rattle.be_volume.specs.declared.ops.Done.TheVariants.{Node, Unit as Nothing}
use Rattle.be_volume.specs.declared.ops.Op.{Op}
use Rattle.be_volume.specs.declared.ops.Op.TheVariants.{Drop, MkIndex, New, RmIndex, Set, Unset}
use Rattle.be_journal.specs.declared.entries.Entry.{Entry}
use Rattle.be_kept.specs.Rows.{Written}

-- a name, a text or raw bytes, after their length
abbrev pub counted : List ℕ → List ℕ
counted bytes = length bytes ∷ bytes

abbrev pub kind_bytes : Kind → List ℕ
kind_bytes kind = to_le_bytes w32 (code_of kind)

abbrev pub content_bytes : Value → List ℕ
content_bytes (Cstr text) = counted text
content_bytes (Long n) = to_le_bytes w64 (cast_unsigned w64 n)
content_bytes (Llng n) = to_le_bytes w64 (cast_unsigned w64 n)
content_bytes (Mims text) = counted text
content_bytes (Rawt bytes) = counted bytes
content_bytes (Ulng n) = to_le_bytes w64 n
content_bytes (Ullg n) = to_le_bytes w64 n

-- the type code, and the value
abbrev pub value_bytes : Value → List ℕ
value_bytes value = kind_bytes (kind_of value) ++ content_bytes value

-- the node that an outcome names
abbrev pub new_node : Done → ℕ
new_node (Node node) = node
new_node Nothing = 0

-- an operation with its outcome
abbrev pub operation_bytes : Op → Done → List ℕ
operation_bytes New done = 0 ∷ to_le_bytes w64 (new_node done)
operation_bytes (Drop node) done = 1 ∷ to_le_bytes w64 node
operation_bytes (Set node name value) done =
    2 ∷ (to_le_bytes w64 node ++ (counted name ++ value_bytes value))
operation_bytes (Unset node name) done = 3 ∷ (to_le_bytes w64 node ++ counted name)
operation_bytes (MkIndex name kind) done = 4 ∷ (counted name ++ kind_bytes kind)
operation_bytes (RmIndex name) done = 5 ∷ counted name

abbrev pub operations_bytes : List Op → List Done → List ℕ
operations_bytes [] dones = []
operations_bytes (op ∷ ops) [] = []
operations_bytes (op ∷ ops) (done ∷ dones) = operation_bytes op done ++ operations_bytes ops dones

-- `BEB`, the version of this encoding, and the number of operations
abbrev pub batch_bytes : List Op → List Done → List ℕ
batch_bytes ops dones = 66 ∷ 69 ∷ 66 ∷ 1 ∷ length ops ∷ operations_bytes ops dones

-- a transaction as the file has it
abbrev pub written_of : Entry → Written
written_of entry = (entry.by, batch_bytes entry.ops entry.dones)
