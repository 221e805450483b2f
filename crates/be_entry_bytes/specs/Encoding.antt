-- The bytes of an entry.
use Rattle.std.specs.Prelude.{◌≡◌, ℕ, ◌+◌, ◌*◌, ◌<◌, ◌≤◌, ◌^◌, ⊤, List, [], ◌∷◌, ◌++◌, length, All}
use Rattle.std.specs.Prelude.{nat_lt, pos, negsuc, if◌then◌else◌}
use Rattle.std.specs.Int.{to_be_bytes, w16, w32, w64}
use lib.IntN.{ℤ}
use Rattle.be_value.specs.Value.{kind_number}
use Rattle.be_value.specs.declared.values.Value.{Value}
use Rattle.be_value.specs.declared.values.Value.TheVariants.{Cstr, Long, Llng, Mims, Rawt, Ulng}
use Rattle.be_value.specs.declared.values.Value.TheVariants.{Ullg}
use Rattle.be_volume.specs.Sound.{IsOperation}
use Rattle.be_volume.specs.declared.ops.Done.{Done}
use Rattle.be_volume.specs.declared.ops.Done.TheVariants.{Node, Unit as Nothing}
use Rattle.be_volume.specs.declared.ops.Op.{Op}
use Rattle.be_volume.specs.declared.ops.Op.TheVariants.{New, Drop, Set, Unset, MkIndex, RmIndex}

-- A number below 253 is one byte. Any other number is the byte 253, 254 or 255, followed by two,
-- four or eight bytes in big-endian order, whichever is the shortest form that can hold it.
unfoldable pub number_bytes : ℕ → List ℕ
number_bytes n =
    if nat_lt n 253 then n ∷ []
    else if nat_lt n (2 ^ 16) then 253 ∷ to_be_bytes w16 n
    else if nat_lt n (2 ^ 32) then 254 ∷ to_be_bytes w32 n
    else 255 ∷ to_be_bytes w64 n

-- the number of bytes, followed by the bytes
unfoldable pub counted_bytes : List ℕ → List ℕ
counted_bytes bytes = number_bytes (length bytes) ++ bytes

-- the byte that precedes a signed number: its kind's byte, plus 128 if the number is negative
abbrev pub sign_byte : ℕ → ℤ → ℕ
sign_byte kind (pos n) = kind
sign_byte kind (negsuc n) = kind + 128

-- a signed number without its sign: the number itself, or how far below -1 it is if it is negative
abbrev pub magnitude : ℤ → ℕ
magnitude (pos n) = n
magnitude (negsuc n) = n

-- the kind's number, followed by the value
unfoldable pub value_bytes : Value → List ℕ
value_bytes (Cstr text) = 1 ∷ counted_bytes text
value_bytes (Long n) = sign_byte 2 n ∷ number_bytes (magnitude n)
value_bytes (Llng n) = sign_byte 3 n ∷ number_bytes (magnitude n)
value_bytes (Mims text) = 4 ∷ counted_bytes text
value_bytes (Rawt bytes) = 5 ∷ counted_bytes bytes
value_bytes (Ulng n) = 6 ∷ number_bytes n
value_bytes (Ullg n) = 7 ∷ number_bytes n

-- the number of an operation's form
abbrev pub form_of : Op → ℕ
form_of New = 0
form_of (Drop node) = 1
form_of (Set node name value) = 2
form_of (Unset node name) = 3
form_of (MkIndex name kind) = 4
form_of (RmIndex name) = 5

-- an operation without its form
unfoldable pub op_bytes : Op → List ℕ
op_bytes New = []
op_bytes (Drop node) = number_bytes node
op_bytes (Set node name value) = number_bytes node ++ (counted_bytes name ++ value_bytes value)
op_bytes (Unset node name) = number_bytes node ++ counted_bytes name
op_bytes (MkIndex name kind) = counted_bytes name ++ kind_number kind ∷ []
op_bytes (RmIndex name) = counted_bytes name

-- An operation and its outcome: the form, plus 128 if the outcome is a node, then the rest of the
-- operation, then that node.
unfoldable pub step_bytes : Op → Done → List ℕ
step_bytes op (Node node) = (form_of op + 128) ∷ (op_bytes op ++ number_bytes node)
step_bytes op Nothing = form_of op ∷ op_bytes op

-- the operations with their outcomes, one after another
unfoldable pub steps_bytes : List Op → List Done → List ℕ
steps_bytes [] dones = []
steps_bytes (op ∷ ops) [] = []
steps_bytes (op ∷ ops) (done ∷ dones) = step_bytes op done ++ steps_bytes ops dones

-- the pass, the number of operations, and each operation with its outcome
unfoldable pub entry_bytes : ℕ → List Op → List Done → List ℕ
entry_bytes by ops dones = number_bytes by ++ (number_bytes (length ops) ++ steps_bytes ops dones)

-- the maximum number of bytes that an entry with this many operations takes
abbrev pub most_bytes : ℕ → ℕ
most_bytes count = 18 + 356 * count

-- the operation's node, if it has one, is below 2^64
abbrev pub HasNode : Op → Type 0
HasNode New = ⊤
HasNode (Drop node) = node < 2 ^ 64
HasNode (Set node name value) = node < 2 ^ 64
HasNode (Unset node name) = node < 2 ^ 64
HasNode (MkIndex name kind) = ⊤
HasNode (RmIndex name) = ⊤

-- an operation that the program can make: its names, values and node number are in range
abbrev pub CanBeOp : Op → Type 0
CanBeOp op = IsOperation op × HasNode op

-- an outcome that the program can make
abbrev pub CanBeDone : Done → Type 0
CanBeDone (Node node) = node < 2 ^ 64
CanBeDone Nothing = ⊤

-- an entry that the program can make: at most 64 operations, an outcome for each, and the number of
-- a pass
pub record CanBeEntry (by : ℕ) (ops : List Op) (dones : List Done) : Type 0 where
  pub pass : by < 2 ^ 64
  pub few : length ops ≤ 64
  pub each : length dones ≡ length ops
  pub of_ops : All CanBeOp ops
  pub of_outcomes : All CanBeDone dones
