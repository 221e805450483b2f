-- The maximum number of bytes that an entry takes.
use Rattle.std.proofs.Common.{ℕ, ◌+◌, ◌*◌, ◌^◌, ◌≤◌, nat_lt, List, [], ◌∷◌, ◌++◌, length, All, arith}
use Rattle.std.proofs.lemmas.List.{length-append}
use Rattle.std.proofs.lemmas.List.Elements.{All-head, All-tail}
use Rattle.be_value.specs.Key.{IsValue}
use Rattle.be_value.specs.Value.{kind_number}
use Rattle.be_value.specs.declared.values.Value.{Value}
use Rattle.be_value.specs.declared.values.Value.TheVariants.{Cstr, Long, Llng, Mims, Rawt, Ulng, Ullg}
use Rattle.be_volume.specs.declared.ops.Done.{Done}
use Rattle.be_volume.specs.declared.ops.Done.TheVariants.{Node, Unit as Nothing}
use Rattle.be_volume.specs.declared.ops.Op.{Op}
use Rattle.be_volume.specs.declared.ops.Op.TheVariants.{New, Drop, Set, Unset, MkIndex, RmIndex}
use Rattle.be_entry_bytes.specs.Encoding.{number_bytes, counted_bytes, value_bytes, magnitude, op_bytes, step_bytes, steps_bytes, entry_bytes, CanBeOp, CanBeEntry}
use Rattle.be_entry_bytes.proofs.Numbers.{choose}
use Rattle.be_entry_bytes.proofs.Values.{name_short, text_short}

number_short : (n : ℕ) → length (number_bytes n) ≤ 9
unfolding number_bytes
number_short n =
    choose (nat_lt n 253) (λ h. rw h (omega arith))
    (λ h. choose (nat_lt n (2 ^ 16)) (λ k. rw (h, k) (omega arith))
    (λ k. choose (nat_lt n (2 ^ 32)) (λ l. rw (h, k, l) (omega arith)) (λ l. rw (h, k, l) (omega arith))))

counted_short : (bytes : List ℕ) (most : ℕ) → length bytes ≤ most → length (counted_bytes bytes) ≤ 9 + most
unfolding counted_bytes
counted_short bytes most short = omega (arith, short, length-append (number_bytes (length bytes)) bytes, number_short (length bytes))

value_short : (v : Value) → IsValue v → length (value_bytes v) ≤ 265
unfolding value_bytes
value_short (Cstr text) is = omega (arith, counted_short text 255 (text_short text is.0))
value_short (Long n) is = omega (arith, number_short (magnitude n))
value_short (Llng n) is = omega (arith, number_short (magnitude n))
value_short (Mims text) is = omega (arith, counted_short text 255 (text_short text is.0))
value_short (Rawt raw) is = omega (arith, counted_short raw 255 is)
value_short (Ulng n) is = omega (arith, number_short n)
value_short (Ullg n) is = omega (arith, number_short n)

op_short : (op : Op) → CanBeOp op → length (op_bytes op) ≤ 346
unfolding op_bytes
op_short New is = omega arith
op_short (Drop node) is = omega (arith, number_short node)
op_short (Set node name value) is =
    omega (arith, length-append (number_bytes node) (counted_bytes name ++ value_bytes value), length-append (counted_bytes name) (value_bytes value), number_short node, counted_short name 63 (name_short name is.0.0.0), value_short value is.0.1)
op_short (Unset node name) is = omega (arith, length-append (number_bytes node) (counted_bytes name), number_short node, counted_short name 63 (name_short name is.0.0))
op_short (MkIndex name kind) is = omega (arith, length-append (counted_bytes name) (kind_number kind ∷ []), counted_short name 63 (name_short name is.0.0))
op_short (RmIndex name) is = omega (arith, counted_short name 63 (name_short name is.0.0))

step_short : (op : Op) (done : Done) → CanBeOp op → length (step_bytes op done) ≤ 356
unfolding step_bytes
step_short op (Node node) is = omega (arith, length-append (op_bytes op) (number_bytes node), op_short op is, number_short node)
step_short op Nothing is = omega (arith, op_short op is)

steps_short : (ops : List Op) (dones : List Done) → All CanBeOp ops → length (steps_bytes ops dones) ≤ 356 * length ops
unfolding steps_bytes
steps_short [] dones are = omega arith
steps_short (op ∷ ops) [] are = omega arith
steps_short (op ∷ ops) (done ∷ dones) are =
    omega (arith, length-append (step_bytes op done) (steps_bytes ops dones), step_short op done (All-head CanBeOp op ops are), steps_short ops dones (All-tail CanBeOp op ops are))

pub entry_short : (by : ℕ) (ops : List Op) (dones : List Done) → CanBeEntry by ops dones → length (entry_bytes by ops dones) ≤ 18 + 356 * length ops
unfolding entry_bytes
entry_short by ops dones is =
    omega (arith, length-append (number_bytes by) (number_bytes (length ops) ++ steps_bytes ops dones), length-append (number_bytes (length ops)) (steps_bytes ops dones), number_short by, number_short (length ops), steps_short ops dones is.of_ops)
