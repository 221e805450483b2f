-- An entry that was written is read back, operation by operation.
use Rattle.std.proofs.Common.{◌≡◌, ℕ, suc, ◌+◌, ◌-◌, ◌^◌, ◌<◌, ◌≤◌, true, false, nat_lt, List, [], ◌∷◌, ◌++◌, length, All, Some, None, Result, Ok, Err, refl, sym, ap, ◌∙◌, append_assoc, arith}
use Rattle.std.specs.Prelude.{IfOk}
use Rattle.std.specs.Option.{option_map}
use Rattle.std.specs.declared.option.Option.{Option}
use Rattle.std.proofs.lemmas.List.Elements.{All-head, All-tail}
use Rattle.be_volume.specs.declared.ops.Done.{Done}
use Rattle.be_volume.specs.declared.ops.Done.TheVariants.{Node, Unit as Nothing}
use Rattle.be_volume.specs.declared.ops.Op.{Op}
use Rattle.be_volume.specs.declared.ops.Op.TheVariants.{New, Drop, Set, Unset, MkIndex, RmIndex}
use Rattle.be_value.specs.Value.{kind_number}
use Rattle.be_entry_bytes.specs.Encoding.{number_bytes, counted_bytes, value_bytes, form_of, op_bytes, step_bytes, steps_bytes, entry_bytes, CanBeOp, CanBeDone, CanBeEntry}
use Rattle.be_entry_bytes.specs.Decoding.{◌>>=◌, op_at, set_at, unset_at, mkindex_at, quiet_at, answered_at, step_at, steps_at, head_at, entry_at}
use Rattle.be_entry_bytes.proofs.Numbers.{number_again}
use Rattle.be_entry_bytes.proofs.Values.{name_again, kind_again, value_again}

-- three parts and the bytes after them
regrouped : (a b c rest : List ℕ) → (a ++ (b ++ c)) ++ rest ≡ a ++ (b ++ (c ++ rest))
regrouped a b c rest = append_assoc a (b ++ c) rest ∙ ap (λ x. a ++ x) (append_assoc b c rest)

op_again : (op : Op) (rest : List ℕ) → CanBeOp op → op_at (form_of op) (op_bytes op ++ rest) ≡ Some (op, rest)
unfolding op_bytes op_at set_at unset_at mkindex_at
op_again New rest is = refl
op_again (Drop node) rest is = rw (number_again node rest is.1) refl
op_again (Set node name value) rest is =
    ap (op_at 2) (regrouped (number_bytes node) (counted_bytes name) (value_bytes value) rest)
    ∙ rw (number_again node (counted_bytes name ++ (value_bytes value ++ rest)) is.1, name_again name (value_bytes value ++ rest) is.0.0, value_again value rest is.0.1) refl
op_again (Unset node name) rest is =
    ap (op_at 3) (append_assoc (number_bytes node) (counted_bytes name) rest)
    ∙ rw (number_again node (counted_bytes name ++ rest) is.1, name_again name rest is.0) refl
op_again (MkIndex name kind) rest is =
    ap (op_at 4) (append_assoc (counted_bytes name) (kind_number kind ∷ []) rest)
    ∙ rw (name_again name (kind_number kind ∷ rest) is.0, kind_again kind rest) refl
op_again (RmIndex name) rest is = rw (name_again name rest is.0) refl

form_small : (op : Op) → nat_lt (form_of op) 128 ≡ true
form_small New = refl
form_small (Drop node) = refl
form_small (Set node name value) = refl
form_small (Unset node name) = refl
form_small (MkIndex name kind) = refl
form_small (RmIndex name) = refl

form_large : (op : Op) → nat_lt (form_of op + 128) 128 ≡ false
form_large New = refl
form_large (Drop node) = refl
form_large (Set node name value) = refl
form_large (Unset node name) = refl
form_large (MkIndex name kind) = refl
form_large (RmIndex name) = refl

form_back : (op : Op) → (form_of op + 128) - 128 ≡ form_of op
form_back New = refl
form_back (Drop node) = refl
form_back (Set node name value) = refl
form_back (Unset node name) = refl
form_back (MkIndex name kind) = refl
form_back (RmIndex name) = refl

quiet_again : (op : Op) (rest : List ℕ) → CanBeOp op → quiet_at (form_of op) (op_bytes op ++ rest) ≡ Some (op, Nothing, rest)
unfolding quiet_at
quiet_again op rest is = rw (op_again op rest is) refl

answered_again : (op : Op) (node : ℕ) (rest : List ℕ) → CanBeOp op → node < 2 ^ 64 → answered_at (form_of op) ((op_bytes op ++ number_bytes node) ++ rest) ≡ Some (op, Node node, rest)
unfolding answered_at
answered_again op node rest is fits =
    ap (answered_at (form_of op)) (append_assoc (op_bytes op) (number_bytes node) rest)
    ∙ rw (op_again op (number_bytes node ++ rest) is, number_again node rest fits) refl

step_again : (op : Op) (done : Done) (rest : List ℕ) → CanBeOp op → CanBeDone done → step_at (step_bytes op done ++ rest) ≡ Some (op, done, rest)
unfolding step_bytes step_at
step_again op (Node node) rest is fits = rw (form_large op, form_back op) (answered_again op node rest is fits)
step_again op Nothing rest is fits = rw (form_small op) (quiet_again op rest is)

steps_again : (ops : List Op) (dones : List Done) (rest : List ℕ) → length dones ≡ length ops → All CanBeOp ops → All CanBeDone dones →
    steps_at (length ops) (steps_bytes ops dones ++ rest) ≡ Some (ops, dones, rest)
unfolding steps_bytes steps_at
steps_again [] [] rest each are fit = refl
steps_again [] (done ∷ dones) rest each are fit = absurd (omega (arith, each))
steps_again (op ∷ ops) [] rest each are fit = absurd (omega (arith, each))
steps_again (op ∷ ops) (done ∷ dones) rest each are fit =
    let first = step_again op done (steps_bytes ops dones ++ rest) (All-head CanBeOp op ops are) (All-head CanBeDone done dones fit) in
    let others = steps_again ops dones rest (omega (arith, each)) (All-tail CanBeOp op ops are) (All-tail CanBeDone done dones fit) in
    ap (steps_at (suc (length ops))) (append_assoc (step_bytes op done) (steps_bytes ops dones) rest) ∙ rw (first, others) refl

pub entry_again : (by : ℕ) (ops : List Op) (dones : List Done) (rest : List ℕ) → CanBeEntry by ops dones → entry_at (entry_bytes by ops dones ++ rest) ≡ Some (by, ops, dones, rest)
unfolding entry_bytes entry_at head_at
entry_again by ops dones rest is =
    let few : length ops ≤ 64 = is.few in
    ap entry_at (regrouped (number_bytes by) (number_bytes (length ops)) (steps_bytes ops dones) rest)
    ∙ rw (
      number_again by (number_bytes (length ops) ++ (steps_bytes ops dones ++ rest)) is.pass,
      number_again (length ops) (steps_bytes ops dones ++ rest) (omega (arith, few)),
      steps_again ops dones rest is.each is.of_ops is.of_outcomes,
    ) refl

-- an entry consists of its head, followed by its operations and outcomes
pub entry_of_head : (bytes : List ℕ) (by count : ℕ) (rest : List ℕ) → Some (by, count, rest) ≡ head_at bytes → entry_at bytes ≡ (steps_at count rest >>= λ x. Some (by, x.0, x.1, x.2))
unfolding entry_at
entry_of_head bytes by count rest is = rw (sym is) refl

-- without a head there is no entry
pub entry_of_none : (bytes : List ℕ) → None ≡ head_at bytes → None ≡ entry_at bytes
unfolding entry_at
entry_of_none bytes is = rw (sym is) refl

-- the result of reading bytes that begin with an entry
pub read_written : {X E : Type 0} (view : X → ℕ × List Op × List Done × List ℕ) (result : Result (Option X) E) (bytes : List ℕ) → IfOk result (λ read. option_map view read ≡ entry_at bytes) →
    IfOk result (λ read. (by : ℕ) (ops : List Op) (dones : List Done) (rest : List ℕ) → CanBeEntry by ops dones → bytes ≡ entry_bytes by ops dones ++ rest → option_map view read ≡ Some (by, ops, dones, rest))
read_written view (Ok read) bytes given = λ by ops dones rest can_be is. given ∙ ap entry_at is ∙ entry_again by ops dones rest can_be
read_written view (Err e) bytes given = tt
