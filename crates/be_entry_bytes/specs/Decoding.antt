-- How an entry is read from its bytes, from left to right. Each step returns the item that it read
-- and the bytes after it.
use Rattle.std.specs.Prelude.{ℕ, zero, suc, ◌-◌, ◌^◌, List, [], ◌∷◌, length, take, drop, Some, None}
use Rattle.std.specs.Prelude.{nat_lt, nat_eq, pos, negsuc, if◌then◌else◌}
use Rattle.std.specs.Int.{Width, from_be_bytes, byte_len, w16, w32, w64}
use Rattle.std.specs.Option.{option_and_then}
use Rattle.std.specs.Result.{result_ok}
use Rattle.std.specs.Str.{is_utf8}
use Rattle.std.specs.declared.option.Option.{Option}
use Rattle.be_value.specs.Name.{name_from, text_from, bytes_from}
use Rattle.be_value.specs.declared.values.Kind.{Kind}
use Rattle.be_value.specs.declared.values.Kind.TheVariants as kinds
use Rattle.be_value.specs.declared.values.Value.{Value}
use Rattle.be_value.specs.declared.values.Value.TheVariants.{Cstr, Long, Llng, Mims, Rawt, Ulng}
use Rattle.be_value.specs.declared.values.Value.TheVariants.{Ullg}
use Rattle.be_volume.specs.declared.ops.Done.{Done}
use Rattle.be_volume.specs.declared.ops.Done.TheVariants.{Node, Unit as Nothing}
use Rattle.be_volume.specs.declared.ops.Op.{Op}
use Rattle.be_volume.specs.declared.ops.Op.TheVariants.{New, Drop, Set, Unset, MkIndex, RmIndex}

infixl 10 ◌>>=◌
abbrev pub ◌>>=◌ : {A B : Type 0} → Option A → (A → Option B) → Option B
o >>= f = option_and_then f o

abbrev pub first_at : List ℕ → Option (ℕ × List ℕ)
first_at [] = None
first_at (first ∷ rest) = Some (first, rest)

-- a number with this width in bytes
abbrev pub fixed_at : Width → List ℕ → Option (ℕ × List ℕ)
fixed_at w bytes = if nat_lt (length bytes) (byte_len w) then None
    else Some (from_be_bytes w (take (byte_len w) bytes), drop (byte_len w) bytes)

unfoldable pub number_at : List ℕ → Option (ℕ × List ℕ)
number_at bytes = do
  first ← first_at bytes
  if nat_eq first.0 253 then fixed_at w16 first.1
      else if nat_eq first.0 254 then fixed_at w32 first.1
      else if nat_eq first.0 255 then fixed_at w64 first.1
      else Some first

-- a number below a limit
unfoldable pub below_at : ℕ → List ℕ → Option (ℕ × List ℕ)
below_at limit bytes = do
  n ← number_at bytes
  if nat_lt n.0 limit then Some n else None

unfoldable pub counted_at : List ℕ → Option (List ℕ × List ℕ)
counted_at bytes = do
  len ← number_at bytes
  if nat_lt (length len.1) len.0 then None else Some (take len.0 len.1, drop len.0 len.1)

-- the bytes as a string, if they are valid UTF-8
abbrev pub text_in : List ℕ → Option (List ℕ)
text_in bytes = if is_utf8 bytes then Some bytes else None

unfoldable pub name_at : List ℕ → Option (List ℕ × List ℕ)
name_at bytes = do
  part ← counted_at bytes
  text ← text_in part.0
  name ← result_ok (name_from text)
  Some (name, part.1)

unfoldable pub text_at : List ℕ → Option (List ℕ × List ℕ)
text_at bytes = do
  part ← counted_at bytes
  text ← text_in part.0
  text ← result_ok (text_from text)
  Some (text, part.1)

unfoldable pub raw_at : List ℕ → Option (List ℕ × List ℕ)
raw_at bytes = do
  part ← counted_at bytes
  raw ← result_ok (bytes_from part.0)
  Some (raw, part.1)

-- the kind with this number
unfoldable pub kind_numbered : ℕ → Option Kind
kind_numbered zero = None
kind_numbered (suc zero) = Some kinds.Cstr
kind_numbered (suc (suc zero)) = Some kinds.Long
kind_numbered (suc (suc (suc zero))) = Some kinds.Llng
kind_numbered (suc (suc (suc (suc zero)))) = Some kinds.Mims
kind_numbered (suc (suc (suc (suc (suc zero))))) = Some kinds.Rawt
kind_numbered (suc (suc (suc (suc (suc (suc zero)))))) = Some kinds.Ulng
kind_numbered (suc (suc (suc (suc (suc (suc (suc zero))))))) = Some kinds.Ullg
kind_numbered (suc (suc (suc (suc (suc (suc (suc (suc n)))))))) = None

unfoldable pub kind_at : List ℕ → Option (Kind × List ℕ)
kind_at bytes = do
  first ← first_at bytes
  kind ← kind_numbered first.0
  Some (kind, first.1)

-- the value whose number follows this byte, which gives the kind and sign
unfoldable pub number_value_at : ℕ → List ℕ → Option (Value × List ℕ)
number_value_at first rest =
    if nat_eq first 2 then (below_at (2 ^ 31) rest >>= (λ n. Some (Long (pos n.0), n.1)))
    else if nat_eq first 130 then (below_at (2 ^ 31) rest >>= (λ n. Some (Long (negsuc n.0), n.1)))
    else if nat_eq first 3 then (below_at (2 ^ 63) rest >>= (λ n. Some (Llng (pos n.0), n.1)))
    else if nat_eq first 131 then (below_at (2 ^ 63) rest >>= (λ n. Some (Llng (negsuc n.0), n.1)))
    else if nat_eq first 6 then (below_at (2 ^ 32) rest >>= (λ n. Some (Ulng n.0, n.1)))
    else if nat_eq first 7 then (number_at rest >>= (λ n. Some (Ullg n.0, n.1)))
    else None

unfoldable pub value_at : List ℕ → Option (Value × List ℕ)
value_at bytes = do
  first ← first_at bytes
  if nat_eq first.0 1 then (text_at first.1 >>= (λ text. Some (Cstr text.0, text.1)))
      else if nat_eq first.0 4 then (text_at first.1 >>= (λ text. Some (Mims text.0, text.1)))
      else if nat_eq first.0 5 then (raw_at first.1 >>= (λ raw. Some (Rawt raw.0, raw.1)))
      else number_value_at first.0 first.1

unfoldable pub set_at : List ℕ → Option (Op × List ℕ)
set_at bytes = do
  node ← number_at bytes
  name ← name_at node.1
  value ← value_at name.1
  Some (Set node.0 name.0 value.0, value.1)

unfoldable pub unset_at : List ℕ → Option (Op × List ℕ)
unset_at bytes = do
  node ← number_at bytes
  name ← name_at node.1
  Some (Unset node.0 name.0, name.1)

unfoldable pub mkindex_at : List ℕ → Option (Op × List ℕ)
mkindex_at bytes = do
  name ← name_at bytes
  kind ← kind_at name.1
  Some (MkIndex name.0 kind.0, kind.1)

-- an operation of this form
unfoldable pub op_at : ℕ → List ℕ → Option (Op × List ℕ)
op_at form bytes =
    if nat_eq form 0 then Some (New, bytes)
    else if nat_eq form 1 then (number_at bytes >>= (λ node. Some (Drop node.0, node.1)))
    else if nat_eq form 2 then set_at bytes
    else if nat_eq form 3 then unset_at bytes
    else if nat_eq form 4 then mkindex_at bytes
    else if nat_eq form 5 then (name_at bytes >>= (λ name. Some (RmIndex name.0, name.1)))
    else None

-- an operation whose outcome is `Nothing`, which takes no bytes
unfoldable pub quiet_at : ℕ → List ℕ → Option (Op × Done × List ℕ)
quiet_at form bytes = do
  op ← op_at form bytes
  Some (op.0, Nothing, op.1)

-- an operation whose outcome is a node
unfoldable pub answered_at : ℕ → List ℕ → Option (Op × Done × List ℕ)
answered_at form bytes = do
  op ← op_at form bytes
  node ← number_at op.1
  Some (op.0, Node node.0, node.1)

unfoldable pub step_at : List ℕ → Option (Op × Done × List ℕ)
step_at bytes = do
  first ← first_at bytes
  if nat_lt first.0 128 then quiet_at first.0 first.1 else answered_at (first.0 - 128) first.1

-- `count` operations and their outcomes
unfoldable pub steps_at : ℕ → List ℕ → Option (List Op × List Done × List ℕ)
steps_at zero bytes = Some ([], [], bytes)
steps_at (suc count) bytes = do
  first ← step_at bytes
  others ← steps_at count first.2
  Some (first.0 ∷ others.0, first.1 ∷ others.1, others.2)

-- the contents of an entry: the pass, the operations, their outcomes, and the bytes after the entry
abbrev pub Found : Type 0
Found = ℕ × List Op × List Done × List ℕ

abbrev pub found : ℕ → List Op → List Done → List ℕ → Option Found
found by ops dones rest = Some (by, ops, dones, rest)

-- the pass, the number of operations, and the bytes from the first operation onward
unfoldable pub head_at : List ℕ → Option (ℕ × ℕ × List ℕ)
head_at bytes = do
  by ← number_at bytes
  count ← number_at by.1
  Some (by.0, count.0, count.1)

unfoldable pub entry_at : List ℕ → Option Found
entry_at bytes = do
  head ← head_at bytes
  steps ← steps_at head.1 head.2
  Some (head.0, steps.0, steps.1, steps.2)
