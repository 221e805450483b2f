-- What values are: their kinds, their codes and their order.
use Rattle.std.specs.Prelude.{ℕ, Bool, true, false, List, codes}
use Rattle.std.specs.Ordering.{nat_cmp, int_cmp}
use Rattle.std.specs.declared.cmp.Ordering.{Ordering}
use Rattle.std.specs.declared.cmp.Ordering.TheVariants.{Equal}
use Rattle.std.specs.Cmp.Lexicographic.{slice_cmp}
use Rattle.be_value.specs.declared.values.Value.{Value}
use Rattle.be_value.specs.declared.values.Value.TheVariants.{Cstr, Long, Llng, Mims, Rawt, Ulng}
use Rattle.be_value.specs.declared.values.Value.TheVariants.{Ullg}
use Rattle.be_value.specs.declared.values.Kind.{Kind}
use Rattle.be_value.specs.declared.values.Kind.TheVariants as kinds

abbrev pub kind_of : Value → Kind
kind_of (Cstr text) = kinds.Cstr
kind_of (Long n) = kinds.Long
kind_of (Llng n) = kinds.Llng
kind_of (Mims text) = kinds.Mims
kind_of (Rawt bytes) = kinds.Rawt
kind_of (Ulng n) = kinds.Ulng
kind_of (Ullg n) = kinds.Ullg

-- the type code, four letters as a number
abbrev pub code_of : Kind → ℕ
code_of kinds.Cstr = 0x43535452
code_of kinds.Long = 0x4c4f4e47
code_of kinds.Llng = 0x4c4c4e47
code_of kinds.Mims = 0x4d494d53
code_of kinds.Rawt = 0x52415754
code_of kinds.Ulng = 0x554c4e47
code_of kinds.Ullg = 0x554c4c47

-- the kind's number in pages
abbrev pub kind_number : Kind → ℕ
kind_number kinds.Cstr = 1
kind_number kinds.Long = 2
kind_number kinds.Llng = 3
kind_number kinds.Mims = 4
kind_number kinds.Rawt = 5
kind_number kinds.Ulng = 6
kind_number kinds.Ullg = 7

-- the kind's name in text form
abbrev pub kind_name : Kind → List ℕ
kind_name kinds.Cstr = codes "CSTR"
kind_name kinds.Long = codes "LONG"
kind_name kinds.Llng = codes "LLNG"
kind_name kinds.Mims = codes "MIMS"
kind_name kinds.Rawt = codes "RAWT"
kind_name kinds.Ulng = codes "ULNG"
kind_name kinds.Ullg = codes "ULLG"

abbrev pub is_indexable : Kind → Bool
is_indexable kinds.Cstr = true
is_indexable kinds.Long = true
is_indexable kinds.Llng = true
is_indexable kinds.Mims = false
is_indexable kinds.Rawt = false
is_indexable kinds.Ulng = true
is_indexable kinds.Ullg = true

-- The order of two values of one kind: numbers by size, texts and raw bytes by their bytes. It is
-- meaningless for values of different kinds.
abbrev pub value_cmp : Value → Value → Ordering
value_cmp (Cstr a) (Cstr b) = slice_cmp nat_cmp a b
value_cmp (Long a) (Long b) = int_cmp a b
value_cmp (Llng a) (Llng b) = int_cmp a b
value_cmp (Mims a) (Mims b) = slice_cmp nat_cmp a b
value_cmp (Rawt a) (Rawt b) = slice_cmp nat_cmp a b
value_cmp (Ulng a) (Ulng b) = nat_cmp a b
value_cmp (Ullg a) (Ullg b) = nat_cmp a b
value_cmp _ _ = Equal
