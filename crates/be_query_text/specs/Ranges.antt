-- Comparisons that are false for all values of a kind.
use Rattle.std.specs.Prelude.{◌≡◌, ◌≤ℤ◌, Bool, true, false, ◌||◌, Some, None, pos, int_lt, int_le}
use Rattle.std.specs.declared.option.Option.{Option}
use lib.IntN.{ℤ, neg_ℤ}
use Rattle.be_query.specs.Grammar.{Literal}
use Rattle.be_query.specs.declared.tree.Cmp.{Cmp}
use Rattle.be_query.specs.declared.tree.Cmp.TheVariants.{Eq, Ne, Lt, Le, Gt, Ge}
use Rattle.be_value.specs.Key.{IsValue}
use Rattle.be_value.specs.Value.{kind_of}
use Rattle.be_value.specs.declared.values.Kind.{Kind}
use Rattle.be_value.specs.declared.values.Kind.TheVariants as kinds
use Rattle.be_value.specs.declared.values.Value.{Value}
use Rattle.be_value.specs.declared.values.Value.TheVariants.{Cstr, Long, Llng, Mims, Rawt, Ulng}
use Rattle.be_value.specs.declared.values.Value.TheVariants.{Ullg}
use Rattle.be_volume.specs.Query.{holds, literal_number}

-- The operator is false for every integer from `least` to `greatest`.
abbrev pub is_false_between : Cmp → ℤ → ℤ → ℤ → Bool
is_false_between Eq n least greatest = int_lt n least || int_lt greatest n
is_false_between Ne n least greatest = false
is_false_between Lt n least greatest = int_le n least
is_false_between Le n least greatest = int_lt n least
is_false_between Gt n least greatest = int_le greatest n
is_false_between Ge n least greatest = int_lt greatest n

-- `is_false_between`, if there is a number. Without a number, the comparison is always false.
abbrev pub is_false_of : Cmp → Option ℤ → ℤ → ℤ → Bool
is_false_of op None least greatest = true
is_false_of op (Some n) least greatest = is_false_between op n least greatest

abbrev pub is_never_true : Cmp → Option ℤ → Kind → Bool
is_never_true op number kinds.Cstr = false
is_never_true op number kinds.Long = is_false_of op number (neg_ℤ (pos 2147483648)) (pos 2147483647)
is_never_true op number kinds.Llng = is_false_of op number (neg_ℤ (pos 9223372036854775808))
    (pos 9223372036854775807)
is_never_true op number kinds.Mims = false
is_never_true op number kinds.Rawt = false
is_never_true op number kinds.Ulng = is_false_of op number (pos 0) (pos 4294967295)
is_never_true op number kinds.Ullg = is_false_of op number (pos 0) (pos 18446744073709551615)

-- A comparison whose literal encodes this number, or no number, is false for all values of the
-- kind.
abbrev pub IsNeverTrue : Cmp → Option ℤ → Kind → Type 0
IsNeverTrue op number kind = (literal : Literal) → literal_number literal ≡ number → (v : Value)
    → IsValue v → kind_of v ≡ kind → holds op v literal ≡ false

-- The value is an integer from `least` to `greatest`.
abbrev pub IsBetween : ℤ → ℤ → Value → Type 0
IsBetween least greatest (Cstr text) = ⊥
IsBetween least greatest (Long n) = (least ≤ℤ n) × (n ≤ℤ greatest)
IsBetween least greatest (Llng n) = (least ≤ℤ n) × (n ≤ℤ greatest)
IsBetween least greatest (Mims text) = ⊥
IsBetween least greatest (Rawt bytes) = ⊥
IsBetween least greatest (Ulng n) = (least ≤ℤ pos n) × (pos n ≤ℤ greatest)
IsBetween least greatest (Ullg n) = (least ≤ℤ pos n) × (pos n ≤ℤ greatest)
