-- What numbers and bytes mean: values and operations as other languages encode them.
use Rattle.std.specs.Prelude.{◌≡◌, ◌≢◌, ◌⊎◌, ◌<◌, ◌≤◌, ◌^◌, ℕ, List, [], IsUtf8, Ok, Err}
use Rattle.std.specs.Int.{cast_signed, w32, w64}
use Rattle.std.specs.Int.RustNames.{FitsSigned}
use Rattle.be_value.specs.Name.{name_from, text_from, bytes_from}
use Rattle.be_value.specs.Value.{code_of}
use Rattle.be_value.specs.declared.refusals.Refusal.{Refusal}
use Rattle.be_value.specs.declared.values.Kind.{Kind}
use Rattle.be_value.specs.declared.values.Kind.TheVariants as kinds
use Rattle.be_value.specs.declared.values.Value.{Value}
use Rattle.be_value.specs.declared.values.Value.TheVariants.{Cstr, Long, Llng, Mims, Rawt, Ulng}
use Rattle.be_value.specs.declared.values.Value.TheVariants.{Ullg}
use Rattle.be_volume.specs.declared.ops.Op.{Op}
use Rattle.be_volume.specs.declared.ops.Op.TheVariants.{New, Drop, Set, Unset, MkIndex, RmIndex}
use Rattle.be_session.specs.declared.faults.Fault.{Fault}
use Rattle.be_session.specs.declared.faults.Fault.TheVariants.{NotUtf8, NoOperation, NoKind}
use Rattle.be_session.specs.declared.faults.Fault.TheVariants.{NoValue, Refused}

-- The value that a type code, a number and bytes encode. A string or raw bytes are encoded by the
-- bytes, and a number by the number, which is in two's complement if the kind is signed.
abbrev pub IsValueMeant : ℕ → ℕ → List ℕ → Value → Type 0
IsValueMeant code number bytes (Cstr text) = (code ≡ code_of kinds.Cstr) × (text ≡ bytes)
IsValueMeant code number bytes (Long n) = (code ≡ code_of kinds.Long) × (n ≡ cast_signed w64 number)
IsValueMeant code number bytes (Llng n) = (code ≡ code_of kinds.Llng) × (n ≡ cast_signed w64 number)
IsValueMeant code number bytes (Mims text) = (code ≡ code_of kinds.Mims) × (text ≡ bytes)
IsValueMeant code number bytes (Rawt raw) = (code ≡ code_of kinds.Rawt) × (raw ≡ bytes)
IsValueMeant code number bytes (Ulng n) = (code ≡ code_of kinds.Ulng) × (n ≡ number)
IsValueMeant code number bytes (Ullg n) = (code ≡ code_of kinds.Ullg) × (n ≡ number)

-- Whatever a value doesn't use is 0 or empty.
abbrev pub HasNoMore : ℕ → List ℕ → Value → Type 0
HasNoMore number bytes (Cstr text) = number ≡ 0
HasNoMore number bytes (Long n) = bytes ≡ []
HasNoMore number bytes (Llng n) = bytes ≡ []
HasNoMore number bytes (Mims text) = number ≡ 0
HasNoMore number bytes (Rawt raw) = number ≡ 0
HasNoMore number bytes (Ulng n) = bytes ≡ []
HasNoMore number bytes (Ullg n) = bytes ≡ []

-- The operation that these values encode. Each operation uses only some of the parts.
abbrev pub IsMeant : ℕ → ℕ → List ℕ → ℕ → ℕ → List ℕ → Op → Type 0
IsMeant number node name code value_number bytes New = number ≡ 0
IsMeant number node name code value_number bytes (Drop n) = (number ≡ 1) × (n ≡ node)
IsMeant number node name code value_number bytes (Set n called value) = (number ≡ 2) × (n ≡ node)
    × (called ≡ name) × IsValueMeant code value_number bytes value
IsMeant number node name code value_number bytes (Unset n called) = (number ≡ 3) × (n ≡ node)
    × (called ≡ name)
IsMeant number node name code value_number bytes (MkIndex called kind) = (number ≡ 4)
    × (called ≡ name) × (code_of kind ≡ code)
IsMeant number node name code value_number bytes (RmIndex called) = (number ≡ 5) × (called ≡ name)

-- Whatever an operation doesn't use is 0 or empty. An operation that creates a node may have the
-- node's number.
abbrev pub HasOnly : ℕ → List ℕ → ℕ → ℕ → List ℕ → Op → Type 0
HasOnly node name code value_number bytes New = (name ≡ []) × (code ≡ 0) × (value_number ≡ 0)
    × (bytes ≡ [])
HasOnly node name code value_number bytes (Drop n) = (name ≡ []) × (code ≡ 0) × (value_number ≡ 0)
    × (bytes ≡ [])
HasOnly node name code value_number bytes (Set n called value) = HasNoMore value_number bytes value
HasOnly node name code value_number bytes (Unset n called) = (code ≡ 0) × (value_number ≡ 0)
    × (bytes ≡ [])
HasOnly node name code value_number bytes (MkIndex called kind) = (node ≡ 0) × (value_number ≡ 0)
    × (bytes ≡ [])
HasOnly node name code value_number bytes (RmIndex called) = (node ≡ 0) × (code ≡ 0)
    × (value_number ≡ 0) × (bytes ≡ [])

-- No kind has this type code.
abbrev pub IsNoKind : ℕ → Type 0
IsNoKind code = (kind : Kind) → code_of kind ≢ code

-- The reason why bytes aren't a name. Either they aren't valid UTF-8, or the text isn't a valid
-- name.
abbrev pub IsNoName : List ℕ → Fault → Type 0
IsNoName name e = ((e ≡ NotUtf8) × (¬ (IsUtf8 name)))
    ⊎ (IsUtf8 name × (why : Refusal) × (e ≡ Refused why) × (name_from name ≡ Err why))

-- The reason why bytes aren't the text of a value. Either they aren't valid UTF-8, or the text
-- isn't a valid value.
abbrev pub IsNoText : List ℕ → Fault → Type 0
IsNoText bytes e = ((e ≡ NotUtf8) × (¬ (IsUtf8 bytes)))
    ⊎ (IsUtf8 bytes × (why : Refusal) × (e ≡ Refused why) × (text_from bytes ≡ Err why))

-- The reason why a number and bytes don't encode a value of this kind.
abbrev pub IsNoneOf : Kind → ℕ → List ℕ → Fault → Type 0
IsNoneOf kinds.Cstr number bytes e = IsNoText bytes e
IsNoneOf kinds.Long number bytes e = (e ≡ NoValue) × (¬ (FitsSigned w32 (cast_signed w64 number)))
IsNoneOf kinds.Llng number bytes e = ⊥
IsNoneOf kinds.Mims number bytes e = IsNoText bytes e
IsNoneOf kinds.Rawt number bytes e = (why : Refusal) × (e ≡ Refused why)
    × (bytes_from bytes ≡ Err why)
IsNoneOf kinds.Ulng number bytes e = (e ≡ NoValue) × (¬ (number < 2 ^ 32))
IsNoneOf kinds.Ullg number bytes e = ⊥

-- The reason why a type code, a number and bytes don't encode a value.
abbrev pub IsNoValue : ℕ → ℕ → List ℕ → Fault → Type 0
IsNoValue code number bytes e = ((e ≡ NoKind) × IsNoKind code)
    ⊎ ((kind : Kind) × (code_of kind ≡ code) × IsNoneOf kind number bytes e)

-- The reason why these values don't encode an operation. If the operation has a name, the name is
-- checked first.
abbrev pub IsNoOperation : ℕ → List ℕ → ℕ → ℕ → List ℕ → Fault → Type 0
IsNoOperation number name code value_number bytes e =
    ((e ≡ NoOperation) × (5 < number))
    ⊎ ((2 ≤ number) × (number ≤ 5) × IsNoName name e)
    ⊎ ((number ≡ 2) × (name_from name ≡ Ok name) × IsNoValue code value_number bytes e)
    ⊎ ((number ≡ 4) × (name_from name ≡ Ok name) × (e ≡ NoKind) × IsNoKind code)
