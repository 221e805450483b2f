-- What a builder is given, as other languages encode it, and why it takes nothing.
use Rattle.std.specs.Prelude.{◌≡◌, ◌⊎◌, ℕ, Bool, List, None, Some, Ok, IsUtf8}
use Rattle.be_paged_building.specs.Building.{MayBeIndex, MayHave}
use Rattle.be_paged_building.specs.Errors.{AttributeError, FinishError, IndexError}
use Rattle.be_paged_building.specs.Given.{with_held, with_index, with_next}
use Rattle.be_store_building.specs.Building.{Building, IsSpent, Refuses, given, last_node}
use Rattle.be_value.specs.Name.{name_from}
use Rattle.be_value.specs.Value.{code_of}
use Rattle.be_value.specs.declared.refusals.Refusal.{Refusal}
use Rattle.be_value.specs.declared.refusals.Refusal.TheVariants.{OutOfMemory}
use Rattle.be_value.specs.declared.values.Kind.{Kind}
use Rattle.be_value.specs.declared.values.Value.{Value}
use Rattle.be_session.specs.Meaning.{IsNoKind, IsNoName, IsNoValue, IsValueMeant}
use Rattle.be_session.specs.declared.faults.Fault.{Fault}
use Rattle.be_session.specs.declared.faults.Fault.TheVariants.{NoKind, Refused}

-- The builder took an index of this name, whose kind has this type code.
abbrev pub GivesIndex : Building → Building → List ℕ → ℕ → Type 0
GivesIndex b c name code = (kind : Kind) × (code_of kind ≡ code) × (b.failed ≡ None)
    × MayBeIndex b.volume name kind × (c ≡ given b (with_index b.volume name kind))

-- The builder took an attribute of its last node, with the value that these parts encode.
abbrev pub GivesAttribute : Building → Building → List ℕ → ℕ → ℕ → List ℕ → Bool → Type 0
GivesAttribute b c name code number bytes held = (value : Value)
    × IsValueMeant code number bytes value × (b.failed ≡ None)
    × MayHave b.volume (last_node b.volume) name value held
    × (c ≡ given b (with_held b.volume (last_node b.volume) name value held))

-- The builder refused what it was given, and returned this error.
abbrev pub IsNotGiven : (why spent : Refusal → Type 0) → Building → Building → Fault → Type 0
IsNotGiven why spent b c e = (refusal : Refusal) × (e ≡ Refused refusal)
    × Refuses why spent b c refusal

-- Why the builder took no index. Either the name or the type code is invalid, and it is unchanged,
-- or it refused the index.
abbrev pub IsNoIndex : Building → Building → List ℕ → ℕ → Fault → Type 0
IsNoIndex b c name code e = ((c ≡ b) × IsNoName name e)
    ⊎ ((c ≡ b) × (name_from name ≡ Ok name) × (e ≡ NoKind) × IsNoKind code)
    ⊎ ((kind : Kind) × (name_from name ≡ Ok name) × (code_of kind ≡ code)
    × IsNotGiven (IndexError b.volume name kind) (λ why. why ≡ OutOfMemory) b c e)

-- Why the builder took no attribute. Either the name or the value is invalid, and it is unchanged,
-- or it refused the attribute.
abbrev pub IsNoAttribute : Building → Building → List ℕ → ℕ → ℕ → List ℕ → Bool → Fault → Type 0
IsNoAttribute b c name code number bytes held e = ((c ≡ b) × IsNoName name e)
    ⊎ ((c ≡ b) × (name_from name ≡ Ok name) × IsNoValue code number bytes e)
    ⊎ ((value : Value) × (name_from name ≡ Ok name) × IsValueMeant code number bytes value
    × IsNotGiven (AttributeError b.volume (last_node b.volume) name value held)
    (IsSpent b.limits.pages (with_held b.volume (last_node b.volume) name value held)) b c e)

-- Why a store that was built wasn't opened. Either the builder had failed with this error, or this
-- isn't a next number, or memory ran out, or the pages can't hold the volume.
abbrev pub IsNotBuilt : Building → ℕ → Fault → Type 0
IsNotBuilt b next e = (why : Refusal) × (e ≡ Refused why)
    × ((b.failed ≡ Some why) ⊎ ((b.failed ≡ None) × (FinishError b.volume next why
    ⊎ IsSpent b.limits.pages (with_next b.volume next) why)))
