-- What calls do to a change's handle.
use Rattle.std.specs.Prelude.{◌≡◌, ◌⊎◌, ℕ, IsUtf8, List, Option, None, Some, true, false, length}
use Rattle.std.specs.declared.result.Result.{Result}
use Rattle.std.specs.declared.result.Result.TheVariants.{Ok, Err}
use Rattle.be_change.specs.Changing.{After, Changing, Reads}
use Rattle.be_change.specs.Ending.{Begins, IsNotBegun}
use Rattle.be_session.specs.Changes.{Abandons, CollectsMeant, EndsChange, IsNotCollected}
use Rattle.be_session.specs.Changes.{IsOwnChange, IsUnwrittenChange, WritesChange}
use Rattle.be_session.specs.Fault.{fault_code}
use Rattle.be_session.specs.Meaning.{IsNoName}
use Rattle.be_session.specs.Operations.{AreMeant, IsInvalid, IsWriteCount}
use Rattle.be_session.specs.Sitting.{Sitting}
use Rattle.be_session.specs.declared.faults.Fault.{Fault}
use Rattle.be_session.specs.declared.faults.Fault.TheVariants.{Refused}
use Rattle.be_session.specs.declared.lists.Operation.{Operation}
use Rattle.be_store.specs.Passes.{HasRead, volume_pinned}
use Rattle.be_table.specs.declared.pass.Knowledge.{Knowledge}
use Rattle.be_value.specs.Name.{name_from}
use Rattle.be_value.specs.declared.refusals.Refusal.TheVariants.{OutOfMemory}
use Rattle.be_value.specs.declared.values.Value.{Value}
use Rattle.be_volume.specs.Reading.{attribute}
use Rattle.be_volume.specs.declared.ops.Op.{Op}
use Rattle.bestore_c.specs.Calls.{IsClosed, IsPutOut, Refuses, Shown}
use Rattle.bestore_c.specs.declared.handle.Attribute.{Attribute}
use Rattle.bestore_c.specs.declared.handle.Counts.{Counts}

-- Beginning a change. If the handle is open, it is unchanged, and the call returns 65. A closed
-- handle gets a change that has just begun and checks kinds, and the call returns the numbers of
-- its snapshot and of its first new node. The handle stays closed if memory runs out.
abbrev pub BeginsDraft : Sitting → Sitting → Option Changing → Option Changing → ℕ → ℕ → ℕ → Type 0
BeginsDraft s t (Some c) (Some d) number next code = (code ≡ 65) × (number ≡ 0) × (d ≡ c) × (t ≡ s)
BeginsDraft s t (Some c) None number next code = ⊥
BeginsDraft s t None (Some d) number next code = (code ≡ 0) × Begins d true s.knows t.knows
    × (number ≡ d.number) × (next ≡ d.first)
BeginsDraft s t None None number next code = Refuses (Refused OutOfMemory) number code
    × IsNotBegun s.knows t.knows

-- The change takes any kind from now on, unless its handle is closed.
abbrev pub TakesAnyKind : Option Changing → Option Changing → ℕ → Type 0
TakesAnyKind None None code = code ≡ 64
TakesAnyKind None (Some d) code = ⊥
TakesAnyKind (Some c) None code = ⊥
TakesAnyKind (Some c) (Some d) code = (code ≡ 0) × (d ≡ record c { checks = false })

-- The change collects an operation, and the call returns the number of the node that it will
-- create, or 0. After an error, the change is unchanged. The change's handle may also be closed.
abbrev pub AddsEncoded : Option Changing → Option Changing → Operation → List ℕ → ℕ → ℕ → Type 0
AddsEncoded None None o bytes node code = IsClosed node code
AddsEncoded None (Some d) o bytes node code = ⊥
AddsEncoded (Some c) None o bytes node code = ⊥
AddsEncoded (Some c) (Some d) o bytes node code =
    ((code ≡ 0) × CollectsMeant c d o bytes node)
    ⊎ ((e : Fault) × Refuses e node code × (d ≡ c) × IsNotCollected c o bytes e)

-- An attribute as the change's operations leave it. If it is the session's own change, the call
-- returns the attribute, or 3 if there is none. Otherwise it returns 66.
abbrev pub ShowsChanged : Changing → Knowledge → ℕ → List ℕ → Attribute → List ℕ → List ℕ → ℕ
    → Type 0
ShowsChanged c a node name reported places filled code =
    ((¬ (IsOwnChange c a)) × (code ≡ 66))
    ⊎ (IsOwnChange c a × (found : Option Value)
    × Shown (Some c.number) found reported places filled code
    × (Reads c (volume_pinned a)
    → After c (volume_pinned a) (λ s. found ≡ attribute s node name)))

-- Reading in a change. If its handle is closed, or if the bytes aren't a valid name, nothing
-- happens.
abbrev pub ReadsDraft : Sitting → Sitting → Option Changing → ℕ → List ℕ → Attribute → List ℕ
    → List ℕ → ℕ → Type 0
ReadsDraft s t None node name reported places filled code = (code ≡ 64) × (t ≡ s)
ReadsDraft s t (Some c) node name reported places filled code =
    ((e : Fault) × (code ≡ fault_code e) × IsNoName name e × (t ≡ s))
    ⊎ (IsUtf8 name × (name_from name ≡ Ok name) × HasRead s.knows t.knows
    × ShowsChanged c s.knows node name reported places filled code)

-- The operations that a change has collected, unless its handle is closed.
abbrev pub ListsDraft : Option Changing → Counts → List Operation → List Operation → List ℕ
    → List ℕ → ℕ → Type 0
ListsDraft None counts places filled byte_places bytes code = code ≡ 64
ListsDraft (Some c) counts places filled byte_places bytes code = IsPutOut c.ops counts places
    filled byte_places bytes code

-- A call returns this number with the code 0, or the code of an error and what the error carries.
abbrev pub Returns : Result ℕ Fault → ℕ → ℕ → Type 0
Returns (Ok n) number code = (code ≡ 0) × (number ≡ n)
Returns (Err e) number code = Refuses e number code

-- Ending a change. If its handle is closed, nothing happens.
abbrev pub EndsDraft : Sitting → Sitting → Option Changing → ℕ → ℕ → Type 0
EndsDraft s t None number code = IsClosed number code × (t ≡ s)
EndsDraft s t (Some c) number code = (answer : Result ℕ Fault)
    × EndsChange c s.knows t.knows answer × Returns answer number code

-- Abandoning a change. If its handle is closed, nothing happens.
abbrev pub AbandonsDraft : Sitting → Sitting → Option Changing → ℕ → Type 0
AbandonsDraft s t None code = (code ≡ 64) × (t ≡ s)
AbandonsDraft s t (Some c) code = (code ≡ 0) × Abandons c s.knows t.knows

-- Writing encoded operations as a change in one call. If one of them is invalid, nothing happens,
-- and the number is its index in the list. Otherwise they encode a list of operations. If the store
-- accepts these, the number is the commit number. If it refuses them, the number is the index of
-- the first set of a wrong kind, or what the error carries.
abbrev pub WritesEncodedChange : Sitting → Sitting → List Operation → List ℕ → ℕ → ℕ → Type 0
WritesEncodedChange s t encoded bytes number code =
    ((e : Fault) × (code ≡ fault_code e) × IsInvalid encoded bytes e number × (t ≡ s))
    ⊎ (IsWriteCount (length encoded) × (ops : List Op) × AreMeant encoded bytes ops
    × (((code ≡ 0) × WritesChange s.knows t.knows ops number)
    ⊎ ((e : Fault) × (code ≡ fault_code e) × IsUnwrittenChange s.knows t.knows ops e number)))
