-- What calls do to a builder's handle.
use Rattle.std.specs.Prelude.{◌≡◌, ◌⊎◌, ◌==◌, ℕ, Bool, List, Option, None, Some, not}
use Rattle.be_paged_building.specs.Building.{MayBeNode}
use Rattle.be_paged_building.specs.Errors.{NodeError}
use Rattle.be_paged_building.specs.Given.{with_next, with_node}
use Rattle.be_session.specs.Building.{GivesAttribute, GivesIndex, IsNoAttribute, IsNoIndex}
use Rattle.be_session.specs.Building.{IsNotBuilt, IsNotGiven}
use Rattle.be_session.specs.Fault.{fault_code}
use Rattle.be_session.specs.Sitting.{BeginsWith, Sitting}
use Rattle.be_session.specs.declared.faults.Fault.{Fault}
use Rattle.be_store_building.specs.Building.{Building, IsSpent, begun, given}
use Rattle.be_table.specs.Rule.{IsPossible}
use Rattle.be_table.specs.Works.{IsLargeRefused}
use Rattle.be_table.specs.declared.limits.Limits.{Limits}
use Rattle.be_value.specs.Refusal.{refusal_number}
use Rattle.be_value.specs.declared.refusals.Refusal.{Refusal}

-- Beginning a store. If the handle is open, it is unchanged, and the call returns 65. A closed
-- handle gets a builder that has been given the empty volume. It stays closed if the limits are out
-- of range or if memory runs out, and the call returns the number of the error.
abbrev pub BeginsBuilding : Limits → Option Building → Option Building → ℕ → Type 0
BeginsBuilding limits (Some b) (Some c) code = (code ≡ 65) × (c ≡ b)
BeginsBuilding limits (Some b) None code = ⊥
BeginsBuilding limits None (Some c) code = (code ≡ 0) × IsPossible limits × (c ≡ begun limits)
BeginsBuilding limits None None code = ((code ≡ 10) × IsPossible limits)
    ⊎ ((why : Refusal) × (code ≡ refusal_number why) × IsLargeRefused limits why)

-- A call on a closed handle leaves it closed and returns 64. A call on an open handle leaves it
-- open. Either the builder takes what it is given and the call returns 0, or the call returns the
-- number of the error, and `unless` says why and what the builder then is.
abbrev pub Gives : Option Building → Option Building → (Building → Building → Type 0)
    → (Building → Building → Fault → Type 0) → ℕ → Type 0
Gives None None takes unless code = code ≡ 64
Gives None (Some c) takes unless code = ⊥
Gives (Some b) None takes unless code = ⊥
Gives (Some b) (Some c) takes unless code = ((code ≡ 0) × takes b c)
    ⊎ ((e : Fault) × (code ≡ fault_code e) × unless b c e)

-- The builder takes an index of this name, whose kind has this type code.
abbrev pub BuildsIndex : Option Building → Option Building → List ℕ → ℕ → ℕ → Type 0
BuildsIndex b c name index_code code = Gives b c (λ b c. GivesIndex b c name index_code)
    (λ b c. IsNoIndex b c name index_code) code

-- The builder took a node.
abbrev pub GivesNode : Building → Building → ℕ → Type 0
GivesNode b c node = (b.failed ≡ None) × MayBeNode b.volume node
    × (c ≡ given b (with_node b.volume node))

-- Why the builder took no node: it refused the node.
abbrev pub IsNoNode : Building → Building → ℕ → Fault → Type 0
IsNoNode b c node e = IsNotGiven (NodeError b.volume node)
    (IsSpent b.limits.pages (with_node b.volume node)) b c e

-- The builder takes a node.
abbrev pub BuildsNode : Option Building → Option Building → ℕ → ℕ → Type 0
BuildsNode b c node code = Gives b c (λ b c. GivesNode b c node) (λ b c. IsNoNode b c node) code

-- The builder takes an attribute of its last node, with the value that these parts encode. It is
-- held unless `held` is 0.
abbrev pub BuildsAttribute : Option Building → Option Building → List ℕ → ℕ → ℕ → List ℕ → ℕ → ℕ
    → Type 0
BuildsAttribute b c name value_code number bytes held code = Gives b c
    (λ b c. GivesAttribute b c name value_code number bytes (not (held == 0)))
    (λ b c. IsNoAttribute b c name value_code number bytes (not (held == 0))) code

-- Opening the store that was built. If the builder's handle is closed, the call returns 64, and if
-- the handle of the pass is open, it returns 65; both are then unchanged. Otherwise the builder's
-- handle is closed. The handle of the pass gets the first session of a store that begins with the
-- volume, or stays closed, in which case the call returns the number of the error.
abbrev pub FinishesBuilding : Option Building → Option Building → ℕ → Option Sitting
    → Option Sitting → ℕ → Type 0
FinishesBuilding None c next s t code = (code ≡ 64) × (c ≡ None) × (t ≡ s)
FinishesBuilding (Some b) c next (Some s) t code = (code ≡ 65) × (c ≡ Some b) × (t ≡ Some s)
FinishesBuilding (Some b) c next None (Some t) code = (code ≡ 0) × (c ≡ None)
    × BeginsWith b.limits (with_next b.volume next) t
FinishesBuilding (Some b) c next None None code = (c ≡ None)
    × ((code ≡ 10) ⊎ ((e : Fault) × (code ≡ fault_code e) × IsNotBuilt b next e))
