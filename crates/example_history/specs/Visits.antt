-- The calls of a thread that writes and then runs a query, as steps in be_store's small machine.
use Rattle.std.specs.Prelude.{◌≡◌, ◌≢◌, ◌<◌, ◌≤◌, ℕ, List, [], ◌∷◌, ◌++◌, length, map, IfOk}
use Rattle.std.specs.Prelude.{None, Ok, Some}
use Rattle.std.specs.declared.result.Result.{Result}
use Rattle.be_journal.specs.declared.entries.Entry.{Entry}
use Rattle.be_journal.specs.Journal.{replay}
use Rattle.be_query.specs.Grammar.{Formula}
use Rattle.be_table.specs.Place.{Opened, SeatFacts}
use Rattle.be_table.specs.Rule.{newcomer}
use Rattle.be_table.specs.Seats.{pinned_number}
use Rattle.be_table.specs.Setting.{Setting}
use Rattle.be_table.specs.declared.pass.Knowledge.{Knowledge}
use Rattle.be_value.specs.declared.refusals.Refusal.{Refusal}
use Rattle.be_volume.specs.Query.{scan}
use Rattle.be_volume.specs.Volume.{empty}
use Rattle.be_volume.specs.declared.ops.Done.{Done}
use Rattle.be_volume.specs.declared.ops.Op.{Op}
use Rattle.be_store.specs.Calls.{Calls}
use Rattle.be_store.specs.OneHistory.{IsOneHistory, PassRun, steps_of}
use Rattle.be_store.specs.Passes.{IsPassOf}
use Rattle.be_store.specs.SmallMachine.{Step, Apply, Pin, Unpin, Read}
use Rattle.be_store.specs.Views.{Nodes, volume}
use Rattle.example_history.specs.declared.Visit.{Visit}

-- the knowledge that pass k of a store begins with
abbrev pub IsNew : Knowledge → ℕ → Type 0
IsNew a k = (limits : Setting) × (steps : ℕ) × (a ≡ newcomer limits steps k)

-- Pass k writes these operations. The write is accepted, with the commit number n and these
-- outcomes.
abbrev pub writes : ℕ → List Op → ℕ → List Done → List (Step volume)
writes k ops n dones = Apply (record { by = k; ops = ops; dones = dones }) n ∷ []

-- A pass pins and gets this commit number, runs the query and gets these nodes, and then unpins.
abbrev pub asks : Formula → ℕ → List ℕ → List (Step volume)
asks query pin nodes = Pin pin ∷ Read (λ s. Nodes (scan s query)) (Some (Nodes (Ok nodes))) ∷ Unpin
    ∷ []

-- a write followed by a query
abbrev pub visits : ℕ → List Op → ℕ → List Done → Formula → ℕ → List ℕ → List (Step volume)
visits k ops n dones query pin nodes = writes k ops n dones ++ asks query pin nodes

-- A pass of this store that isn't pinned, and operations for one write.
abbrev pub MayVisit : Opened → SeatFacts → List Op → Type 0
MayVisit store pass ops = IsPassOf store pass × (pinned_number pass.knows.phase ≡ None)
    × (1 ≤ length ops) × (length ops ≤ 64)

-- The pass that knew this wrote these operations and then ran the query, unless a call was refused.
-- It is still a pass of this store.
abbrev pub HasVisited : Opened → Knowledge → List Op → Formula → SeatFacts
    → Result Visit Refusal → Type 0
HasVisited store before ops query pass answer = IsPassOf store pass
    × IfOk answer (λ v. Calls before (visits before.number ops v.signed.number
    v.signed.outcomes.items query v.found.pin v.found.nodes.items) pass.knows)

-- The journal is one history of two passes of a store that began empty, whose calls were these
-- steps.
abbrev pub IsHistoryOf : List Entry → List (Step volume) → List (Step volume) → Type 0
IsHistoryOf journal first second = (runs : List (PassRun volume))
    × (map (λ (r : PassRun volume). r.number) runs ≡ 0 ∷ 1 ∷ [])
    × (map (steps_of volume) runs ≡ first ∷ second ∷ []) × IsOneHistory volume empty journal runs

-- The journal has three entries. The writes a and b have different numbers, and the query after the
-- later write found the nodes that match in the final volume.
abbrev pub FindsAll : List Entry → Formula → (a b : ℕ) → (found_a found_b : List ℕ) → Type 0
FindsAll journal query a b found_a found_b = (length journal ≡ 3) × (a ≢ b)
    × (b < a → scan (replay journal) query ≡ Ok found_a)
    × (a < b → scan (replay journal) query ≡ Ok found_b)
