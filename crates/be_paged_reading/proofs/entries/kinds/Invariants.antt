use Rattle.std.proofs.Common.{◌≡◌, map, take}
use Rattle.be_paged_reading.specs.Entry.{Entry}
use Rattle.be_paged_reading.proofs.entries.kinds.Given as goal

-- The entries listed so far.
abbrev pub invariant-loop-entry : goal.invariant-loop-entry
invariant-loop-entry l = l.list.items ≡ map (λ (e : Entry). (e.name, e.kind)) (take l.entry-index l.entries)
