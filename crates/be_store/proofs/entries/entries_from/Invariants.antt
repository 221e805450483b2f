use Rattle.std.proofs.Common.{◌≡◌, ◌-◌, drop, take}
use Rattle.be_table.specs.Rule.{entries}
use Rattle.be_store.proofs.entries.entries_from.Given as goal

abbrev pub invariant-loop-i : goal.invariant-loop-i
invariant-loop-i l = l.list.items ≡ take (l.i - l.from) (drop l.from (entries l.held.knows.seen))
