use Rattle.std.proofs.Common.{◌<◌, ◌≤◌, ℕ, get_or}
use Rattle.std.specs.List.Sorted.{IsStrictlyIncreasing}
use Rattle.be_journal.specs.declared.entries.Entry.{Entry}
use Rattle.be_table.specs.Rule.{entries}
use Rattle.be_store.specs.Named.{NamesAmong}
use Rattle.be_store.proofs.named.add_between.Given as goal

abbrev pub invariant-loop-i : goal.invariant-loop-i
invariant-loop-i l = record {
  rising : IsStrictlyIncreasing l.nodes.items;
  named : (i : ℕ) (d : Entry) → l.from ≤ i → i < l.i → NamesAmong l.nodes.items (get_or (entries l.held.knows.seen) i d);
}
