use Rattle.std.proofs.Common.{◌≡◌, ◌≤◌, ◌<◌, ◌+◌, ◌*◌, ℕ, take, drop, get_or}
use Rattle.be_journal.specs.Journal.{replay, Agrees}
use Rattle.be_journal.specs.declared.entries.Entry.{Entry}
use Rattle.be_journal.proofs.journals.Journal.check.Given as goal

abbrev pub invariant-loop : goal.invariant-loop
invariant-loop l = record {
  left : l.reader ≡ drop l.counter l.self.entries;
  volume : l.reached ≡ replay (take l.counter l.self.entries);
  bound : l.reached.next ≤ 1 + 64 * l.counter;
  agree : (i : ℕ) (entry : Entry) → i < l.counter → entry ≡ get_or l.self.entries i entry → Agrees (replay (take i l.self.entries)) entry;
}
