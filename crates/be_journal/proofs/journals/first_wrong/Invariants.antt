use Rattle.std.proofs.Common.{◌≡◌, ◌≤◌, ◌<◌, ◌+◌, ◌*◌, ℕ, take, get_or}
use Rattle.be_journal.specs.Journal.{replay, Agrees}
use Rattle.be_journal.specs.declared.entries.Entry.{Entry}
use Rattle.be_journal.proofs.journals.first_wrong.Given as goal

abbrev pub invariant-loop-entry : goal.invariant-loop-entry
invariant-loop-entry l = record {
  place : l.place ≡ l.entry-index;
  volume : l.reached ≡ replay (take l.entry-index l.entries);
  bound : l.reached.next ≤ 1 + 64 * l.entry-index;
  agree : (i : ℕ) (entry : Entry) → i < l.entry-index → entry ≡ get_or l.entries i entry → Agrees (replay (take i l.entries)) entry;
}
