use Rattle.std.proofs.Common.{◌≡◌, ◌≤◌, ◌+◌, ◌++◌, All, length}
use Rattle.be_journal.specs.Text.{lines_from}
use Rattle.be_journal_text.specs.History.{CanBeEntry}
use Rattle.be_journal_text.proofs.ReadLemmas.{AreLeft}
use Rattle.be_journal_text.proofs.journals.read_journal.Given as goal

abbrev pub invariant-loop-rest : goal.invariant-loop-rest
invariant-loop-rest l = record {
  number : l.number ≡ 1 + length l.entries.items;
  short : length l.entries.items + length l.rest ≤ length l.fn.text;
  written : All CanBeEntry l.entries.items;
  reads : lines_from 1 l.entries.items ++ l.rest ≡ l.fn.text;
  left : AreLeft l.fn.text l.entries.items l.rest;
}

abbrev pub decreases-loop-rest : goal.decreases-loop-rest
decreases-loop-rest l = length l.rest
