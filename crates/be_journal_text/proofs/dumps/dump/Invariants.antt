use Rattle.std.proofs.Common.{◌≡◌, take}
use Rattle.std.specs.String.{string_bytes}
use Rattle.be_journal_text.specs.Dump as spec
use Rattle.be_journal_text.proofs.dumps.dump.Given as goal

abbrev pub invariant-loop-entry : goal.invariant-loop-entry
invariant-loop-entry l = string_bytes l.text ≡ spec.dump (take l.entry-index l.entries)
