use Rattle.std.proofs.Common.{◌≡◌, true, length}
use Rattle.std.specs.Option.{option_map}
use Rattle.be_journal_text.proofs.ReportLemmas.{from_last_j, or_else}
use Rattle.be_journal_text.proofs.outputs.from_last_j.Given as goal

abbrev pub invariant-loop-byte : goal.invariant-loop-byte
invariant-loop-byte l = from_last_j true l.fn.text ≡ or_else (from_last_j l.is_start l.rest) (option_map (λ t. t.now) l.found)

abbrev pub decreases-loop-byte : goal.decreases-loop-byte
decreases-loop-byte l = length l.rest
