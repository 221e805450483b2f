use Rattle.std.proofs.Common.{◌≡◌, ◌+◌, length}
use Rattle.be_journal_text.specs.declared.parts.Quoting.TheVariants.{Outside}
use Rattle.be_journal_text.proofs.Cuts.{length_to}
use Rattle.be_journal_text.proofs.parts.length_to.Given as goal

abbrev pub invariant-loop-byte : goal.invariant-loop-byte
invariant-loop-byte l = record {
  is : length_to l.fn.end Outside l.fn.text ≡ l.count + length_to l.fn.end l.quoting l.rest;
  within : l.count + length l.rest ≡ length l.fn.text;
}

abbrev pub decreases-loop-byte : goal.decreases-loop-byte
decreases-loop-byte l = length l.rest
