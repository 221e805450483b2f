use Rattle.be_store.specs.Passes.{IsPassOf}
use Rattle.example_inbox.proofs.file_ten.Given as goal

abbrev pub invariant-loop-i : goal.invariant-loop-i
invariant-loop-i l = IsPassOf l.store l.pass
