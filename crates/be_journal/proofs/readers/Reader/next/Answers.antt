use Rattle.std.proofs.Common.{◌<◌, length}
use Rattle.std.proofs.lemmas.List.Elements.{All-rest}
use Rattle.be_journal.specs.Blocks.{Filled}
use Rattle.be_journal.proofs.readers.Reader.next.Goals as goal

pub invariant_of-self-2 : goal.invariant_of-self-2
invariant_of-self-2 c = All-rest (λ (b : Filled). 0 < length b.entries) c.in-Some.block.now c.in-Some.rest.now _ c.in-Some.ensures.cases.0 c.self.invariant
