use Rattle.std.proofs.Common.{ap, drop, ◌∙◌}
use Rattle.be_journal.proofs.NextLemmas.{skipped, never_skipped}
use Rattle.be_journal.proofs.block_readers.BlockReader.skip.Goals as goal

pub unreachable-requires : goal.unreachable-requires
unreachable-requires c = never_skipped c.self.inside.left c.self.inside.bytes.now c.self.invariant (rw c.self.view_is c.requires) c.in_default.ensures

pub invariant_of-self : goal.invariant_of-self
invariant_of-self c = (skipped c.self.inside.left c.self.inside.bytes.now c.in-Some.rest.now c.self.invariant (rw c.self.view_is c.requires) c.in-Some.ensures).are

pub returns : goal.returns
returns c = (skipped c.self.inside.left c.self.inside.bytes.now c.in-Some.rest.now c.self.invariant (rw c.self.view_is c.requires) c.in-Some.ensures).first ∙ ap (drop 1) c.self.view_is
