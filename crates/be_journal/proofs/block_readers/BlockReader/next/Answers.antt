use Rattle.std.proofs.Common.{sym, ◌∙◌}
use Rattle.be_journal.proofs.NextLemmas.{read, never_read}
use Rattle.be_journal.proofs.block_readers.BlockReader.next.Goals as goal

pub unreachable-requires : goal.unreachable-requires
unreachable-requires c = never_read c.self.inside.left c.self.inside.bytes.now c.self.invariant (rw c.self.view_is c.requires) (rw c.in_default.is at c.in_ok-read.ensures.read)

pub invariant_of-self : goal.invariant_of-self
invariant_of-self c =
    (read c.self.inside.left c.self.inside.bytes.now c.in-Some.by c.in-Some.ops.items c.in-Some.dones.items c.in-Some.rest.now c.self.invariant (rw c.self.view_is c.requires)
    (rw c.in-Some.is at c.in_ok-read.ensures.read)).are

pub returns-clause-next : goal.returns-clause-next
returns-clause-next c =
    rw (c.from_vec.ensures, c.from_vec-2.ensures)
    (sym c.self.view_is ∙ (read c.self.inside.left c.self.inside.bytes.now c.in-Some.by c.in-Some.ops.items c.in-Some.dones.items c.in-Some.rest.now c.self.invariant (rw c.self.view_is c.requires)
    (rw c.in-Some.is at c.in_ok-read.ensures.read)).first)

pub returns-clause-is : goal.returns-clause-is
returns-clause-is c =
    rw (c.from_vec.ensures, c.from_vec-2.ensures)
    (read c.self.inside.left c.self.inside.bytes.now c.in-Some.by c.in-Some.ops.items c.in-Some.dones.items c.in-Some.rest.now c.self.invariant (rw c.self.view_is c.requires)
    (rw c.in-Some.is at c.in_ok-read.ensures.read)).is
