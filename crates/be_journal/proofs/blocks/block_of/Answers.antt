use Rattle.be_journal.proofs.ListLemmas.{same_entry}
use Rattle.be_journal.proofs.blocks.block_of.Goals as goal

pub returns-then-left-len-clause-is : goal.returns-then-left-len-clause-is
returns-then-left-len-clause-is c =
    same_entry c.args.blocks.now c.loop-block.block-index c.block-item.result c.args.i c.loop-block.left c.loop-block-test.true c.block-item.is c.loop-block.invariant
    (rw c.len.ensures at c.if-left-len.true)
