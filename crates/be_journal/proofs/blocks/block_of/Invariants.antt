use Rattle.std.proofs.Common.{◌≡◌, ◌+◌, length, take}
use Rattle.be_journal.specs.Blocks.{entries_of}
use Rattle.be_journal.proofs.blocks.block_of.Given as goal

abbrev pub invariant-loop-block : goal.invariant-loop-block
invariant-loop-block l = l.i ≡ length (entries_of (take l.block-index l.blocks)) + l.left
