use Rattle.std.proofs.Common.{◌≡◌, ◌+◌, ◌*◌, drop}
use Rattle.be_journal.proofs.blocks.Block.get.Given as goal

abbrev pub invariant-loop : goal.invariant-loop
invariant-loop l = l.reader ≡ drop (16 * l.before + l.counter) l.self.entries
