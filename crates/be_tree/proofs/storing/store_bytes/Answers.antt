use Rattle.std.proofs.Common.{arith}
use Rattle.be_tree_reading.proofs.Codec.{bytes_at_stored}
use Rattle.be_tree.proofs.Bytes.Zeros.{after_stored}
use Rattle.be_tree.proofs.storing.store_bytes.Goals as goal

pub returns-clause-bytes : goal.returns-clause-bytes
returns-clause-bytes g c =
    bytes_at_stored (g.R.Look.words c.loop-i.room c.args.page) c.args.at c.args.bytes.now (λ j lt. c.loop-i.invariant.stored j (omega (arith, c.loop-i-test.false)))

pub returns-clause-padded : goal.returns-clause-padded
returns-clause-padded g c =
    after_stored (g.R.Look.words c.loop-i.room c.args.page) c.args.at c.args.bytes.now (λ j lt. c.loop-i.invariant.stored j (omega (arith, c.loop-i-test.false)))
