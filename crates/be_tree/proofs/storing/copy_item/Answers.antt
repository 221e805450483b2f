use Rattle.std.proofs.Common.{arith}
use Rattle.be_tree_reading.proofs.Codec.{item_at_copied}
use Rattle.be_tree.proofs.Bytes.Zeros.{IsItem_copied}
use Rattle.be_tree.proofs.storing.copy_item.Goals as goal

pub returns-clause-stored : goal.returns-clause-stored
returns-clause-stored g c =
    let from = g.R.Look.words c.args.room.now c.args.from in
    let to = g.R.Look.words c.loop-i.room c.args.page in (
      item_at_copied from to c.args.place c.args.at c.loop-i.invariant.header (λ j lt. c.loop-i.invariant.copied j (omega (arith, lt, c.loop-i-test.false, c.word-header.ensures.value))),
      IsItem_copied from to c.args.place c.args.at c.requires.source.1.1 c.loop-i.invariant.header (λ j lt. c.loop-i.invariant.copied j (omega (arith, lt, c.loop-i-test.false, c.word-header.ensures.value))),
    )
