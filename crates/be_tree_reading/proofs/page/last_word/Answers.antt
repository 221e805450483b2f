use Rattle.std.proofs.Common.{◌-◌, length, arith}
use Rattle.be_tree_reading.proofs.Bytes.Straddling.{moved_up}
use Rattle.be_tree_reading.proofs.page.last_word.Goals as goal

pub returns : goal.returns
returns c =
    let last = length c.args.bytes.now - 8 in
    moved_up c.args.bytes.now c.whole_word.result c.args.from (c.args.from - last) last (omega (arith, c.requires.some)) (omega (arith, c.requires.some, c.requires.past)) (omega (arith, c.requires.some, c.requires.past))
    (omega (arith, c.requires.some, c.requires.within)) c.whole_word.ensures
