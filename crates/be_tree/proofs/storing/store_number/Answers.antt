use Rattle.std.proofs.Common.{◌+◌, arith}
use Rattle.std.proofs.lemmas.Bool.Decides.{nat_tests}
use Rattle.be_tree.proofs.Bytes.Joining.{alone_bytes, alone_padded, joined_bytes, joined_padded}
use Rattle.be_tree.proofs.storing.store_number.Goals as goal

-- the number is in two words
pub returns-clause-bytes : goal.returns-clause-bytes
returns-clause-bytes g c =
    let w = g.R.Look.words c.refill-3.new.self c.args.page in
    let at = c.args.at in
    let one = c.refill-2.ensures.place at in
    let still = c.refill-3.ensures.place at in
    let two = c.refill-3.ensures.place (at + 1) in
    joined_bytes c.args.first c.args.number c.args.skip (omega (arith, c.if-skip-eq0.false)) c.requires.skips c.ranges.first.fits c.ranges.number.fits w at
    (grind (arith, nat_tests, one, still, c.joined.ensures)) (grind (arith, nat_tests, two))

pub returns-clause-padded : goal.returns-clause-padded
returns-clause-padded g c =
    let w = g.R.Look.words c.refill-3.new.self c.args.page in
    let at = c.args.at in
    let one = c.refill-2.ensures.place at in
    let still = c.refill-3.ensures.place at in
    let two = c.refill-3.ensures.place (at + 1) in
    joined_padded c.args.first c.args.number c.args.skip (omega (arith, c.if-skip-eq0.false)) c.requires.skips c.ranges.first.fits c.ranges.number.fits w at
    (grind (arith, nat_tests, one, still, c.joined.ensures)) (grind (arith, nat_tests, two))

-- the number is in one word
pub returns-then-skip-eq0-clause-bytes : goal.returns-then-skip-eq0-clause-bytes
returns-then-skip-eq0-clause-bytes g c =
    let placed = c.refill.ensures.place c.args.at in
    alone_bytes (g.R.Look.words c.refill.new.self c.args.page) c.args.at c.args.first c.args.skip c.args.number c.if-skip-eq0.true (grind (arith, nat_tests, placed))

pub returns-then-skip-eq0-clause-padded : goal.returns-then-skip-eq0-clause-padded
returns-then-skip-eq0-clause-padded g c =
    alone_padded (g.R.Look.words c.refill.new.self c.args.page) c.args.at c.args.skip c.if-skip-eq0.true
