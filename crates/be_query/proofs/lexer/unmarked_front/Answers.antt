use Rattle.std.proofs.Common.{arith, sym}
use Rattle.be_query.proofs.Blocks.{block_more}
use Rattle.be_query.proofs.lexer.unmarked_front.Goals as goal

pub steps-preserved : goal.steps-preserved
steps-preserved c = record { within = omega arith; unmarked = block_more c.args.quote c.steps.at c.args.bytes.now c.steps.invariant.unmarked (sym c.if-has_mark.ensures) }
