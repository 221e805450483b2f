use Rattle.std.proofs.Common.{◌||◌, ◌∙◌}
use Rattle.be_query.proofs.Blocks.{any_mark}
use Rattle.be_query.proofs.lexer.has_mark.Goals as goal

pub returns : goal.returns
returns c = (λ i. (c.has_byte-ends.ensures i || c.has_byte-breaks.ensures i) || c.has_byte-escapes.ensures i) ∙ any_mark c.args.quote c.args.block.now
