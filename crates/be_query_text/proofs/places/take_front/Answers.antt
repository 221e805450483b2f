use Rattle.std.proofs.Common.{sym}
use Rattle.be_query_text.proofs.Taken.{separator_passed}
use Rattle.be_query_text.proofs.places.take_front.Goals as goal

pub returns-then-is_separator : goal.returns-then-is_separator
returns-then-is_separator c = separator_passed c.args.total c.args.rest.now c.split_at.result.1.now c.requires.nonempty (sym c.if-is_separator.ensures) c.split_at.ensures.back c.requires.within
