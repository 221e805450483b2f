use Rattle.be_query_text.proofs.Taken.{word_taken}
use Rattle.be_query_text.proofs.places.take_word.Goals as goal

pub returns : goal.returns
returns c = let r = c.requires in word_taken c.args.total c.args.rest.now c.split_at.result.1.now c.in-Some.len r.within r.nonempty r.separator r.quote r.sign r.nul c.in-Some.ensures.ends c.in-Some.ensures.within.0 c.in-Some.ensures.within.1 c.split_at.ensures.back
