use Rattle.std.proofs.Common.{get_or, refl}
use Rattle.be_query_text.proofs.Taken.{quoted_taken}
use Rattle.be_query_text.proofs.places.take_quoted.Goals as goal

pub returns : goal.returns
returns c =
    let r = c.requires in
    quoted_taken c.args.total c.args.rest.now c.split_at.result.1.now c.split_at-2.result.1.now c.split_at-3.result.1.now (get_or c.args.rest.now 0 0) c.in-Some.len r.within r.nonempty r.separator r.quote refl c.split_at.ensures.back
    c.in-Some.ensures.ends c.in-Some.ensures.within c.split_at-2.ensures.back c.split_at-3.ensures.back
