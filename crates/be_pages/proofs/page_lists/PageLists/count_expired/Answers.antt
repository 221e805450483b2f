use Rattle.std.proofs.Common.{arith}
use Rattle.be_pages.proofs.Marks.{count_first}
use Rattle.be_pages.proofs.page_lists.PageLists.count_expired.Goals as goal

pub returns : goal.returns
returns c =
    let pool = c.args.self.now in
    count_first c.halves.low c.args.least pool.places.items pool.retired.items pool.retires (omega (arith, c.halves.invariant.ordered, c.halves.invariant.in_range)) c.halves.invariant.below
    (λ i past within. c.halves.invariant.above i (omega (arith, past, c.halves-test.false)) within)
