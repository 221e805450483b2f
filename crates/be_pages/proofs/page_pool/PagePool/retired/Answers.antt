use Rattle.std.proofs.Common.{arith}
use Rattle.be_pages.specs.PagePool.{places}
use Rattle.be_pages.proofs.Marks.{retired_seen}
use Rattle.be_pages.proofs.page_pool.PagePool.retired.Goals as goal

pub overflow_sub-result : goal.overflow_sub-result
overflow_sub-result c =
    let pool = c.args.self.now in
    omega (arith, c.retired.ensures, pool.counted, retired_seen pool.mark pool.lists.places.items)

pub returns : goal.returns
unfolding places
returns c =
    let pool = c.args.self.now in
    omega (arith, c.retired.ensures, pool.counted, retired_seen pool.mark pool.lists.places.items)
