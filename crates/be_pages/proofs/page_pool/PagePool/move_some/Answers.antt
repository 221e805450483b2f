use Rattle.std.proofs.Common.{arith}
use Rattle.be_pages.specs.PagePool.{places}
use Rattle.be_pages.proofs.page_pool.PagePool.move_some.Goals as goal

pub returns : goal.returns
unfolding places
returns c =
    let pool = c.args.self.now in
    record {
      same = c.free_expired-moved.ensures.same;
      left = λ none. let all = c.free_expired-moved.ensures.all (omega (arith, none, c.free_expired-moved.ensures.free)) in
          omega (arith, none, all, c.free_expired-moved.ensures.free, c.free_expired-moved.ensures.fewer, pool.counted);
    }
