use Rattle.std.proofs.Common.{sym, arith}
use Rattle.be_pages.specs.PagePool.{places}
use Rattle.be_pages.proofs.Marks.{seen_above, seen_below}
use Rattle.be_pages.proofs.page_pool.PagePool.raise.Goals as goal

pub returns-then-least-self : goal.returns-then-least-self
unfolding places
returns-then-least-self c =
    let pool = c.args.self.now in
    sym (seen_below c.args.least pool.mark c.if-least-self.true pool.lists.places.items)

pub returns : goal.returns
unfolding places
returns c =
    let pool = c.args.self.now in
    sym (seen_above c.args.least pool.mark (omega (arith, c.if-least-self.false)) pool.lists.places.items)
