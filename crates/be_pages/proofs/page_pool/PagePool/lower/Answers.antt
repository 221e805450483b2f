use Rattle.std.proofs.Common.{◌∙◌, sym, arith, count_by}
use Rattle.be_pages.specs.PagePool.{places}
use Rattle.be_pages.specs.Place.{is_expired}
use Rattle.be_pages.proofs.Marks.{emptied, none_below, seen_lower}
use Rattle.be_pages.proofs.page_pool.PagePool.lower.Goals as goal

pub invariant_of-self : goal.invariant_of-self
invariant_of-self c = record { counted = sym (none_below c.free_expired.new.self.places.items) }

pub returns : goal.returns
unfolding places
returns c =
    let pool = c.args.self.now in
    let Q = c.free_expired.new.self.places.items in
    record {
      same = seen_lower pool.mark Q (emptied (count_by (is_expired pool.mark) Q) c.free_expired.result pool.expired (count_by (is_expired pool.mark) pool.lists.places.items)
          c.free_expired.ensures.fewer pool.counted c.free_expired.ensures.all) ∙ c.free_expired.ensures.same;
      mark = omega arith;
    }
