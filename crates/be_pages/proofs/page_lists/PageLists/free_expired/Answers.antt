use Rattle.std.proofs.Common.{◌≡◌, ◌∙◌, sym, ap, subst, arith, length, refl, true, slice_set}
use Rattle.std.proofs.lemmas.List.{length-set, length-drop}
use Rattle.be_pages.specs.declared.page_pool.Place.TheVariants.{Free}
use Rattle.be_pages.specs.Pages.{times}
use Rattle.be_pages.specs.FreePages.{has_free}
use Rattle.be_pages.specs.Place.{IsOldestFirst, is_expired, is_free, place_of, retired_at}
use Rattle.be_pages.proofs.Pools.{retired_inside, retired_busy, flags_to, touches_same, count_less, passes_less, passes_more, retires_less, order_less, swept_set}
use Rattle.be_pages.proofs.Marks.{none_left, seen_same, swept_expired}
use mathlib.Core.Bool.{false≢true}
use Rattle.be_pages.proofs.page_lists.PageLists.free_expired.Goals as goal

pub invariant_of-self : goal.invariant_of-self
invariant_of-self c =
    let pool = c.loop-freed.self in
    let P = pool.places.items in
    let p = c.in-Some.page in
    let queue = pool.retired.items in
    let is = c.in-Some.ensures.retired.0 in
    let lt = retired_inside P p is in
    let first = c.in-Some.ensures.first in
    let rest = c.pop_front.ensures.rest in
    record {
      free_pages = c.insert.ensures.pages ∙ pool.free_pages;
      touched_pages = pool.touched_pages;
      retired_room = omega (arith, c.pop_front.ensures.capacity, pool.retired_room);
      retired_count = omega (arith, ap length rest, length-drop 1 queue, pool.retired_count, count_less P p Free lt is refl);
      frees = flags_to P p Free lt is_free true (has_free pool.free) (has_free c.insert.new.self) pool.frees c.insert.ensures.has refl;
      touches = touches_same P p Free lt pool.touched.places.items pool.touches (λ e. absurd (false≢true (sym e)));
      retires = λ q. ap (times q) rest ∙ retires_less P p Free lt queue pool.retires first.0 first.1 refl is q;
      oldest_first = subst (IsOldestFirst (retired_at (slice_set P p Free))) (sym rest) (order_less P p Free lt queue pool.retires first.0 first.1 is pool.oldest_first);
    }

pub loop-freed-preserved : goal.loop-freed-preserved
loop-freed-preserved c =
    let P = c.loop-freed.self.places.items in
    let p = c.in-Some.page in
    let is = c.in-Some.ensures.retired in
    let lt = retired_inside P p is.0 in
    record {
      swept = swept_set P p Free lt c.args.least c.args.self.now.places.items c.loop-freed.invariant.swept is.1;
      len = length-set P p Free ∙ c.loop-freed.invariant.len;
      fewer = omega (arith, passes_less P p Free lt (is_expired c.args.least) (swept_expired c.args.least (place_of P p) is.0 is.1) refl, c.loop-freed.invariant.fewer);
      free = omega (arith, passes_more P p Free lt is_free (retired_busy (place_of P p) is.0) refl, c.loop-freed.invariant.free);
      most = omega (arith, c.loop-freed-test.true);
    }

pub returns : goal.returns
returns c =
    let end : c.loop-freed.freed ≡ c.args.most = omega (arith, c.loop-freed.invariant.most, c.loop-freed-test.false) in
    record {
      same = seen_same c.args.least c.loop-freed.self.places.items c.args.self.now.places.items c.loop-freed.invariant.len c.loop-freed.invariant.swept;
      fewer = omega (arith, c.loop-freed.invariant.fewer, end);
      free = omega (arith, c.loop-freed.invariant.free, end);
      all = λ less. absurd (omega (arith, less));
    }

pub returns-in_default-clause-same : goal.returns-in_default-clause-same
returns-in_default-clause-same c =
    seen_same c.args.least c.loop-freed.self.places.items c.args.self.now.places.items c.loop-freed.invariant.len c.loop-freed.invariant.swept

pub returns-in_default-clause-all : goal.returns-in_default-clause-all
returns-in_default-clause-all c = λ _. none_left c.args.least c.loop-freed.self.places.items c.in_default.ensures.none
