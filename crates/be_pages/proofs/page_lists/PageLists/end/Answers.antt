use Rattle.std.proofs.Common.{◌≡◌, ◌∙◌, ◌<◌, ◌≤◌, ◌∷◌, [], sym, ap, subst, arith, length, refl, true, false, slice_set}
use Rattle.std.proofs.lemmas.List.{get_or_default, length-set, length-append}
use Rattle.be_pages.specs.declared.page_pool.Place.TheVariants.{Current}
use Rattle.be_pages.specs.Pages.{times}
use Rattle.be_pages.specs.FreePages.{has_free}
use Rattle.be_pages.specs.Place.{IsOldestFirst, is_free, is_idle, is_retired, retired_number, retired_at, place_of, place_after}
use Rattle.be_pages.proofs.PageSets.{flagged_below}
use Rattle.be_pages.proofs.Pools.{active, after_idle, idle_after, newest_after, other_place, retired_busy, places_map, flags_same, flags_to, touches_to, touches_less, count_same, count_more, count_room, retires_same, retires_more, order_same, order_more, done_to, done_less, waiting_to, waiting_less, newest_set}
use mathlib.Core.Bool.{false≢true}
use Rattle.be_pages.proofs.page_lists.PageLists.end.Goals as goal

pub invariant_of-self-in-Free : goal.invariant_of-self-in-Free
invariant_of-self-in-Free c =
    let pool = c.loop-page.self in
    let P = pool.places.items in
    let p = c.in-Some.page in
    let lt : p < length P = omega (arith, flagged_below pool.touched.places.items p c.in-Some.ensures.some, pool.touched_pages, pool.places.ok.0) in
    let at : place_of P p ≡ c.index-old.result.now = get_or_default P p Current _ lt ∙ sym c.index-old.ensures in
    let un : is_idle (place_of P p) ≡ false = ap is_idle at ∙ sym c.is_idle.ensures ∙ c.if-is_idle.false in
    let act = active (place_of P p) un in
    let s = c.settled-place.result in
    let is : s ≡ place_after c.args.ending (place_of P p) = c.settled-place.ensures ∙ ap (place_after c.args.ending) (sym at) in
    let idle : is_idle s ≡ true = ap is_idle is ∙ after_idle c.args.ending (place_of P p) in
    let free : is_free s ≡ true = ap is_free c.in-Free.is in
    let kept : is_retired (place_of P p) ≡ is_retired s = act.1 ∙ sym (ap is_retired c.in-Free.is) in
    record {
      free_pages = c.insert.ensures.pages ∙ pool.free_pages;
      touched_pages = c.pop.ensures.pages ∙ pool.touched_pages;
      retired_room = pool.retired_room;
      retired_count = pool.retired_count ∙ sym (count_same P p s lt kept);
      frees = flags_to P p s lt is_free true (has_free pool.free) (has_free c.insert.new.self) pool.frees c.insert.ensures.has free;
      touches = touches_to P p s lt false pool.touched.places.items c.pop.new.self.places.items pool.touches c.in-Some.ensures.has (λ e. absurd (false≢true (sym e ∙ idle)));
      retires = retires_same P p s lt pool.retired.items pool.retires kept;
      oldest_first = order_same P p s lt pool.retired.items pool.retires act.1 pool.oldest_first;
    }

pub loop-page-preserved-in-Free : goal.loop-page-preserved-in-Free
loop-page-preserved-in-Free c =
    let pool = c.loop-page.self in
    let P = pool.places.items in
    let p = c.in-Some.page in
    let lt : p < length P = omega (arith, flagged_below pool.touched.places.items p c.in-Some.ensures.some, pool.touched_pages, pool.places.ok.0) in
    let at : place_of P p ≡ c.index-old.result.now = get_or_default P p Current _ lt ∙ sym c.index-old.ensures in
    let un : is_idle (place_of P p) ≡ false = ap is_idle at ∙ sym c.is_idle.ensures ∙ c.if-is_idle.false in
    let act = active (place_of P p) un in
    let s = c.settled-place.result in
    let is : s ≡ place_after c.args.ending (place_of P p) = c.settled-place.ensures ∙ ap (place_after c.args.ending) (sym at) in
    let idle : is_idle s ≡ true = ap is_idle is ∙ after_idle c.args.ending (place_of P p) in
    record {
      done = done_to P p s lt (place_after c.args.ending) c.args.self.now.places.items pool.touched.places.items c.pop.new.self.places.items c.loop-page.invariant.done c.in-Some.ensures.has
          (is ∙ ap (place_after c.args.ending) (c.loop-page.invariant.waiting p c.in-Some.ensures.some));
      waiting = waiting_to P p s lt c.args.self.now.places.items pool.touched.places.items c.pop.new.self.places.items c.loop-page.invariant.waiting c.in-Some.ensures.has;
      len = length-set P p s ∙ c.loop-page.invariant.len;
      newest = newest_set P p s lt c.args.ending c.loop-page.invariant.newest is;
    }

pub push_back_reserved-requires : goal.push_back_reserved-requires
push_back_reserved-requires c =
    let pool = c.loop-page.self in
    let P = pool.places.items in
    let p = c.in-Some.page in
    let lt : p < length P = omega (arith, flagged_below pool.touched.places.items p c.in-Some.ensures.some, pool.touched_pages, pool.places.ok.0) in
    let at : place_of P p ≡ c.index-old.result.now = get_or_default P p Current _ lt ∙ sym c.index-old.ensures in
    let un : is_idle (place_of P p) ≡ false = ap is_idle at ∙ sym c.is_idle.ensures ∙ c.if-is_idle.false in
    let act = active (place_of P p) un in
    let s = c.settled-place.result in
    let is : s ≡ place_after c.args.ending (place_of P p) = c.settled-place.ensures ∙ ap (place_after c.args.ending) (sym at) in
    let idle : is_idle s ≡ true = ap is_idle is ∙ after_idle c.args.ending (place_of P p) in
    omega (arith, count_room P p s lt act.1 (ap is_retired c.in-Retired.is), pool.retired_room, pool.retired_count, pool.retired.ok.0, pool.places.ok.0)

pub invariant_of-self-in-Retired : goal.invariant_of-self-in-Retired
invariant_of-self-in-Retired c =
    let pool = c.loop-page.self in
    let P = pool.places.items in
    let p = c.in-Some.page in
    let lt : p < length P = omega (arith, flagged_below pool.touched.places.items p c.in-Some.ensures.some, pool.touched_pages, pool.places.ok.0) in
    let at : place_of P p ≡ c.index-old.result.now = get_or_default P p Current _ lt ∙ sym c.index-old.ensures in
    let un : is_idle (place_of P p) ≡ false = ap is_idle at ∙ sym c.is_idle.ensures ∙ c.if-is_idle.false in
    let act = active (place_of P p) un in
    let s = c.settled-place.result in
    let is : s ≡ place_after c.args.ending (place_of P p) = c.settled-place.ensures ∙ ap (place_after c.args.ending) (sym at) in
    let idle : is_idle s ≡ true = ap is_idle is ∙ after_idle c.args.ending (place_of P p) in
    let queue = pool.retired.items in
    let kept : is_retired s ≡ true = ap is_retired c.in-Retired.is in
    let items = c.push_back_reserved.ensures.items in
    record {
      free_pages = pool.free_pages;
      touched_pages = c.pop.ensures.pages ∙ pool.touched_pages;
      retired_room = omega (arith, c.push_back_reserved.ensures.capacity, pool.retired_room);
      retired_count = omega (arith, ap length items, length-append queue (p ∷ []), pool.retired_count, count_more P p s lt act.1 kept);
      frees = flags_same P p s lt is_free (has_free pool.free) pool.frees (act.0 ∙ sym (retired_busy s kept));
      touches = touches_to P p s lt false pool.touched.places.items c.pop.new.self.places.items pool.touches c.in-Some.ensures.has (λ e. absurd (false≢true (sym e ∙ idle)));
      retires = λ q. ap (times q) items ∙ retires_more P p s lt queue pool.retires act.1 kept q;
      oldest_first = subst (IsOldestFirst (retired_at (slice_set P p s))) (sym items) (order_more P p s lt queue pool.retires act.1
          (λ q. subst (λ x. retired_at P q ≤ retired_number x) (sym is) (newest_after c.args.ending (place_of P p) (retired_at P) c.loop-page.invariant.newest un (sym (ap is_retired is) ∙ kept) q)) pool.oldest_first);
    }

pub loop-page-preserved-in-Retired : goal.loop-page-preserved-in-Retired
loop-page-preserved-in-Retired c =
    let pool = c.loop-page.self in
    let P = pool.places.items in
    let p = c.in-Some.page in
    let lt : p < length P = omega (arith, flagged_below pool.touched.places.items p c.in-Some.ensures.some, pool.touched_pages, pool.places.ok.0) in
    let at : place_of P p ≡ c.index-old.result.now = get_or_default P p Current _ lt ∙ sym c.index-old.ensures in
    let un : is_idle (place_of P p) ≡ false = ap is_idle at ∙ sym c.is_idle.ensures ∙ c.if-is_idle.false in
    let act = active (place_of P p) un in
    let s = c.settled-place.result in
    let is : s ≡ place_after c.args.ending (place_of P p) = c.settled-place.ensures ∙ ap (place_after c.args.ending) (sym at) in
    let idle : is_idle s ≡ true = ap is_idle is ∙ after_idle c.args.ending (place_of P p) in
    record {
      done = done_to P p s lt (place_after c.args.ending) c.args.self.now.places.items pool.touched.places.items c.pop.new.self.places.items c.loop-page.invariant.done c.in-Some.ensures.has
          (is ∙ ap (place_after c.args.ending) (c.loop-page.invariant.waiting p c.in-Some.ensures.some));
      waiting = waiting_to P p s lt c.args.self.now.places.items pool.touched.places.items c.pop.new.self.places.items c.loop-page.invariant.waiting c.in-Some.ensures.has;
      len = length-set P p s ∙ c.loop-page.invariant.len;
      newest = newest_set P p s lt c.args.ending c.loop-page.invariant.newest is;
    }

pub invariant_of-self-in_default-place : goal.invariant_of-self-in_default-place
invariant_of-self-in_default-place c =
    let pool = c.loop-page.self in
    let P = pool.places.items in
    let p = c.in-Some.page in
    let lt : p < length P = omega (arith, flagged_below pool.touched.places.items p c.in-Some.ensures.some, pool.touched_pages, pool.places.ok.0) in
    let at : place_of P p ≡ c.index-old.result.now = get_or_default P p Current _ lt ∙ sym c.index-old.ensures in
    let un : is_idle (place_of P p) ≡ false = ap is_idle at ∙ sym c.is_idle.ensures ∙ c.if-is_idle.false in
    let act = active (place_of P p) un in
    let s = c.settled-place.result in
    let is : s ≡ place_after c.args.ending (place_of P p) = c.settled-place.ensures ∙ ap (place_after c.args.ending) (sym at) in
    let idle : is_idle s ≡ true = ap is_idle is ∙ after_idle c.args.ending (place_of P p) in
    let other = other_place s c.in_default-place.not-Free c.in_default-place.not-Retired in
    let kept : is_retired (place_of P p) ≡ is_retired s = act.1 ∙ sym other.1 in
    record {
      free_pages = pool.free_pages;
      touched_pages = c.pop.ensures.pages ∙ pool.touched_pages;
      retired_room = pool.retired_room;
      retired_count = pool.retired_count ∙ sym (count_same P p s lt kept);
      frees = flags_same P p s lt is_free (has_free pool.free) pool.frees (act.0 ∙ sym other.0);
      touches = touches_to P p s lt false pool.touched.places.items c.pop.new.self.places.items pool.touches c.in-Some.ensures.has (λ e. absurd (false≢true (sym e ∙ idle)));
      retires = retires_same P p s lt pool.retired.items pool.retires kept;
      oldest_first = order_same P p s lt pool.retired.items pool.retires act.1 pool.oldest_first;
    }

pub loop-page-preserved : goal.loop-page-preserved
loop-page-preserved c =
    let pool = c.loop-page.self in
    let P = pool.places.items in
    let p = c.in-Some.page in
    let lt : p < length P = omega (arith, flagged_below pool.touched.places.items p c.in-Some.ensures.some, pool.touched_pages, pool.places.ok.0) in
    let at : place_of P p ≡ c.index-old.result.now = get_or_default P p Current _ lt ∙ sym c.index-old.ensures in
    let un : is_idle (place_of P p) ≡ false = ap is_idle at ∙ sym c.is_idle.ensures ∙ c.if-is_idle.false in
    let act = active (place_of P p) un in
    let s = c.settled-place.result in
    let is : s ≡ place_after c.args.ending (place_of P p) = c.settled-place.ensures ∙ ap (place_after c.args.ending) (sym at) in
    let idle : is_idle s ≡ true = ap is_idle is ∙ after_idle c.args.ending (place_of P p) in
    record {
      done = done_to P p s lt (place_after c.args.ending) c.args.self.now.places.items pool.touched.places.items c.pop.new.self.places.items c.loop-page.invariant.done c.in-Some.ensures.has
          (is ∙ ap (place_after c.args.ending) (c.loop-page.invariant.waiting p c.in-Some.ensures.some));
      waiting = waiting_to P p s lt c.args.self.now.places.items pool.touched.places.items c.pop.new.self.places.items c.loop-page.invariant.waiting c.in-Some.ensures.has;
      len = length-set P p s ∙ c.loop-page.invariant.len;
      newest = newest_set P p s lt c.args.ending c.loop-page.invariant.newest is;
    }

pub invariant_of-self : goal.invariant_of-self
invariant_of-self c =
    let pool = c.loop-page.self in
    let P = pool.places.items in
    let p = c.in-Some.page in
    let lt : p < length P = omega (arith, flagged_below pool.touched.places.items p c.in-Some.ensures.some, pool.touched_pages, pool.places.ok.0) in
    let at : place_of P p ≡ c.index-old.result.now = get_or_default P p Current _ lt ∙ sym c.index-old.ensures in
    let idle : is_idle (place_of P p) ≡ true = ap is_idle at ∙ sym c.is_idle.ensures ∙ c.if-is_idle.true in
    record {
      free_pages = pool.free_pages;
      touched_pages = c.pop.ensures.pages ∙ pool.touched_pages;
      retired_room = pool.retired_room;
      retired_count = pool.retired_count;
      frees = pool.frees;
      touches = touches_less P p pool.touched.places.items c.pop.new.self.places.items pool.touches c.in-Some.ensures.has idle;
      retires = pool.retires;
      oldest_first = pool.oldest_first;
    }

pub loop-page-preserved-then-is_idle : goal.loop-page-preserved-then-is_idle
loop-page-preserved-then-is_idle c =
    let pool = c.loop-page.self in
    let P = pool.places.items in
    let p = c.in-Some.page in
    let lt : p < length P = omega (arith, flagged_below pool.touched.places.items p c.in-Some.ensures.some, pool.touched_pages, pool.places.ok.0) in
    let at : place_of P p ≡ c.index-old.result.now = get_or_default P p Current _ lt ∙ sym c.index-old.ensures in
    let idle : is_idle (place_of P p) ≡ true = ap is_idle at ∙ sym c.is_idle.ensures ∙ c.if-is_idle.true in
    record {
      done = done_less (place_after c.args.ending) P c.args.self.now.places.items p pool.touched.places.items c.pop.new.self.places.items c.loop-page.invariant.done c.in-Some.ensures.has
          (sym (idle_after c.args.ending (place_of P p) idle) ∙ ap (place_after c.args.ending) (c.loop-page.invariant.waiting p c.in-Some.ensures.some));
      waiting = waiting_less P c.args.self.now.places.items p pool.touched.places.items c.pop.new.self.places.items c.loop-page.invariant.waiting c.in-Some.ensures.has;
      len = c.loop-page.invariant.len;
      newest = c.loop-page.invariant.newest;
    }

pub returns : goal.returns
returns c =
    places_map (place_after c.args.ending) c.loop-page.self.places.items c.args.self.now.places.items (idle_after c.args.ending Current refl) c.loop-page.invariant.len
    (λ q. c.loop-page.invariant.done q (c.in_default.ensures.none q))
