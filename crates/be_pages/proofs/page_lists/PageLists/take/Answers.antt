use Rattle.std.proofs.Common.{◌∙◌, ◌<◌, ◌≡◌, sym, length, arith, refl, true, false}
use Rattle.be_pages.specs.declared.page_pool.Place.TheVariants.{Reserved}
use Rattle.be_pages.specs.FreePages.{has_free}
use Rattle.be_pages.specs.Place.{is_free, place_of, is_retired}
use Rattle.be_pages.proofs.FreePages.{free_below}
use Rattle.be_pages.proofs.Pools.{free_unretired, flags_to, touches_to, count_same, retires_same, order_same}
use Rattle.be_pages.proofs.page_lists.PageLists.take.Goals as goal

pub invariant_of-self-2 : goal.invariant_of-self-2
invariant_of-self-2 c =
    let pool = c.args.self.now in
    let P = pool.places.items in
    let p = c.in_ok-page.page in
    let lt : p < length P = omega (arith, free_below pool.free p c.in_ok-page.ensures.some, pool.free_pages, pool.places.ok.0) in
    let is : is_retired (place_of P p) ≡ false = free_unretired (place_of P p) (sym (pool.frees p) ∙ c.in_ok-page.ensures.some) in
    record {
      free_pages = c.pop.ensures.pages ∙ pool.free_pages;
      touched_pages = c.insert.ensures.pages ∙ pool.touched_pages;
      retired_room = pool.retired_room;
      retired_count = pool.retired_count ∙ sym (count_same P p Reserved lt is);
      frees = flags_to P p Reserved lt is_free false (has_free pool.free) (has_free c.pop.new.self) pool.frees c.in_ok-page.ensures.has refl;
      touches = touches_to P p Reserved lt true pool.touched.places.items c.insert.new.self.places.items pool.touches c.insert.ensures.has (λ _. refl);
      retires = retires_same P p Reserved lt pool.retired.items pool.retires is;
      oldest_first = order_same P p Reserved lt pool.retired.items pool.retires is pool.oldest_first;
    }
