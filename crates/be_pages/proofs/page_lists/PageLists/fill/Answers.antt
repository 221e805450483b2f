use Rattle.std.proofs.Common.{◌∙◌, sym}
use Rattle.be_pages.specs.declared.page_pool.Place.TheVariants.{Filled}
use Rattle.be_pages.specs.FreePages.{has_free}
use Rattle.be_pages.specs.Place.{is_free, place_of}
use Rattle.be_pages.proofs.Pools.{in_hand, in_hand_inside, flags_same, touches_same, count_same, retires_same, order_same}
use Rattle.be_pages.proofs.page_lists.PageLists.fill.Goals as goal

pub invariant_of-self : goal.invariant_of-self
invariant_of-self c =
    let pool = c.args.self.now in
    let P = pool.places.items in
    let p = c.args.page in
    let lt = in_hand_inside P p c.requires in
    let is = in_hand (place_of P p) c.requires in
    record {
      free_pages = pool.free_pages;
      touched_pages = pool.touched_pages;
      retired_room = pool.retired_room;
      retired_count = pool.retired_count ∙ sym (count_same P p Filled lt is.1);
      frees = flags_same P p Filled lt is_free (has_free pool.free) pool.frees is.0;
      touches = touches_same P p Filled lt pool.touched.places.items pool.touches (λ _. is.2);
      retires = retires_same P p Filled lt pool.retired.items pool.retires is.1;
      oldest_first = order_same P p Filled lt pool.retired.items pool.retires is.1 pool.oldest_first;
    }
