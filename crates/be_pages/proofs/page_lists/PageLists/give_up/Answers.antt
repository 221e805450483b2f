use Rattle.std.proofs.Common.{◌∙◌, sym, refl, true}
use mathlib.Core.Bool.{false≢true}
use Rattle.be_pages.specs.declared.page_pool.Place.TheVariants.{Free}
use Rattle.be_pages.specs.FreePages.{has_free}
use Rattle.be_pages.specs.Place.{is_free, place_of}
use Rattle.be_pages.proofs.Pools.{held_unretired, flags_to, touches_same, count_same, retires_same, order_same}
use Rattle.be_pages.proofs.page_lists.PageLists.give_up.Goals as goal

pub invariant_of-self-in_default : goal.invariant_of-self-in_default
invariant_of-self-in_default c =
    let pool = c.args.self.now in
    let P = pool.places.items in
    let p = c.args.page in
    let lt = c.requires.inside in
    let is = held_unretired (place_of P p) c.requires.held in
    record {
      free_pages = c.insert-in_default.ensures.pages ∙ pool.free_pages;
      touched_pages = pool.touched_pages;
      retired_room = pool.retired_room;
      retired_count = pool.retired_count ∙ sym (count_same P p Free lt is);
      frees = flags_to P p Free lt is_free true (has_free pool.free) (has_free c.insert-in_default.new.self) pool.frees c.insert-in_default.ensures.has refl;
      touches = touches_same P p Free lt pool.touched.places.items pool.touches (λ e. absurd (false≢true (sym e)));
      retires = retires_same P p Free lt pool.retired.items pool.retires is;
      oldest_first = order_same P p Free lt pool.retired.items pool.retires is pool.oldest_first;
    }
