use Rattle.std.proofs.Common.{◌∙◌, sym, ap, count_by, map}
use Rattle.std.specs.Prelude.{IsTrue}
use Rattle.be_pages.specs.declared.page_pool.Place.TheVariants.{Filled}
use Rattle.be_pages.specs.PagePool.{places}
use Rattle.be_pages.specs.Place.{is_expired, is_in_hand, place_of, swept_place}
use Rattle.be_pages.proofs.Pools.{in_hand_inside, passes_same}
use Rattle.be_pages.proofs.Marks.{in_hand_seen, in_hand_unexpired, seen, seen_set}
use Rattle.be_pages.proofs.page_pool.PagePool.fill.Goals as goal

pub fill-requires : goal.fill-requires
unfolding places
fill-requires c =
    let pool = c.args.self.now in
    let m = pool.mark in
    let P = pool.lists.places.items in
    sym (ap is_in_hand (seen m P c.args.page) ∙ in_hand_seen m (place_of P c.args.page)) ∙ c.requires

pub invariant_of-self : goal.invariant_of-self
unfolding places
invariant_of-self c =
    let pool = c.args.self.now in
    let m = pool.mark in
    let P = pool.lists.places.items in
    let p = c.args.page in
    let is : IsTrue (is_in_hand (place_of P p)) = sym (ap is_in_hand (seen m P p) ∙ in_hand_seen m (place_of P p)) ∙ c.requires in
    record { counted = pool.counted ∙ sym (ap (count_by (is_expired m)) c.fill.ensures ∙ passes_same P p Filled (in_hand_inside P p is) (is_expired m) (in_hand_unexpired m (place_of P p) is)) }

pub returns : goal.returns
unfolding places
returns c =
    let pool = c.args.self.now in
    ap (map (swept_place pool.mark)) c.fill.ensures ∙ seen_set pool.mark pool.lists.places.items c.args.page Filled
