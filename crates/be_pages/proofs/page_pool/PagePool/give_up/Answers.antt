use Rattle.std.proofs.Common.{◌<◌, ◌∙◌, sym, ap, arith, length, count_by, map, slice_set}
use Rattle.std.proofs.lemmas.List.{length-map}
use Rattle.be_pages.specs.PagePool.{places}
use Rattle.be_pages.specs.Place.{given_place, is_expired, is_held_page, place_of, swept_place}
use Rattle.be_pages.proofs.Pools.{passes_same}
use Rattle.be_pages.proofs.Marks.{given_expired, given_seen, held_seen, seen, seen_set}
use Rattle.be_pages.proofs.page_pool.PagePool.give_up.Goals as goal

pub give_up-requires : goal.give_up-requires
unfolding places
give_up-requires c =
    let pool = c.args.self.now in
    let m = pool.mark in
    let P = pool.lists.places.items in
    record {
      inside = omega (arith, c.requires.inside, length-map P (swept_place m));
      held = sym (ap is_held_page (seen m P c.args.page) ∙ held_seen m (place_of P c.args.page)) ∙ c.requires.held;
    }

pub invariant_of-self : goal.invariant_of-self
unfolding places
invariant_of-self c =
    let pool = c.args.self.now in
    let m = pool.mark in
    let P = pool.lists.places.items in
    let lt : c.args.page < length P = omega (arith, c.requires.inside, length-map P (swept_place m)) in
    record { counted = pool.counted ∙ sym (ap (count_by (is_expired m)) c.give_up.ensures ∙ passes_same P c.args.page (given_place (place_of P c.args.page)) lt (is_expired m) (given_expired m (place_of P c.args.page))) }

pub returns : goal.returns
unfolding places
returns c =
    let pool = c.args.self.now in
    let m = pool.mark in
    let P = pool.lists.places.items in
    let p = c.args.page in
    ap (map (swept_place m)) c.give_up.ensures ∙ seen_set m P p (given_place (place_of P p))
    ∙ ap (slice_set (map (swept_place m) P) p) (given_seen m (place_of P p) ∙ ap given_place (sym (seen m P p)))
