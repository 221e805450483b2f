use Rattle.std.proofs.Common.{◌∙◌, sym, ap, arith}
use Rattle.std.proofs.lemmas.List.{length-map}
use Rattle.be_pages.specs.PagePool.{places}
use Rattle.be_pages.specs.Place.{is_in_hand, place_of, swept_place}
use Rattle.be_pages.proofs.Marks.{in_hand_seen, seen}
use Rattle.be_pages.proofs.page_pool.PagePool.is_in_hand.Goals as goal

pub is_in_hand-requires : goal.is_in_hand-requires
unfolding places
is_in_hand-requires c = omega (arith, c.requires, length-map c.args.self.now.lists.places.items (swept_place c.args.self.now.mark))

pub returns : goal.returns
unfolding places
returns c =
    let pool = c.args.self.now in
    let P = pool.lists.places.items in
    c.is_in_hand.ensures ∙ sym (ap is_in_hand (seen pool.mark P c.args.page) ∙ in_hand_seen pool.mark (place_of P c.args.page))
