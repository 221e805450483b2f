use Rattle.std.proofs.Common.{◌∙◌, sym, ap, arith}
use Rattle.std.proofs.lemmas.List.{length-map}
use Rattle.be_pages.specs.PagePool.{places}
use Rattle.be_pages.specs.Place.{swept_place}
use Rattle.be_pages.proofs.Marks.{seen}
use Rattle.be_pages.proofs.page_pool.PagePool.place.Goals as goal

pub place-requires : goal.place-requires
unfolding places
place-requires c = omega (arith, c.requires, length-map c.args.self.now.lists.places.items (swept_place c.args.self.now.mark))

pub returns : goal.returns
unfolding places
returns c =
    let pool = c.args.self.now in
    c.swept.ensures ∙ ap (swept_place pool.mark) c.place.ensures ∙ sym (seen pool.mark pool.lists.places.items c.args.page)
