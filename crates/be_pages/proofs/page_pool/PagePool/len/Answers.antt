use Rattle.std.proofs.Common.{◌∙◌, sym}
use Rattle.std.proofs.lemmas.List.{length-map}
use Rattle.be_pages.specs.PagePool.{places}
use Rattle.be_pages.specs.Place.{swept_place}
use Rattle.be_pages.proofs.page_pool.PagePool.len.Goals as goal

pub returns : goal.returns
unfolding places
returns c = c.len.ensures ∙ sym (length-map c.args.self.now.lists.places.items (swept_place c.args.self.now.mark))
