use Rattle.std.proofs.Common.{◌∙◌, sym, ap}
use Rattle.std.proofs.lemmas.List.{length-map}
use Rattle.be_pages.specs.PagePool.{places}
use Rattle.be_pages.specs.Place.{swept_place}
use Rattle.be_pages.proofs.Marks.{none_below, seen}
use Rattle.be_pages.proofs.page_pool.PagePool.new.Goals as goal

pub invariant_of-result : goal.invariant_of-result
invariant_of-result c = record { counted = sym (none_below c.in_ok-lists.lists.places.items) }

pub returns : goal.returns
unfolding places
returns c =
    let P = c.in_ok-lists.lists.places.items in
    record {
      pages = length-map P (swept_place 0) ∙ c.in_ok-lists.ensures.pages;
      used = λ q lt. seen 0 P q ∙ ap (swept_place 0) (c.in_ok-lists.ensures.used q lt);
      free = λ q past lt. seen 0 P q ∙ ap (swept_place 0) (c.in_ok-lists.ensures.free q past lt);
    }
