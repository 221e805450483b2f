use Rattle.std.proofs.Common.{◌∙◌, sym, ap, count_by, map}
use Rattle.be_pages.specs.declared.page_pool.Ending.TheVariants.{Kept}
use Rattle.be_pages.specs.PagePool.{places}
use Rattle.be_pages.specs.Place.{is_expired, swept_place}
use Rattle.be_pages.proofs.Marks.{after_counted, after_seen}
use Rattle.be_pages.proofs.page_pool.PagePool.keep.Goals as goal

pub invariant_of-self : goal.invariant_of-self
invariant_of-self c =
    let pool = c.args.self.now in
    record { counted = pool.counted ∙ sym (ap (count_by (is_expired pool.mark)) c.end.ensures ∙ after_counted pool.mark Kept tt pool.lists.places.items) }

pub returns : goal.returns
unfolding places
returns c =
    let pool = c.args.self.now in
    ap (map (swept_place pool.mark)) c.end.ensures ∙ after_seen pool.mark Kept tt pool.lists.places.items
