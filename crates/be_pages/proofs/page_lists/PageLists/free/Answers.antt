use Rattle.std.proofs.Common.{◌∙◌, arith}
use Rattle.be_pages.specs.FreePages.{has_free}
use Rattle.be_pages.specs.Place.{is_free}
use Rattle.be_pages.proofs.Pools.{count_free}
use Rattle.be_pages.proofs.page_lists.PageLists.free.Goals as goal

pub returns : goal.returns
unfolding has_free
returns c =
    let pool = c.args.self.now in
    c.len.ensures ∙ count_free is_free pool.free.plain.places.items pool.free.spare.places.items pool.places.items
    (omega (arith, pool.free_pages, pool.places.ok.0)) (omega (arith, pool.free.spare_pages, pool.free_pages, pool.places.ok.0)) pool.frees pool.free.apart
