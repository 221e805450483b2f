use Rattle.std.proofs.Common.{arith, map}
use Rattle.std.proofs.lemmas.List.{length-map}
use Rattle.std.proofs.lemmas.List.Sums.{count_by-le-length}
use Rattle.be_pages.specs.PagePool.{places}
use Rattle.be_pages.specs.Place.{is_free, swept_place}
use Rattle.be_pages.proofs.Marks.{free_seen}
use Rattle.be_pages.proofs.page_pool.PagePool.free.Goals as goal

pub overflow_add-result : goal.overflow_add-result
overflow_add-result c =
    let pool = c.args.self.now in
    let P = pool.lists.places.items in
    omega (arith, c.free.ensures, pool.counted, free_seen pool.mark P, count_by-le-length is_free (map (swept_place pool.mark) P), length-map P (swept_place pool.mark), pool.lists.places.ok.0)

pub returns : goal.returns
unfolding places
returns c =
    let pool = c.args.self.now in
    omega (arith, c.free.ensures, pool.counted, free_seen pool.mark pool.lists.places.items)
