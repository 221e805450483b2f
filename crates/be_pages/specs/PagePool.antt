-- A pool of pages, seen as the places of its pages.
use Rattle.std.specs.Prelude.{List, map}
use Rattle.be_pages.specs.declared.page_pool.Place.{Place}
use Rattle.be_pages.specs.declared.page_pool.PagePool.{PagePool}
use Rattle.be_pages.specs.Place.{swept_place}

-- a retired page whose number is below the mark is free, although it is still in the queue
unfoldable pub places : PagePool → List Place
places pool = map (swept_place pool.mark) pool.lists.places.items
