-- A pool's free pages: those that are spared, and the others.
use Rattle.std.specs.Prelude.{ℕ, Bool, ◌||◌}
use Rattle.be_pages.specs.declared.free_pages.FreePages.{FreePages}
use Rattle.be_pages.specs.PageSet.{has_page}

-- the page is free
unfoldable pub has_free : FreePages → ℕ → Bool
has_free pages q = has_page pages.plain.places.items q || has_page pages.spare.places.items q
