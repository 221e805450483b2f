use Rattle.std.proofs.Common.{◌≡◌, ◌∙◌, sym, ap, arith}
use Rattle.std.specs.Prelude.{slice_index}
use Rattle.std.proofs.lemmas.List.{get_or_default}
use Rattle.be_pages.specs.Place.{retired_at}
use Rattle.be_pages.proofs.Pools.{none_expired}
use Rattle.be_pages.proofs.page_lists.PageLists.first_expired.Goals as goal

pub returns-else-number-least-clause-none : goal.returns-else-number-least-clause-none
returns-else-number-least-clause-none c =
    let pool = c.args.self.now in
    let queue = pool.retired.items in
    let P = pool.places.items in
    none_expired P queue pool.retires c.args.least pool.oldest_first (λ some.
    let top : slice_index queue 0 ≡ c.in_ok-page.field-0.now = get_or_default queue 0 0 c.in_ok-page.field-0.now some ∙ sym c.in_ok-page.ensures.lookup in
    omega (arith, c.if-number-least.false, c.number.ensures, ap (retired_at P) top))
