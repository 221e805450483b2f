-- Page states.
use Rattle.std.proofs.Common.{◌≡◌, IsTrue, refl, ap}
use mathlib.Core.Bool.{false≢true}
use Rattle.be_pages.specs.declared.room.PageState.{PageState}
use Rattle.be_pages.specs.declared.room.PageState.TheVariants.{Free, Old, GivenUp, Taken, Filled}
use Rattle.be_pages.specs.Pages.{is_readable, is_taken}

pub taken_readable : (s : PageState) → IsTrue (is_taken s) → IsTrue (is_readable s)
taken_readable Free taken = absurd (false≢true taken)
taken_readable Old taken = absurd (false≢true taken)
taken_readable GivenUp taken = absurd (false≢true taken)
taken_readable Taken taken = refl
taken_readable Filled taken = refl

pub filled_readable : (s : PageState) → s ≡ Filled → IsTrue (is_readable s)
filled_readable s filled = ap is_readable filled
