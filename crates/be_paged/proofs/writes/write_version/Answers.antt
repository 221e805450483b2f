use Rattle.std.proofs.Common.{ℕ, ap, ◌∙◌, arith, rules}
use Rattle.std.proofs.lemmas.Bool.Decides.{nat_tests}
use Rattle.be_tree_reading.proofs.Frame.{written_swaps}
use Rattle.be_paged.proofs.Sizes.Stopping.{fewer_same}
use Rattle.be_tree.proofs.Shape.Parts.{on_err}
use Rattle.be_paged.proofs.writes.write_version.Goals as goal

pub returns-clause-swaps : goal.returns-clause-swaps
returns-clause-swaps g c =
    written_swaps g.R.Look.kept g.R.Look.page_state g.R.Look.words c.in_ok-page.page c.args.room.now c.store_version.new.room
    (c.store_version.ensures.kept ∙ c.in_ok-page.ensures.kept)
    c.in_ok-page.ensures.page.1
    (grind (arith, nat_tests, c.store_version.ensures.page_state c.in_ok-page.page))
    (λ q ne. grind (arith, nat_tests, c.store_version.ensures.page_state q, c.in_ok-page.ensures.ok q))
    (λ q ne. c.store_version.ensures.others q ne ∙ ap (λ (w : ℕ → ℕ → ℕ). w q) c.in_ok-page.ensures.words)

pub returns-in_err-page-clause-refused : goal.returns-in_err-page-clause-refused
returns-in_err-page-clause-refused g c = (
  search rules,
  search rules,
  on_err _ (fewer_same (g.R.Look.page_state c.args.room.now) (g.R.Look.page_state c.take_like.new.self) c.in_err-page.ensures.err),
)
