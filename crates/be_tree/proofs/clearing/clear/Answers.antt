use Rattle.std.proofs.Common.{[], sym, subst, refl}
use Rattle.be_pages.specs.Pages.{Swaps}
use Rattle.be_tree_reading.specs.Tree.{pages}
use Rattle.be_tree.proofs.Removing.Clears.{swaps_none}
use Rattle.be_tree.proofs.clearing.clear.Goals as goal

pub returns-then-root-eq0-clause-pages : goal.returns-then-root-eq0-clause-pages
returns-then-root-eq0-clause-pages g c =
    subst (λ r. Swaps g.R.Look.kept g.R.Look.page_state g.R.Look.words (pages (g.R.Look.words c.args.room.now) r) [] c.args.room.now c.args.room.now) (sym c.if-root-eq0.true)
    (swaps_none g.R.Look.kept g.R.Look.page_state g.R.Look.words c.args.room.now c.args.room.now (record { kept = refl; page_state = refl; words = refl }))
