use Rattle.std.proofs.Common.{◌≡◌, List, None, refl, subst, sym}
use Rattle.be_tree_reading.specs.Pair.{Pair}
use Rattle.be_tree_reading.specs.Tree.{BecomesTree, pages, pairs}
use Rattle.be_paged.specs.Changes.{key_turned}
use Rattle.be_paged.specs.declared.changes.Turn.{Turn}
use Rattle.be_paged.specs.declared.changes.Turn.TheVariants as turns
use Rattle.be_paged.proofs.Applying.Composing.{tree_stays}
use Rattle.be_paged.proofs.IndexEntries.Settled.{if_ok, key_clash}
use Rattle.be_paged.proofs.changes.turn_key.Goals as goal

nothing_turned : (turn : Turn) (items : List Pair) → key_turned turn None items ≡ items
nothing_turned turns.Leaves items = refl
nothing_turned turns.Enters items = refl

pub returns-in_default-clause-ok : goal.returns-in_default-clause-ok
returns-in_default-clause-ok g c =
    let words = g.R.Look.words c.args.room.now in
    rw c.in_default.is (subst (λ (items : List Pair). BecomesTree g.R.Look.kept g.R.Look.page_state g.R.Look.words (pages words c.args.root) items c.args.root c.args.room.now c.args.room.now)
    (sym (nothing_turned c.args.turn (pairs words c.args.root)))
    (tree_stays g.R.Look.kept g.R.Look.page_state g.R.Look.words c.args.root c.args.room.now c.requires.tree))

pub returns-in-Leaves-clause-none : goal.returns-in-Leaves-clause-none
returns-in-Leaves-clause-none g c = if_ok c.remove.result _ (λ new none. absurd (key_clash _ _ _ c.in-Some.is none))

pub returns-in-Enters-clause-none : goal.returns-in-Enters-clause-none
returns-in-Enters-clause-none g c = if_ok c.insert.result _ (λ new none. absurd (key_clash _ _ _ c.in-Some.is none))
