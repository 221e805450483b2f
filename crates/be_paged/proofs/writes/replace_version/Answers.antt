use Rattle.std.proofs.Common.{[], ◌∷◌, rules}
use Rattle.be_tree_reading.proofs.Frame.{swaps_trans}
use Rattle.be_paged.proofs.Applying.Replacing.{given_swaps}
use Rattle.be_tree.proofs.Sizes.InHand.{takes_fewer_then, takes_given_up}
use Rattle.be_tree.proofs.Shape.Parts.{on_err}
use Rattle.be_paged.proofs.writes.replace_version.Goals as goal

pub returns-clause-swaps : goal.returns-clause-swaps
returns-clause-swaps g c =
    swaps_trans g.R.Look.kept g.R.Look.page_state g.R.Look.words (c.args.old_page ∷ []) [] (c.in_ok-page.page ∷ []) c.args.room.now c.give_up.new.self c.write_version.new.room
    (given_swaps g.R.Look.kept g.R.Look.page_state g.R.Look.words c.args.old_page c.args.room.now c.give_up.new.self c.give_up.ensures.kept c.requires.in_use c.give_up.ensures.words c.give_up.ensures.page_state)
    c.in_ok-page.ensures.swaps

pub returns-in_err-page-clause-refused : goal.returns-in_err-page-clause-refused
returns-in_err-page-clause-refused g c =
    let s = g.R.Look.page_state in
    let k = takes_fewer_then 0 1 (s c.args.room.now) (s c.give_up.new.self) (s c.write_version.new.room)
    (takes_given_up (s c.args.room.now) (s c.give_up.new.self) c.args.old_page c.give_up.ensures.page_state) c.in_err-page.ensures.refused.2 in
    (search rules, search rules, on_err _ k)
