use Rattle.std.proofs.Common.{arith}
use Rattle.be_tree_reading.proofs.Items.{items_count}
use Rattle.be_tree_reading.proofs.about.branch_to.Goals as goal

pub item_number-requires : goal.item_number-requires
item_number-requires g c = omega (arith, c.branch_in-at.ensures.branch.is_place)

pub returns-clause-in_range : goal.returns-clause-in_range
returns-clause-in_range g c =
    let of = c.branch_in-at.ensures.branch in
    omega (arith, c.item_number.ensures, of.is_place, of.is_branch.before, of.is_branch.is_rank.in_range, c.requires.some, items_count (g.L.Look.words c.args.look.now c.args.page))
