use Rattle.std.proofs.Common.{◌≡◌, length, refl, arith}
use Rattle.be_pages.specs.Pages.{untouched}
use Rattle.be_tree.proofs.Builds.Leaves.{none_of, not_none, only_tree}
use Rattle.be_tree.proofs.building.write_only.Goals as goal

pub returns-then-items-eq0-clause-ok : goal.returns-then-items-eq0-clause-ok
returns-then-items-eq0-clause-ok g c =
    let none : length c.args.items.now ≡ 0 = omega (arith, c.if-items-eq0.true) in
    record { tree = tt; has_pairs = none_of c.args.items.now none; swaps = record { kept = refl; each = λ q. untouched refl } }

pub returns-clause-ok : goal.returns-clause-ok
returns-clause-ok g c =
    (only_tree g.R.Look.kept g.R.Look.page_state g.R.Look.words c.args.items.now c.in_ok-page.page c.args.room.now c.write_leaf.new.room c.requires.keys_fit c.requires.rising (not_none (length c.args.items.now) c.if-items-eq0.false)
    c.in_ok-page.ensures.small c.in_ok-page.ensures.ok c.in_ok-page.ensures.swaps).0

pub returns-clause-fewest : goal.returns-clause-fewest
returns-clause-fewest g c =
    (only_tree g.R.Look.kept g.R.Look.page_state g.R.Look.words c.args.items.now c.in_ok-page.page c.args.room.now c.write_leaf.new.room c.requires.keys_fit c.requires.rising (not_none (length c.args.items.now) c.if-items-eq0.false)
    c.in_ok-page.ensures.small c.in_ok-page.ensures.ok c.in_ok-page.ensures.swaps).1
