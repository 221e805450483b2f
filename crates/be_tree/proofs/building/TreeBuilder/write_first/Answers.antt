use Rattle.std.proofs.Common.{◌≡◌, [], ◌∷◌, length, take, subst, ◌∙◌, rules, arith}
use Rattle.std.proofs.lemmas.List.{length-take-le}
use Rattle.be_tree.specs.Slot.{branch_to}
use Rattle.be_tree_reading.specs.Tree.{IsWritten}
use Rattle.be_tree_reading.proofs.Frame.{swaps_start}
use Rattle.be_tree.proofs.Builds.Leaves.{writes_first}
use Rattle.be_tree.proofs.Shape.Parts.{on_err}
use Rattle.be_tree.proofs.building.TreeBuilder.write_first.Goals as goal

pub returns-in_err-push-clause-refused : goal.returns-in_err-push-clause-refused
returns-in_err-push-clause-refused g c =
    (on_err _ (swaps_start g.R.Look.kept g.R.Look.page_state g.R.Look.words [] (c.in_ok-page.page ∷ []) c.args.room.now c.write_leaf.new.room c.in_ok-page.ensures.swaps), search rules)

pub returns-clause-ok : goal.returns-clause-ok
returns-clause-ok g c =
    let items = c.args.self.now.items.items in
    let new = g.R.Look.words c.write_leaf.new.room in
    let part : c.deref.result.now ≡ take c.args.count items = c.deref.ensures.value ∙ c.in_ok-rest.ensures.items in
    let long : length (take c.args.count items) ≡ c.args.count = length-take-le c.args.count items c.requires.size.1.1 in
    writes_first g.R.Look.kept g.R.Look.page_state g.R.Look.words c.args.count c.in_ok-page.page c.args.self.now (record { alloc = c.args.self.now.alloc; leaves = c.push.new.self; items = c.in_ok-rest.rest })
    c.args.room.now c.write_leaf.new.room c.requires.begun (omega (arith, long, c.requires.size.0)) c.in_ok-page.ensures.small
    (subst (λ xs. IsWritten 0 new xs (branch_to new c.in_ok-page.page)) part c.in_ok-page.ensures.ok) c.in_ok-page.ensures.swaps
    c.in_ok-push.ensures.items c.in_ok-rest.ensures.tail
