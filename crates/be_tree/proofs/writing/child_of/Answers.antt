use Rattle.std.proofs.Common.{◌∙◌, ap, sym, subst}
use Rattle.be_tree.specs.declared.slot.Slot.{Slot}
use Rattle.be_tree.specs.Slot.{IsReady, pair_of}
use Rattle.be_tree_reading.specs.Tree.{child}
use Rattle.be_tree.proofs.Nodes.Slots.{child_branch}
use Rattle.be_tree.proofs.writing.child_of.Goals as goal

pub returns-in-Branch-clause-child : goal.returns-in-Branch-clause-child
returns-in-Branch-clause-child g c =
    let words = g.L.Look.words c.args.look.now in
    let ready = subst (IsReady (g.L.Look.page_state c.args.look.now) words) c.in-Branch.is c.requires.ready in
    sym (ap (λ (s : Slot). child (pair_of words c.args.pair.now s)) c.in-Branch.is ∙ child_branch words c.in-Branch.page ready.1.0)
