use Rattle.std.proofs.Common.{count_by, ap, ◌∙◌}
use Rattle.be_change.specs.Changing.{Changing}
use Rattle.be_change.specs.Left.{is_new}
use Rattle.be_change.proofs.Outcomes.{given, next_given}
use Rattle.be_change.proofs.changes.Change.new_node.Goals as goal

pub returns-clause-given : goal.returns-clause-given
returns-clause-given c =
    given c.args.self.now c.collect.new.self c.self.inside.first c.self.inside.made (ap (λ (x : Changing). x.first) c.self.view_is)
    (c.self.invariant.0 ∙ ap (λ (x : Changing). count_by is_new x.ops) c.self.view_is) c.in_ok-collect.ensures.ok

pub returns-clause-next : goal.returns-clause-next
returns-clause-next c =
    next_given c.args.self.now c.self.inside.first c.self.inside.made (ap (λ (x : Changing). x.first) c.self.view_is)
    (c.self.invariant.0 ∙ ap (λ (x : Changing). count_by is_new x.ops) c.self.view_is)
