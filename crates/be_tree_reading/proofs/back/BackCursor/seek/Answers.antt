use Rattle.std.proofs.Common.{sym, ap, ◌∙◌}
use Rattle.std.specs.Option.{option_copied}
use Rattle.be_tree_reading.specs.Tree.{pairs}
use Rattle.be_tree_reading.specs.Way.{pairs_until}
use Rattle.be_tree_reading.proofs.Untils.{until_all}
use Rattle.be_tree_reading.proofs.back.BackCursor.seek.Goals as goal

pub returns-in-None-clause-coming : goal.returns-in-None-clause-coming
returns-in-None-clause-coming g c =
    let all = pairs (g.L.Look.words c.args.look.now) c.args.root in
    c.begin_at_end.ensures.coming ∙ sym (until_all all c.args.before) ∙ ap (λ o. pairs_until all (option_copied o) c.args.before) (sym c.in-None.is)
