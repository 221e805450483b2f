use Rattle.be_query.specs.View.{formula}
use Rattle.be_order.proofs.Listed.{scan_lists}
use Rattle.be_order.proofs.prepared.list_true.Goals as goal

pub returns-in-Ok-clause-lists : goal.returns-in-Ok-clause-lists
returns-in-Ok-clause-lists g c =
    scan_lists g.volume (g.met.S.Source.sound c.args.source.now g.volume c.requires.1.0) (formula c.args.tree.now) c.true_nodes_into.new.found.items c.in-Ok.ensures.rising c.in-Ok.ensures.answer
