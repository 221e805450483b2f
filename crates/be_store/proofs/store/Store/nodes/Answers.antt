use Rattle.std.proofs.Common.{Ok, subst}
use Rattle.be_table.specs.declared.pass.Knowledge.{Knowledge}
use Rattle.be_store.specs.Imports.{Answers, nodes_from}
use Rattle.be_store.specs.Passes.{volume_pinned}
use Rattle.be_store.proofs.store.Store.nodes.Goals as goal

pub returns-clause-list : goal.returns-clause-list
returns-clause-list c =
    subst (λ (k : Knowledge). Answers (λ list. list.items) c.nodes-list.result (Ok (nodes_from (volume_pinned k) c.args.from c.args.most))) c.reader-look.ensures.look.1
    (c.nodes-list.ensures.answer (volume_pinned c.reader-look.result.0.knows) c.reader-look.ensures.version)
