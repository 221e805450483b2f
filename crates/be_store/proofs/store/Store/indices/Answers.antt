use Rattle.std.proofs.Common.{Ok, subst}
use Rattle.be_table.specs.declared.pass.Knowledge.{Knowledge}
use Rattle.be_value.specs.Refusal.{Answers}
use Rattle.be_volume.specs.Reading.{index_kinds}
use Rattle.be_store.specs.Passes.{volume_pinned}
use Rattle.be_store.proofs.store.Store.indices.Goals as goal

pub returns-clause-list : goal.returns-clause-list
returns-clause-list c =
    subst (λ (k : Knowledge). Answers (λ list. list.items) c.indices-list.result (Ok (index_kinds (volume_pinned k)))) c.reader-look.ensures.look.1
    (c.indices-list.ensures.answer (volume_pinned c.reader-look.result.0.knows) c.reader-look.ensures.version)
