use Rattle.std.proofs.Common.{◌≡◌, subst}
use Rattle.be_table.specs.declared.pass.Knowledge.{Knowledge}
use Rattle.be_volume.specs.Reading.{attribute}
use Rattle.be_store.specs.Passes.{volume_pinned}
use Rattle.be_store.proofs.store.Store.get.Goals as goal

pub returns-clause-value : goal.returns-clause-value
returns-clause-value c =
    subst (λ (k : Knowledge). c.get-value.result ≡ attribute (volume_pinned k) c.args.node c.args.name.now) c.reader-look.ensures.look.1
    (c.get-value.ensures.value (volume_pinned c.reader-look.result.0.knows) c.reader-look.ensures.version)
