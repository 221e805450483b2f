use Rattle.std.proofs.Common.{subst}
use Rattle.be_table.specs.declared.pass.Knowledge.{Knowledge}
use Rattle.be_store.specs.Imports.{attribute, name_in, IsReadInto}
use Rattle.be_store.specs.Passes.{volume_pinned}
use Rattle.be_store.proofs.store.Store.get_into.Goals as goal

pub returns-clause-value : goal.returns-clause-value
returns-clause-value c =
    subst (λ (k : Knowledge). IsReadInto (attribute (volume_pinned k) c.args.node (name_in c.args.name.now)) c.get_into-cell.result c.args.bytes.now c.get_into-cell.new.bytes) c.reader-look.ensures.look.1
    (c.get_into-cell.ensures.value (volume_pinned c.reader-look.result.0.knows) c.reader-look.ensures.version)
