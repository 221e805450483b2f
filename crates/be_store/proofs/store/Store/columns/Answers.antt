use Rattle.std.proofs.Common.{subst}
use Rattle.std.specs.Prelude.{map}
use Rattle.be_table.specs.declared.pass.Knowledge.{Knowledge}
use Rattle.be_store.specs.Imports.{name_in, ReportsColumns}
use Rattle.be_store.specs.Passes.{volume_pinned}
use Rattle.be_store.proofs.store.Store.columns.Goals as goal

pub returns-clause-reported : goal.returns-clause-reported
returns-clause-reported c =
    subst (λ (k : Knowledge). ReportsColumns (volume_pinned k) c.args.nodes.now (map name_in c.args.names.now) c.args.cells.now c.columns-needed.new.cells c.args.bytes.now c.columns-needed.new.bytes c.columns-needed.result) c.reader-look.ensures.look.1
    (c.columns-needed.ensures.reported (volume_pinned c.reader-look.result.0.knows) c.reader-look.ensures.version)
