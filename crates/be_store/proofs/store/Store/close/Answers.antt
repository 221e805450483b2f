use Rattle.std.proofs.Common.{subst}
use Rattle.be_journal.specs.Journal.{IsLegalFrom}
use Rattle.be_table.specs.Place.{Opened}
use Rattle.be_store.specs.Calls.{AreInOneTrace}
use Rattle.std.specs.Prelude.{map}
use Rattle.be_store.proofs.Calls.{all_fronts, all_writes, in_one_trace}
use Rattle.be_table.specs.Works.{knows_of}
use Rattle.be_store.proofs.store.Store.close.Goals as goal

pub returns-clause-legal : goal.returns-clause-legal
returns-clause-legal c = subst (λ (t : Opened). IsLegalFrom t.limits.volume c.close.result.entries) c.self.view_is c.close.ensures.legal

pub returns-clause-writes : goal.returns-clause-writes
returns-clause-writes c = all_writes c.close.result.entries (map knows_of c.args.passes.items) c.close.ensures.seats

pub returns-clause-reads : goal.returns-clause-reads
returns-clause-reads c = all_fronts c.close.result.entries (map knows_of c.args.passes.items) c.close.ensures.seats

pub returns-clause-moves : goal.returns-clause-moves
returns-clause-moves c =
    subst (λ (t : Opened). AreInOneTrace t.limits (map knows_of c.args.passes.items)) c.self.view_is
    (in_one_trace c.self.inside.table.limits (map knows_of c.args.passes.items) c.close.ensures.trace)
