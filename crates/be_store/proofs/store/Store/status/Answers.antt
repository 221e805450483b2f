use Rattle.std.proofs.Common.{ap, inr}
use Rattle.be_table.specs.declared.pass.Knowledge.{Knowledge}
use Rattle.be_store.proofs.Applied.{upto_here}
use Rattle.be_store.proofs.Statuses.{scan_learns, scan_reports}
use Rattle.be_store.proofs.store.Store.status.Goals as goal

pub returns-clause-learns : goal.returns-clause-learns
returns-clause-learns c =
    scan_learns c.args.pass.now.knows c.in_ok-held.held c.status-status.new.self c.in_ok-held.ensures.held.2 c.status-status.ensures.scan c.unlock.result.knows c.unlock.ensures.pass c.is_pass.ensures c.unlock.ensures.moves

pub returns-clause-reported : goal.returns-clause-reported
returns-clause-reported c =
    let e = c.status-status.ensures in
    scan_reports c.args.pass.now.knows c.in_ok-held.held c.status-status.new.self c.in_ok-held.ensures.held.2 e.scan c.unlock.result.knows c.status-status.result e.oldest e.places e.reports c.unlock.ensures.pass c.unlock.ensures.moves

pub status-status-requires : goal.status-status-requires
status-status-requires c =
    let t = c.in_ok-held.ensures.held.2 in
    record { «open» = ap (λ (k : Knowledge). k.published) t.same; reason = inr (upto_here c.args.pass.now.knows c.in_ok-held.held.knows t) }
