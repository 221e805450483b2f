use Rattle.std.proofs.Common.{◌≡◌, ◌+◌, ◌*◌, sym, ap, ◌∙◌, arith}
use Rattle.be_table.specs.Rule.{pass_of}
use Rattle.be_table.proofs.Holding.{scans_as}
use Rattle.be_table.proofs.Moved.{scan_makes, scan_reason}
use Rattle.be_table.proofs.writing.read_announcement.Goals as goal

pub load-requires : goal.load-requires
load-requires c =
    let r = c.requires.pass in let m = c.args.base.now.me in let i = c.table.invariant in
    let e : c.table.inside.limits.passes ≡ c.args.table.now.limits.passes = ap (λ l. l.passes) i.2 ∙ ap (λ t. t.limits.passes) c.table.view_is in let few = i.3.limits.few in (
      c.requires.seat ∙ sym (ap (λ t. t.id) c.table.view_is),
      omega (arith, i.0, r.4, e, few),
      scans_as _ _ _ (pass_of m.0) m.1 m (λ k. (r.0 k, m.1)) _ r.1 r.2 (ap (λ n. 16 + 8 * n) (sym r.3)),
    )

pub returns-clause-me : goal.returns-clause-me
returns-clause-me c = (scan_makes c.load.result c.args.base.now.me c.load.new.seat.me c.load.ensures.2).0

pub returns-clause-moves : goal.returns-clause-moves
returns-clause-moves c = (scan_makes c.load.result c.args.base.now.me c.load.new.seat.me c.load.ensures.2).1

pub returns-clause-found : goal.returns-clause-found
returns-clause-found c = (scan_makes c.load.result c.args.base.now.me c.load.new.seat.me c.load.ensures.2).2

pub returns-clause-leaves : goal.returns-clause-leaves
returns-clause-leaves c = c.load.ensures.2.3.0.1

pub returns-clause-own : goal.returns-clause-own
returns-clause-own c = c.load.ensures.2.3.0.2

pub returns-clause-reason : goal.returns-clause-reason
returns-clause-reason c none = scan_reason c.load.result c.args.base.now.me c.load.new.seat.me c.load.ensures.2 c.requires.pass.1 none
