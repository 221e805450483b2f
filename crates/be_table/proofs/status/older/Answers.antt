use Rattle.std.proofs.Common.{◌-◌, arith, subst}
use Rattle.be_table.specs.Statuses.{IsOldest}
use Rattle.be_table.proofs.Statuses.{oldest_same, oldest_first, oldest_new, oldest_stays}
use Rattle.be_table.proofs.status.older.Goals as goal

pub returns-then-found-eq0 : goal.returns-then-found-eq0
returns-then-found-eq0 c = λ words long h. oldest_same words c.args.oldest c.args.found c.if-found-eq0.true h

pub returns-in-None : goal.returns-in-None
returns-in-None c = λ words long h. oldest_first words c.args.found (c.args.found - 1) c.args.pass (omega (arith, c.if-found-eq0.false)) long (subst (IsOldest words) c.in-None.is h)

pub returns-then-number-known : goal.returns-then-number-known
returns-then-number-known c =
    λ words long h. oldest_new words c.in-Some.known c.args.found (c.args.found - 1) c.args.pass (omega (arith, c.if-found-eq0.false)) long (omega (arith, c.if-number-known.true)) (subst (IsOldest words) c.in-Some.is h)

pub returns-else-number-known : goal.returns-else-number-known
returns-else-number-known c =
    λ words long h. oldest_stays words c.in-Some.known c.args.found (c.args.found - 1) (omega (arith, c.if-found-eq0.false)) (omega (arith, c.if-number-known.false)) (subst (IsOldest words) c.in-Some.is h)
