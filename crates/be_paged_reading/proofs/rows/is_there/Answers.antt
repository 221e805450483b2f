use Rattle.std.proofs.Common.{◌≡◌, Bool, subst}
use Rattle.std.specs.FinMap as fin
use Rattle.std.specs.Option.{IfSome}
use Rattle.std.specs.declared.option.Option.{Option}
use Rattle.be_paged_reading.proofs.rows.is_there.Goals as goal

pub returns-in-Some-clause-there : goal.returns-in-Some-clause-there
returns-in-Some-clause-there g c = λ nodes catalog valid.
    subst (λ (known : Option Bool). IfSome known (λ there. there ≡ fin.contains_key nodes c.args.node)) c.in-Some.is (c.requires.known nodes catalog valid)
