use Rattle.std.proofs.Common.{ap, sym, ◌∙◌}
use Rattle.std.specs.Result.{is_ok}
use Rattle.be_query.proofs.Names.{same_name}
use Rattle.be_query.proofs.parser.name_of.Goals as goal

pub returns-in-Ok : goal.returns-in-Ok
returns-in-Ok c =
    let made = sym c.new.ensures ∙ c.in-Ok.is in
    (same_name _ _ made, ap is_ok made)

pub returns-in-Err : goal.returns-in-Err
returns-in-Err c = ap is_ok (sym c.new.ensures ∙ c.in-Err.is)
