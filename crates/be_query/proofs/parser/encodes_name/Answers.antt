use Rattle.std.proofs.Common.{sym, ◌∙◌, ap}
use Rattle.std.specs.Result.{is_ok}
use Rattle.be_value.specs.Name.{name_from}
use Rattle.be_query.proofs.parser.encodes_name.Goals as goal

pub returns : goal.returns
returns c = sym (ap (λ t. is_ok (name_from t)) (c.deref.ensures ∙ c.in_ok-text.ensures)) ∙ c.in-None.ensures

pub returns-in-Some : goal.returns-in-Some
returns-in-Some c = sym (ap (λ t. is_ok (name_from t)) (c.deref.ensures ∙ c.in_ok-text.ensures)) ∙ c.in-Some.ensures.1
