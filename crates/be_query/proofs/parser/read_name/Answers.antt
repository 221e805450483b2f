use Rattle.std.proofs.Common.{◌≡◌, true, false, subst, sym, ◌∙◌, MatchOption}
use Rattle.std.specs.Result.{is_ok}
use Rattle.be_value.specs.Name.{name_from}
use Rattle.be_query.proofs.parser.read_name.Goals as goal

pub returns-then-is_plain : goal.returns-then-is_plain
returns-then-is_plain c =
    subst (λ t. MatchOption c.name_of.result (is_ok (name_from t) ≡ false) (λ n. (n ≡ t) × (is_ok (name_from t) ≡ true)))
    (sym (c.is_plain.ensures c.if-is_plain.true)) c.name_of.ensures

pub returns : goal.returns
returns c =
    subst (λ t. MatchOption c.name_of-2.result (is_ok (name_from t) ≡ false) (λ n. (n ≡ t) × (is_ok (name_from t) ≡ true)))
    (c.deref.ensures ∙ c.in_ok-text.ensures) c.name_of-2.ensures
