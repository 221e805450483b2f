-- Pages found by a walk that tests its keys.
use Rattle.std.proofs.Common.{IfOk, IfSome, Bool, None, Ok, Err, Some}
use Rattle.std.specs.declared.option.Option.{Option}
use Rattle.std.specs.declared.result.Result.{Result}
use Rattle.be_value.specs.declared.refusals.Refusal.{Refusal}

-- If a page was returned, whatever every page implies holds for it.
pub page_follows : (P Q : Bool → Type 0) (came : Result (Option Bool) Refusal) → ((more : Bool) → P more → Q more) → IfOk came (λ page. IfSome page P) → IfOk came (λ page. IfSome page Q)
page_follows P Q (Ok None) follows h = h
page_follows P Q (Ok (Some more)) follows h = follows more h
page_follows P Q (Err e) follows h = h
