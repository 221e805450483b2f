use Rattle.std.proofs.Common.{sym, subst, arith, rules, FitsSigned, w64}
use Rattle.std.proofs.lemmas.Str.{IsUtf8-string_bytes}
use Rattle.be_query.specs.Rpn.{ItemClean, item_of}
use Rattle.be_query.proofs.Worked.{signed_clean}
use Rattle.be_query.proofs.rpn.know_item.Goals as goal

pub returns-in-Text : goal.returns-in-Text
returns-in-Text c = subst (λ i. ItemClean (item_of i)) (sym c.in-Text.is) (IsUtf8-string_bytes c.in-Text.text)

pub returns-in-Int : goal.returns-in-Int
returns-in-Int c = let fits : FitsSigned w64 c.in-Int.n = search rules in subst (λ i. ItemClean (item_of i)) (sym c.in-Int.is) (signed_clean c.in-Int.n (omega (arith, fits)))

pub returns-in-Uint : goal.returns-in-Uint
returns-in-Uint c = subst (λ i. ItemClean (item_of i)) (sym c.in-Uint.is) c.know_uint.ensures
