use Rattle.std.proofs.Common.{◌≡◌, ℕ, List, true, false, not, Some, None, is_some, ap, ◌∙◌, refl}
use Rattle.std.specs.Option.{option_or}
use Rattle.std.specs.declared.option.Option.{Option}
use Rattle.be_paged_reading.specs.declared.asked.Asked.{Asked}
use Rattle.be_paged_reading.proofs.asked.remember.Goals as goal

filled : {A : Type 0} (old : Option A) (x : A) → is_some old ≡ false → Some x ≡ option_or old (Some x)
filled None x none = refl
filled (Some y) x none = cc

kept : {A : Type 0} (old new : Option A) → is_some old ≡ true → old ≡ option_or old new
kept None new some = cc
kept (Some y) new some = refl

pub returns-then-is_none : goal.returns-then-is_none
returns-then-is_none c =
    let found : List ℕ → Asked = λ name. record { node = c.args.node; name = name; place = c.args.place } in
    ap (λ (name : List ℕ). Some (found name)) c.copy.ensures ∙ filled c.args.asked.now (found c.args.name.now) (c.is_none.ensures ∙ ap not c.if-is_none.true)

pub returns-else-is_none : goal.returns-else-is_none
returns-else-is_none c = kept c.args.asked.now _ (c.is_none.ensures ∙ ap not c.if-is_none.false)
