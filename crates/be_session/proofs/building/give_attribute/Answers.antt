use Rattle.std.proofs.Common.{◌≡◌, List, ℕ, inr, refl, subst}
use Rattle.be_paged_building.specs.Errors.{AttributeError}
use Rattle.be_paged_building.specs.Given.{with_held}
use Rattle.be_store_building.specs.Building.{IsSpent, Refuses, last_node}
use Rattle.be_session.proofs.building.give_attribute.Goals as goal

pub returns-in-Err-clause-err : goal.returns-in-Err-clause-err
returns-in-Err-clause-err c =
    let value = c.in_ok-value.value in let b = c.args.builder.now in let held = c.args.held in
    let Refused : List ℕ → Type 0 = λ n. Refuses (AttributeError b.volume (last_node b.volume) n value held) (IsSpent b.limits.pages (with_held b.volume (last_node b.volume) n value held)) b c.attribute.new.self c.in-Err.refusal in
    let refused : Refused c.args.name_bytes.now = subst Refused c.in_ok-called.ensures.ok.0 c.in-Err.ensures.err in
    inr (inr (value, c.in_ok-called.ensures.named, c.in_ok-value.ensures.ok, (c.in-Err.refusal, refl, refused)))
