use Rattle.std.proofs.Common.{◌++◌, ◌∙◌, ap, eqb-true, is_ok, length, sym, true≢false}
use Rattle.std.specs.Prelude.{encode_utf8_all, string_bytes}
use Rattle.std.proofs.ResultArms.{chosen}
use Rattle.std.proofs.lemmas.Bool.{eq-eqb}
use Rattle.be_query_text.specs.Cases.{others}
use Rattle.be_query_text.proofs.Sets.{no_others, set_written}
use Rattle.be_query_text.proofs.cases.push_any_case.Goals as goal

pub returns-then-is_empty : goal.returns-then-is_empty
returns-then-is_empty c =
    let none = sym (ap length c.as_bytes.ensures.value) ∙ eqb-true _ 0 (sym c.if-is_empty.ensures) in
    c.in_ok-push_escaped.ensures ∙ ap (λ t. string_bytes c.args.pattern.now ++ encode_utf8_all t) (sym (no_others c.args.folded (others c.args.folded) (string_bytes c.in_ok-others.others) c.in_ok-others.ensures none))

pub returns : goal.returns
returns c =
    set_written (string_bytes c.args.pattern.now) (string_bytes c.push.new.self) (string_bytes c.push-2.new.self) (string_bytes c.push_str.new.self) (string_bytes c.push-3.new.self) c.args.folded (others c.args.folded) (string_bytes c.in_ok-others.others) c.in_ok-others.ensures
    (λ e. true≢false (sym (eq-eqb _ 0 (ap length c.as_bytes.ensures.value ∙ e)) ∙ sym c.if-is_empty.ensures))
    (chosen _ _ _ _ c.push.ensures.bytes (ap is_ok c.in_ok-push.was))
    (chosen _ _ _ _ c.push-2.ensures.bytes (ap is_ok c.in_ok-push-2.was))
    (chosen _ _ _ _ c.push_str.ensures.bytes (ap is_ok c.in_ok-push_str.was) ∙ ap (λ t. string_bytes c.push-2.new.self ++ t) c.deref.ensures)
    (chosen _ _ _ _ c.push-3.ensures.bytes (ap is_ok c.in_ok-push-3.was))
