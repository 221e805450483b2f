use Rattle.std.proofs.Common.{refl, ap, length, string_bytes, ◌∙◌}
use Rattle.bestore_c.specs.Places.{over}
use Rattle.bestore_c.proofs.Finding.{found_ok, found_err}
use Rattle.bestore_c.proofs.asking.report_text.Goals as goal

pub returns-in-Ok-clause-found : goal.returns-in-Ok-clause-found
returns-in-Ok-clause-found c = λ pin meant pinned.
    found_ok string_bytes pin c.args.answer c.in-Ok.text meant c.args.bytes.now c.put_text.new.bytes _ _ c.in-Ok.is pinned refl
    (c.put_text.ensures.count ∙ ap length c.as_str.ensures.value) (c.put_text.ensures.bytes ∙ ap (λ xs. over xs c.args.bytes.now) c.as_str.ensures.value)

pub returns-in-Err-clause-found : goal.returns-in-Err-clause-found
returns-in-Err-clause-found c = λ pin meant pinned.
    found_err string_bytes pin c.args.answer c.in-Err.fault meant c.args.bytes.now c.args.bytes.now _ _ c.in-Err.is pinned c.refuse.ensures
