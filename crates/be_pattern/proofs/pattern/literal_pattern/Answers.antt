use Rattle.std.proofs.Common.{map, ap, sym, ◌∙◌}
use Rattle.std.specs.Prelude.{encode_utf8_all}
use Rattle.std.specs.Str.{chars}
use Rattle.be_pattern.specs.Canonical.{is_plain, is_prefix, literal_prefix}
use Rattle.be_pattern.specs.Match.{Only}
use Rattle.be_pattern.proofs.Literal.{all_literal, all_front, front_text}
use Rattle.be_pattern.proofs.pattern.literal_pattern.Goals as goal

pub invariant_of-result : goal.invariant_of-result
invariant_of-result c =
    let text = c.args.text.now in
    let kept = ap (λ bs. map Only (chars bs)) c.in_ok-prefix.ensures.ok in (
      c.in_ok-prefix.ensures.ok ∙ sym (front_text text c.utf8.text) ∙ sym (ap (λ ps. encode_utf8_all (literal_prefix ps)) kept),
      sym (all_literal (chars text)) ∙ sym (ap is_plain kept),
      sym (all_front (chars text)) ∙ sym (ap is_prefix kept),
    )

pub returns : goal.returns
returns c = ap (λ bs. map Only (chars bs)) c.in_ok-prefix.ensures.ok
