use Rattle.std.proofs.Common.{ap, sym, ◌∙◌}
use Rattle.std.specs.Prelude.{string_bytes, nat_eq}
use Rattle.std.specs.Str.{chars}
use Rattle.std.specs.Cmp.Lexicographic.{pointwise}
use Rattle.std.proofs.lemmas.Str.{IsUtf8-string_bytes}
use Rattle.be_pattern.specs.Match.{kept_parts, matches}
use Rattle.be_pattern.proofs.Literal.{text_matches}
use Rattle.be_pattern.proofs.pattern.Pattern.matches.Goals as goal

pub returns-in-None : goal.returns-in-None
returns-in-None c =
    let own = string_bytes c.self.inside.prefix in
    let text = c.args.text.now in
    c.eq.ensures ∙ ap (pointwise nat_eq text) c.as_str.ensures.value
    ∙ text_matches own text (IsUtf8-string_bytes c.self.inside.prefix) c.utf8.text
    ∙ ap (λ ps. matches ps (chars text)) (ap (kept_parts (chars own)) (sym c.in-None.is) ∙ c.self.view_is)
