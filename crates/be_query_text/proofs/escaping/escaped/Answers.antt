use Rattle.std.proofs.Common.{◌++◌, ◌∙◌, ap, sym}
use Rattle.std.specs.Prelude.{encode_utf8_all, string_bytes}
use Rattle.std.proofs.lemmas.List.{append-nil}
use Rattle.be_query_text.specs.Encoded.{escaped}
use Rattle.be_query_text.proofs.Escapes.{encoded}
use Rattle.be_query_text.proofs.escaping.escaped.Goals as goal

pub returns : goal.returns
returns c = λ z. encoded (string_bytes c.characters.escaped) c.args.text.now c.utf8.text
    (sym (append-nil (string_bytes c.characters.escaped)) ∙ ap (λ l. string_bytes c.characters.escaped ++ encode_utf8_all (escaped l)) (sym c.in_default.ensures.empty) ∙ c.characters.invariant.so_far) z
