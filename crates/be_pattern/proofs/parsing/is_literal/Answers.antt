use Rattle.std.proofs.Common.{ap, sym, ◌∙◌}
use Rattle.std.specs.List.{list_any}
use Rattle.std.proofs.lemmas.Bool.{not-true}
use Rattle.be_pattern.specs.Canonical.{is_special}
use Rattle.be_pattern.proofs.Literal.{literal_read}
use Rattle.be_pattern.proofs.parsing.is_literal.Goals as goal

pub returns : goal.returns
returns c h = literal_read c.args.text.now c.utf8.text (ap (list_any is_special) (sym c.as_bytes.ensures.value) ∙ sym c.has_special.ensures ∙ not-true c.has_special.result h)
