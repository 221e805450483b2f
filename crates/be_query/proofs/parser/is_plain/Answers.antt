use Rattle.std.proofs.Common.{ap, sym, ◌∙◌}
use Rattle.std.specs.Prelude.{nat_eq}
use Rattle.std.specs.List.{list_any}
use Rattle.std.proofs.lemmas.Bool.{not-true}
use Rattle.be_query.proofs.Plain.{plain_whole}
use Rattle.be_query.proofs.parser.is_plain.Goals as goal

pub returns : goal.returns
returns c h = plain_whole c.args.raw.now (ap (list_any (λ b. nat_eq b 92)) (sym c.as_bytes.ensures.value) ∙ sym c.contains.ensures.value ∙ not-true c.contains.result h)
