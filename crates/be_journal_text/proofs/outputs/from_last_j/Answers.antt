use Rattle.std.proofs.Common.{ap, ◌∙◌}
use Rattle.std.specs.Option.{option_map}
use Rattle.be_journal_text.proofs.PartLemmas.{none_of_length}
use Rattle.be_journal_text.proofs.ReportLemmas.{from_last_j, is_from_last_j, or_else}
use Rattle.be_journal_text.proofs.outputs.from_last_j.Goals as goal

pub returns : goal.returns
returns c =
    is_from_last_j c.args.text.now _
    (c.loop-byte.invariant ∙ ap (λ l. or_else (from_last_j c.loop-byte.is_start l) (option_map (λ t. t.now) c.loop-byte.found))
    (none_of_length c.loop-byte.rest.now c.in_default.ensures.cases))
