use Rattle.std.proofs.Common.{[], List, ℕ, ap, drop, refl, ◌∙◌}
use Rattle.be_paged_reading.specs.Cells.{over}
use Rattle.be_paged_reading.proofs.Reported.{over_none}
use Rattle.be_paged_reading.proofs.cells.put_payload.Goals as goal

pub returns-clause-bytes : goal.returns-clause-bytes
returns-clause-bytes g c =
    c.put_at.ensures [] c.args.bytes.now refl (over_none c.args.bytes.now)
    ∙ ap (λ (l : List ℕ). over l c.args.bytes.now) (c.after_first.ensures ∙ ap (λ (l : List ℕ). drop 1 l) (c.as_slice.ensures.value ∙ c.fill_payload.ensures.payload))
