use Rattle.std.proofs.Common.{List, ℕ, ap, drop, ◌∙◌}
use Rattle.be_paged_reading.proofs.cells.report_data.Goals as goal

pub returns-clause-reported : goal.returns-clause-reported
returns-clause-reported g c = λ x found cell_places byte_places is_cell is_data reported.
    c.report.ensures.reported x found cell_places byte_places is_cell
    (c.after_first-content.ensures ∙ ap (λ (l : List ℕ). drop 1 l) (c.as_slice.ensures.value ∙ c.fill_payload.ensures.payload) ∙ is_data) reported
