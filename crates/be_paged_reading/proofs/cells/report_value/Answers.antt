use Rattle.std.proofs.Common.{ℕ, List, Ok, ap, drop, sym, ◌∙◌}
use Rattle.std.proofs.lemmas.List.{nil_from_length}
use Rattle.be_tree_reading.specs.Page.{item_at}
use Rattle.be_paged_reading.specs.Cells.{cell_of, data_of}
use Rattle.be_paged_reading.specs.declared.cells.Cell.{Cell}
use Rattle.be_paged_reading.proofs.Reported.{data_past, same_cell}
use Rattle.be_paged_reading.proofs.cells.report_value.Goals as goal

pub returns-then-cell-eq0-clause-reported : goal.returns-then-cell-eq0-clause-reported
returns-then-cell-eq0-clause-reported g c = λ v found cell_places byte_places valid same reported.
    let is = same_cell c.in-Some.cell (cell_of c.args.filled.now.bytes (Ok v)) (c.in-Some.ensures.cell v valid same) in
    c.report-then-cell-eq0.ensures.reported (Ok v) found cell_places byte_places is
    (sym (nil_from_length (data_of v) (sym (ap (λ (cell : Cell). cell.length) is) ∙ c.if-cell-eq0.true))) reported

pub returns-clause-reported : goal.returns-clause-reported
returns-clause-reported g c = λ v found cell_places byte_places valid same reported.
    let is = same_cell c.in-Some.cell (cell_of c.args.filled.now.bytes (Ok v)) (c.in-Some.ensures.cell v valid same) in
    c.report_data.ensures.reported (Ok v) found cell_places byte_places is
    (ap (λ (w : ℕ → ℕ → ℕ). drop 1 (item_at (w c.args.page) c.args.at).payload) c.in-Some.ensures.unchanged.words ∙ ap (λ (l : List ℕ). drop 1 l) same
    ∙ data_past v c.in-Some.cell.length (sym (ap (λ (cell : Cell). cell.length) is)) c.if-cell-eq0.false) reported
