use Rattle.std.proofs.Common.{refl}
use Rattle.be_paged_reading.proofs.Reported.{reported_more}
use Rattle.be_paged_reading.proofs.cells.report.Goals as goal

pub returns-clause-reported : goal.returns-clause-reported
returns-clause-reported c = λ x found cell_places byte_places is_cell is_content reported.
    reported_more found x c.args.cell c.args.content.now cell_places c.args.cells.now c.put_at.new.places byte_places c.args.bytes.now c.put_at-2.new.places c.args.filled.now _
    c.put_at.ensures c.put_at-2.ensures refl refl is_cell is_content reported
