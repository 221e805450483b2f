use Rattle.std.proofs.Common.{inr}
use Rattle.be_table.proofs.Worked.{scan_kept}
use Rattle.be_store.proofs.Writes.{begins_scanned}
use Rattle.be_store.proofs.writing.scan_early.Goals as goal

pub returns-then-is_scan_due-clause-begins : goal.returns-then-is_scan_due-clause-begins
returns-then-is_scan_due-clause-begins c = begins_scanned c.args.writing.now c.scan.new.self c.scan.result c.scan.ensures c.requires.begins

pub returns-then-is_scan_due-clause-kept : goal.returns-then-is_scan_due-clause-kept
returns-then-is_scan_due-clause-kept c = scan_kept c.args.writing.now c.scan.new.self c.scan.result c.scan.ensures

pub scan-requires : goal.scan-requires
scan-requires c = record { «open» = c.requires.begins.unpublished; reason = inr c.requires.first }
