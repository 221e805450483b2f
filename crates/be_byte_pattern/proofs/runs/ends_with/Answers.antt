use Rattle.std.proofs.Common.{◌≡◌, ◌-◌, ◌≤◌, length, drop, arith, ap, ◌∙◌}
use Rattle.be_byte_pattern.proofs.LiteralRuns.{end_found}
use Rattle.be_byte_pattern.proofs.runs.ends_with.Goals as goal

pub returns : goal.returns
returns c =
    end_found c.args.run.now c.args.bytes.now c.split_at.result.1.now c.begins_with.result c.split_at.ensures.back (omega arith)
    c.begins_with.ensures.yes c.begins_with.ensures.no
