use Rattle.std.proofs.Common.{◌≡◌, ◌++◌, take, flat_map}
use Rattle.std.specs.String.{string_bytes}
use Rattle.be_journal_text.specs.Dump.{op_line}
use Rattle.be_journal_text.proofs.dumps.push_lines.Given as goal

abbrev pub invariant-loop-op : goal.invariant-loop-op
invariant-loop-op l = string_bytes l.text ≡ string_bytes l.initial.text ++ flat_map op_line (take l.op-index l.ops)
