use Rattle.std.proofs.Common.{◌≡◌, ◌++◌, All, length}
use Rattle.std.specs.String.{string_bytes}
use Rattle.be_volume_state.specs.Places.{left}
use Rattle.be_volume_state.specs.Rebuilding.{state_ops}
use Rattle.be_journal_text.specs.Dump.{cut_lines, state_dump}
use Rattle.be_journal_text.specs.History.{CanBeOp}
use Rattle.be_journal_text.proofs.state_dumps.volume_text.Given as goal

abbrev pub invariant-lists : goal.invariant-lists
invariant-lists l = record {
  whole : l.whole ≡ l.volume;
  text : string_bytes l.text ++ cut_lines (left l.volume l.place) ≡ state_dump l.volume;
  can : All CanBeOp (left l.volume l.place) → All CanBeOp (state_ops l.volume);
}

abbrev pub decreases-lists : goal.decreases-lists
decreases-lists l = length (left l.volume l.place)
