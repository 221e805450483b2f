use Rattle.std.proofs.Common.{◌≡◌, ◌++◌, All, ℕ, length}
use Rattle.std.specs.String.{string_bytes}
use Rattle.be_volume_state.specs.Places.{left}
use Rattle.be_volume_state.specs.Rebuilding.{state_ops}
use Rattle.be_store.specs.Passes.{HasRead, IsPassOf, IsPinnedTo, volume_pinned}
use Rattle.be_journal_text.specs.Dump.{cut_lines, state_dump}
use Rattle.be_journal_text.specs.History.{CanBeOp}
use Rattle.be_script_runner.proofs.states.pinned_text.Given as goal

abbrev pub invariant-lists : goal.invariant-lists
invariant-lists l = record {
  pass : IsPassOf l.store l.pass;
  read : HasRead l.fn.pass.knows l.pass.knows;
  pinned : (n : ℕ) × IsPinnedTo l.pass.knows n;
  text : string_bytes l.text ++ cut_lines (left (volume_pinned l.fn.pass.knows) l.place) ≡ state_dump (volume_pinned l.fn.pass.knows);
  can : All CanBeOp (left (volume_pinned l.fn.pass.knows) l.place) → All CanBeOp (state_ops (volume_pinned l.fn.pass.knows));
}

abbrev pub decreases-lists : goal.decreases-lists
decreases-lists l = length (left (volume_pinned l.fn.pass.knows) l.place)
