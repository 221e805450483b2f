use Rattle.std.proofs.Common.{ℕ}
use Rattle.be_store.specs.Passes.{HasRead, IsPassOf, IsPinnedTo, volume_pinned}
use Rattle.be_change.specs.Comparing.{HaveRightKinds}
use Rattle.be_change.proofs.kinds.check_kinds.Given as goal

abbrev pub invariant-loop-i : goal.invariant-loop-i
invariant-loop-i l = record {
  pass : IsPassOf l.store l.pass;
  read : HasRead l.fn.pass.knows l.pass.knows;
  pinned : (n : ℕ) × IsPinnedTo l.pass.knows n;
  right : HaveRightKinds (volume_pinned l.fn.pass.knows) l.ops l.i;
}
