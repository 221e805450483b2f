use Rattle.std.proofs.Common.{◌≡◌, take}
use Rattle.be_session.proofs.shared.Shared.new.Given as goal

abbrev pub invariant-loop-pass : goal.invariant-loop-pass
invariant-loop-pass l = l.slots.items ≡ take l.pass-index l.passes
