use Rattle.std.proofs.Common.{◌≤◌, ◌-◌, length}
use Rattle.be_shell.proofs.EscapeLemmas.{IsPlainTo}
use Rattle.be_shell.proofs.escapes.plain_len.Given as goal

abbrev pub invariant-loop-len : goal.invariant-loop-len
invariant-loop-len l = (1 ≤ l.len) × (l.len ≤ length l.bytes) × IsPlainTo l.bytes l.len

abbrev pub decreases-loop-len : goal.decreases-loop-len
decreases-loop-len l = length l.bytes - l.len
