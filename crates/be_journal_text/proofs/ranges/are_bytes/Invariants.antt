use Rattle.std.proofs.Common.{◌<◌, ◌^◌, All, take}
use Rattle.be_journal_text.proofs.ranges.are_bytes.Given as goal

abbrev pub invariant-loop-byte : goal.invariant-loop-byte
invariant-loop-byte l = All (λ b. b < 2 ^ 8) (take l.byte-index l.bytes)
