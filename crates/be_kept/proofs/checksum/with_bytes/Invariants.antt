use Rattle.std.proofs.Common.{◌≡◌, take}
use Rattle.be_kept.specs.Crc.{with_bytes}
use Rattle.be_kept.proofs.checksum.with_bytes.Given as goal

abbrev pub invariant-loop-byte : goal.invariant-loop-byte
invariant-loop-byte l = l.sum ≡ with_bytes l.fn.start (take l.byte-index l.bytes)
