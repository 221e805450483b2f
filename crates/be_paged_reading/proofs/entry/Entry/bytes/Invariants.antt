use Rattle.std.proofs.Common.{◌≡◌, ◌+◌, ◌*◌, length, map, slice_index}
use Rattle.std.specs.Int.{to_be_bytes, w64}
use Rattle.std.specs.List.{flat_map, range_with_len}
use Rattle.be_paged_reading.proofs.entry.Entry.bytes.Given as goal

-- The bytes of the words read so far.
abbrev pub invariant-loop-j : goal.invariant-loop-j
invariant-loop-j l = record {
  bytes : l.bytes.items ≡ flat_map (to_be_bytes w64) (map (λ k. slice_index l.self-inside.words (0 + k)) (range_with_len 0 l.j));
  len : length l.bytes.items ≡ 8 * l.j;
}
