use Rattle.std.proofs.Common.{◌≡◌, ◌+◌, ◌*◌, map, take}
use Rattle.std.specs.List.{flat_map, range_with_len}
use Rattle.std.specs.Int.{to_be_bytes, w64}
use Rattle.be_pages.specs.Pages.{IsUnchanged}
use Rattle.be_paged_reading.proofs.texts.put_bytes.Given as goal

-- The bytes of the words read so far.
abbrev pub invariant-loop-i : goal.invariant-loop-i
invariant-loop-i g l = record {
  bytes : take (8 * l.i) l.room ≡ flat_map (to_be_bytes w64) (map (λ k. g.L.Look.words l.fn.look l.page (l.at + k)) (range_with_len 0 l.i));
  unchanged : IsUnchanged g.L.Look.kept g.L.Look.page_state g.L.Look.words l.fn.look l.look;
}
