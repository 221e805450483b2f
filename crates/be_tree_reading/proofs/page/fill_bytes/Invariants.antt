use Rattle.std.proofs.Common.{◌≡◌, ◌+◌, ◌*◌, length, map, drop}
use Rattle.std.specs.List.{flat_map, range_with_len}
use Rattle.std.specs.Int.{to_be_bytes, w64}
use Rattle.be_pages.specs.Pages.{IsUnchanged}
use Rattle.be_tree_reading.proofs.page.fill_bytes.Given as goal

-- the bytes of the words read so far, without the first `skip`
abbrev pub invariant-loop-i : goal.invariant-loop-i
invariant-loop-i g l = record {
  bytes : l.rest.items ≡ drop l.skip (flat_map (to_be_bytes w64) (map (λ k. g.L.Look.words l.fn.look l.page (l.at + k)) (range_with_len 0 l.i)));
  len : length l.rest.items + l.skip ≡ 8 * l.i;
  unchanged : IsUnchanged g.L.Look.kept g.L.Look.page_state g.L.Look.words l.fn.look l.look;
}
