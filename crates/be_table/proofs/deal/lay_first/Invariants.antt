use Rattle.std.proofs.Common.{◌≡◌, ℕ, ◌<◌, ◌+◌, length}
use Rattle.std.specs.Prelude.{slice_index}
use Rattle.be_table.proofs.deal.lay_first.Given as goal

abbrev pub invariant-loop-i : goal.invariant-loop-i
invariant-loop-i l = record {
  count : length l.words.items ≡ length l.initial.words.items;
  low : (k : ℕ) → k < 528 → slice_index l.words.items k ≡ slice_index l.initial.words.items k;
  laid : (k : ℕ) → k < l.i → slice_index l.words.items (528 + k) ≡ slice_index l.first k;
}
