use Rattle.std.proofs.Common.{ℕ, ◌⊎◌, ◌<◌, ◌≤◌, length, slice_index}
use Rattle.std.specs.List.{Contains}
use Rattle.be_plan.specs.Walk.{Keeps}
use Rattle.be_plan.proofs.sifting.add_common.Given as goal

-- The other numbers before the position are below all numbers that are still to come.
abbrev pub invariant-loop-i : goal.invariant-loop-i
invariant-loop-i l = record {
  end : l.at ≤ length l.others;
  below : (k m : ℕ) → k < l.at → l.i ≤ m → m < length l.numbers → slice_index l.others k < slice_index l.numbers m;
  keeps : Keeps l.initial.found.items l.found.items;
  only : (n : ℕ) → Contains l.found.items n → Contains l.initial.found.items n ⊎ (Contains l.numbers n × Contains l.others n);
  has : (k : ℕ) → k < l.i → Contains l.others (slice_index l.numbers k) → Contains l.found.items (slice_index l.numbers k);
}
