use Rattle.std.proofs.Common.{ℕ, ◌<◌, ◌≤◌, ◌-◌, length, slice_index}
use Rattle.be_plan.proofs.sifting.pass_below.Given as goal

abbrev pub invariant-below : goal.invariant-below
invariant-below l = record {
  from : l.from ≤ l.at;
  end : l.at ≤ length l.numbers;
  below : (k : ℕ) → l.from ≤ k → k < l.at → slice_index l.numbers k < l.number;
}

abbrev pub decreases-below : goal.decreases-below
decreases-below l = length l.numbers - l.at
