use Rattle.std.proofs.Common.{◌≡◌, ◌<◌, ◌≤◌, ℕ, get_or, length, take}
use Rattle.be_store.specs.Live.{without}
use Rattle.be_store.proofs.live.changes.Given as goal

abbrev pub invariant-loop-node : goal.invariant-loop-node
invariant-loop-node l = record {
  created : l.created.items ≡ without (take l.node-index l.now) l.last;
  removed : l.removed.items ≡ without (take l.at l.last) l.now;
  inside : l.at ≤ length l.last;
  below : (j k : ℕ) → j < l.at → l.node-index ≤ k → k < length l.now → get_or l.last j 0 < get_or l.now k 0;
  above : (j k : ℕ) → l.at ≤ j → j < length l.last → k < l.node-index → get_or l.now k 0 < get_or l.last j 0;
}
