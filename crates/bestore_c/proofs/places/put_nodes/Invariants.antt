use Rattle.std.proofs.Common.{◌≡◌, ◌≤◌, ℕ, drop, length, map, take}
use Rattle.bestore_c.specs.Places.{node_of}
use Rattle.bestore_c.proofs.places.put_nodes.Given as goal

abbrev pub invariant-loop-i : goal.invariant-loop-i
invariant-loop-i l = record {
  first : take l.i l.places ≡ map node_of (take l.i l.dones);
  rest : (n : ℕ) → l.i ≤ n → drop n l.places ≡ drop n l.fn.places;
  count : length l.places ≡ length l.fn.places;
}
