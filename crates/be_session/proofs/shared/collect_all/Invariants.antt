use Rattle.std.proofs.Common.{◌≡◌, ℕ, ◌<◌, ◌≤◌, ◌+◌, length, map, vec_capacity, vec_len}
use Rattle.be_table.specs.History.{StartsWith}
use Rattle.be_table.specs.Steps.{Has}
use Rattle.be_table.specs.Works.{AllAt, knows_of}
use Rattle.be_session.proofs.shared.collect_all.Given as goal

abbrev pub invariant-loop-k : goal.invariant-loop-k
invariant-loop-k l = record {
  same : l.store ≡ l.initial.store;
  here : AllAt l.initial.store.id l.passes.items;
  own : Has (map knows_of l.passes.items) l.own;
  have : (n : ℕ) → n < l.k → Has (map knows_of l.passes.items) n;
  more : StartsWith l.passes.items l.initial.passes.items;
  room : vec_len l.passes + length l.slots ≤ vec_capacity l.passes + l.k;
}
