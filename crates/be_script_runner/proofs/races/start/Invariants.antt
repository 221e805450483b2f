use Rattle.std.proofs.Common.{◌≡◌, ◌<◌, ℕ, ◌+◌, length, get_or}
use Rattle.std.specs.Vec.Iter.{into_iter_items}
use Rattle.be_table.specs.Works.{AreNew}
use Rattle.be_script_runner.proofs.races.start.Given as goal

abbrev pub invariant-loop-pass : goal.invariant-loop-pass
invariant-loop-pass g l = record {
  can : (goal.iterator-loop-pass g).can_next l.pass-iterator;
  ends : (goal.iterator-loop-pass g).is_finite l.pass-iterator;
  new : AreNew l.store (length l.threads.items) (into_iter_items l.pass-iterator);
  count : length l.threads.items + length (into_iter_items l.pass-iterator) ≡ length l.scripts.items;
  each : (k : ℕ) (t s : _) → k < length l.threads.items → let promise = (get_or l.threads.items k t).promise in
      (promise.store.value ≡ l.store) × (promise.number ≡ k) × (promise.script.value ≡ get_or l.scripts.items k s) × (promise.gate.value ≡ l.gate);
}
