use Rattle.std.proofs.Common.{◌≡◌, ◌≤◌, ◌+◌, ◌-◌, ◌||◌, ℕ, length, take}
use Rattle.std.specs.List.Sorted.{IsStrictlyIncreasing}
use Rattle.std.specs.Prelude.{vec_capacity, vec_len}
use Rattle.be_store.specs.Live.{is_among}
use Rattle.be_store.proofs.changed.put_in.Given as goal

abbrev pub invariant-loop-number : goal.invariant-loop-number
invariant-loop-number l = record {
  rising : IsStrictlyIncreasing l.list.items;
  both : (n : ℕ) → is_among l.list.items n ≡ (is_among l.fn.list.items n || is_among (take l.number-index l.numbers) n);
  room : vec_len l.list + (length l.numbers - l.number-index) ≤ vec_capacity l.list;
}
