use Rattle.std.proofs.Common.{◌≡◌, ◌<◌, ℕ, true, get_or}
use Rattle.std.specs.List.Sorted.{IsStrictlyIncreasing}
use Rattle.be_volume.specs.declared.ops.Done.{Done}
use Rattle.be_volume.specs.declared.ops.Op.{Op}
use Rattle.be_store.specs.Live.{is_among}
use Rattle.be_store.specs.Named.{IsNamedAmong}
use Rattle.be_store.proofs.named.add_named.Given as goal

abbrev pub invariant-loop-i : goal.invariant-loop-i
invariant-loop-i l = record {
  rising : IsStrictlyIncreasing l.nodes.items;
  keeps : (n : ℕ) → is_among l.fn.nodes.items n ≡ true → is_among l.nodes.items n ≡ true;
  named : (k : ℕ) (op : Op) (done : Done) → k < l.i → op ≡ get_or l.ops k op → done ≡ get_or l.dones k done → IsNamedAmong l.nodes.items op done;
}
