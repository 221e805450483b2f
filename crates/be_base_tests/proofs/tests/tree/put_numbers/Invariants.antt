use Rattle.be_pages.specs.PagePool.{places}
use Rattle.be_pages.specs.VecRoom.{page_state_in, pool_word}
use Rattle.be_tree_reading.specs.Forest.{IsWriteStart}
use Rattle.be_tree_reading.specs.Tree.{IsTree}
use Rattle.be_base_tests.proofs.tests.tree.put_numbers.Given as goal

abbrev pub invariant-loop-i : goal.invariant-loop-i
invariant-loop-i l = record {
  tree : IsTree (λ q. page_state_in (places l.room.pool) q) (λ q i. pool_word l.room.words.items q i) l.root;
  start : IsWriteStart (λ q. page_state_in (places l.room.pool) q);
}
