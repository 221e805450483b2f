use Rattle.be_pages.specs.PagePool.{places}
use Rattle.be_pages.specs.VecRoom.{page_state_in, pool_word}
use Rattle.be_tree_reading.specs.Tree.{IsTree}
use Rattle.be_base_tests.proofs.tests.tree.put_nodes.Given as goal

abbrev pub invariant-loop-node : goal.invariant-loop-node
invariant-loop-node l = IsTree (λ q. page_state_in (places l.room.pool) q) (λ q i. pool_word l.room.words.items q i) l.root
