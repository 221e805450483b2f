use Rattle.be_pages.specs.PagePool.{places}
use Rattle.be_pages.specs.VecRoom.{page_state_in, pool_word}
use Rattle.be_tree_reading.proofs.Trees.{tree_kept}
use Rattle.be_base_tests.proofs.tests.tree.take_numbers.Goals as goal

pub loop-i-preserved : goal.loop-i-preserved
loop-i-preserved c =
    tree_kept (λ q. page_state_in (places c.remove.new.room.pool) q) (λ q. page_state_in (places c.keep.new.self.pool) q) (λ q i. pool_word c.remove.new.room.words.items q i) (λ q i. pool_word c.keep.new.self.words.items q i)
    c.keep.ensures.page_state c.keep.ensures.words c.in_ok-root.root c.in_ok-root.ensures.ok.tree
