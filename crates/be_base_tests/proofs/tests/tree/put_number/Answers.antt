use Rattle.std.proofs.Common.{ℕ, ap, ◌∙◌}
use Rattle.be_pages.specs.PagePool.{places}
use Rattle.be_pages.specs.VecRoom.{page_state_in, pool_word}
use Rattle.be_tree_reading.proofs.Trees.{tree_kept, tree_undone}
use Rattle.be_base_tests.proofs.tests.tree.put_number.Goals as goal

pub returns-in-Ok-clause-ok : goal.returns-in-Ok-clause-ok
returns-in-Ok-clause-ok c =
    tree_kept (λ q. page_state_in (places c.insert.new.room.pool) q) (λ q. page_state_in (places c.keep.new.self.pool) q) (λ q i. pool_word c.insert.new.room.words.items q i) (λ q i. pool_word c.keep.new.self.words.items q i)
    c.keep.ensures.page_state c.keep.ensures.words c.in-Ok.new c.in-Ok.ensures.ok.tree

pub returns-in-Err-clause-err : goal.returns-in-Err-clause-err
returns-in-Err-clause-err c =
    (tree_undone (λ q. page_state_in (places c.args.room.now.pool) q) (λ q. page_state_in (places c.undo.new.self.pool) q) (λ q i. pool_word c.args.room.now.words.items q i) (λ q i. pool_word c.undo.new.self.words.items q i) c.args.root c.requires.start
    (record {
      page_state = λ q. c.undo.ensures.page_state q ∙ c.in-Err.ensures.err.undone q;
      same_words = λ q from. ap (λ (w : ℕ → ℕ → ℕ). w q) c.undo.ensures.words ∙ c.in-Err.ensures.err.words q from;
    })
    c.requires.tree).tree
