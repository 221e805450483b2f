use Rattle.std.proofs.Common.{ℕ, ◌-◌, Bool, length, take, drop, ap, sym, ◌∙◌, arith}
use Rattle.be_tree_reading.specs.Page.{items_of}
use Rattle.be_tree_reading.specs.Walk.{turned}
use Rattle.be_tree_reading.proofs.Frame.{readable_kept}
use Rattle.be_tree_reading.proofs.Walks.{count_down, count_up}
use Rattle.be_tree_reading.proofs.way.Leaf.count.Goals as goal

pub returns-then-self-clause-count : goal.returns-then-self-clause-count
returns-then-self-clause-count g c =
    let leaf = c.args.self in
    let words = g.L.Look.words c.args.look.now leaf.page in
    sym (ap (λ (b : Bool). length (turned b (drop leaf.at (items_of words)) (take leaf.at (items_of words)))) c.if-self.true ∙ count_down words leaf.at c.requires.leaf.1)

pub word-requires-clause-readable : goal.word-requires-clause-readable
word-requires-clause-readable g c = readable_kept (g.L.Look.page_state c.args.look.now c.args.self.page) c.requires.leaf.0.page_in_use

pub overflow_sub-result : goal.overflow_sub-result
overflow_sub-result g c = omega (arith, c.word.ensures.value, c.requires.leaf.1)

pub returns-clause-count : goal.returns-clause-count
returns-clause-count g c =
    let leaf = c.args.self in
    let words = g.L.Look.words c.args.look.now leaf.page in
    ap (λ (n : ℕ). n - leaf.at) c.word.ensures.value
    ∙ sym (ap (λ (b : Bool). length (turned b (drop leaf.at (items_of words)) (take leaf.at (items_of words)))) c.if-self.false ∙ count_up words leaf.at)
