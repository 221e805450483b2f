use Rattle.std.proofs.Common.{◌≡◌, ◌∙◌, ℕ, List, [], ◌∷◌, ◌++◌, ◌+◌, ◌-◌, ◌*◌, ◌<◌, false, true, take, drop, ap, subst, arith, append_assoc}
use Rattle.be_tree_reading.specs.Cursor.{remaining}
use Rattle.be_tree_reading.specs.Page.{item_at, items_of}
use Rattle.be_tree_reading.specs.Range.{pairs_from}
use Rattle.be_tree_reading.specs.Tree.{pairs}
use Rattle.be_tree_reading.proofs.Reading.Leaves.{none_left}
use Rattle.be_tree_reading.proofs.Reading.Starts.{after_pair, last_of, root_rising}
use Rattle.be_tree_reading.proofs.numbers.seek_past.Goals as goal

-- after the leaf's last key
pub returns-then-leaf-end-clause-remaining : goal.returns-then-leaf-end-clause-remaining
returns-then-leaf-end-clause-remaining g c = λ rest from.
    let words = g.L.Look.words c.args.look.now in
    let page = c.args.leaf.page in
    let all = pairs words c.args.root in
    let last = words page 1 - 1 in
    let y = item_at (words page) (2 + 42 * last) in
    let less : from.number < words page 1 = omega (arith, c.if-leaf-end.true, c.end_of-end.ensures.end, from.is_place) in
    let place : c.end_of-end.result - 42 ≡ 2 + 42 * last = omega (arith, c.end_of-end.ensures.end, less) in
    let front = take (last - from.number) (drop from.number (items_of (words page))) in
    let parts : pairs_from all c.args.low.now false ≡ front ++ y ∷ rest =
    from.parts ∙ ap (λ xs. xs ++ rest) (last_of (words page) from.number last (omega (arith, less)) (omega (arith, less))) ∙ append_assoc front (y ∷ []) rest in
    let key : c.as_slice.result.now ≡ y.key =
    c.as_slice.ensures.value ∙ c.key_at-last.ensures.key ∙ ap (λ (w : ℕ → ℕ → ℕ). (item_at (w page) (c.end_of-end.result - 42)).key) c.end_of-end.ensures.unchanged.words
    ∙ ap (λ (p : ℕ). (item_at (words page) p).key) place in
    subst (λ (w : ℕ → ℕ → ℕ). remaining w c.seek.new.self ≡ pairs_from (pairs w c.args.root) c.as_slice.result.now true) (c.key_at-last.ensures.unchanged.words ∙ c.end_of-end.ensures.unchanged.words) c.seek.ensures.remaining
    ∙ ap (λ (k : List ℕ). pairs_from all k true) key
    ∙ after_pair front all c.args.low.now false y rest (root_rising c.args.root (g.L.Look.page_state c.args.look.now) words c.requires.tree) parts

-- the leaf has none of the keys
pub returns-else-leaf-end-clause-remaining : goal.returns-else-leaf-end-clause-remaining
returns-else-leaf-end-clause-remaining g c = λ rest from.
    let words = g.L.Look.words c.args.look.now in
    subst (λ (w : ℕ → ℕ → ℕ). remaining w c.seek-else-leaf-end.new.self ≡ pairs_from (pairs w c.args.root) c.args.low.now false) c.end_of-end.ensures.unchanged.words c.seek-else-leaf-end.ensures.remaining
    ∙ from.parts
    ∙ ap (λ xs. xs ++ rest) (none_left (words c.args.leaf.page) from.number (omega (arith, c.if-leaf-end.false, c.end_of-end.ensures.end, from.is_place)))
