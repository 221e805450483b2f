use Rattle.std.proofs.Common.{◌≡◌, ◌≤◌, ℕ, ◌/◌, ◌^◌, drop, ap, sym, subst, ◌∙◌, arith}
use Rattle.be_tree_reading.specs.Key.{key_cmp}
use Rattle.be_tree_reading.specs.Page.{item_at, key_len}
use Rattle.be_tree_reading.proofs.Bytes.Words.{beyond_first, more_cmp}
use Rattle.be_tree_reading.proofs.Padded.{key_below, key_differs}
use Rattle.be_tree_reading.proofs.lookup.order_at.Given.{Over}
use Rattle.be_tree_reading.proofs.lookup.order_at.Goals as goal
use Rattle.be_tree_reading.proofs.lookup.order_at.Goals.{After-word}

-- a lower word decides
pub returns-then-mine-first-clause-order : goal.returns-then-mine-first-clause-order
returns-then-mine-first-clause-order g c =
    let words = g.L.Look.words c.args.look.now c.args.page in
    sym (key_below words c.args.at c.args.key.now c.word-mine.result c.args.first c.word-mine.ensures.value c.if-mine-first.true (omega arith) c.requires.first)

-- the length of the item's key
read : (g : Over) (c : After-word g) → c.word.result / 2 ^ 32 ≡ key_len (g.L.Look.words c.args.look.now c.args.page) c.args.at
read g c = ap (λ (h : ℕ). h / 2 ^ 32) (c.word.ensures.value ∙ ap (λ (w : ℕ → ℕ → ℕ). w c.args.page c.args.at) c.word-mine.ensures.words)

-- a higher word decides if the item's key fills it
pub returns-then-len-ge8-clause-order : goal.returns-then-len-ge8-clause-order
returns-then-len-ge8-clause-order g c =
    let words = g.L.Look.words c.args.look.now c.args.page in
    let mine = c.word-mine.result in
    let long : 8 ≤ key_len words c.args.at = omega (arith, c.if-len-ge8.true, read g (goal.at.returns-then-len-ge8-clause-order g c).After-word) in
    sym (key_differs words c.args.at c.args.key.now mine c.args.first long c.word-mine.ensures.value (omega arith) (omega arith) c.requires.first (λ e. absurd (omega (arith, e, c.if-mine-first-2.true)))
    ∙ more_cmp mine c.args.first c.if-mine-first-2.true)

-- the first words are equal: the bytes after them decide
pub cmp_from-requires-clause-so_far : goal.cmp_from-requires-clause-so_far
cmp_from-requires-clause-so_far g c =
    let words = g.L.Look.words c.args.look.now in
    let at = c.args.at in
    let key = c.args.key.now in
    let long : 8 ≤ key_len (words c.args.page) at = omega (arith, c.if-len-ge8-2.true, read g (goal.at.cmp_from-requires-clause-so_far g c).After-word) in
    subst (λ (w : ℕ → ℕ → ℕ). key_cmp (drop 8 (item_at (w c.args.page) at).key) (drop 8 key) ≡ key_cmp (item_at (w c.args.page) at).key key)
    (sym (c.word.ensures.words ∙ c.word-mine.ensures.words))
    (sym (beyond_first (words c.args.page) at key 8 c.args.first (sym c.if-mine-first-3.true ∙ c.word-mine.ensures.value) (omega arith) c.requires.first (omega arith) long c.if-key-ge8.true))
