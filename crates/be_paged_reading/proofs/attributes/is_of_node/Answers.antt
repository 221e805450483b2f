use Rattle.std.proofs.Common.{◌≡◌, ℕ, ◌+◌, ◌/◌, ◌^◌, ap, ◌∙◌, arith}
use Rattle.be_tree_reading.specs.Page.{key_len}
use Rattle.be_paged_reading.proofs.CatalogPairs.NodeKeys.{short_key, word_reports}
use Rattle.be_paged_reading.proofs.attributes.is_of_node.Goals as goal

pub returns-then-key_len-lt8-clause-of_node : goal.returns-then-key_len-lt8-clause-of_node
returns-then-key_len-lt8-clause-of_node g c =
    let words = g.L.Look.words c.args.look.now c.args.page in
    let len : c.word.result / 2 ^ 32 ≡ key_len words c.args.at = ap (λ (h : ℕ). h / 2 ^ 32) c.word.ensures.value in
    short_key words c.args.at c.args.node (omega (arith, len, c.if-key_len-lt8.true))

pub returns-clause-of_node : goal.returns-clause-of_node
returns-clause-of_node g c =
    let words = g.L.Look.words c.args.look.now c.args.page in
    let len : c.word.result / 2 ^ 32 ≡ key_len words c.args.at = ap (λ (h : ℕ). h / 2 ^ 32) c.word.ensures.value in
    word_reports words c.args.at c.args.node c.word-2.result (c.word-2.ensures.value ∙ ap (λ (w : ℕ → ℕ → ℕ). w c.args.page (c.args.at + 1)) c.word.ensures.words) (omega arith) c.ranges.node.fits
    (omega (arith, len, c.if-key_len-lt8.false))
