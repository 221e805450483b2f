use Rattle.std.proofs.Common.{◌≡◌, ℕ, ◌+◌, ◌/◌, ◌^◌, ap, ◌∙◌, arith}
use Rattle.be_tree_reading.specs.Page.{key_len}
use Rattle.be_paged_reading.proofs.CatalogPairs.Marks.{long_mark, mark_number, no_mark}
use Rattle.be_paged_reading.proofs.marks.mark_at.Goals as goal

pub returns-then-key_len-ne8-clause-none : goal.returns-then-key_len-ne8-clause-none
returns-then-key_len-ne8-clause-none g c =
    let words = g.L.Look.words c.args.look.now c.args.page in
    let len : c.word.result / 2 ^ 32 ≡ key_len words c.args.at = ap (λ (h : ℕ). h / 2 ^ 32) c.word.ensures.value in
    no_mark words c.args.at (λ e. omega (arith, len, e, c.if-key_len-ne8.true))

pub returns-clause-mark : goal.returns-clause-mark
returns-clause-mark g c =
    let words = g.L.Look.words c.args.look.now c.args.page in
    let len : c.word.result / 2 ^ 32 ≡ key_len words c.args.at = ap (λ (h : ℕ). h / 2 ^ 32) c.word.ensures.value in
    long_mark words c.args.at (omega (arith, len, c.if-key_len-ne8.false))

pub returns-clause-node : goal.returns-clause-node
returns-clause-node g c =
    let words = g.L.Look.words c.args.look.now c.args.page in
    let len : c.word.result / 2 ^ 32 ≡ key_len words c.args.at = ap (λ (h : ℕ). h / 2 ^ 32) c.word.ensures.value in
    mark_number words c.args.at c.word-2.result (c.word-2.ensures.value ∙ ap (λ (w : ℕ → ℕ → ℕ). w c.args.page (c.args.at + 1)) c.word.ensures.words) (omega arith)
    (omega (arith, len, c.if-key_len-ne8.false))
