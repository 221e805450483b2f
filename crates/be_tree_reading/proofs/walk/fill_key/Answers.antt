use Rattle.std.proofs.Common.{◌≡◌, ℕ, ◌+◌, ◌/◌, ◌^◌, drop, ap, sym, ◌∙◌, zero-add}
use Rattle.be_tree_reading.specs.Page.{bytes_at, key_len}
use Rattle.be_tree_reading.proofs.Codec.{key_at}
use Rattle.be_tree_reading.proofs.walk.fill_key.Goals as goal

pub returns-clause-key : goal.returns-clause-key
returns-clause-key g c =
    let words = g.L.Look.words c.args.look.now c.args.page in
    let k : c.word.result / 2 ^ 32 ≡ key_len words c.args.at = ap (λ (h : ℕ). h / 2 ^ 32) c.word.ensures.value in
    c.fill_bytes.ensures.bytes
    ∙ ap (λ (w : ℕ → ℕ → ℕ). drop 0 (bytes_at (w c.args.page) (c.args.at + 1) (0 + c.word.result / 2 ^ 32))) c.word.ensures.words
    ∙ ap (λ (n : ℕ). drop 0 (bytes_at words (c.args.at + 1) (0 + n))) k
    ∙ ap (bytes_at words (c.args.at + 1)) (zero-add (key_len words c.args.at))
    ∙ sym (key_at words c.args.at)
