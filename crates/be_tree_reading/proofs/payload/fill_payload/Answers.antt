use Rattle.std.proofs.Common.{ℕ, ◌+◌, ◌/◌, ◌%◌, ◌^◌, drop, ap, sym, ◌∙◌}
use Rattle.be_tree_reading.specs.Page.{bytes_at}
use Rattle.be_tree_reading.proofs.Codec.{payload_from}
use Rattle.be_tree_reading.proofs.payload.fill_payload.Goals as goal

pub returns-clause-payload : goal.returns-clause-payload
returns-clause-payload g c =
    let words = g.L.Look.words c.args.look.now c.args.page in
    let at = c.args.at in
    let header = c.word-header.result in
    let k = c.word-header.ensures.value in
    c.fill_bytes.ensures.bytes
    ∙ ap (λ (w : ℕ → ℕ → ℕ). drop (header / 2 ^ 32 % 8) (bytes_at (w c.args.page) (at + 1 + header / 2 ^ 32 / 8) (header / 2 ^ 32 % 8 + header % 2 ^ 32))) c.word-header.ensures.words
    ∙ ap (λ (h : ℕ). drop (h / 2 ^ 32 % 8) (bytes_at words (at + 1 + h / 2 ^ 32 / 8) (h / 2 ^ 32 % 8 + h % 2 ^ 32))) k
    ∙ sym (payload_from words at)
