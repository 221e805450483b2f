use Rattle.std.proofs.Common.{◌≡◌, ℕ, ◌+◌, ◌/◌, ◌%◌, ◌^◌, drop, ap, sym, ◌∙◌}
use Rattle.std.specs.Int.{from_be_bytes, w64}
use Rattle.be_tree_reading.specs.Page.{bytes_at, key_len, payload_len}
use Rattle.be_tree_reading.specs.Tree.{child}
use Rattle.be_tree_reading.proofs.Codec.{item_payload_length, payload_from}
use Rattle.be_tree_reading.proofs.page.child_at.Goals as goal

pub returns-clause-child : goal.returns-clause-child
unfolding child
returns-clause-child g c =
    let words = g.L.Look.words c.args.look.now c.args.page in
    let at = c.args.at in
    let read = c.word.result / 2 ^ 32 in
    let r = key_len words at % 8 in
    let eight : payload_len words at ≡ 8 = sym (item_payload_length words at) ∙ c.requires.names_page in
    let k : read ≡ key_len words at = ap (λ (h : ℕ). h / 2 ^ 32) c.word.ensures.value in
    c.number_beyond.ensures.number
    ∙ ap (λ (w : ℕ → ℕ → ℕ). from_be_bytes w64 (drop (read % 8) (bytes_at (w c.args.page) (at + 1 + read / 8) (read % 8 + 8)))) c.word.ensures.words
    ∙ ap (λ (n : ℕ). from_be_bytes w64 (drop (n % 8) (bytes_at words (at + 1 + n / 8) (n % 8 + 8)))) k
    ∙ ap (λ (n : ℕ). from_be_bytes w64 (drop r (bytes_at words (at + 1 + key_len words at / 8) (r + n)))) (sym eight)
    ∙ ap (from_be_bytes w64) (sym (payload_from words at))
