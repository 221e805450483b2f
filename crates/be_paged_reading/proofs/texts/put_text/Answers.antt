use Rattle.std.proofs.Common.{ℕ, ◌+◌, ◌≤◌, ◌∙◌, ap, sym, take, arith}
use Rattle.be_tree_reading.specs.Page.{bytes_at, item_at, key_len}
use Rattle.be_tree_reading.proofs.Codec.{bytes_at_prefix, key_at}
use Rattle.be_tree_reading.proofs.Bytes.Words.{item_key_length}
use Rattle.be_paged_reading.proofs.texts.put_text.Goals as goal

pub returns-clause-text : goal.returns-clause-text
returns-clause-text g c =
    let words = g.L.Look.words c.args.look.now c.args.page in
    let n = c.text_len_at-length.result in
    let key = (item_at words c.args.at).key in
    let within : n ≤ key_len words c.args.at = omega (arith, c.text_len_at-length.ensures.len, item_key_length words c.args.at) in
    c.put_bytes.ensures.bytes
    ∙ ap (λ (w : ℕ → ℕ → ℕ). bytes_at (w c.args.page) (c.args.at + 1) n) c.text_len_at-length.ensures.unchanged.words
    ∙ sym (bytes_at_prefix words (c.args.at + 1) n (key_len words c.args.at) within)
    ∙ ap (take n) (sym (key_at words c.args.at))
    ∙ ap (λ (m : ℕ). take m key) c.text_len_at-length.ensures.len
