use Rattle.std.proofs.Common.{◌≡◌, ◌≤◌, ℕ, ◌+◌, ◌/◌, ◌%◌, ◌^◌, drop, ap, sym, subst, ◌∙◌}
use Rattle.std.specs.Int.{from_be_bytes, w64}
use Rattle.be_tree_reading.specs.Page.{bytes_at, key_len}
use Rattle.be_tree_reading.specs.Range.{number_of}
use Rattle.be_tree_reading.proofs.Reading.LastBytes.{last_bytes}
use Rattle.be_tree_reading.proofs.Bytes.Words.{item_key_length}
use Rattle.be_tree_reading.proofs.numbers.number_at.Goals as goal

pub returns-clause-number : goal.returns-clause-number
unfolding number_of
returns-clause-number g c =
    let words = g.L.Look.words c.args.look.now c.args.page in
    let at = c.args.at in
    let read = c.word.result / 2 ^ 32 in
    let long : 8 ≤ key_len words at = subst (λ n. 8 ≤ n) (item_key_length words at) c.requires.long in
    let k : read ≡ key_len words at = ap (λ (h : ℕ). h / 2 ^ 32) c.word.ensures.value in
    c.number_beyond.ensures.number
    ∙ ap (λ (w : ℕ → ℕ → ℕ). from_be_bytes w64 (drop (read % 8) (bytes_at (w c.args.page) (at + read / 8) (read % 8 + 8)))) c.word.ensures.words
    ∙ ap (λ (n : ℕ). from_be_bytes w64 (drop (n % 8) (bytes_at words (at + n / 8) (n % 8 + 8)))) k
    ∙ ap (from_be_bytes w64) (sym (last_bytes words at long))
