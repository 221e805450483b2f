use Rattle.std.proofs.Common.{◌≡◌, ℕ, ◌+◌, ◌/◌, ◌%◌, ◌^◌, drop, ap, sym, ◌∙◌, arith}
use Rattle.std.specs.Int.{from_be_bytes, w32}
use Rattle.be_tree_reading.specs.Page.{bytes_at, key_len}
use Rattle.be_tree_reading.proofs.Codec.{item_payload_length}
use Rattle.be_tree_reading.proofs.Bytes.Payloads.{payload_part}
use Rattle.be_tree_reading.proofs.payload.payload_number32_at.Goals as goal

pub overflow_add-place : goal.overflow_add-place
overflow_add-place g c = omega (arith, c.requires.within, item_payload_length (g.L.Look.words c.args.look.now c.args.page) c.args.at, c.requires.item.fits, c.word.ensures.value)

pub number32_after-requires-clause-in_page : goal.number32_after-requires-clause-in_page
number32_after-requires-clause-in_page g c =
    omega (arith, c.requires.within, item_payload_length (g.L.Look.words c.args.look.now c.args.page) c.args.at, c.requires.item.fits, c.requires.in_page, c.word.ensures.value)

pub returns-clause-number : goal.returns-clause-number
returns-clause-number g c =
    let words = g.L.Look.words c.args.look.now c.args.page in
    let at = c.args.at in
    let from = c.args.from in
    let read = c.word.result / 2 ^ 32 in
    let k : read ≡ key_len words at = ap (λ (h : ℕ). h / 2 ^ 32) c.word.ensures.value in
    c.number32_after.ensures.number
    ∙ ap (λ (w : ℕ → ℕ → ℕ). from_be_bytes w32 (drop ((read + from) % 8) (bytes_at (w c.args.page) (at + 1 + (read + from) / 8) ((read + from) % 8 + 4)))) c.word.ensures.words
    ∙ ap (λ (n : ℕ). from_be_bytes w32 (drop ((n + from) % 8) (bytes_at words (at + 1 + (n + from) / 8) ((n + from) % 8 + 4)))) k
    ∙ ap (from_be_bytes w32) (sym (payload_part words at from 4 (omega (arith, c.requires.within, item_payload_length words at))))
