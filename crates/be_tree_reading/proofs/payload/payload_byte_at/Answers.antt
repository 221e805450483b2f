use Rattle.std.proofs.Common.{◌≡◌, ℕ, List, ◌+◌, ◌/◌, ◌%◌, ◌^◌, get_or, ap, sym, ◌∙◌, arith}
use Rattle.std.specs.Int.{to_be_bytes, w64}
use Rattle.be_tree_reading.specs.Page.{key_len}
use Rattle.be_tree_reading.proofs.Codec.{item_payload_length}
use Rattle.be_tree_reading.proofs.Bytes.Payloads.{payload_byte}
use Rattle.be_tree_reading.proofs.payload.payload_byte_at.Goals as goal

pub overflow_add-place : goal.overflow_add-place
overflow_add-place g c = omega (arith, c.requires.within, item_payload_length (g.L.Look.words c.args.look.now c.args.page) c.args.at, c.requires.item.fits, c.word.ensures.value)

pub word-requires-2-clause-in_page : goal.word-requires-2-clause-in_page
word-requires-2-clause-in_page g c =
    omega (arith, c.requires.within, item_payload_length (g.L.Look.words c.args.look.now c.args.page) c.args.at, c.requires.item.fits, c.requires.in_page, c.word.ensures.value)

pub returns-clause-byte : goal.returns-clause-byte
returns-clause-byte g c =
    let words = g.L.Look.words c.args.look.now c.args.page in
    let at = c.args.at in
    let from = c.args.from in
    let read = c.word.result / 2 ^ 32 in
    let k : read ≡ key_len words at = ap (λ (h : ℕ). h / 2 ^ 32) c.word.ensures.value in
    let word : c.word-2.result ≡ words (at + 1 + (read + from) / 8) =
    c.word-2.ensures.value ∙ ap (λ (w : ℕ → ℕ → ℕ). w c.args.page (at + 1 + (read + from) / 8)) c.word.ensures.words in
    ap (λ (bs : List ℕ). get_or bs ((read + from) % 8) 0) (c.to_be_bytes-bytes.ensures ∙ ap (to_be_bytes w64) word)
    ∙ ap (λ (n : ℕ). get_or (to_be_bytes w64 (words (at + 1 + (n + from) / 8))) ((n + from) % 8) 0) k
    ∙ sym (payload_byte words at from (omega (arith, c.requires.within, item_payload_length words at)))
