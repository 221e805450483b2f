use Rattle.std.proofs.Common.{◌≡◌, ℕ, ◌+◌, ◌-◌, ◌*◌, ◌/◌, ◌%◌, ◌^◌, drop, ap, sym, ◌∙◌, zero-add, arith}
use Rattle.std.specs.Int.{from_be_bytes, to_be_bytes, w64}
use Rattle.std.proofs.lemmas.Nat.{from_be_bytes-to_be_bytes_8}
use Rattle.be_tree_reading.specs.Page.{bytes_at}
use Rattle.be_tree_reading.proofs.Codec.{word_bytes}
use Rattle.be_tree_reading.proofs.Bytes.Straddling.{straddling}
use Rattle.be_tree_reading.proofs.page.number_beyond.Goals as goal

-- the number is in two words
pub returns-clause-number : goal.returns-clause-number
returns-clause-number g c =
    let words = g.L.Look.words c.args.look.now c.args.page in
    let at = c.args.at in
    let r = c.args.skip in
    let second : c.word-second.result ≡ words (at + 1) = c.word-second.ensures.value ∙ ap (λ (w : ℕ → ℕ → ℕ). w c.args.page (at + 1)) c.word-first.ensures.words in
    let all = straddling words at r (omega (arith, c.if-skip-eq0.false)) c.requires.skips (omega (arith, second)) in
    c.straddled.ensures
    ∙ ap (λ (n : ℕ). n * 2 ^ (8 * r) % 2 ^ 64 + c.word-second.result / 2 ^ (64 - 8 * r)) c.word-first.ensures.value
    ∙ ap (λ (n : ℕ). words at * 2 ^ (8 * r) % 2 ^ 64 + n / 2 ^ (64 - 8 * r)) second
    ∙ sym all

-- the number is in one word
pub returns-then-skip-eq0-clause-number : goal.returns-then-skip-eq0-clause-number
returns-then-skip-eq0-clause-number g c =
    let words = g.L.Look.words c.args.look.now c.args.page in
    let at = c.args.at in
    sym (ap (from_be_bytes w64)
    (ap (λ (n : ℕ). drop n (bytes_at words at (n + 8))) c.if-skip-eq0.true
    ∙ ap (λ (n : ℕ). bytes_at words at n) (zero-add 8)
    ∙ word_bytes words at
    ∙ ap (to_be_bytes w64) (sym c.word-first.ensures.value))
    ∙ from_be_bytes-to_be_bytes_8 c.word-first.result (omega arith))
