use Rattle.std.proofs.Common.{◌≡◌, ℕ, ◌+◌, ◌-◌, ◌*◌, ◌/◌, ◌%◌, ◌^◌, ap, sym, ◌∙◌, arith}
use Rattle.be_tree_reading.proofs.Bytes.Straddling.{four_of_one, four_of_two}
use Rattle.be_tree_reading.proofs.payload.number32_after.Goals as goal

-- the number is in two words
pub returns-clause-number : goal.returns-clause-number
returns-clause-number g c =
    let words = g.L.Look.words c.args.look.now c.args.page in
    let at = c.args.at in
    let r = c.args.skip in
    let second : c.word-second.result ≡ words (at + 1) = c.word-second.ensures.value ∙ ap (λ (w : ℕ → ℕ → ℕ). w c.args.page (at + 1)) c.word-first.ensures.words in
    let all = four_of_two words at r (omega (arith, c.if-skip-le4.false)) c.requires.skips (omega (arith, second)) in
    ap (λ (n : ℕ). n / 2 ^ 32)
    (c.straddled.ensures
    ∙ ap (λ (n : ℕ). n * 2 ^ (8 * r) % 2 ^ 64 + c.word-second.result / 2 ^ (64 - 8 * r)) c.word-first.ensures.value
    ∙ ap (λ (n : ℕ). words at * 2 ^ (8 * r) % 2 ^ 64 + n / 2 ^ (64 - 8 * r)) second)
    ∙ sym all

-- the number is in one word
pub returns-then-skip-le4-clause-number : goal.returns-then-skip-le4-clause-number
returns-then-skip-le4-clause-number g c =
    let words = g.L.Look.words c.args.look.now c.args.page in
    let r = c.args.skip in
    ap (λ (n : ℕ). n / 2 ^ (32 - 8 * r) % 2 ^ 32) c.word-word.ensures.value ∙ sym (four_of_one words c.args.at r (omega (arith, c.if-skip-le4.true)))
