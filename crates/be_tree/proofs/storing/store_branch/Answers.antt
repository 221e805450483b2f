use Rattle.std.proofs.Common.{◌≡◌, ℕ, List, ◌+◌, ◌*◌, ◌/◌, ◌%◌, ◌^◌, ◌<◌, ◌++◌, ◌∙◌, ap, subst, take, arith}
use Rattle.std.specs.Int.{to_be_bytes, w64}
use Rattle.be_tree_reading.specs.Page.{bytes_at, key_len, IsPadded}
use Rattle.be_tree.proofs.Bytes.Branches.{branch_fits, branch_stored}
use Rattle.be_tree.proofs.storing.store_branch.Goals as goal

pub returns-clause-stored : goal.returns-clause-stored
returns-clause-stored g c =
    let child = c.args.child in
    let page = c.args.page in
    let at = c.args.at in
    let v = g.R.Look.words c.args.room.now child in
    let w = g.R.Look.words c.store_number.new.room page in
    let k : c.word.result / 2 ^ 32 ≡ key_len v 2 = ap (λ (h : ℕ). h / 2 ^ 32) c.word.ensures.value in
    let written = c.begun_word-last.ensures.unchanged.words in
    let before = λ (j : ℕ) (lt : j < at + 1 + c.word.result / 2 ^ 32 / 8). c.store_number.ensures.only.before j lt ∙ ap (λ (x : ℕ → ℕ → ℕ). x page j) written in
    let i : c.loop-i.i ≡ c.word.result / 2 ^ 32 / 8 = omega (arith, c.loop-i-test.false, c.loop-i.auto.i-end) in
    let last = ap (λ (x : ℕ → ℕ). x (3 + c.word.result / 2 ^ 32 / 8)) (c.loop-i.invariant.only.others child c.requires.beside) in
    let bytes = subst (λ (n : ℕ). bytes_at w (at + 1 + n / 8) (n % 8 + 8) ≡ take (n % 8) (to_be_bytes w64 (v (3 + n / 8))) ++ to_be_bytes w64 child) k
    (c.store_number.ensures.bytes ∙ ap (λ (b : List ℕ). b ++ to_be_bytes w64 child)
    (c.begun_word-last.ensures.begins ∙ ap (λ (n : ℕ). take (c.word.result / 2 ^ 32 % 8) (to_be_bytes w64 n)) last)) in (
      branch_stored v w child at (before at (omega arith) ∙ c.loop-i.invariant.header ∙ ap (λ (n : ℕ). n * 2 ^ 32 + 8) k)
          (λ j lt. before (at + 1 + j) (omega (arith, lt, k)) ∙ c.loop-i.invariant.copied j (omega (arith, lt, k, i))) bytes,
      branch_fits v w child at (before at (omega arith) ∙ c.loop-i.invariant.header ∙ ap (λ (n : ℕ). n * 2 ^ 32 + 8) k)
          (λ j lt. before (at + 1 + j) (omega (arith, lt, k)) ∙ c.loop-i.invariant.copied j (omega (arith, lt, k, i))) bytes
          c.requires.item.key_fits (subst (λ (n : ℕ). IsPadded w (at + 1 + n / 8) (n % 8 + 8)) k c.store_number.ensures.padded),
    )
