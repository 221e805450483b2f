use Rattle.std.proofs.Common.{◌≡◌, ℕ, ◌/◌, ◌^◌, length, ap, sym, ◌∙◌, arith}
use Rattle.be_tree_reading.specs.Page.{item_at}
use Rattle.be_tree_reading.proofs.Bytes.Words.{item_key_length}
use Rattle.be_paged_reading.proofs.texts.text_len_at.Goals as goal

pub returns-clause-len : goal.returns-clause-len
returns-clause-len g c =
    let words = g.L.Look.words c.args.look.now c.args.page in
    let read : c.word.result / 2 ^ 32 ≡ length (item_at words c.args.at).key = ap (λ (h : ℕ). h / 2 ^ 32) c.word.ensures.value ∙ sym (item_key_length words c.args.at) in
    omega (arith, read)

pub returns-clause-short : goal.returns-clause-short
returns-clause-short g c =
    let words = g.L.Look.words c.args.look.now c.args.page in
    let read : c.word.result / 2 ^ 32 ≡ words c.args.at / 2 ^ 32 = ap (λ (h : ℕ). h / 2 ^ 32) c.word.ensures.value in
    omega (arith, read, c.requires.item.key_fits)
