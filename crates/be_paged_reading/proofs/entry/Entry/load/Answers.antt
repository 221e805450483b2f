use Rattle.std.proofs.Common.{ℕ, List, ◌+◌, ◌<◌, ◌≤◌, slice_index, ap, sym, subst, ◌∙◌}
use Rattle.be_paged_reading.specs.Entry.{HaveText}
use Rattle.be_paged_reading.specs.Page.{entry_at, kind_numbered}
use Rattle.be_paged_reading.proofs.Stored.Codec.{name_moved, text_moved, entry_is}
use Rattle.be_paged_reading.proofs.entry.Entry.load.Goals as goal

pub invariant_of-result : goal.invariant_of-result
invariant_of-result g c =
    let v = g.L.Look.words c.args.look.now c.args.page in
    let ws = slice_index c.load_words-words.result in
    let short = subst (λ (n : ℕ). n ≤ 63) (sym c.word-len.ensures.value) c.requires.entry.short in
    let reported = λ (j : ℕ) (lt : j < 8). c.load_words-words.ensures.words j lt ∙ ap (λ (h : ℕ → ℕ → ℕ). h c.args.page (c.args.at + 1 + j)) c.word-len.ensures.words in
    let name = name_moved v ws c.args.at c.word-len.result short c.word-len.ensures.value reported in
    (short, subst (λ (n : List ℕ). HaveText ws n) (sym name) (text_moved (λ j. v (c.args.at + 1 + j)) ws (entry_at v c.args.at).name reported c.requires.entry.text))

pub returns-clause-entry : goal.returns-clause-entry
returns-clause-entry g c =
    let v = g.L.Look.words c.args.look.now c.args.page in
    let ws = slice_index c.load_words-words.result in
    let short = subst (λ (n : ℕ). n ≤ 63) (sym c.word-len.ensures.value) c.requires.entry.short in
    let reported = λ (j : ℕ) (lt : j < 8). c.load_words-words.ensures.words j lt ∙ ap (λ (h : ℕ → ℕ → ℕ). h c.args.page (c.args.at + 1 + j)) c.word-len.ensures.words in
    let words = c.load_words-words.ensures.unchanged.words ∙ c.word-len.ensures.words in
    entry_is v c.args.at _ (name_moved v ws c.args.at c.word-len.result short c.word-len.ensures.value reported)
    (c.kind_numbered-kind.ensures ∙ ap kind_numbered (c.word.ensures.value ∙ ap (λ (h : ℕ → ℕ → ℕ). h c.args.page (c.args.at + 9)) words))
    (c.word-root.ensures.value ∙ ap (λ (h : ℕ → ℕ → ℕ). h c.args.page (c.args.at + 10)) (c.word.ensures.words ∙ words))
