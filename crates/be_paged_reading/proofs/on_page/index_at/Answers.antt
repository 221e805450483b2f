use Rattle.std.proofs.Common.{◌≡◌, ℕ, [], ◌+◌, ◌*◌, ◌≤◌, ap, subst, sym, ◌∙◌, arith}
use Rattle.be_paged_reading.specs.Entry.{Entry}
use Rattle.be_paged_reading.specs.Page.{entry_at, kind_numbered, entry_place}
use Rattle.be_paged_reading.proofs.Stored.PageIndices.{at_place}
use Rattle.be_paged_reading.proofs.on_page.index_at.Goals as goal

pub kind_numbered-kind-requires : goal.kind_numbered-kind-requires
kind_numbered-kind-requires g c =
    let words = g.L.Look.words c.args.look.now c.args.page in
    let e : entry_place c.args.i + 9 ≡ 13 + 11 * c.args.i = omega arith in
    subst (λ (n : ℕ). (1 ≤ n) × (n ≤ 7)) (ap words e ∙ sym c.word.ensures.value) (c.requires.page.each c.args.i c.requires.in_range).kind

pub returns-clause-kind : goal.returns-clause-kind
unfolding entry_at
returns-clause-kind g c = λ d.
    let words = g.L.Look.words c.args.look.now c.args.page in
    let e : 13 + 11 * c.args.i ≡ entry_place c.args.i + 9 = omega arith in
    c.kind_numbered-kind.ensures ∙ ap kind_numbered (c.word.ensures.value ∙ ap words e) ∙ sym (ap (λ (e : Entry). e.kind) (at_place words [] c.args.i d c.requires.in_range))

pub returns-clause-root : goal.returns-clause-root
unfolding entry_at
returns-clause-root g c = λ d.
    let words = g.L.Look.words c.args.look.now c.args.page in
    let e : 14 + 11 * c.args.i ≡ entry_place c.args.i + 10 = omega arith in
    c.word-root.ensures.value ∙ ap (λ (w : ℕ → ℕ → ℕ). w c.args.page (14 + 11 * c.args.i)) c.word.ensures.words ∙ ap words e ∙ sym (ap (λ (e : Entry). e.root) (at_place words [] c.args.i d c.requires.in_range))
