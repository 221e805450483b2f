use Rattle.std.proofs.Common.{◌≡◌, ℕ, ◌+◌, ◌*◌, ap, sym, ◌∙◌, length, arith}
use Rattle.std.specs.Int.{to_be_bytes, w64}
use Rattle.std.specs.Ordering.{nat_cmp}
use Rattle.be_paged_reading.specs.Page.{entry_at}
use Rattle.be_tree_reading.proofs.Padded.{alike_differ, alike_end, alike_first, alike_next, padded}
use Rattle.be_paged_reading.proofs.Stored.UsedWords.{name_len}
use Rattle.be_paged_reading.proofs.on_page.compare_at.Given.{Over}
use Rattle.be_paged_reading.proofs.on_page.compare_at.Goals as goal
use Rattle.be_paged_reading.proofs.on_page.compare_at.Goals.{After-word-mine, After-word_from-other}

-- The first word of the entry's name.
mine_is : (g : Over) (c : After-word-mine g) → to_be_bytes w64 c.word-mine.result ≡ padded (entry_at (g.L.Look.words c.args.look.now c.args.page) c.args.at).name (8 * 0) 8
mine_is g c =
    let words = g.L.Look.words c.args.look.now c.args.page in
    let e : c.args.at + 1 + 0 ≡ c.args.at + 1 = omega arith in
    ap (to_be_bytes w64) (c.word-mine.ensures.value ∙ ap words (sym e)) ∙ c.requires.entry.text.bytes 0 (omega arith)

pub returns-then-mine-first-clause-order : goal.returns-then-mine-first-clause-order
returns-then-mine-first-clause-order g c =
    let words = g.L.Look.words c.args.look.now c.args.page in
    let name = (entry_at words c.args.at).name in
    let ys = c.args.name.now in
    c.cmp.ensures ∙ sym (alike_differ name ys 0 c.word-mine.result c.args.first (omega arith) (omega arith) (omega arith)
    (mine_is g (goal.at.returns-then-mine-first-clause-order g c).After-word-mine) c.requires.first (alike_first name ys) c.if-mine-first.true)

pub loop-j-init : goal.loop-j-init
loop-j-init g c =
    let words = g.L.Look.words c.args.look.now c.args.page in
    let name = (entry_at words c.args.at).name in
    let ys = c.args.name.now in
    record {
      alike = alike_next name ys 0 c.word-mine.result c.args.first (omega arith) (omega arith) (omega arith)
          (mine_is g (goal.at.loop-j-init g c).After-word-mine) c.requires.first (alike_first name ys) c.if-mine-first.false;
      unchanged = record { kept = c.word-mine.ensures.kept; page_state = c.word-mine.ensures.page_state; words = c.word-mine.ensures.words };
    }

-- One of the later words of the entry's name.
next_is : (g : Over) (c : After-word_from-other g) → to_be_bytes w64 c.word-next.result ≡ padded (entry_at (g.L.Look.words c.args.look.now c.args.page) c.args.at).name (8 * c.loop-j.j) 8
next_is g c =
    let words = g.L.Look.words c.args.look.now c.args.page in
    ap (to_be_bytes w64) (c.word-next.ensures.value ∙ ap (λ (w : ℕ → ℕ → ℕ). w c.args.page (c.args.at + 1 + c.loop-j.j)) c.loop-j.invariant.unchanged.words)
    ∙ c.requires.entry.text.bytes c.loop-j.j (omega (arith, c.loop-j-test.true, c.requires.short))

pub returns-then-next-other-clause-order : goal.returns-then-next-other-clause-order
returns-then-next-other-clause-order g c =
    let name = (entry_at (g.L.Look.words c.args.look.now c.args.page) c.args.at).name in
    c.cmp-then-next-other.ensures ∙ sym (alike_differ name c.args.name.now c.loop-j.j c.word-next.result c.word_from-other.result c.loop-j-test.true (omega arith) (omega arith)
    (next_is g (goal.at.returns-then-next-other-clause-order g c).After-word_from-other) c.word_from-other.ensures c.loop-j.invariant.alike c.if-next-other.true)

pub loop-j-preserved : goal.loop-j-preserved
loop-j-preserved g c =
    let name = (entry_at (g.L.Look.words c.args.look.now c.args.page) c.args.at).name in
    record {
      alike = alike_next name c.args.name.now c.loop-j.j c.word-next.result c.word_from-other.result c.loop-j-test.true (omega arith) (omega arith)
          (next_is g (goal.at.loop-j-preserved g c).After-word_from-other) c.word_from-other.ensures c.loop-j.invariant.alike c.if-next-other.false;
      unchanged = record {
        kept = c.word-next.ensures.kept ∙ c.loop-j.invariant.unchanged.kept;
        page_state = c.word-next.ensures.page_state ∙ c.loop-j.invariant.unchanged.page_state;
        words = c.word-next.ensures.words ∙ c.loop-j.invariant.unchanged.words;
      };
    }

pub returns-clause-order : goal.returns-clause-order
returns-clause-order g c =
    let words = g.L.Look.words c.args.look.now c.args.page in
    let name = (entry_at words c.args.at).name in
    let ys = c.args.name.now in
    let len : c.word.result ≡ length name = c.word.ensures.value ∙ ap (λ (w : ℕ → ℕ → ℕ). w c.args.page c.args.at) c.loop-j.invariant.unchanged.words ∙ sym (name_len words c.args.at) in
    c.cmp-2.ensures ∙ ap (λ (n : ℕ). nat_cmp n (length ys)) len ∙ sym (alike_end name ys c.loop-j.j (omega (arith, c.loop-j-test.false)) c.loop-j.invariant.alike)
