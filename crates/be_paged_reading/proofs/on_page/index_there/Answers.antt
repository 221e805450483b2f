use Rattle.std.proofs.Common.{◌<◌, ℕ, [], ap, length, subst, sym, ◌∙◌, arith, get_or}
use Rattle.be_paged_reading.specs.Page.{contents_of, IsVersionPage}
use Rattle.be_paged_reading.proofs.Stored.PageIndices.{how_many}
use Rattle.be_paged_reading.proofs.on_page.index_there.Goals as goal

pub index_at-requires-clause-page : goal.index_at-requires-clause-page
index_at-requires-clause-page g c = subst (λ (u : ℕ → ℕ → ℕ). IsVersionPage (u c.args.page)) (sym c.word-count.ensures.words) c.requires.version.1.is_page

pub index_at-requires-clause-in_range : goal.index_at-requires-clause-in_range
index_at-requires-clause-in_range g c =
    let there : c.args.place < g.L.Look.words c.args.look.now c.args.page 1 = omega (arith, c.word-count.ensures.value, c.if-place-count.false) in
    subst (λ (u : ℕ → ℕ → ℕ). c.args.place < u c.args.page 1) (sym c.word-count.ensures.words) there

pub returns-clause-known : goal.returns-clause-known
returns-clause-known g c =
    let w0 = g.L.Look.words c.args.look.now in
    let w = g.L.Look.words c.index_at.new.look in
    let page = c.args.page in
    let at = c.args.place in
    let there : c.args.place < w0 page 1 = omega (arith, c.word-count.ensures.value, c.if-place-count.false) in
    let same = c.index_at.ensures.unchanged.words ∙ c.word-count.ensures.words in
    let inside : at < length (contents_of (w0 page)).entries = omega (arith, there, how_many (w0 page) []) in
    record {
      in_range = subst (λ (p : ℕ). p < length (contents_of (w page)).entries) (sym c.index_at.ensures.place)
          (subst (λ (u : ℕ → ℕ → ℕ). at < length (contents_of (u page)).entries) (sym same) inside);
      kind = λ d.
          c.index_at.ensures.kind d ∙ ap (λ (u : ℕ → ℕ → ℕ). (get_or (contents_of (u page)).entries at d).kind) (sym c.index_at.ensures.unchanged.words)
          ∙ ap (λ (p : ℕ). (get_or (contents_of (w page)).entries p d).kind) (sym c.index_at.ensures.place);
      root = λ d.
          c.index_at.ensures.root d ∙ ap (λ (u : ℕ → ℕ → ℕ). (get_or (contents_of (u page)).entries at d).root) (sym c.index_at.ensures.unchanged.words)
          ∙ ap (λ (p : ℕ). (get_or (contents_of (w page)).entries p d).root) (sym c.index_at.ensures.place);
    }
