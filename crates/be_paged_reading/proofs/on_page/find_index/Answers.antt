use Rattle.std.proofs.Common.{◌≡◌, ◌≤◌, ◌<◌, ℕ, List, length, get_or, ap, sym, subst, ◌∙◌, arith}
use Rattle.std.specs.FinMap as fin
use Rattle.std.specs.declared.cmp.Ordering.TheVariants.{Equal}
use Rattle.be_pages.specs.Pages.{IsUnchanged}
use Rattle.be_volume.specs.Maps.{name_cmp}
use Rattle.be_paged_reading.specs.Page.{contents_of, entry_at, entry_place, IsEntry, IsGapAt, IsNamedAt, IsVersionPage}
use Rattle.be_paged_reading.proofs.IndexEntries.Indexing.{NamesRise, names_rise}
use Rattle.be_paged_reading.proofs.Stored.Codec.{name_short}
use Rattle.be_paged_reading.proofs.Stored.PageIndices.{above_from, below_through, gap_here, named_here}
use Rattle.be_paged_reading.proofs.on_page.find_index.Given.{Over}
use Rattle.be_paged_reading.proofs.on_page.find_index.Goals as goal
use Rattle.be_paged_reading.proofs.on_page.find_index.Goals.{After-middle-at, After-compare_at}

-- There is an index at this position.
in_range : (g : Over) (c : After-middle-at g) → c.middle-at.result < g.L.Look.words c.args.look.now c.args.page 1
in_range g c = omega (arith, c.middle-at.ensures.1, c.halves.invariant.in_range)

few : (g : Over) (c : After-middle-at g) → c.middle-at.result < 32
few g c = omega (arith, in_range g c, c.requires.version.1.is_page.few)

rise : (g : Over) (c : After-middle-at g) → NamesRise (contents_of (g.L.Look.words c.args.look.now c.args.page)).entries
rise g c = names_rise (g.L.Look.words c.args.look.now) _ _ c.requires.version.1.encodes.indices (fin.entries_sorted c.requires.version.0.indices)

pub overflow_mul-at : goal.overflow_mul-at
overflow_mul-at g c = omega (arith, few g (goal.at.overflow_mul-at g c).After-middle-at)

pub overflow_add-at : goal.overflow_add-at
overflow_add-at g c = omega (arith, few g (goal.at.overflow_add-at g c).After-middle-at)

pub compare_at-requires-clause-in_page : goal.compare_at-requires-clause-in_page
compare_at-requires-clause-in_page g c = omega (arith, few g (goal.at.compare_at-requires-clause-in_page g c).After-middle-at)

pub compare_at-requires-clause-entry : goal.compare_at-requires-clause-entry
compare_at-requires-clause-entry g c =
    let at = c.middle-at.result in
    subst (λ (h : ℕ → ℕ → ℕ). IsEntry (h c.args.page) (entry_place at)) (sym c.halves.invariant.unchanged.words)
    (c.requires.version.1.is_page.each at (in_range g (goal.at.compare_at-requires-clause-entry g c).After-middle-at))

pub compare_at-requires-clause-short : goal.compare_at-requires-clause-short
compare_at-requires-clause-short g c =
    subst (λ (t : List ℕ). length t ≤ 63) (sym (c.as_bytes-text.ensures.value ∙ c.as_str.ensures.text)) (name_short c.args.name.now c.as_str.ensures.valid)

-- How the name of the entry compares.
compared : (g : Over) (c : After-compare_at g) → name_cmp (entry_at (g.L.Look.words c.args.look.now c.args.page) (entry_place c.middle-at.result)).name c.args.name.now ≡ c.compare_at.result
compared g c =
    let at = c.middle-at.result in
    sym (c.compare_at.ensures.order
    ∙ ap (λ (h : ℕ → ℕ → ℕ). name_cmp (entry_at (h c.args.page) (entry_place at)).name c.as_bytes-text.result.now) c.halves.invariant.unchanged.words
    ∙ ap (name_cmp (entry_at (g.L.Look.words c.args.look.now c.args.page) (entry_place at)).name) (c.as_bytes-text.ensures.value ∙ c.as_str.ensures.text))

-- A comparison only reads.
same_since : (g : Over) (c : After-compare_at g) → IsUnchanged g.L.Look.kept g.L.Look.page_state g.L.Look.words c.args.look.now c.compare_at.new.look
same_since g c =
    let known = c.halves.invariant.unchanged in
    let now = c.compare_at.ensures.unchanged in
    record { kept = now.kept ∙ known.kept; page_state = now.page_state ∙ known.page_state; words = now.words ∙ known.words }

pub halves-preserved-in-Less : goal.halves-preserved-in-Less
halves-preserved-in-Less g c =
    let step = goal.at.halves-preserved-in-Less g c in
    let before = step.After-middle-at in
    let at = c.middle-at.result in
    record {
      below = below_through (g.L.Look.words c.args.look.now c.args.page) c.args.name.now (rise g before) at (in_range g before) (compared g step.After-compare_at ∙ c.in-Less.is);
      above = c.halves.invariant.above;
      ordered = omega (arith, c.middle-at.ensures.1);
      in_range = c.halves.invariant.in_range;
      unchanged = same_since g step.After-compare_at;
    }

pub halves-preserved : goal.halves-preserved
halves-preserved g c =
    let step = goal.at.halves-preserved g c in
    let before = step.After-middle-at in
    let at = c.middle-at.result in
    let there = in_range g before in
    record {
      below = c.halves.invariant.below;
      above = above_from (g.L.Look.words c.args.look.now c.args.page) c.args.name.now (rise g before) at there (compared g step.After-compare_at ∙ c.in-Greater.is);
      ordered = c.middle-at.ensures.0;
      in_range = omega (arith, there);
      unchanged = same_since g step.After-compare_at;
    }

pub index_at-requires-clause-page : goal.index_at-requires-clause-page
index_at-requires-clause-page g c =
    subst (λ (u : ℕ → ℕ → ℕ). IsVersionPage (u c.args.page)) (sym (c.compare_at.ensures.unchanged.words ∙ c.halves.invariant.unchanged.words)) c.requires.version.1.is_page

pub index_at-requires-clause-in_range : goal.index_at-requires-clause-in_range
index_at-requires-clause-in_range g c =
    let at = c.middle-at.result in
    subst (λ (u : ℕ → ℕ → ℕ). at < u c.args.page 1) (sym (c.compare_at.ensures.unchanged.words ∙ c.halves.invariant.unchanged.words))
    (in_range g (goal.at.index_at-requires-clause-in_range g c).After-middle-at)

pub returns-in-Equal-clause-found : goal.returns-in-Equal-clause-found
returns-in-Equal-clause-found g c =
    let w0 = g.L.Look.words c.args.look.now in
    let w = g.L.Look.words c.index_at.new.look in
    let page = c.args.page in
    let name = c.args.name.now in
    let at = c.middle-at.result in
    let before = (goal.at.returns-in-Equal-clause-found g c).After-middle-at in
    let same = c.compare_at.ensures.unchanged.words ∙ c.halves.invariant.unchanged.words in
    let here : name_cmp (entry_at (w0 page) (entry_place at)).name name ≡ Equal = compared g (goal.at.returns-in-Equal-clause-found g c).After-compare_at ∙ c.in-Equal.is in
    record {
      named = subst (λ (p : ℕ). IsNamedAt (contents_of (w page)).entries name p) (sym c.index_at.ensures.place)
          (subst (λ (u : ℕ → ℕ → ℕ). IsNamedAt (contents_of (u page)).entries name at) (sym (c.index_at.ensures.unchanged.words ∙ same)) (named_here (w0 page) name (rise g before) at (in_range g before) here));
      kind = λ d.
          c.index_at.ensures.kind d ∙ ap (λ (u : ℕ → ℕ → ℕ). (get_or (contents_of (u page)).entries at d).kind) (sym c.index_at.ensures.unchanged.words)
          ∙ ap (λ (p : ℕ). (get_or (contents_of (w page)).entries p d).kind) (sym c.index_at.ensures.place);
      root = λ d.
          c.index_at.ensures.root d ∙ ap (λ (u : ℕ → ℕ → ℕ). (get_or (contents_of (u page)).entries at d).root) (sym c.index_at.ensures.unchanged.words)
          ∙ ap (λ (p : ℕ). (get_or (contents_of (w page)).entries p d).root) (sym c.index_at.ensures.place);
      absent = tt;
    }

pub returns-clause-found : goal.returns-clause-found
returns-clause-found g c =
    let w0 = g.L.Look.words c.args.look.now in
    let page = c.args.page in
    let name = c.args.name.now in
    let low = c.halves.low in
    let known = c.halves.invariant in
    record {
      named = tt;
      kind = tt;
      root = tt;
      absent = (
        low,
        subst (λ (u : ℕ → ℕ → ℕ). IsGapAt (contents_of (u page)).entries name low) (sym known.unchanged.words)
            (gap_here (w0 page) name low c.halves.high (omega (arith, known.ordered, known.in_range)) (omega (arith, c.halves-test.false)) known.below known.above),
      );
    }
