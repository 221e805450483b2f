use Rattle.std.proofs.Common.{◌≡◌, ℕ, suc, [], ◌+◌, ◌-◌, ◌*◌, ◌<◌, IsTrue, length, take, ap, sym, subst, ◌∙◌, refl, arith}
use Rattle.be_pages.specs.Pages.{Swaps}
use Rattle.be_tree_reading.specs.Page.{items_of, item_at}
use Rattle.be_tree_reading.specs.Tree.{IsTreeAt, child, pages_at, pages_below}
use Rattle.be_tree.proofs.Removing.Clears.{swaps_none, swaps_until, gives_both, one_more, next_apart, next_in_use, next_names_page, none_below, take_count, node_readable, child_still, swaps_gives}
use Rattle.be_tree.proofs.clearing.+clear.Goals as goal

pub clear_below-returns-then-level-eq0-clause-pages : goal.clear_below-returns-then-level-eq0-clause-pages
clear_below-returns-then-level-eq0-clause-pages g t c =
    subst (λ l. Swaps g.R.Look.kept g.R.Look.page_state g.R.Look.words (pages_below l (g.R.Look.words c.args.room.now) (items_of (g.R.Look.words c.args.room.now c.args.page))) [] c.args.room.now c.args.room.now) (sym c.if-level-eq0.true)
    (swaps_none g.R.Look.kept g.R.Look.page_state g.R.Look.words c.args.room.now c.args.room.now (record { kept = refl; page_state = refl; words = refl }))

pub clear_below-loop-j-init : goal.clear_below-loop-j-init
clear_below-loop-j-init g t c = record {
  pages = subst (λ ps. Swaps g.R.Look.kept g.R.Look.page_state g.R.Look.words ps [] c.args.room.now c.word-count.new.self) (sym (none_below c.args.level (g.R.Look.words c.args.room.now)))
      (swaps_none g.R.Look.kept g.R.Look.page_state g.R.Look.words c.args.room.now c.word-count.new.self (record { kept = c.word-count.ensures.kept; page_state = c.word-count.ensures.page_state; words = c.word-count.ensures.words }));
  words = c.word-count.ensures.words;
}

pub clear_below-child_at-child-requires-clause-readable : goal.clear_below-child_at-child-requires-clause-readable
clear_below-child_at-child-requires-clause-readable g t c =
    node_readable g.R.Look.kept g.R.Look.page_state g.R.Look.words c.args.level 1 c.args.page c.loop-j.j c.args.room.now c.loop-j.room c.requires.tree c.loop-j.invariant.pages

pub clear_below-child_at-child-requires-clause-names_page : goal.clear_below-child_at-child-requires-clause-names_page
clear_below-child_at-child-requires-clause-names_page g t c =
    subst (λ (w : ℕ → ℕ → ℕ). length (item_at (w c.args.page) (2 + 42 * c.loop-j.j)).payload ≡ 8) (sym c.loop-j.invariant.words)
    (next_names_page c.args.level (c.args.level - 1) 1 (g.R.Look.page_state c.args.room.now) (g.R.Look.words c.args.room.now) c.args.page c.loop-j.j
    (omega (arith, c.if-level-eq0.false)) c.requires.tree (omega (arith, c.loop-j-test.true, c.word-count.ensures.value)))

pub clear_below-clear_page-requires : goal.clear_below-clear_page-requires
clear_below-clear_page-requires g t c κs within =
    let words = g.R.Look.words c.args.room.now in
    let below = c.args.level - 1 in
    let inv = c.loop-j.invariant in
    let same = c.child_at-child.ensures.unchanged in
    let is = c.child_at-child.ensures.child ∙ ap (λ (w : ℕ → ℕ → ℕ). child (item_at (w c.args.page) (2 + 42 * c.loop-j.j))) inv.words in
    let tree = child_still g.R.Look.kept g.R.Look.page_state g.R.Look.words c.args.level below 1 c.args.page c.loop-j.j c.args.room.now c.loop-j.room
    (omega (arith, c.if-level-eq0.false)) c.requires.tree (omega (arith, c.loop-j-test.true, c.word-count.ensures.value)) inv.pages inv.words in (
      omega (arith, c.if-level-eq0.false),
      (
        within,
        (
          subst (λ p. IsTreeAt below 1 (g.R.Look.page_state c.child_at-child.new.look) (g.R.Look.words c.child_at-child.new.look) p) (sym is)
              (subst (λ s. IsTreeAt below 1 s (g.R.Look.words c.child_at-child.new.look) (child (item_at (words c.args.page) (2 + 42 * c.loop-j.j)))) (sym same.page_state)
              (subst (λ w. IsTreeAt below 1 (g.R.Look.page_state c.loop-j.room) w (child (item_at (words c.args.page) (2 + 42 * c.loop-j.j)))) (sym same.words) tree)),
          subst (λ k. IsTrue (g.R.Look.is_open k)) (sym (same.kept ∙ inv.pages.kept)) c.requires.open,
        ),
      ),
    )

pub clear_below-loop-j-preserved : goal.clear_below-loop-j-preserved
clear_below-loop-j-preserved g t c =
    let page_state = g.R.Look.page_state c.args.room.now in
    let words = g.R.Look.words c.args.room.now in
    let level = c.args.level in
    let below = level - 1 in
    let page = c.args.page in
    let j = c.loop-j.j in
    let inv = c.loop-j.invariant in
    let same = c.child_at-child.ensures.unchanged in
    let e : level ≡ suc below = omega (arith, c.if-level-eq0.false) in
    let lt : j < words page 1 = omega (arith, c.loop-j-test.true, c.word-count.ensures.value) in
    let is = c.child_at-child.ensures.child ∙ ap (λ (w : ℕ → ℕ → ℕ). child (item_at (w page) (2 + 42 * j))) inv.words in
    let there = child (item_at (words page) (2 + 42 * j)) in
    let listed = ap (λ (w : ℕ → ℕ → ℕ). pages_at below w c.child_at-child.result) (same.words ∙ inv.words) ∙ ap (λ p. pages_at below words p) is in
    record {
      pages = subst (λ ps. Swaps g.R.Look.kept g.R.Look.page_state g.R.Look.words ps [] c.args.room.now c.clear_page.new.room) (sym (one_more level below 1 page_state words page j e c.requires.tree lt))
          (gives_both g.R.Look.kept g.R.Look.page_state g.R.Look.words (pages_below level words (take j (items_of (words page)))) (pages_at below words there) c.args.room.now c.child_at-child.new.look c.clear_page.new.room
          (swaps_until g.R.Look.kept g.R.Look.page_state g.R.Look.words (pages_below level words (take j (items_of (words page)))) [] c.args.room.now c.loop-j.room c.child_at-child.new.look inv.pages same)
          (subst (λ ps. Swaps g.R.Look.kept g.R.Look.page_state g.R.Look.words ps [] c.child_at-child.new.look c.clear_page.new.room) listed c.clear_page.ensures.pages)
          (next_apart level below 1 page_state words page j e c.requires.tree lt)
          (next_in_use level below 1 page_state words page j e c.requires.tree lt));
      words = c.clear_page.ensures.words ∙ same.words ∙ inv.words;
    }

pub clear_below-returns-clause-pages : goal.clear_below-returns-clause-pages
clear_below-returns-clause-pages g t c =
    let words = g.R.Look.words c.args.room.now in
    subst (λ xs. Swaps g.R.Look.kept g.R.Look.page_state g.R.Look.words (pages_below c.args.level words xs) [] c.args.room.now c.loop-j.room)
    (take_count (words c.args.page) c.loop-j.j (omega (arith, c.loop-j-test.false, c.loop-j.auto.j-end, c.word-count.ensures.value))) c.loop-j.invariant.pages

pub clear_page-returns-clause-pages : goal.clear_page-returns-clause-pages
clear_page-returns-clause-pages g t c =
    let words = g.R.Look.words c.args.room.now in
    swaps_gives g.R.Look.kept g.R.Look.page_state g.R.Look.words (pages_below c.args.level words (items_of (words c.args.page))) [] c.args.page c.args.room.now c.clear_below.new.room c.give_up.new.self
    c.clear_below.ensures.pages c.requires.tree.page_once c.requires.tree.page_in_use c.give_up.ensures.kept c.give_up.ensures.words c.give_up.ensures.page_state
