use Rattle.std.proofs.Common.{◌≡◌, ◌∙◌, ◌∷◌, ◌<◌, ℕ, List, Some, true, false, length, drop, ap, sym, subst}
use Rattle.std.specs.Int.{from_be_bytes, w64}
use Rattle.std.specs.List.{slice_get}
use Rattle.be_tree_reading.specs.Cursor.{IsCursor, remaining}
use Rattle.be_tree_reading.specs.Page.{item_at}
use Rattle.be_pages.specs.declared.room.PageState.{PageState}
use Rattle.be_tree_reading.specs.Pair.{Pair}
use Rattle.be_tree_reading.proofs.Frame.{unchanged_trans}
use Rattle.be_paged_reading.specs.Nodes.{is_mark, marked}
use Rattle.be_paged_reading.proofs.CatalogPairs.Marks.{fewer, met, passed}
use Rattle.be_paged_reading.proofs.marks.next_mark.Given.{Over}
use Rattle.be_paged_reading.proofs.marks.next_mark.Goals as goal
use Rattle.be_paged_reading.proofs.marks.next_mark.Goals.{After-step}

-- What the step leaves ahead, in terms of the words at the call.
left : (g : Over) (c : After-step g) → remaining (g.L.Look.words c.args.look.now) c.step.new.self ≡ drop 1 (remaining (g.L.Look.words c.args.look.now) c.steps.cursor)
left g c = subst (λ (w : ℕ → ℕ → ℕ). remaining w c.step.new.self ≡ drop 1 (remaining w c.steps.cursor)) c.steps.invariant.unchanged.words c.step.ensures.remaining

pub steps-preserved : goal.steps-preserved
steps-preserved g c =
    let at = (goal.at.steps-preserved g c).After-step in
    let words = g.L.Look.words c.args.look.now in
    let same = c.steps.invariant.unchanged.words in
    let x = item_at (words c.in-Some.page) c.in-Some.at in
    let item : slice_get (remaining words c.steps.cursor) 0 ≡ Some x = subst (λ (w : ℕ → ℕ → ℕ). slice_get (remaining w c.steps.cursor) 0 ≡ Some (item_at (w c.in-Some.page) c.in-Some.at)) same c.in-Some.ensures.item in
    let no : is_mark x.key ≡ false = subst (λ (w : ℕ → ℕ → ℕ). is_mark (item_at (w c.in-Some.page) c.in-Some.at).key ≡ false) (c.step.ensures.unchanged.words ∙ same) c.in_default-mark_at.ensures.none in
    record {
      cursor = subst (λ (w : ℕ → ℕ → ℕ). IsCursor (g.L.Look.page_state c.args.look.now) w c.step.new.self) same
          (subst (λ (s : ℕ → PageState). IsCursor s (g.L.Look.words c.steps.look) c.step.new.self) c.steps.invariant.unchanged.page_state c.step.ensures.cursor);
      same = ap marked (left g at) ∙ passed (remaining words c.steps.cursor) x item no ∙ c.steps.invariant.same;
      unchanged = unchanged_trans g.L.Look.kept g.L.Look.page_state g.L.Look.words c.args.look.now c.step.new.look c.mark_at.new.look
          (unchanged_trans g.L.Look.kept g.L.Look.page_state g.L.Look.words c.args.look.now c.steps.look c.step.new.look c.steps.invariant.unchanged c.step.ensures.unchanged)
          c.mark_at.ensures.unchanged;
    }

pub steps-smaller : goal.steps-smaller
steps-smaller g c =
    let at = (goal.at.steps-smaller g c).After-step in
    let words = g.L.Look.words c.args.look.now in
    let x = item_at (words c.in-Some.page) c.in-Some.at in
    let item : slice_get (remaining words c.steps.cursor) 0 ≡ Some x =
    subst (λ (w : ℕ → ℕ → ℕ). slice_get (remaining w c.steps.cursor) 0 ≡ Some (item_at (w c.in-Some.page) c.in-Some.at)) c.steps.invariant.unchanged.words c.in-Some.ensures.item in
    subst (λ (xs : List Pair). length xs < length (remaining words c.steps.cursor)) (sym (left g at)) (fewer (remaining words c.steps.cursor) x item)

pub returns-in-Some-mark_at-clause-node : goal.returns-in-Some-mark_at-clause-node
returns-in-Some-mark_at-clause-node g c =
    let at = (goal.at.returns-in-Some-mark_at-clause-node g c).After-step in
    let words = g.L.Look.words c.args.look.now in
    let same = c.steps.invariant.unchanged.words in
    let read = c.step.ensures.unchanged.words ∙ same in
    let x = item_at (words c.in-Some.page) c.in-Some.at in
    let item : slice_get (remaining words c.steps.cursor) 0 ≡ Some x = subst (λ (w : ℕ → ℕ → ℕ). slice_get (remaining w c.steps.cursor) 0 ≡ Some (item_at (w c.in-Some.page) c.in-Some.at)) same c.in-Some.ensures.item in
    let yes : is_mark x.key ≡ true = subst (λ (w : ℕ → ℕ → ℕ). is_mark (item_at (w c.in-Some.page) c.in-Some.at).key ≡ true) read c.in-Some-mark_at.ensures.mark in
    let number : c.in-Some-mark_at.node ≡ from_be_bytes w64 x.key = subst (λ (w : ℕ → ℕ → ℕ). c.in-Some-mark_at.node ≡ from_be_bytes w64 (item_at (w c.in-Some.page) c.in-Some.at).key) read c.in-Some-mark_at.ensures.node in
    sym c.steps.invariant.same
    ∙ met (remaining words c.steps.cursor) x item yes
    ∙ ap (λ (xs : List Pair). from_be_bytes w64 x.key ∷ marked xs) (sym (left g at))
    ∙ ap (λ (n : ℕ). n ∷ marked (remaining words c.step.new.self)) (sym number)
