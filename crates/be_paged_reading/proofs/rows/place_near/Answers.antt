use Rattle.std.proofs.Common.{◌≡◌, ◌∙◌, [], ℕ, Some, drop, refl, ap, sym, subst}
use Rattle.std.specs.List.{slice_get}
use Rattle.std.specs.Ordering.{is_eq, is_gt}
use Rattle.be_pages.specs.declared.room.PageState.{PageState}
use Rattle.be_pages.specs.Pages.{IsUnchanged}
use Rattle.be_tree_reading.specs.Cursor.{IsCursor, remaining}
use Rattle.be_tree_reading.specs.Key.{key_cmp, payload_at}
use Rattle.be_tree_reading.specs.Page.{IsReadableAt, item_at}
use Rattle.be_tree_reading.specs.Pair.{Pair}
use Rattle.be_tree_reading.specs.Tree.{IsTree}
use Rattle.be_tree_reading.proofs.Frame.{unchanged_trans}
use Rattle.be_tree_reading.proofs.Order.{key_same}
use Rattle.be_tree_reading.proofs.Trees.{tree_rising}
use Rattle.be_paged_reading.specs.Cells.{IsAmong}
use Rattle.be_paged_reading.proofs.Asking.Walks.{cursor_since}
use Rattle.be_paged_reading.proofs.Reported.{among_next, beyond_since, not_ahead, place_met, still_ahead}
use Rattle.be_paged_reading.proofs.rows.place_near.Given.{Over}
use Rattle.be_paged_reading.proofs.rows.place_near.Goals as goal
use Rattle.be_paged_reading.proofs.rows.place_near.Goals.{After-step, After-is_key_at, After-is_past_at}

pub loop-init : goal.loop-init
loop-init g c = record {
  cursor = c.requires.cursor;
  among = λ root tree among. among;
  beyond = λ root tree among. tt;
  unchanged = record { kept = refl; page_state = refl; words = refl };
}

-- The pages since the call.
stepped : (g : Over) (c : After-step g) → IsUnchanged g.L.Look.kept g.L.Look.page_state g.L.Look.words c.args.look.now c.step.new.look
stepped g c = unchanged_trans g.L.Look.kept g.L.Look.page_state g.L.Look.words c.args.look.now c.loop.look c.step.new.look c.loop.invariant.unchanged c.step.ensures.unchanged

compared : (g : Over) (c : After-is_key_at g) → IsUnchanged g.L.Look.kept g.L.Look.page_state g.L.Look.words c.args.look.now c.is_key_at.new.look
compared g c =
    unchanged_trans g.L.Look.kept g.L.Look.page_state g.L.Look.words c.args.look.now c.step.new.look c.is_key_at.new.look
    (unchanged_trans g.L.Look.kept g.L.Look.page_state g.L.Look.words c.args.look.now c.loop.look c.step.new.look c.loop.invariant.unchanged c.step.ensures.unchanged)
    c.is_key_at.ensures.unchanged

passed : (g : Over) (c : After-is_past_at g) → IsUnchanged g.L.Look.kept g.L.Look.page_state g.L.Look.words c.args.look.now c.is_past_at.new.look
passed g c =
    unchanged_trans g.L.Look.kept g.L.Look.page_state g.L.Look.words c.args.look.now c.is_key_at.new.look c.is_past_at.new.look
    (unchanged_trans g.L.Look.kept g.L.Look.page_state g.L.Look.words c.args.look.now c.step.new.look c.is_key_at.new.look
    (unchanged_trans g.L.Look.kept g.L.Look.page_state g.L.Look.words c.args.look.now c.loop.look c.step.new.look c.loop.invariant.unchanged c.step.ensures.unchanged)
    c.is_key_at.ensures.unchanged)
    c.is_past_at.ensures.unchanged

-- Where the cursor is after the step, in terms of the pages at the call.
moved : (g : Over) (c : After-step g) → IsCursor (g.L.Look.page_state c.args.look.now) (g.L.Look.words c.args.look.now) c.step.new.self
moved g c =
    cursor_since (g.L.Look.page_state c.loop.look) (g.L.Look.page_state c.args.look.now) (g.L.Look.words c.loop.look) (g.L.Look.words c.args.look.now) c.step.new.self
    (sym c.loop.invariant.unchanged.page_state) (sym c.loop.invariant.unchanged.words) c.step.ensures.cursor

left : (g : Over) (c : After-step g) → remaining (g.L.Look.words c.args.look.now) c.step.new.self ≡ drop 1 (remaining (g.L.Look.words c.args.look.now) c.loop.cursor)
left g c = subst (λ (w : ℕ → ℕ → ℕ). remaining w c.step.new.self ≡ drop 1 (remaining w c.loop.cursor)) c.loop.invariant.unchanged.words c.step.ensures.remaining

among : (g : Over) (c : After-step g) (root : ℕ) → IsTree (g.L.Look.page_state c.args.look.now) (g.L.Look.words c.args.look.now) root → IsAmong (g.L.Look.words c.args.look.now) root c.args.cursor.now
    → IsAmong (g.L.Look.words c.args.look.now) root c.step.new.self
among g c root tree lies =
    let v = g.L.Look.words c.args.look.now in
    among_next v root c.loop.cursor c.step.new.self (tree_rising (g.L.Look.page_state c.args.look.now) v root tree) (left g c) (c.loop.invariant.among root tree lies)

-- The item that the cursor has stepped over.
abbrev item : (g : Over) (c : After-is_key_at g) → Pair
item g c = item_at (g.L.Look.words c.args.look.now c.in-Some.page) c.in-Some.at

first : (g : Over) (c : After-is_key_at g) → slice_get (remaining (g.L.Look.words c.args.look.now) c.loop.cursor) 0 ≡ Some (item g c)
first g c = subst (λ (w : ℕ → ℕ → ℕ). slice_get (remaining w c.loop.cursor) 0 ≡ Some (item_at (w c.in-Some.page) c.in-Some.at)) c.loop.invariant.unchanged.words c.in-Some.ensures.item

here : (g : Over) (c : After-is_key_at g) → IsReadableAt (g.L.Look.page_state c.args.look.now) (g.L.Look.words c.args.look.now) c.in-Some.page c.in-Some.at
here g c =
    subst (λ (s : ℕ → PageState). IsReadableAt s (g.L.Look.words c.args.look.now) c.in-Some.page c.in-Some.at) c.loop.invariant.unchanged.page_state
    (subst (λ (w : ℕ → ℕ → ℕ). IsReadableAt (g.L.Look.page_state c.loop.look) w c.in-Some.page c.in-Some.at) c.loop.invariant.unchanged.words c.in-Some.ensures.here)

is_key : (g : Over) (c : After-is_key_at g) → is_eq (key_cmp (item g c).key c.args.key.now) ≡ c.is_key_at.result
is_key g c =
    sym (c.is_key_at.ensures.same
    ∙ ap (λ (w : ℕ → ℕ → ℕ). is_eq (key_cmp (item_at (w c.in-Some.page) c.in-Some.at).key c.args.key.now)) (c.step.ensures.unchanged.words ∙ c.loop.invariant.unchanged.words))

is_higher : (g : Over) (c : After-is_past_at g) → is_gt (key_cmp (item_at (g.L.Look.words c.args.look.now c.in-Some.page) c.in-Some.at).key c.args.key.now) ≡ c.is_past_at.result
is_higher g c =
    sym (c.is_past_at.ensures.past
    ∙ ap (λ (w : ℕ → ℕ → ℕ). is_gt (key_cmp (item_at (w c.in-Some.page) c.in-Some.at).key c.args.key.now))
    (c.is_key_at.ensures.unchanged.words ∙ c.step.ensures.unchanged.words ∙ c.loop.invariant.unchanged.words))

pub loop-preserved : goal.loop-preserved
loop-preserved g c =
    let step = (goal.at.loop-preserved g c).After-step in
    let at = (goal.at.loop-preserved g c).After-is_key_at in
    let past = (goal.at.loop-preserved g c).After-is_past_at in
    let v = g.L.Look.words c.args.look.now in
    record {
      cursor = moved g step;
      among = λ root tree lies. among g step root tree lies;
      beyond = λ root tree lies. (
        refl,
        still_ahead v root c.args.key.now (tree_rising (g.L.Look.page_state c.args.look.now) v root tree) c.loop.cursor c.step.new.self (item g at) (left g step) (c.loop.invariant.among root tree lies) (first g at)
            (is_key g at ∙ c.if-is_key_at.false) (is_higher g past ∙ c.if-is_past_at.false),
      );
      unchanged = passed g past;
    }

-- Nothing is ahead of the cursor.
pub returns-in_default-clause-found : goal.returns-in_default-clause-found
returns-in_default-clause-found g c = λ root tree lies.
    let now = stepped g (goal.at.returns-in_default-clause-found g c).After-step in
    let none : remaining (g.L.Look.words c.args.look.now) c.loop.cursor ≡ [] = subst (λ (w : ℕ → ℕ → ℕ). remaining w c.loop.cursor ≡ []) c.loop.invariant.unchanged.words c.in_default.ensures.none in
    beyond_since (g.L.Look.page_state c.args.look.now) (g.L.Look.page_state c.step.new.look) (g.L.Look.words c.args.look.now) (g.L.Look.words c.step.new.look) root c.args.key.now c.loop.cursor c.loop.beyond
    now.page_state now.words (c.loop.invariant.beyond root tree lies) (ap (λ xs. payload_at xs c.args.key.now) none)

pub returns-in_default-clause-among : goal.returns-in_default-clause-among
returns-in_default-clause-among g c = λ root tree lies.
    let step = (goal.at.returns-in_default-clause-among g c).After-step in
    subst (λ (w : ℕ → ℕ → ℕ). IsAmong w root c.step.new.self) (sym (stepped g step).words) (among g step root tree lies)

pub returns-in_default-clause-cursor : goal.returns-in_default-clause-cursor
returns-in_default-clause-cursor g c =
    let step = (goal.at.returns-in_default-clause-cursor g c).After-step in
    cursor_since (g.L.Look.page_state c.args.look.now) (g.L.Look.page_state c.step.new.look) (g.L.Look.words c.args.look.now) (g.L.Look.words c.step.new.look) c.step.new.self
    (stepped g step).page_state (stepped g step).words (moved g step)

-- The item has the key.
pub returns-then-is_key_at-clause-found : goal.returns-then-is_key_at-clause-found
returns-then-is_key_at-clause-found g c = λ root tree lies.
    let at = (goal.at.returns-then-is_key_at-clause-found g c).After-is_key_at in
    place_met (g.L.Look.page_state c.args.look.now) (g.L.Look.page_state c.is_key_at.new.look) (g.L.Look.words c.args.look.now) (g.L.Look.words c.is_key_at.new.look) root c.args.key.now c.loop.cursor
    (c.in-Some.page, c.in-Some.at) (compared g at).page_state (compared g at).words (c.loop.invariant.among root tree lies) (here g at) (first g at)
    (key_same (item g at).key c.args.key.now (is_key g at ∙ c.if-is_key_at.true))

pub returns-then-is_key_at-clause-among : goal.returns-then-is_key_at-clause-among
returns-then-is_key_at-clause-among g c = λ root tree lies.
    let goes = goal.at.returns-then-is_key_at-clause-among g c in
    subst (λ (w : ℕ → ℕ → ℕ). IsAmong w root c.step.new.self) (sym (compared g goes.After-is_key_at).words) (among g goes.After-step root tree lies)

pub returns-then-is_key_at-clause-cursor : goal.returns-then-is_key_at-clause-cursor
returns-then-is_key_at-clause-cursor g c =
    let goes = goal.at.returns-then-is_key_at-clause-cursor g c in
    let now = compared g goes.After-is_key_at in
    cursor_since (g.L.Look.page_state c.args.look.now) (g.L.Look.page_state c.is_key_at.new.look) (g.L.Look.words c.args.look.now) (g.L.Look.words c.is_key_at.new.look) c.step.new.self
    now.page_state now.words (moved g goes.After-step)

-- The item has a higher key.
pub returns-then-is_past_at-clause-found : goal.returns-then-is_past_at-clause-found
returns-then-is_past_at-clause-found g c = λ root tree lies.
    let goes = goal.at.returns-then-is_past_at-clause-found g c in
    let at = goes.After-is_key_at in
    let now = passed g goes.After-is_past_at in
    let v = g.L.Look.words c.args.look.now in
    beyond_since (g.L.Look.page_state c.args.look.now) (g.L.Look.page_state c.is_past_at.new.look) v (g.L.Look.words c.is_past_at.new.look) root c.args.key.now c.loop.cursor c.loop.beyond
    now.page_state now.words (c.loop.invariant.beyond root tree lies)
    (not_ahead v root c.args.key.now (tree_rising (g.L.Look.page_state c.args.look.now) v root tree) c.loop.cursor (item g at) (c.loop.invariant.among root tree lies) (first g at)
    (is_higher g goes.After-is_past_at ∙ c.if-is_past_at.true))

pub returns-then-is_past_at-clause-among : goal.returns-then-is_past_at-clause-among
returns-then-is_past_at-clause-among g c = λ root tree lies.
    let goes = goal.at.returns-then-is_past_at-clause-among g c in
    subst (λ (w : ℕ → ℕ → ℕ). IsAmong w root c.step.new.self) (sym (passed g goes.After-is_past_at).words) (among g goes.After-step root tree lies)

pub returns-then-is_past_at-clause-cursor : goal.returns-then-is_past_at-clause-cursor
returns-then-is_past_at-clause-cursor g c =
    let goes = goal.at.returns-then-is_past_at-clause-cursor g c in
    let now = passed g goes.After-is_past_at in
    cursor_since (g.L.Look.page_state c.args.look.now) (g.L.Look.page_state c.is_past_at.new.look) (g.L.Look.words c.args.look.now) (g.L.Look.words c.is_past_at.new.look) c.step.new.self
    now.page_state now.words (moved g goes.After-step)

-- None of the items has determined it.
pub returns-clause-among : goal.returns-clause-among
returns-clause-among g c = λ root tree lies.
    subst (λ (w : ℕ → ℕ → ℕ). IsAmong w root c.loop.cursor) (sym c.loop.invariant.unchanged.words) (c.loop.invariant.among root tree lies)

pub returns-clause-cursor : goal.returns-clause-cursor
returns-clause-cursor g c =
    cursor_since (g.L.Look.page_state c.args.look.now) (g.L.Look.page_state c.loop.look) (g.L.Look.words c.args.look.now) (g.L.Look.words c.loop.look) c.loop.cursor
    c.loop.invariant.unchanged.page_state c.loop.invariant.unchanged.words c.loop.invariant.cursor
