use Rattle.std.proofs.Common.{◌≡◌, ◌≢◌, ℕ, [], ◌<◌, IsTrue, get_or, length, ap, sym, subst, ◌∙◌, arith}
use Rattle.be_pages.specs.declared.room.PageState.TheVariants.{Filled, Taken}
use Rattle.be_tree_reading.specs.Page.{IsPage, item_at, item_place}
use Rattle.be_tree_reading.specs.Pair.{Pair}
use Rattle.be_tree.specs.Splicing.{IsStored}
use Rattle.be_tree_reading.proofs.Frame.{written_swaps}
use Rattle.be_tree.proofs.Builds.Parts.{stored_list}
use Rattle.be_tree.proofs.Nodes.Slots.{written_at}
use Rattle.be_tree.proofs.Nodes.PageStates.{changed_state, other_states}
use Rattle.be_tree.proofs.Splices.{filled_word, other_word}
use Rattle.be_tree.proofs.Sizes.InHand.{takes_one}
use Rattle.be_tree.proofs.building.write_leaf.Given.{Over}
use Rattle.be_tree.proofs.building.write_leaf.Goals as goal
use Rattle.be_tree.proofs.building.write_leaf.Goals.{After-fill-2}

-- the page with its header: it was free, and no other page has changed
module _ (g : Over) (c : After-fill-2 g) where
  states : (q : ℕ) → q ≢ c.in_ok-page.page → g.R.Look.page_state c.fill-2.new.self q ≡ g.R.Look.page_state c.args.room.now q
  states q ne =
      other_states (g.R.Look.page_state c.fill.new.self) (g.R.Look.page_state c.fill-2.new.self) c.in_ok-page.page Filled c.fill-2.ensures.page_state q ne
      ∙ other_states (g.R.Look.page_state c.take.new.self) (g.R.Look.page_state c.fill.new.self) c.in_ok-page.page Filled c.fill.ensures.page_state q ne
      ∙ other_states (g.R.Look.page_state c.args.room.now) (g.R.Look.page_state c.take.new.self) c.in_ok-page.page Taken c.in_ok-page.ensures.ok q ne

  others : (q : ℕ) → q ≢ c.in_ok-page.page → g.R.Look.words c.fill-2.new.self q ≡ g.R.Look.words c.args.room.now q
  others q ne = c.fill-2.ensures.others q ne ∙ c.fill.ensures.others q ne ∙ ap (λ w. w q) c.in_ok-page.ensures.words

  level : g.R.Look.words c.fill-2.new.self c.in_ok-page.page 0 ≡ 0
  level =
      c.fill-2.ensures.place 0 ∙ other_word 0 1 (λ e. absurd (omega (arith, e))) (length c.args.items.now) (g.R.Look.words c.fill.new.self c.in_ok-page.page 0)
      ∙ c.fill.ensures.place 0 ∙ filled_word 0 0 (g.R.Look.words c.take.new.self c.in_ok-page.page 0)

  count : g.R.Look.words c.fill-2.new.self c.in_ok-page.page 1 ≡ length c.args.items.now
  count = c.fill-2.ensures.place 1 ∙ filled_word 1 (length c.args.items.now) (g.R.Look.words c.fill.new.self c.in_ok-page.page 1)

pub store_items-requires-clause-filled : goal.store_items-requires-clause-filled
store_items-requires-clause-filled g c = changed_state (g.R.Look.page_state c.fill.new.self) (g.R.Look.page_state c.fill-2.new.self) c.in_ok-page.page Filled c.fill-2.ensures.page_state

pub store_items-requires-clause-open : goal.store_items-requires-clause-open
store_items-requires-clause-open g c =
    subst (λ k. IsTrue (g.R.Look.is_open k)) (sym (c.fill-2.ensures.kept ∙ c.fill.ensures.kept ∙ c.in_ok-page.ensures.kept)) c.requires.open

pub returns-clause-ok : goal.returns-clause-ok
returns-clause-ok g c =
    let at = (goal.at.returns-clause-ok g c).After-fill-2 in
    let page = c.in_ok-page.page in
    let items = c.args.items.now in
    let w = g.R.Look.words c.store_items.new.room page in
    let only = c.store_items.ensures.only in
    let counted : w 1 ≡ length items = only.before 1 (omega arith) ∙ count g at in
    let stored : (k : ℕ) (d : Pair) → k < w 1 → IsStored w k (get_or items k d) = λ k d lt. c.store_items.ensures.items k d (omega (arith, lt, counted)) in
    let is_page : IsPage w = record { few = omega (arith, counted, c.requires.size.1); each = λ j lt. (stored j (record { key = []; payload = [] }) lt).1 } in
    written_at 0 (g.R.Look.words c.store_items.new.room) items page c.in_ok-page.ensures.page.0 is_page (only.before 0 (omega arith) ∙ level g at)
    (stored_list (λ (k : ℕ). item_at w (item_place k)) items (w 1) counted (λ k d lt. (stored k d lt).0)) c.requires.size.0

pub returns-clause-swaps : goal.returns-clause-swaps
returns-clause-swaps g c =
    let at = (goal.at.returns-clause-swaps g c).After-fill-2 in
    let page = c.in_ok-page.page in
    let only = c.store_items.ensures.only in
    written_swaps g.R.Look.kept g.R.Look.page_state g.R.Look.words page c.args.room.now c.store_items.new.room
    (only.kept ∙ c.fill-2.ensures.kept ∙ c.fill.ensures.kept ∙ c.in_ok-page.ensures.kept)
    c.in_ok-page.ensures.page.1
    (only.page_state page ∙ changed_state (g.R.Look.page_state c.fill.new.self) (g.R.Look.page_state c.fill-2.new.self) page Filled c.fill-2.ensures.page_state)
    (λ q ne. only.page_state q ∙ states g at q ne)
    (λ q ne. only.others q ne ∙ others g at q ne)

pub returns-clause-refused : goal.returns-clause-refused
returns-clause-refused g c =
    let at = (goal.at.returns-clause-refused g c).After-fill-2 in
    (tt, tt, (takes_one (g.R.Look.page_state c.args.room.now) (g.R.Look.page_state c.store_items.new.room) c.in_ok-page.page (λ q ne. c.store_items.ensures.only.page_state q ∙ states g at q ne), tt))
