use Rattle.std.proofs.Common.{◌≡◌, ◌∙◌, ℕ, suc, ◌+◌, ◌≤◌, [], ◌++◌, All, IfOk, IsTrue, List, take, drop, length, sym, subst, ap, refl, arith}
use Rattle.std.proofs.lemmas.Result.{IfOk-weaker}
use Rattle.be_tree.specs.declared.path.Step.{Step}
use Rattle.be_tree.specs.declared.splicing.Cut.{Cut}
use Rattle.be_tree_reading.specs.Key.{without}
use Rattle.be_tree_reading.specs.Page.{items_of, level_of}
use Rattle.be_tree.specs.Path.{IsInHand, whole}
use Rattle.be_tree.specs.Slot.{IsReady, loaded, pair_of, pairs_of}
use Rattle.be_tree.specs.Splicing.{spliced}
use Rattle.be_tree_reading.specs.Tree.{BecomesTree, pages, pairs, pairs_below}
use Rattle.be_tree.proofs.Balances.{all_spliced, minimum_six, map_spliced}
use Rattle.be_tree_reading.proofs.Frame.{readable_kept}
use Rattle.be_tree.proofs.Leaves.{TakesAt, hand_tree, leaf_in_hand, takes_at}
use Rattle.be_tree_reading.proofs.Items.{items_count}
use Rattle.be_tree.proofs.Nodes.Slots.{loaded_pairs, loaded_ready}
use Rattle.be_tree.proofs.Removing.Removes.{rising_without}
use Rattle.be_tree.specs.Counting.{most_taken}
use Rattle.be_tree.proofs.Sizes.Refusals.{refuses_read}
use Rattle.be_tree.proofs.taking.underflow.Given.{Over}
use Rattle.be_tree.proofs.taking.underflow.Goals as goal
use Rattle.be_tree.proofs.taking.underflow.Goals.{After-remove, Start}

takes : (g : Over) (c : Start g) → TakesAt (g.R.Look.page_state c.args.room.now) (g.R.Look.words c.args.room.now) c.args.root c.args.path.now c.args.key.now c.args.at
takes g c = takes_at (g.R.Look.page_state c.args.room.now) (g.R.Look.words c.args.room.now) c.args.root c.args.path.now c.args.key.now c.args.at c.requires.path.leads c.requires.path.place_is

pub fill_slots-requires-clause-readable : goal.fill_slots-requires-clause-readable
fill_slots-requires-clause-readable g c = readable_kept (g.R.Look.page_state c.args.room.now c.args.path.now.leaf) (takes g (goal.at.fill_slots-requires-clause-readable g c).Start).leafy.tree.page_in_use

pub fill_slots-requires-clause-page : goal.fill_slots-requires-clause-page
fill_slots-requires-clause-page g c = (takes g (goal.at.fill_slots-requires-clause-page g c).Start).leafy.tree.node.is_page

pub remove-requires : goal.remove-requires
remove-requires g c = omega (arith, (takes g (goal.at.remove-requires g c).Start).in_range, c.fill_slots.ensures.len, items_count (g.R.Look.words c.args.room.now c.args.path.now.leaf))

-- the leaf's slots without the item
module _ (g : Over) (c : After-remove g) (at : TakesAt (g.R.Look.page_state c.args.room.now) (g.R.Look.words c.args.room.now) c.args.root c.args.path.now c.args.key.now c.args.at) where
  slots_are : c.remove.new.self.items ≡ spliced (record { at = c.args.at; gone = 1 }) (loaded c.args.path.now.leaf (g.R.Look.words c.args.room.now c.args.path.now.leaf 1)) []
  slots_are =
      let e : suc c.args.at ≡ c.args.at + 1 = omega arith in
      c.remove.ensures.items ∙ ap (λ n. take c.args.at c.fill_slots.new.slots.items ++ drop n c.fill_slots.new.slots.items) e
      ∙ ap (λ xs. take c.args.at xs ++ drop (c.args.at + 1) xs) c.fill_slots.ensures.slots

  pairs_are : pairs_of (g.R.Look.words c.args.room.now) c.new-none.result c.remove.new.self.items ≡ without c.args.key.now (items_of (g.R.Look.words c.args.room.now c.args.path.now.leaf))
  pairs_are =
      let words = g.R.Look.words c.args.room.now in
      let cut : Cut = record { at = c.args.at; gone = 1 } in
      ap (pairs_of words c.new-none.result) slots_are ∙ map_spliced (pair_of words c.new-none.result) cut (loaded c.args.path.now.leaf (words c.args.path.now.leaf 1)) []
      ∙ ap (λ xs. spliced cut xs []) (loaded_pairs words c.new-none.result c.args.path.now.leaf (words c.args.path.now.leaf 1) refl) ∙ sym at.is

  are_ready : All (IsReady (g.R.Look.page_state c.args.room.now) (g.R.Look.words c.args.room.now)) c.remove.new.self.items
  are_ready =
      let page_state = g.R.Look.page_state c.args.room.now in
      let words = g.R.Look.words c.args.room.now in
      let leaf = c.args.path.now.leaf in
      subst (All (IsReady page_state words)) (sym slots_are)
      (all_spliced (IsReady page_state words) (record { at = c.args.at; gone = 1 }) (loaded leaf (words leaf 1)) []
      (loaded_ready page_state words leaf (words leaf 1) refl (readable_kept (page_state leaf) at.leafy.tree.page_in_use) at.leafy.tree.node.is_page) (λ i d lt. absurd (omega (arith, lt))))

  fit : All (λ x. length x.key ≤ 264) (without c.args.key.now (items_of (g.R.Look.words c.args.room.now c.args.path.now.leaf)))
  fit =
      let items = items_of (g.R.Look.words c.args.room.now c.args.path.now.leaf) in
      subst (All (λ x. length x.key ≤ 264)) (sym at.is)
      (all_spliced (λ x. length x.key ≤ 264) (record { at = c.args.at; gone = 1 }) items [] at.leafy.tree.below.keys_fit (λ i d lt. absurd (omega (arith, lt))))

  hand : IsInHand g.R.Look.kept g.R.Look.page_state g.R.Look.words c.args.root c.args.path.now.above.items c.args.path.now.leaf c.new-none.result c.remove.new.self.items (level_of (g.R.Look.words c.args.room.now c.args.path.now.leaf)) c.args.room.now c.fill_slots.new.look
  hand =
      leaf_in_hand g.R.Look.kept g.R.Look.page_state g.R.Look.words (without c.args.key.now) (rising_without c.args.key.now) c.args.root c.args.path.now.above.items c.args.path.now.leaf c.new-none.result c.remove.new.self.items c.args.room.now c.fill_slots.new.look
      c.fill_slots.ensures.unchanged c.requires.path.leads.way c.requires.path.leads.is_leaf at.leafy pairs_are fit are_ready (omega (arith, ap length c.new-none.ensures.key))

  tree : (new_root : ℕ) (new : g.row.R.Denot) → BecomesTree g.R.Look.kept g.R.Look.page_state g.R.Look.words (pages (g.R.Look.words c.args.room.now) c.args.root)
      (whole (g.R.Look.words c.args.room.now) c.args.path.now.above.items (pairs_below (level_of (g.R.Look.words c.args.room.now c.args.path.now.leaf)) (g.R.Look.words c.fill_slots.new.look) (pairs_of (g.R.Look.words c.fill_slots.new.look) c.new-none.result c.remove.new.self.items))) new_root c.args.room.now new
      → BecomesTree g.R.Look.kept g.R.Look.page_state g.R.Look.words (pages (g.R.Look.words c.args.room.now) c.args.root) (without c.args.key.now (pairs (g.R.Look.words c.args.room.now) c.args.root)) new_root c.args.room.now new
  tree =
      hand_tree g.R.Look.kept g.R.Look.page_state g.R.Look.words (without c.args.key.now) (rising_without c.args.key.now) c.args.root c.args.path.now.above.items c.args.path.now.leaf c.new-none.result c.remove.new.self.items c.args.room.now c.fill_slots.new.look
      c.fill_slots.ensures.unchanged c.requires.path.leads.way c.requires.path.leads.is_leaf at.leafy pairs_are fit are_ready (omega (arith, ap length c.new-none.ensures.key))

pub settle-requires-clause-in_hand : goal.settle-requires-clause-in_hand
settle-requires-clause-in_hand g c =
    let start = (goal.at.settle-requires-clause-in_hand g c).Start in
    let at = (goal.at.settle-requires-clause-in_hand g c).After-remove in (
      c.args.room.now,
      subst (λ xs. IsInHand g.R.Look.kept g.R.Look.page_state g.R.Look.words c.args.root xs c.args.path.now.leaf c.new-none.result c.remove.new.self.items (level_of (g.R.Look.words c.args.room.now c.args.path.now.leaf)) c.args.room.now c.fill_slots.new.look)
          (sym c.deref.ensures.0) (hand g at (takes g start)),
    )

pub settle-requires-clause-few : goal.settle-requires-clause-few
settle-requires-clause-few g c = omega (arith, c.remove.ensures.len, c.fill_slots.ensures.few)

pub settle-requires-clause-some : goal.settle-requires-clause-some
settle-requires-clause-some g c = λ some.
    let at = takes g (goal.at.settle-requires-clause-some g c).Start in
    omega (arith, c.remove.ensures.len, c.fill_slots.ensures.len, at.leafy.tree.node.enough, items_count (g.R.Look.words c.args.room.now c.args.path.now.leaf), minimum_six c.args.path.now.above.items 0 (omega (arith, some, ap length c.deref.ensures.0)))

pub settle-requires-clause-open : goal.settle-requires-clause-open
settle-requires-clause-open g c = subst (λ k. IsTrue (g.R.Look.is_open k)) (sym c.fill_slots.ensures.unchanged.kept) c.requires.open

pub returns-clause-ok : goal.returns-clause-ok
returns-clause-ok g c =
    let start = (goal.at.returns-clause-ok g c).Start in
    let at = (goal.at.returns-clause-ok g c).After-remove in
    let words = g.R.Look.words c.args.room.now in
    let leaf = c.args.path.now.leaf in
    let pair = c.new-none.result in
    let key = c.args.key.now in
    let read = c.fill_slots.new.look in
    let slots = c.remove.new.self.items in
    let becomes = λ (xs : List Step) (new : ℕ). (begin : g.row.R.Denot) → IsInHand g.R.Look.kept g.R.Look.page_state g.R.Look.words c.args.root xs leaf pair slots (level_of (g.R.Look.words begin leaf)) begin read
    → BecomesTree g.R.Look.kept g.R.Look.page_state g.R.Look.words (pages (g.R.Look.words begin) c.args.root) (whole (g.R.Look.words begin) xs (pairs_below (level_of (g.R.Look.words begin leaf)) (g.R.Look.words read) (pairs_of (g.R.Look.words read) pair slots))) new begin c.settle.new.room in
    IfOk-weaker c.settle.result (becomes c.args.path.now.above.items) (λ new. BecomesTree g.R.Look.kept g.R.Look.page_state g.R.Look.words (pages words c.args.root) (without key (pairs words c.args.root)) new c.args.room.now c.settle.new.room)
    (λ new h. tree g at (takes g start) new c.settle.new.room (h c.args.room.now (hand g at (takes g start))))
    (subst (λ xs. IfOk c.settle.result (becomes xs)) c.deref.ensures.0 c.settle.ensures.ok)

pub returns-clause-refused : goal.returns-clause-refused
returns-clause-refused g c =
    refuses_read g.R.Look.kept g.R.Look.page_state g.R.Look.words g.R.Room.full (most_taken (length c.deref.result.now)) (most_taken (length c.args.path.now.above.items)) c.settle.result c.args.room.now c.fill_slots.new.look c.settle.new.room c.fill_slots.ensures.unchanged (omega (arith, ap length c.deref.ensures.0)) c.settle.ensures.refused
