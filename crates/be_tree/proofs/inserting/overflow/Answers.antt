use Rattle.std.proofs.Common.{◌≡◌, ◌∙◌, ℕ, ◌+◌, ◌<◌, ◌≤◌, [], ◌∷◌, ◌++◌, All, IfOk, IsTrue, List, take, drop, length, sym, subst, ap, refl, arith, rules}
use Rattle.std.proofs.lemmas.Result.{IfOk-weaker}
use Rattle.be_tree.specs.declared.path.Step.{Step}
use Rattle.be_tree.specs.declared.slot.Slot.TheVariants.{New}
use Rattle.be_tree.specs.declared.splicing.Cut.{Cut}
use Rattle.be_tree_reading.specs.Key.{put}
use Rattle.be_tree_reading.specs.Page.{items_of, level_of}
use Rattle.be_tree.specs.Path.{IsInHand, whole}
use Rattle.be_tree.specs.Slot.{IsReady, loaded, pair_of, pairs_of}
use Rattle.be_tree.specs.Splicing.{spliced}
use Rattle.be_tree_reading.specs.Tree.{BecomesTree, pages, pairs, pairs_below}
use Rattle.be_tree.proofs.Balances.{all_spliced, map_spliced}
use Rattle.be_tree_reading.proofs.Frame.{readable_kept}
use Rattle.be_tree.proofs.Leaves.{PutsAt, hand_tree, leaf_in_hand, puts_in}
use Rattle.be_tree_reading.proofs.Items.{items_count}
use Rattle.be_tree.proofs.Nodes.Slots.{loaded_pairs, loaded_ready}
use Rattle.be_tree_reading.proofs.Putting.Puts.{rising_put}
use Rattle.be_tree.proofs.Shape.Parts.{all_one}
use Rattle.be_tree.specs.Counting.{most_taken}
use Rattle.be_tree.proofs.Sizes.Refusals.{refuses_read}
use Rattle.be_tree.proofs.inserting.overflow.Given.{Over}
use Rattle.be_tree.proofs.inserting.overflow.Goals as goal
use Rattle.be_tree.proofs.inserting.overflow.Goals.{After-insert, Start}

puts : (g : Over) (c : Start g) → PutsAt (g.R.Look.page_state c.args.room.now) (g.R.Look.words c.args.room.now) c.args.root c.args.path.now c.args.pair.now (record { at = c.args.at; gone = 0 })
puts g c = puts_in (g.R.Look.page_state c.args.room.now) (g.R.Look.words c.args.room.now) c.args.root c.args.path.now c.args.pair.now c.args.at c.requires.path.leads c.requires.path.place_is

pub fill_slots-requires-clause-readable : goal.fill_slots-requires-clause-readable
fill_slots-requires-clause-readable g c = readable_kept (g.R.Look.page_state c.args.room.now c.args.path.now.leaf) (puts g (goal.at.fill_slots-requires-clause-readable g c).Start).leafy.tree.page_in_use

pub fill_slots-requires-clause-page : goal.fill_slots-requires-clause-page
fill_slots-requires-clause-page g c = (puts g (goal.at.fill_slots-requires-clause-page g c).Start).leafy.tree.node.is_page

pub insert-requires : goal.insert-requires
insert-requires g c =
    let in_bounds : c.args.at ≤ length c.fill_slots.new.slots.items = omega (arith, (puts g (goal.at.insert-requires g c).Start).in_range, c.fill_slots.ensures.len, items_count (g.R.Look.words c.args.room.now c.args.path.now.leaf)) in
    let room : length c.fill_slots.new.slots.items < 24 = omega (arith, c.fill_slots.ensures.few) in
    search (rules, in_bounds, room)

-- the leaf's slots, with the new pair among them
module _ (g : Over) (c : After-insert g) (at : PutsAt (g.R.Look.page_state c.args.room.now) (g.R.Look.words c.args.room.now) c.args.root c.args.path.now c.args.pair.now (record { at = c.args.at; gone = 0 })) where
  slots_are : c.insert.new.self.items ≡ spliced (record { at = c.args.at; gone = 0 }) (loaded c.args.path.now.leaf (g.R.Look.words c.args.room.now c.args.path.now.leaf 1)) (New ∷ [])
  slots_are =
      let e : c.args.at ≡ c.args.at + 0 = omega arith in
      c.insert.ensures.items ∙ ap (λ n. take c.args.at c.fill_slots.new.slots.items ++ (New ∷ drop n c.fill_slots.new.slots.items)) e
      ∙ ap (λ xs. take c.args.at xs ++ (New ∷ drop (c.args.at + 0) xs)) c.fill_slots.ensures.slots

  pairs_are : pairs_of (g.R.Look.words c.args.room.now) c.args.pair.now c.insert.new.self.items ≡ put c.args.pair.now (items_of (g.R.Look.words c.args.room.now c.args.path.now.leaf))
  pairs_are =
      let words = g.R.Look.words c.args.room.now in
      let cut : Cut = record { at = c.args.at; gone = 0 } in
      ap (pairs_of words c.args.pair.now) slots_are ∙ map_spliced (pair_of words c.args.pair.now) cut (loaded c.args.path.now.leaf (words c.args.path.now.leaf 1)) (New ∷ [])
      ∙ ap (λ xs. spliced cut xs (c.args.pair.now ∷ [])) (loaded_pairs words c.args.pair.now c.args.path.now.leaf (words c.args.path.now.leaf 1) refl) ∙ sym at.is

  are_ready : All (IsReady (g.R.Look.page_state c.args.room.now) (g.R.Look.words c.args.room.now)) c.insert.new.self.items
  are_ready =
      let page_state = g.R.Look.page_state c.args.room.now in
      let words = g.R.Look.words c.args.room.now in
      let leaf = c.args.path.now.leaf in
      subst (All (IsReady page_state words)) (sym slots_are)
      (all_spliced (IsReady page_state words) (record { at = c.args.at; gone = 0 }) (loaded leaf (words leaf 1)) (New ∷ [])
      (loaded_ready page_state words leaf (words leaf 1) refl (readable_kept (page_state leaf) at.leafy.tree.page_in_use) at.leafy.tree.node.is_page) (all_one (IsReady page_state words) New tt))

  fit : All (λ x. length x.key ≤ 264) (put c.args.pair.now (items_of (g.R.Look.words c.args.room.now c.args.path.now.leaf)))
  fit =
      let items = items_of (g.R.Look.words c.args.room.now c.args.path.now.leaf) in
      subst (All (λ x. length x.key ≤ 264)) (sym at.is)
      (all_spliced (λ x. length x.key ≤ 264) (record { at = c.args.at; gone = 0 }) items (c.args.pair.now ∷ []) at.leafy.tree.below.keys_fit (all_one (λ x. length x.key ≤ 264) c.args.pair.now c.requires.path.key_fits))

  hand : IsInHand g.R.Look.kept g.R.Look.page_state g.R.Look.words c.args.root c.args.path.now.above.items c.args.path.now.leaf c.args.pair.now c.insert.new.self.items (level_of (g.R.Look.words c.args.room.now c.args.path.now.leaf)) c.args.room.now c.fill_slots.new.look
  hand =
      leaf_in_hand g.R.Look.kept g.R.Look.page_state g.R.Look.words (put c.args.pair.now) (rising_put c.args.pair.now) c.args.root c.args.path.now.above.items c.args.path.now.leaf c.args.pair.now c.insert.new.self.items c.args.room.now c.fill_slots.new.look
      c.fill_slots.ensures.unchanged c.requires.path.leads.way c.requires.path.leads.is_leaf at.leafy pairs_are fit are_ready c.requires.path.key_fits

  tree : (new_root : ℕ) (new : g.row.R.Denot) → BecomesTree g.R.Look.kept g.R.Look.page_state g.R.Look.words (pages (g.R.Look.words c.args.room.now) c.args.root)
      (whole (g.R.Look.words c.args.room.now) c.args.path.now.above.items (pairs_below (level_of (g.R.Look.words c.args.room.now c.args.path.now.leaf)) (g.R.Look.words c.fill_slots.new.look) (pairs_of (g.R.Look.words c.fill_slots.new.look) c.args.pair.now c.insert.new.self.items))) new_root c.args.room.now new
      → BecomesTree g.R.Look.kept g.R.Look.page_state g.R.Look.words (pages (g.R.Look.words c.args.room.now) c.args.root) (put c.args.pair.now (pairs (g.R.Look.words c.args.room.now) c.args.root)) new_root c.args.room.now new
  tree =
      hand_tree g.R.Look.kept g.R.Look.page_state g.R.Look.words (put c.args.pair.now) (rising_put c.args.pair.now) c.args.root c.args.path.now.above.items c.args.path.now.leaf c.args.pair.now c.insert.new.self.items c.args.room.now c.fill_slots.new.look
      c.fill_slots.ensures.unchanged c.requires.path.leads.way c.requires.path.leads.is_leaf at.leafy pairs_are fit are_ready c.requires.path.key_fits

pub settle-requires-clause-in_hand : goal.settle-requires-clause-in_hand
settle-requires-clause-in_hand g c =
    let start = (goal.at.settle-requires-clause-in_hand g c).Start in
    let at = (goal.at.settle-requires-clause-in_hand g c).After-insert in (
      c.args.room.now,
      subst (λ xs. IsInHand g.R.Look.kept g.R.Look.page_state g.R.Look.words c.args.root xs c.args.path.now.leaf c.args.pair.now c.insert.new.self.items (level_of (g.R.Look.words c.args.room.now c.args.path.now.leaf)) c.args.room.now c.fill_slots.new.look)
          (sym c.deref.ensures.0) (hand g at (puts g start)),
    )

pub settle-requires-clause-few : goal.settle-requires-clause-few
settle-requires-clause-few g c = omega (arith, c.insert.ensures.len, c.fill_slots.ensures.len, c.requires.full)

pub settle-requires-clause-some : goal.settle-requires-clause-some
settle-requires-clause-some g c = λ some. omega (arith, c.insert.ensures.len, c.fill_slots.ensures.len, c.requires.full)

pub settle-requires-clause-open : goal.settle-requires-clause-open
settle-requires-clause-open g c = subst (λ k. IsTrue (g.R.Look.is_open k)) (sym c.fill_slots.ensures.unchanged.kept) c.requires.open

pub returns-clause-ok : goal.returns-clause-ok
returns-clause-ok g c =
    let start = (goal.at.returns-clause-ok g c).Start in
    let at = (goal.at.returns-clause-ok g c).After-insert in
    let words = g.R.Look.words c.args.room.now in
    let leaf = c.args.path.now.leaf in
    let pair = c.args.pair.now in
    let read = c.fill_slots.new.look in
    let slots = c.insert.new.self.items in
    let becomes = λ (xs : List Step) (new : ℕ). (begin : g.row.R.Denot) → IsInHand g.R.Look.kept g.R.Look.page_state g.R.Look.words c.args.root xs leaf pair slots (level_of (g.R.Look.words begin leaf)) begin read
    → BecomesTree g.R.Look.kept g.R.Look.page_state g.R.Look.words (pages (g.R.Look.words begin) c.args.root) (whole (g.R.Look.words begin) xs (pairs_below (level_of (g.R.Look.words begin leaf)) (g.R.Look.words read) (pairs_of (g.R.Look.words read) pair slots))) new begin c.settle.new.room in
    IfOk-weaker c.settle.result (becomes c.args.path.now.above.items) (λ new. BecomesTree g.R.Look.kept g.R.Look.page_state g.R.Look.words (pages words c.args.root) (put pair (pairs words c.args.root)) new c.args.room.now c.settle.new.room)
    (λ new h. tree g at (puts g start) new c.settle.new.room (h c.args.room.now (hand g at (puts g start))))
    (subst (λ xs. IfOk c.settle.result (becomes xs)) c.deref.ensures.0 c.settle.ensures.ok)

pub returns-clause-refused : goal.returns-clause-refused
returns-clause-refused g c =
    refuses_read g.R.Look.kept g.R.Look.page_state g.R.Look.words g.R.Room.full (most_taken (length c.deref.result.now)) (most_taken (length c.args.path.now.above.items)) c.settle.result c.args.room.now c.fill_slots.new.look c.settle.new.room c.fill_slots.ensures.unchanged (omega (arith, ap length c.deref.ensures.0)) c.settle.ensures.refused
