use Rattle.std.proofs.Common.{◌≡◌, ◌∙◌, ℕ, suc, ◌-◌, ◌<◌, ◌++◌, IsTrue, map, ap, sym, subst, arith, rules}
use Rattle.std.specs.List.{range_with_len}
use Rattle.be_pages.specs.Pages.{IsUnchanged, is_readable}
use Rattle.be_tree.specs.declared.slot.Slot.TheVariants.{At}
use Rattle.be_tree_reading.specs.Page.{IsPage, item_place}
use Rattle.be_tree.specs.Settling.{IsChildInHand, beside}
use Rattle.be_tree.specs.Slot.{pairs_of}
use Rattle.be_tree_reading.specs.Tree.{pairs_below}
use Rattle.be_tree_reading.proofs.Frame.{readable_kept, start_trans, unchanged_start, unchanged_trans}
use Rattle.be_tree.proofs.Settles.{TwoInHand, above_kept, above_names, above_page, above_same, before_count, before_in_hand, before_page, before_readable}
use Rattle.be_tree.proofs.Shape.Parts.{on_err}
use Rattle.be_tree.proofs.Sizes.InHand.{takes_fewer_then, takes_same, takes_then}
use Rattle.be_tree.proofs.Sizes.Refusals.{takes_on}
use Rattle.be_tree.proofs.settling.settle_left.Given.{Over}
use Rattle.be_tree.proofs.settling.settle_left.Goals as goal
use Rattle.be_tree.proofs.settling.settle_left.Goals.{After-deref, Start}

-- the branch before the child's is one of the page's branches
in_range : (g : Over) (c : Start g) → c.args.step.at - 1 < g.R.Look.words c.args.room.now c.args.step.page 1
in_range g c =
    let h = c.requires.child.1 in
    omega (arith, h.in_range, ap (λ (w : ℕ → ℕ). w 1) (above_same g.R.Look.kept g.R.Look.page_state g.R.Look.words c.args.step c.args.was c.args.node.level c.args.node.pair.now c.args.node.slots.now c.requires.child.0 c.args.room.now h))

pub overflow_sub-at : goal.overflow_sub-at
overflow_sub-at g c = omega (arith, c.requires.beyond)

pub overflow_mul-at : goal.overflow_mul-at
overflow_mul-at g c = omega (arith, c.requires.child.1.in_range, c.requires.child.1.tree.node.is_page.few)

pub overflow_add-at : goal.overflow_add-at
overflow_add-at g c = omega (arith, c.requires.child.1.in_range, c.requires.child.1.tree.node.is_page.few)

pub child_at-left-requires-clause-readable : goal.child_at-left-requires-clause-readable
child_at-left-requires-clause-readable g c =
    readable_kept (g.R.Look.page_state c.args.room.now c.args.step.page) (above_kept g.R.Look.kept g.R.Look.page_state g.R.Look.words c.args.step c.args.was c.args.node.level c.args.node.pair.now c.args.node.slots.now c.requires.child.0 c.args.room.now c.requires.child.1)

pub child_at-left-requires-clause-in_page : goal.child_at-left-requires-clause-in_page
child_at-left-requires-clause-in_page g c = omega (arith, c.requires.child.1.in_range, c.requires.child.1.tree.node.is_page.few)

pub child_at-left-requires-clause-item : goal.child_at-left-requires-clause-item
child_at-left-requires-clause-item g c =
    (above_page g.R.Look.kept g.R.Look.page_state g.R.Look.words c.args.step c.args.was c.args.node.level c.args.node.pair.now c.args.node.slots.now c.requires.child.0 c.args.room.now c.requires.child.1).each (c.args.step.at - 1) (in_range g (goal.at.child_at-left-requires-clause-item g c).Start)

pub child_at-left-requires-clause-names_page : goal.child_at-left-requires-clause-names_page
child_at-left-requires-clause-names_page g c =
    above_names g.R.Look.kept g.R.Look.page_state g.R.Look.words c.args.step c.args.was c.args.node.level c.args.node.pair.now c.args.node.slots.now c.requires.child.0 c.args.room.now c.requires.child.1 (c.args.step.at - 1) (in_range g (goal.at.child_at-left-requires-clause-names_page g c).Start)

pub fill_slots-requires-clause-readable : goal.fill_slots-requires-clause-readable
fill_slots-requires-clause-readable g c =
    subst (λ s. IsTrue (is_readable (s c.child_at-left.result))) (sym c.child_at-left.ensures.unchanged.page_state)
    (before_readable g.R.Look.kept g.R.Look.page_state g.R.Look.words c.args.step c.args.was c.args.node.level c.args.node.pair.now c.args.node.slots.now c.requires.child.0 c.args.room.now c.requires.child.1
    c.args.node.slots.now c.args.node.slots.now c.child_at-left.new.look c.child_at-left.ensures.unchanged (c.args.step.at - 1) c.child_at-left.result (omega (arith, c.requires.beyond)) c.child_at-left.ensures.child)

pub fill_slots-requires-clause-page : goal.fill_slots-requires-clause-page
fill_slots-requires-clause-page g c =
    subst (λ (w : ℕ → ℕ → ℕ). IsPage (w c.child_at-left.result)) (sym c.child_at-left.ensures.unchanged.words)
    (before_page g.R.Look.kept g.R.Look.page_state g.R.Look.words c.args.step c.args.was c.args.node.level c.args.node.pair.now c.args.node.slots.now c.requires.child.0 c.args.room.now c.requires.child.1
    c.args.node.slots.now c.args.node.slots.now c.child_at-left.new.look c.child_at-left.ensures.unchanged (c.args.step.at - 1) c.child_at-left.result (omega (arith, c.requires.beyond)) c.child_at-left.ensures.child)

pub append-requires : goal.append-requires
append-requires g c =
    let count = ap (λ (w : ℕ → ℕ → ℕ). w c.child_at-left.result 1) c.child_at-left.ensures.unchanged.words in
    let is = ap (λ p. g.R.Look.words c.args.room.now p 1) c.child_at-left.ensures.child in
    omega (arith, c.fill_slots.ensures.len, count, is, c.requires.room)

same : (g : Over) (c : After-deref g) → IsUnchanged g.R.Look.kept g.R.Look.page_state g.R.Look.words c.args.room.now c.fill_slots.new.look
same g c = unchanged_trans g.R.Look.kept g.R.Look.page_state g.R.Look.words c.args.room.now c.child_at-left.new.look c.fill_slots.new.look c.child_at-left.ensures.unchanged c.fill_slots.ensures.unchanged

loaded : (g : Over) (c : After-deref g) → c.fill_slots.new.slots.items ≡ map (λ j. At (item_place j) c.child_at-left.result) (range_with_len 0 (g.R.Look.words c.args.room.now c.child_at-left.result 1))
loaded g c = subst (λ (w : ℕ → ℕ → ℕ). c.fill_slots.new.slots.items ≡ map (λ j. At (item_place j) c.child_at-left.result) (range_with_len 0 (w c.child_at-left.result 1))) c.child_at-left.ensures.unchanged.words c.fill_slots.ensures.slots

whole : (g : Over) (c : After-deref g) → c.deref.result.now ≡ c.fill_slots.new.slots.items ++ c.args.node.slots.now
whole g c = c.deref.ensures.0 ∙ c.append.ensures

two : (g : Over) (c : After-deref g) (start : g.row.R.Denot) → IsChildInHand g.R.Look.kept g.R.Look.page_state g.R.Look.words c.args.step c.args.was c.args.node.level c.args.node.pair.now c.args.node.slots.now start c.args.room.now
    → TwoInHand g.R.Look.kept g.R.Look.page_state g.R.Look.words c.args.step.page c.args.node.level (c.args.step.at - 1) c.child_at-left.result c.args.was c.args.node.pair.now
    (beside (suc c.args.node.level) (g.R.Look.words start) c.args.step (pairs_below c.args.node.level (g.R.Look.words c.args.room.now) (pairs_of (g.R.Look.words c.args.room.now) c.args.node.pair.now c.args.node.slots.now))) c.deref.result.now start c.fill_slots.new.look
two g c start h =
    before_in_hand g.R.Look.kept g.R.Look.page_state g.R.Look.words c.args.step c.args.was c.args.node.level c.args.node.pair.now c.args.node.slots.now start c.args.room.now h
    c.fill_slots.new.slots.items c.deref.result.now c.fill_slots.new.look (same g c) (c.args.step.at - 1) c.child_at-left.result (omega (arith, c.requires.beyond)) c.child_at-left.ensures.child (loaded g c) (whole g c)

pub pack_two-requires-clause-node : goal.pack_two-requires-clause-node
pack_two-requires-clause-node g c = (two g (goal.at.pack_two-requires-clause-node g c).After-deref c.requires.child.0 c.requires.child.1).can

pub pack_two-requires-clause-size : goal.pack_two-requires-clause-size
pack_two-requires-clause-size g c =
    let at = (goal.at.pack_two-requires-clause-size g c).After-deref in
    let h = c.requires.child.1 in
    let least = before_count g.R.Look.kept g.R.Look.page_state g.R.Look.words c.args.step c.args.was c.args.node.level c.args.node.pair.now c.args.node.slots.now c.requires.child.0 c.args.room.now h
    c.fill_slots.new.slots.items c.deref.result.now c.fill_slots.new.look (same g at) (c.args.step.at - 1) c.child_at-left.result (omega (arith, c.requires.beyond)) c.child_at-left.ensures.child (loaded g at) (whole g at) in
    (omega (arith, least), c.deref.ensures.1)

pub pack_two-requires-clause-two : goal.pack_two-requires-clause-two
pack_two-requires-clause-two g c = (two g (goal.at.pack_two-requires-clause-two g c).After-deref c.requires.child.0 c.requires.child.1).are_apart

pub pack_two-requires-clause-open : goal.pack_two-requires-clause-open
pack_two-requires-clause-open g c = subst (λ k. IsTrue (g.R.Look.is_open k)) (sym (same g (goal.at.pack_two-requires-clause-open g c).After-deref).kept) c.requires.open

pub returns-clause-ok : goal.returns-clause-ok
returns-clause-ok g c = λ start h.
    let at = (goal.at.returns-clause-ok g c).After-deref in
    let new = c.pack_two.new.room in
    let given = c.args.node.pair.now in
    let branches = c.in_ok-branches.branches.items in
    record {
      in_range = omega (arith, h.in_range, c.requires.beyond);
      gone = (omega arith, omega arith);
      some = c.in_ok-branches.ensures.some;
      before = omega arith;
      branches = c.in_ok-branches.ensures.branches;
      becomes = (two g at start h).settled (pairs_of (g.R.Look.words new) given branches) new c.in_ok-branches.ensures.ok;
    }

pub returns-in_err-branches-clause-refused : goal.returns-in_err-branches-clause-refused
returns-in_err-branches-clause-refused g c =
    let at = (goal.at.returns-in_err-branches-clause-refused g c).After-deref in
    (on_err _ (start_trans g.R.Look.kept g.R.Look.page_state g.R.Look.words c.args.room.now c.fill_slots.new.look c.pack_two.new.room (unchanged_start g.R.Look.kept g.R.Look.page_state g.R.Look.words c.args.room.now c.fill_slots.new.look (same g at)) c.in_err-branches.ensures.refused.0), search rules, takes_on 2 _ (g.R.Look.page_state c.args.room.now) (g.R.Look.page_state c.pack_two.new.room) (takes_fewer_then 0 2 (g.R.Look.page_state c.args.room.now) (g.R.Look.page_state c.fill_slots.new.look) (g.R.Look.page_state c.pack_two.new.room) (takes_same (g.R.Look.page_state c.args.room.now) (g.R.Look.page_state c.fill_slots.new.look) (same g at).page_state) c.in_err-branches.ensures.refused.2.1))

pub returns-clause-refused : goal.returns-clause-refused
returns-clause-refused g c =
    let at = (goal.at.returns-clause-refused g c).After-deref in
    (tt, tt, (takes_then 0 2 (g.R.Look.page_state c.args.room.now) (g.R.Look.page_state c.fill_slots.new.look) (g.R.Look.page_state c.pack_two.new.room) (takes_same (g.R.Look.page_state c.args.room.now) (g.R.Look.page_state c.fill_slots.new.look) (same g at).page_state) c.in_ok-branches.ensures.refused.2.0, tt))
