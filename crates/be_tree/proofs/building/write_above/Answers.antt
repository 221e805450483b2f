use Rattle.std.proofs.Common.{◌≡◌, suc, ◌+◌, ◌/◌, All, List, ap, length, subst, sym, rules, arith}
use Rattle.be_tree.specs.declared.slot.Slot.{Slot}
use Rattle.be_tree.specs.Building.{HoldsFewer, IsShort, branches_of}
use Rattle.be_tree.specs.Slot.{IsReady, branch_to, pairs_of}
use Rattle.be_tree_reading.specs.Tree.{Becomes, IsWritten, pages_below, pairs_below}
use Rattle.be_tree_reading.proofs.Frame.{start_trans, swaps_start}
use Rattle.be_tree.proofs.Builds.Levels.{as_full, as_refused, risen_first, risen_next, risen_no_root, risen_ready, risen_root, risen_short}
use Rattle.be_tree.proofs.Shape.Parts.{on_err}
use Rattle.be_tree.proofs.building.write_above.Goals as goal

pub loop-alloc-init : goal.loop-alloc-init
loop-alloc-init g c = risen_first g.R.Look.kept g.R.Look.page_state g.R.Look.words c.args.leaves.items c.args.room.now c.requires.below c.requires.branches c.requires.some c.requires.full

pub loop-alloc-preserved : goal.loop-alloc-preserved
loop-alloc-preserved g c =
    let w = g.R.Look.words c.loop-alloc.room in
    let level = c.loop-alloc.level in
    let above = c.in_ok-slots.slots.items in
    let new = g.R.Look.words c.write_level.new.room in
    let is = c.deref.ensures.value in
    risen_next g.R.Look.kept g.R.Look.page_state g.R.Look.words c.args.leaves.items c.loop-alloc.slots.items level c.args.room.now c.loop-alloc.room c.loop-alloc.invariant (omega (arith, c.loop-alloc-test.true))
    above c.write_level.new.room
    (subst (λ (xs : List Slot). Becomes g.R.Look.kept g.R.Look.page_state g.R.Look.words (pages_below level w (branches_of w xs)) (pairs_below level w (branches_of w xs)) (suc level) (branches_of new above) c.loop-alloc.room c.write_level.new.room) is c.in_ok-slots.ensures.ok)
    c.in_ok-slots.ensures.branches (subst (λ (xs : List Slot). length above ≡ (length xs + 11) / 12) is c.in_ok-slots.ensures.size)
    (subst (λ (xs : List Slot). length (pages_below (suc level) new (branches_of new above)) ≡ length above + length (pages_below level w (branches_of w xs))) is c.in_ok-slots.ensures.pages)
    c.in_ok-slots.ensures.takes

pub returns-in_err-slots-clause-refused : goal.returns-in_err-slots-clause-refused
returns-in_err-slots-clause-refused g c =
    let leaves = c.args.leaves.items in
    let old = g.R.Look.words c.args.room.now in
    let w = g.R.Look.words c.loop-alloc.room in
    let slots = c.loop-alloc.slots.items in
    let level = c.loop-alloc.level in
    let risen = c.loop-alloc.invariant in
    let s = g.R.Look.page_state c.args.room.now in
    let t = g.R.Look.page_state c.loop-alloc.room in
    let u = g.R.Look.page_state c.write_level.new.room in (
      on_err _ (start_trans g.R.Look.kept g.R.Look.page_state g.R.Look.words c.args.room.now c.loop-alloc.room c.write_level.new.room
          (swaps_start g.R.Look.kept g.R.Look.page_state g.R.Look.words (pages_below 1 old (branches_of old leaves)) (pages_below level w (branches_of w slots)) c.args.room.now c.loop-alloc.room risen.becomes.swaps)
          c.in_err-slots.ensures.refused.0),
      as_refused c.from_residual.result (g.R.Room.full c.write_level.new.room) (HoldsFewer 0 ((length c.deref.result.now + 11) / 12) t u)
          (IsShort (length leaves) (length (pairs_below 1 old (branches_of old leaves))) s u)
          (λ fewer. risen_short g.R.Look.kept g.R.Look.page_state g.R.Look.words leaves slots level c.args.room.now c.loop-alloc.room risen (omega (arith, c.loop-alloc-test.true)) c.write_level.new.room
          (subst (λ (xs : List Slot). HoldsFewer 0 ((length xs + 11) / 12) t u) c.deref.ensures.value fewer)) (search rules),
    )

pub write_node-requires-clause-ready : goal.write_node-requires-clause-ready
write_node-requires-clause-ready g c = (
  subst (λ (xs : List Slot). All (IsReady (g.R.Look.page_state c.loop-alloc.room) (g.R.Look.words c.loop-alloc.room)) xs) (sym c.deref-2.ensures.value)
      (risen_ready g.R.Look.kept g.R.Look.page_state g.R.Look.words c.args.leaves.items c.loop-alloc.slots.items c.loop-alloc.level c.args.room.now c.loop-alloc.room c.loop-alloc.invariant),
  omega (arith, ap length c.new-nothing.ensures.key),
)

pub returns-in_err-top-clause-refused : goal.returns-in_err-top-clause-refused
returns-in_err-top-clause-refused g c =
    let leaves = c.args.leaves.items in
    let old = g.R.Look.words c.args.room.now in
    let w = g.R.Look.words c.loop-alloc.room in
    let slots = c.loop-alloc.slots.items in
    let level = c.loop-alloc.level in
    let risen = c.loop-alloc.invariant in
    let s = g.R.Look.page_state c.args.room.now in
    let u = g.R.Look.page_state c.write_node.new.room in (
      on_err _ (start_trans g.R.Look.kept g.R.Look.page_state g.R.Look.words c.args.room.now c.loop-alloc.room c.write_node.new.room
          (swaps_start g.R.Look.kept g.R.Look.page_state g.R.Look.words (pages_below 1 old (branches_of old leaves)) (pages_below level w (branches_of w slots)) c.args.room.now c.loop-alloc.room risen.becomes.swaps)
          c.in_err-top.ensures.refused.0),
      as_full c.from_residual-in_err-top.result (g.R.Room.full c.write_node.new.room) (IsShort (length leaves) (length (pairs_below 1 old (branches_of old leaves))) s u) (search rules)
          (risen_no_root g.R.Look.kept g.R.Look.page_state g.R.Look.words leaves slots level c.args.room.now c.loop-alloc.room risen c.write_node.new.room c.in_err-top.ensures.refused.2.1),
    )

pub returns-clause-ok : goal.returns-clause-ok
returns-clause-ok g c =
    let w = g.R.Look.words c.loop-alloc.room in
    let new = g.R.Look.words c.write_node.new.room in
    (risen_root g.R.Look.kept g.R.Look.page_state g.R.Look.words c.args.leaves.items c.loop-alloc.slots.items c.loop-alloc.level c.args.room.now c.loop-alloc.room c.loop-alloc.invariant c.new-nothing.result c.in_ok-top.top c.write_node.new.room
    c.new-nothing.ensures.key c.new-nothing.ensures.payload c.in_ok-top.ensures.small
    (subst (λ (xs : List Slot). IsWritten c.loop-alloc.level new (pairs_of w c.new-nothing.result xs) (branch_to new c.in_ok-top.top)) c.deref-2.ensures.value c.in_ok-top.ensures.ok) c.in_ok-top.ensures.swaps).0

pub returns-clause-fewest : goal.returns-clause-fewest
returns-clause-fewest g c =
    let w = g.R.Look.words c.loop-alloc.room in
    let new = g.R.Look.words c.write_node.new.room in
    (risen_root g.R.Look.kept g.R.Look.page_state g.R.Look.words c.args.leaves.items c.loop-alloc.slots.items c.loop-alloc.level c.args.room.now c.loop-alloc.room c.loop-alloc.invariant c.new-nothing.result c.in_ok-top.top c.write_node.new.room
    c.new-nothing.ensures.key c.new-nothing.ensures.payload c.in_ok-top.ensures.small
    (subst (λ (xs : List Slot). IsWritten c.loop-alloc.level new (pairs_of w c.new-nothing.result xs) (branch_to new c.in_ok-top.top)) c.deref-2.ensures.value c.in_ok-top.ensures.ok) c.in_ok-top.ensures.swaps).1
