use Rattle.std.proofs.Common.{◌≡◌, ◌+◌, ◌-◌, ◌/◌, ◌≤◌, [], ◌∷◌, suc, length, take, ap, sym, subst, ◌∙◌, inl, inr, rules, arith}
use Rattle.std.proofs.lemmas.List.{length-append}
use Rattle.be_tree.specs.declared.slot.Slot.TheVariants.{Branch}
use Rattle.be_tree.specs.Building.{HoldsFewer, branches_of}
use Rattle.be_tree_reading.specs.Tree.{pages_below}
use Rattle.be_tree_reading.proofs.Frame.{start_trans, swaps_start}
use Rattle.be_tree.proofs.Builds.Levels.{as_full}
use Rattle.be_tree.proofs.Builds.Parts.{IsPart, all_pages, all_parts, next_page, next_ready, no_part}
use Rattle.be_tree.proofs.Shape.Parts.{on_err}
use Rattle.be_tree.proofs.building.write_level.Goals as goal

pub loop-at-init : goal.loop-at-init
loop-at-init g c = record {
  within = omega arith;
  rest = inr (omega (arith, c.requires.some));
  part = subst (λ xs. IsPart g.R.Look.kept g.R.Look.page_state g.R.Look.words (suc (c.args.level - 1)) c.args.slots.now xs 0 c.args.room.now c.args.room.now) (sym c.new-above.ensures.items)
      (no_part g.R.Look.kept g.R.Look.page_state g.R.Look.words (suc (c.args.level - 1)) c.args.slots.now c.args.room.now);
  size = omega (arith, ap length c.new-above.ensures.items);
}

pub write_node-requires-clause-ready : goal.write_node-requires-clause-ready
write_node-requires-clause-ready g c = (
  next_ready g.R.Look.kept g.R.Look.page_state g.R.Look.words c.args.level c.requires.branches.0 c.args.slots.now c.loop-at.above.items c.loop-at.at c.next_part.result c.args.room.now c.loop-at.room
      c.requires.below c.requires.branches.1 c.loop-at.invariant.part,
  omega (arith, ap length c.new-nothing.ensures.key),
)

pub returns-in_err-page-clause-refused : goal.returns-in_err-page-clause-refused
returns-in_err-page-clause-refused g c =
    let slots = c.args.slots.now in
    let at = c.loop-at.at in
    let part = c.loop-at.invariant.part in
    let left : 1 ≤ (length slots - at + 11) / 12 = omega (arith, c.loop-at-test.true) in (
      on_err _ (start_trans g.R.Look.kept g.R.Look.page_state g.R.Look.words c.args.room.now c.loop-at.room c.write_node.new.room
          (swaps_start g.R.Look.kept g.R.Look.page_state g.R.Look.words (pages_below (suc (c.args.level - 1)) (g.R.Look.words c.args.room.now) (branches_of (g.R.Look.words c.args.room.now) (take at slots)))
          (pages_below (suc (suc (c.args.level - 1))) (g.R.Look.words c.loop-at.room) (branches_of (g.R.Look.words c.loop-at.room) c.loop-at.above.items)) c.args.room.now c.loop-at.room part.becomes.swaps)
          c.in_err-page.ensures.refused.0),
      as_full c.from_residual.result (g.R.Room.full c.write_node.new.room) (HoldsFewer 0 ((length slots + 11) / 12) (g.R.Look.page_state c.args.room.now) (g.R.Look.page_state c.write_node.new.room)) (search rules)
          (λ n. omega (arith, part.holds n, c.in_err-page.ensures.refused.2.1 n, c.loop-at.invariant.size, left)),
    )

pub returns-in_err-push-clause-refused : goal.returns-in_err-push-clause-refused
returns-in_err-push-clause-refused g c =
    let slots = c.args.slots.now in
    let part = c.loop-at.invariant.part in (
      on_err _ (start_trans g.R.Look.kept g.R.Look.page_state g.R.Look.words c.args.room.now c.loop-at.room c.write_node.new.room
          (swaps_start g.R.Look.kept g.R.Look.page_state g.R.Look.words (pages_below (suc (c.args.level - 1)) (g.R.Look.words c.args.room.now) (branches_of (g.R.Look.words c.args.room.now) (take c.loop-at.at slots)))
          (pages_below (suc (suc (c.args.level - 1))) (g.R.Look.words c.loop-at.room) (branches_of (g.R.Look.words c.loop-at.room) c.loop-at.above.items)) c.args.room.now c.loop-at.room part.becomes.swaps)
          (swaps_start g.R.Look.kept g.R.Look.page_state g.R.Look.words [] (c.in_ok-page.page ∷ []) c.loop-at.room c.write_node.new.room c.in_ok-page.ensures.swaps)),
      search rules,
    )

pub loop-at-preserved : goal.loop-at-preserved
loop-at-preserved g c =
    let slots = c.args.slots.now in
    let at = c.loop-at.at in
    let count = c.next_part.result in
    let fits : at + count ≤ length slots = omega (arith, c.next_part.ensures.size.1.1, c.loop-at-test.true) in
    let same : length slots - at - count ≡ length slots - (at + count) = omega (arith, fits) in
    let more : length c.push.new.self.items ≡ length c.loop-at.above.items + 1 = ap length c.in_ok-push.ensures.items ∙ length-append c.loop-at.above.items (Branch c.in_ok-page.page ∷ []) in
    record {
      within = fits;
      rest = elim c.next_part.ensures.rest [
        | inl e ↦ inl (omega (arith, e, fits))
        | inr m ↦ inr (omega (arith, m, same))
      ];
      part = subst (λ xs. IsPart g.R.Look.kept g.R.Look.page_state g.R.Look.words (suc (c.args.level - 1)) slots xs (at + count) c.args.room.now c.write_node.new.room) (sym c.in_ok-push.ensures.items)
          (next_page g.R.Look.kept g.R.Look.page_state g.R.Look.words c.args.level c.requires.branches.0 slots c.loop-at.above.items at count c.args.room.now c.loop-at.room
          c.requires.below c.requires.branches.1 c.loop-at.invariant.part c.new-nothing.result c.in_ok-page.page c.write_node.new.room c.new-nothing.ensures.key c.new-nothing.ensures.payload
          c.next_part.ensures.size.0 fits c.in_ok-page.ensures.small c.in_ok-page.ensures.ok c.in_ok-page.ensures.swaps);
      size = omega (arith, more, ap (λ m. (m + 11) / 12) same, c.next_part.ensures.pages, c.loop-at.invariant.size);
    }

pub returns-clause-ok : goal.returns-clause-ok
returns-clause-ok g c =
    let e : c.loop-at.at ≡ length c.args.slots.now = omega (arith, c.loop-at-test.false, c.loop-at.invariant.within) in
    all_parts g.R.Look.kept g.R.Look.page_state g.R.Look.words c.args.level c.requires.branches.0 c.args.slots.now c.loop-at.above.items c.loop-at.at c.args.room.now c.loop-at.room e c.loop-at.invariant.part

pub returns-clause-pages : goal.returns-clause-pages
returns-clause-pages g c =
    let e : c.loop-at.at ≡ length c.args.slots.now = omega (arith, c.loop-at-test.false, c.loop-at.invariant.within) in
    all_pages g.R.Look.kept g.R.Look.page_state g.R.Look.words c.args.level c.requires.branches.0 c.args.slots.now c.loop-at.above.items c.loop-at.at c.args.room.now c.loop-at.room e c.loop-at.invariant.part
