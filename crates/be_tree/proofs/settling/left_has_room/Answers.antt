use Rattle.std.proofs.Common.{◌≡◌, ◌∙◌, ℕ, ◌-◌, ◌<◌, IsTrue, true, ltb, ap, sym, subst, arith}
use Rattle.std.proofs.lemmas.Bool.Decides.{nat_tests}
use Rattle.be_pages.specs.Pages.{is_readable}
use Rattle.be_tree_reading.specs.Page.{IsPage}
use Rattle.be_tree_reading.proofs.Frame.{readable_kept}
use Rattle.be_tree.proofs.Settles.{above_kept, above_names, above_page, above_same, before_page, before_readable}
use Rattle.be_tree.proofs.settling.left_has_room.Given.{Over}
use Rattle.be_tree.proofs.settling.left_has_room.Goals as goal
use Rattle.be_tree.proofs.settling.left_has_room.Goals.{Start}

-- the branch before the child's is one of the page's branches
in_range : (g : Over) (c : Start g) → c.args.step.at - 1 < g.R.Look.words c.args.room.now c.args.step.page 1
in_range g c =
    let h = c.requires.child.1 in
    omega (arith, h.in_range, ap (λ (w : ℕ → ℕ). w 1) (above_same g.R.Look.kept g.R.Look.page_state g.R.Look.words c.args.step c.args.was c.args.node.level c.args.node.pair.now c.args.node.slots.now c.requires.child.0 c.args.room.now h))

pub overflow_mul-step : goal.overflow_mul-step
overflow_mul-step g c = omega (arith, c.requires.child.1.in_range, c.requires.child.1.tree.node.is_page.few)

pub overflow_add-step : goal.overflow_add-step
overflow_add-step g c = omega (arith, c.requires.child.1.in_range, c.requires.child.1.tree.node.is_page.few)

pub child_at-left-requires-clause-readable : goal.child_at-left-requires-clause-readable
child_at-left-requires-clause-readable g c =
    readable_kept (g.R.Look.page_state c.args.room.now c.args.step.page) (above_kept g.R.Look.kept g.R.Look.page_state g.R.Look.words c.args.step c.args.was c.args.node.level c.args.node.pair.now c.args.node.slots.now c.requires.child.0 c.args.room.now c.requires.child.1)

pub child_at-left-requires-clause-in_page : goal.child_at-left-requires-clause-in_page
child_at-left-requires-clause-in_page g c = omega (arith, c.requires.child.1.in_range, c.requires.child.1.tree.node.is_page.few)

pub child_at-left-requires-clause-item : goal.child_at-left-requires-clause-item
child_at-left-requires-clause-item g c =
    (above_page g.R.Look.kept g.R.Look.page_state g.R.Look.words c.args.step c.args.was c.args.node.level c.args.node.pair.now c.args.node.slots.now c.requires.child.0 c.args.room.now c.requires.child.1).each (c.args.step.at - 1) (in_range g (goal.at.child_at-left-requires-clause-item g c).Start)

pub child_at-left-requires-clause-names_page : goal.child_at-left-requires-clause-names_page
child_at-left-requires-clause-names_page g c =
    above_names g.R.Look.kept g.R.Look.page_state g.R.Look.words c.args.step c.args.was c.args.node.level c.args.node.pair.now c.args.node.slots.now c.requires.child.0 c.args.room.now c.requires.child.1 (c.args.step.at - 1) (in_range g (goal.at.child_at-left-requires-clause-names_page g c).Start)

pub count_of-requires-clause-readable : goal.count_of-requires-clause-readable
count_of-requires-clause-readable g c =
    subst (λ s. IsTrue (is_readable (s c.child_at-left.result))) (sym c.child_at-left.ensures.unchanged.page_state)
    (before_readable g.R.Look.kept g.R.Look.page_state g.R.Look.words c.args.step c.args.was c.args.node.level c.args.node.pair.now c.args.node.slots.now c.requires.child.0 c.args.room.now c.requires.child.1
    c.args.node.slots.now c.args.node.slots.now c.child_at-left.new.look c.child_at-left.ensures.unchanged (c.args.step.at - 1) c.child_at-left.result (omega (arith, c.if-step-eq0.false)) c.child_at-left.ensures.child)

pub count_of-requires-clause-page : goal.count_of-requires-clause-page
count_of-requires-clause-page g c =
    subst (λ (w : ℕ → ℕ → ℕ). IsPage (w c.child_at-left.result)) (sym c.child_at-left.ensures.unchanged.words)
    (before_page g.R.Look.kept g.R.Look.page_state g.R.Look.words c.args.step c.args.was c.args.node.level c.args.node.pair.now c.args.node.slots.now c.requires.child.0 c.args.room.now c.requires.child.1
    c.args.node.slots.now c.args.node.slots.now c.child_at-left.new.look c.child_at-left.ensures.unchanged (c.args.step.at - 1) c.child_at-left.result (omega (arith, c.if-step-eq0.false)) c.child_at-left.ensures.child)

pub returns-clause-room : goal.returns-clause-room
returns-clause-room g c = λ less.
    let n = c.count_of.ensures.count ∙ ap (λ (w : ℕ → ℕ → ℕ). w c.child_at-left.result 1) c.child_at-left.ensures.unchanged.words ∙ ap (λ p. g.R.Look.words c.args.room.now p 1) c.child_at-left.ensures.child in
    subst (λ m. m < 12) n (test c.count_of.result less)
  where
    test : (n : ℕ) → ltb n 12 ≡ true → n < 12
    test n e = grind (arith, nat_tests)
