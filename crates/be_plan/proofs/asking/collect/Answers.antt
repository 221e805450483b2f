use Rattle.std.proofs.Common.{◌≡◌, ◌⊎◌, ◌≤◌, ◌<◌, false, refl, sym, subst, ap, ◌∙◌, inl, inr}
use Rattle.be_value.specs.declared.refusals.Refusal.TheVariants.{OutOfMemory, NotCovered}
use Rattle.be_query.specs.Grammar.{Or, comparisons}
use Rattle.be_query.specs.View.{formula}
use Rattle.be_query.specs.declared.tree.Tree.{Tree}
use Rattle.be_volume.specs.Query.{covered, sat}
use Rattle.be_plan.proofs.Reaching.{on_ok}
use Rattle.be_plan.proofs.Sides.{few_left, few_right, less_left, by_left, by_right, by_either, left_rests, right_lacks, passed_up, refused_by}
use Rattle.be_plan.proofs.asking.collect.Goals as goal

pub sides-init : goal.sides-init
sides-init g c = record {
  stays = refl;
  answers = c.requires.1.0;
  few = c.requires.1.1;
  only = λ n h. inl h;
  has = λ n h. inr h;
  within = λ n h. h;
  rests = refl;
}

pub collect_side-requires : goal.collect_side-requires
collect_side-requires g c κs within =
    let rest = formula c.sides.rest.now in
    let a = formula c.in-Or.a.value in
    let b = formula c.in-Or.b.value in
    let one : rest ≡ Or a b = ap formula c.in-Or.is in
    (within, (c.sides.invariant.answers, subst (λ (t : Tree). comparisons (formula t) ≤ 256) (sym c.deref.ensures) (few_right g.volume rest a b one 256 c.sides.invariant.few)))

pub returns-in_err-collect_side-clause-stays : goal.returns-in_err-collect_side-clause-stays
returns-in_err-collect_side-clause-stays g c = c.collect_side.ensures.stays ∙ c.sides.invariant.stays

pub returns-in_err-collect_side-clause-only : goal.returns-in_err-collect_side-clause-only
returns-in_err-collect_side-clause-only g c = λ n h.
    let rest = formula c.sides.rest.now in
    let a = formula c.in-Or.a.value in
    let b = formula c.in-Or.b.value in
    let one : rest ≡ Or a b = ap formula c.in-Or.is in
    let inv = c.sides.invariant in
    elim (c.collect_side.ensures.collects.only n h) [
      | inl old ↦ inv.only n old
      | inr is ↦ inr (inv.within n (by_right g.volume rest a b one n (ap (λ (t : Tree). sat g.volume (formula t) n) (sym c.deref.ensures) ∙ is)))
    ]

pub returns-in_err-collect_side-clause-refused : goal.returns-in_err-collect_side-clause-refused
returns-in_err-collect_side-clause-refused g c =
    let rest = formula c.sides.rest.now in
    let a = formula c.in-Or.a.value in
    let b = formula c.in-Or.b.value in
    let one : rest ≡ Or a b = ap formula c.in-Or.is in
    let reported : (c.in_err-collect_side.field-0.0 ≡ OutOfMemory) ⊎ ((c.in_err-collect_side.field-0.0 ≡ NotCovered) × (covered g.volume (formula c.args.tree.now) ≡ false)) =
    elim c.in_err-collect_side.ensures.refused [
      | inl memory ↦ inl memory
      | inr lacks ↦ inr (lacks.0, c.sides.invariant.rests ∙ right_lacks g.volume rest a b one (ap (λ (t : Tree). covered g.volume (formula t)) (sym c.deref.ensures) ∙ lacks.1))
    ] in
    passed_up c.from_residual.result c.in_err-collect_side.field-0.0 (λ e. (e ≡ OutOfMemory) ⊎ ((e ≡ NotCovered) × (covered g.volume (formula c.args.tree.now) ≡ false))) c.from_residual.ensures.1 reported

pub sides-smaller : goal.sides-smaller
sides-smaller g c =
    let rest = formula c.sides.rest.now in
    let a = formula c.in-Or.a.value in
    let b = formula c.in-Or.b.value in
    let one : rest ≡ Or a b = ap formula c.in-Or.is in
    subst (λ (t : Tree). comparisons (formula t) < comparisons rest) (sym c.deref-rest.ensures) (less_left g.volume rest a b one)

pub sides-preserved : goal.sides-preserved
sides-preserved g c =
    let rest = formula c.sides.rest.now in
    let a = formula c.in-Or.a.value in
    let b = formula c.in-Or.b.value in
    let one : rest ≡ Or a b = ap formula c.in-Or.is in
    let inv = c.sides.invariant in
    let side = c.collect_side.ensures in
    let found = c.collect_side.new.found.items in
    let left : c.deref-rest.result.now ≡ c.in-Or.a.value = c.deref-rest.ensures in
    let right : c.deref.result.now ≡ c.in-Or.b.value = c.deref.ensures in
    record {
      stays = side.stays ∙ inv.stays;
      answers = side.answers;
      few = subst (λ (t : Tree). comparisons (formula t) ≤ 256) (sym left) (few_left g.volume rest a b one 256 inv.few);
      only = λ n h. elim (side.collects.only n h) [
        | inl old ↦ inv.only n old
        | inr is ↦ inr (inv.within n (by_right g.volume rest a b one n (ap (λ (t : Tree). sat g.volume (formula t) n) (sym right) ∙ is)))
      ];
      has = λ n h. elim (inv.has n h) [
        | inl there ↦ inl (side.collects.keeps n there)
        | inr is ↦ elim (by_either g.volume rest a b one n is) [
          | inl by_a ↦ inr (ap (λ (t : Tree). sat g.volume (formula t) n) left ∙ by_a)
          | inr by_b ↦ inl (c.in_ok-collect_side.ensures.has n (ap (λ (t : Tree). sat g.volume (formula t) n) right ∙ by_b))
        ]
      ];
      within = λ n h. inv.within n (by_left g.volume rest a b one n (ap (λ (t : Tree). sat g.volume (formula t) n) (sym left) ∙ h));
      rests = inv.rests ∙ left_rests g.volume rest a b one (ap (λ (t : Tree). covered g.volume (formula t)) (sym right) ∙ c.in_ok-collect_side.ensures.covered)
          ∙ ap (λ (t : Tree). covered g.volume (formula t)) (sym left);
    }

pub collect_side-requires-2 : goal.collect_side-requires-2
collect_side-requires-2 g c κs within = (within, (c.sides.invariant.answers, c.sides.invariant.few))

pub returns-clause-stays : goal.returns-clause-stays
returns-clause-stays g c = c.collect_side-2.ensures.stays ∙ c.sides.invariant.stays

pub returns-clause-only : goal.returns-clause-only
returns-clause-only g c = λ n h. elim (c.collect_side-2.ensures.collects.only n h) [
  | inl old ↦ c.sides.invariant.only n old
  | inr is ↦ inr (c.sides.invariant.within n is)
]

pub returns-clause-has : goal.returns-clause-has
returns-clause-has g c = on_ok c.collect_side-2.result (λ has n h. elim (c.sides.invariant.has n h) [
  | inl there ↦ c.collect_side-2.ensures.collects.keeps n there
  | inr is ↦ has n is
]) c.collect_side-2.ensures.has

pub returns-clause-covered : goal.returns-clause-covered
returns-clause-covered g c = on_ok c.collect_side-2.result (λ rests. c.sides.invariant.rests ∙ rests) c.collect_side-2.ensures.covered

pub returns-clause-refused : goal.returns-clause-refused
returns-clause-refused g c = refused_by _ _ c.collect_side-2.result (λ e lacks. elim lacks [
  | inl memory ↦ inl memory
  | inr is ↦ inr (is.0, c.sides.invariant.rests ∙ is.1)
]) c.collect_side-2.ensures.refused
