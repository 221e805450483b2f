use Rattle.std.proofs.Common.{◌≡◌, ◌<◌, ℕ, true, length, slice_index, refl, ◌∙◌, subst, inl, inr, arith}
use Rattle.std.specs.List.{Contains}
use Rattle.std.proofs.lemmas.List.Elements.{Contains-get_or}
use borrow.Author.Count.{below_more}
use Rattle.be_query.specs.View.{formula}
use Rattle.be_volume.specs.Query.{sat}
use Rattle.be_plan.proofs.Marked.{each_contained}
use Rattle.be_plan.proofs.sifting.ask_all.Goals as goal

pub loop-i-init : goal.loop-i-init
loop-i-init g c = record {
  stays = refl;
  answers = c.requires.1;
  keeps = λ n h. h;
  only = λ n h. inl h;
  has = λ k lt holds. absurd (omega (arith, lt));
}

pub loop-i-preserved : goal.loop-i-preserved
loop-i-preserved g c =
    let f = formula c.args.tree.now in
    let nodes = c.args.nodes.now in
    let i = c.loop-i.i in
    let inv = c.loop-i.invariant in
    let found = c.add_if_true.new.found.items in
    let here : i < length nodes = omega (arith, c.loop-i-test.true) in
    let Q : ℕ → Type 0 = λ k. sat g.volume f (slice_index nodes k) ≡ true → Contains found (slice_index nodes k) in
    let P : ℕ → Type 0 = λ m. Contains nodes m in
    record {
      stays = c.add_if_true.ensures.stays ∙ inv.stays;
      answers = c.add_if_true.ensures.answers;
      keeps = λ n h. c.add_if_true.ensures.keeps n (inv.keeps n h);
      only = λ n h. elim (c.add_if_true.ensures.only n h) [
        | inl old ↦ inv.only n old
        | inr is ↦ inr (subst P is.0 (Contains-get_or nodes i 0 here), is.1)
      ];
      has = below_more Q i (λ k lt holds. c.add_if_true.ensures.keeps (slice_index nodes k) (inv.has k lt holds)) c.in_ok-add_if_true.ensures.has;
    }

pub returns-in_err-add_if_true-clause-keeps : goal.returns-in_err-add_if_true-clause-keeps
returns-in_err-add_if_true-clause-keeps g c = λ n h. c.add_if_true.ensures.keeps n (c.loop-i.invariant.keeps n h)

pub returns-in_err-add_if_true-clause-only : goal.returns-in_err-add_if_true-clause-only
returns-in_err-add_if_true-clause-only g c = λ n h.
    let nodes = c.args.nodes.now in
    let here : c.loop-i.i < length nodes = omega (arith, c.loop-i-test.true) in
    let P : ℕ → Type 0 = λ m. Contains nodes m in
    elim (c.add_if_true.ensures.only n h) [
      | inl old ↦ c.loop-i.invariant.only n old
      | inr is ↦ inr (subst P is.0 (Contains-get_or nodes c.loop-i.i 0 here), is.1)
    ]

pub returns-clause-has : goal.returns-clause-has
returns-clause-has g c = λ n there holds.
    each_contained (λ n. sat g.volume (formula c.args.tree.now) n ≡ true → Contains c.loop-i.found.items n) c.args.nodes.now
    (λ i lt. c.loop-i.invariant.has i (omega (arith, lt, c.loop-i-test.false))) n there holds
