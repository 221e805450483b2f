use Rattle.std.proofs.Common.{◌≡◌, ℕ, List, true, sym, ◌∙◌, subst, inl, inr}
use Rattle.std.specs.List.{Contains}
use Rattle.std.proofs.lemmas.List.Elements.{Contains-push, Contains-push_cases}
use Rattle.be_query.specs.View.{formula}
use Rattle.be_volume.specs.Query.{sat}
use Rattle.be_plan.proofs.sifting.add_if_true.Goals as goal

pub returns-in_ok-push-clause-only : goal.returns-in_ok-push-clause-only
returns-in_ok-push-clause-only g c = λ n h.
    let f = formula c.args.tree.now in
    let holds : sat g.volume f c.args.node ≡ true = sym (c.is_true.ensures.answer g.volume c.requires.1) ∙ c.if-is_true.true in
    let P : List ℕ → Type 0 = λ l. Contains l n in
    let Q : ℕ → Type 0 = λ m. sat g.volume f m ≡ true in
    elim (Contains-push_cases c.args.found.now.items c.args.node n (subst P c.in_ok-push.ensures.items h)) [
      | inl there ↦ inl there
      | inr same ↦ inr (same, subst Q same holds)
    ]

pub returns-in_ok-push-clause-has : goal.returns-in_ok-push-clause-has
returns-in_ok-push-clause-has g c = λ holds.
    let P : List ℕ → Type 0 = λ l. Contains l c.args.node in
    subst P (sym c.in_ok-push.ensures.items) (Contains-push c.args.found.now.items c.args.node)

pub returns-else-is_true-clause-has : goal.returns-else-is_true-clause-has
returns-else-is_true-clause-has g c = λ holds.
    let yes : c.is_true.result ≡ true = c.is_true.ensures.answer g.volume c.requires.1 ∙ holds in
    let no = c.if-is_true.false in
    cc
