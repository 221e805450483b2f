use Rattle.std.proofs.Common.{◌≡◌, ◌∙◌, ◌++◌, ◌∷◌, [], sym, ap, subst, ℕ, true, List, inl, inr}
use Rattle.std.specs.List.{Contains}
use Rattle.std.proofs.lemmas.List.Elements.{Contains-push, Contains-push_cases, Contains-append_left}
use Rattle.be_query.specs.View.{formula}
use Rattle.be_volume.specs.Query.{sat}
use Rattle.be_plan.proofs.Seen.{seen_pair, some_pair, own_node}
use Rattle.be_plan.proofs.walks.visit.Goals as goal

pub unreachable-requires : goal.unreachable-requires
unreachable-requires g c =
    some_pair g.volume (g.met.S.Source.sound c.args.source.now g.volume c.requires.1.0) c.args.index.name.now c.args.key.now c.requires.1.1.is_key c.args.index.kind c.requires.1.1.kind_is
    c.read_key.result c.in_default.is c.read_key.ensures.none

pub returns-in_ok-push-clause-collects : goal.returns-in_ok-push-clause-collects
returns-in_ok-push-clause-collects g c =
    let sound = g.met.S.Source.sound c.args.source.now g.volume c.requires.1.0 in
    let seen = seen_pair g.volume sound c.args.index.name.now c.args.key.now c.requires.1.1.is_key c.args.index.kind c.requires.1.1.kind_is
    c.read_key.result c.in-Some.value c.in-Some.node c.in-Some.is c.read_key.ensures.only in
    let holds : sat g.volume (formula c.args.tree.now) c.in-Some.node ≡ true = sym (c.satisfies.ensures.answer g.volume c.requires.1.0 seen.1) ∙ c.if-satisfies.true in
    let Q : ℕ → Type 0 = λ m. sat g.volume (formula c.args.tree.now) m ≡ true in
    record {
      keeps = λ n h. subst (λ (l : List ℕ). Contains l n) (sym c.in_ok-push.ensures.items) (Contains-append_left c.args.found.now.items (c.in-Some.node ∷ []) n h);
      only = λ n h. elim (Contains-push_cases c.args.found.now.items c.in-Some.node n (subst (λ (l : List ℕ). Contains l n) c.in_ok-push.ensures.items h)) [
        | inl there ↦ inl there
        | inr same ↦ inr (subst Q same holds)
      ];
    }

pub returns-in_ok-push-clause-has : goal.returns-in_ok-push-clause-has
returns-in_ok-push-clause-has g c = λ v n fits is holds.
    let sound = g.met.S.Source.sound c.args.source.now g.volume c.requires.1.0 in
    let seen = seen_pair g.volume sound c.args.index.name.now c.args.key.now c.requires.1.1.is_key c.args.index.kind c.requires.1.1.kind_is
    c.read_key.result c.in-Some.value c.in-Some.node c.in-Some.is c.read_key.ensures.only in
    let own = own_node g.volume sound c.args.index.name.now c.args.key.now c.requires.1.1.is_key c.args.index.kind c.requires.1.1.kind_is v n fits is in
    let P : List ℕ → Type 0 = λ l. Contains l n in
    let Q : ℕ → Type 0 = λ m. Contains (c.args.found.now.items ++ c.in-Some.node ∷ []) m in
    subst P (sym c.in_ok-push.ensures.items) (subst Q (seen.0 ∙ own) (Contains-push c.args.found.now.items c.in-Some.node))

pub returns-else-satisfies-clause-has : goal.returns-else-satisfies-clause-has
returns-else-satisfies-clause-has g c = λ v n fits is holds.
    let sound = g.met.S.Source.sound c.args.source.now g.volume c.requires.1.0 in
    let seen = seen_pair g.volume sound c.args.index.name.now c.args.key.now c.requires.1.1.is_key c.args.index.kind c.requires.1.1.kind_is
    c.read_key.result c.in-Some.value c.in-Some.node c.in-Some.is c.read_key.ensures.only in
    let own = own_node g.volume sound c.args.index.name.now c.args.key.now c.requires.1.1.is_key c.args.index.kind c.requires.1.1.kind_is v n fits is in
    let yes : c.satisfies.result ≡ true = c.satisfies.ensures.answer g.volume c.requires.1.0 seen.1 ∙ ap (sat g.volume (formula c.args.tree.now)) (seen.0 ∙ own) ∙ holds in
    let no = c.if-satisfies.false in
    cc
