use Rattle.std.proofs.Common.{◌≡◌, List, ℕ, true, subst, inl, inr}
use Rattle.std.specs.Option.{option_copied}
use Rattle.std.specs.declared.option.Option.{Option}
use Rattle.std.specs.declared.option.Option.TheVariants.{None}
use Rattle.be_query.specs.View.{formula}
use Rattle.be_volume.specs.Query.{sat}
use Rattle.be_plan.specs.Narrow.{high_of}
use Rattle.be_plan.specs.Walk.{HasNodes, HasOnly}
use Rattle.be_plan.proofs.Reaching.{on_ok}
use Rattle.be_plan.proofs.Seen.{left_key}
use Rattle.be_plan.proofs.walks.walk_decided.Goals as goal

pub nodes_within-requires : goal.nodes_within-requires
nodes_within-requires g c = (g.volume, c.requires.1.0)

pub returns-clause-collects : goal.returns-clause-collects
returns-clause-collects g c =
    let f = formula c.args.walk.tree.now in
    let name = c.args.walk.index.name.now in
    let low = c.args.walk.range.now.low.items in
    let high = high_of c.args.walk.range.now in
    let sound = g.met.S.Source.sound c.args.source.now g.volume c.requires.1.0 in
    let N : List ℕ → Type 0 = λ m. HasOnly g.volume m c.keys.result.low.now (option_copied c.keys.result.high) c.args.found.now.items c.nodes_within.new.found.items in
    let L : List ℕ → Type 0 = λ l. HasOnly g.volume name l (option_copied c.keys.result.high) c.args.found.now.items c.nodes_within.new.found.items in
    let H : Option (List ℕ) → Type 0 = λ b. HasOnly g.volume name low b c.args.found.now.items c.nodes_within.new.found.items in
    let only : HasOnly g.volume name low high c.args.found.now.items c.nodes_within.new.found.items =
    subst H c.keys.ensures.high (subst L c.keys.ensures.low (subst N c.keys.ensures.name (c.nodes_within.ensures.only g.volume c.requires.1.0))) in
    let P : ℕ → Type 0 = λ m. sat g.volume f m ≡ true in
    record {
      keeps = c.nodes_within.ensures.keeps;
      only = λ n h. elim (only n h) [
        | inl there ↦ inl there
        | inr w ↦ inr (subst P w.node_is (left_key g.volume sound name w.key w.is_key c.args.walk.index.kind c.requires.1.1.kind_is f low high None c.requires.1.1.leaves w.within))
      ];
    }

pub returns-clause-has : goal.returns-clause-has
returns-clause-has g c =
    let name = c.args.walk.index.name.now in
    let low = c.args.walk.range.now.low.items in
    let found = c.nodes_within.new.found.items in
    let N : List ℕ → Type 0 = λ m. HasNodes g.volume m c.keys.result.low.now (option_copied c.keys.result.high) found in
    let L : List ℕ → Type 0 = λ l. HasNodes g.volume name l (option_copied c.keys.result.high) found in
    let H : Option (List ℕ) → Type 0 = λ b. HasNodes g.volume name low b found in
    on_ok c.nodes_within.result (λ has k h w _. subst H c.keys.ensures.high (subst L c.keys.ensures.low (subst N c.keys.ensures.name (has g.volume c.requires.1.0))) k h w) c.nodes_within.ensures.has
