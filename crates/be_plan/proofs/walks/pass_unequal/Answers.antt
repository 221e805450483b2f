use Rattle.std.proofs.Common.{◌≡◌, ◌∙◌, Some, false, true, ap, sym, subst, inl, inr}
use Rattle.std.specs.Option.{option_map_or}
use Rattle.std.specs.declared.option.Option.{Option}
use Rattle.be_value.specs.Key.{key}
use Rattle.be_value.specs.declared.values.Value.{Value}
use Rattle.be_query.specs.Grammar.{Leaf}
use Rattle.be_query.specs.View.{formula, literal}
use Rattle.be_query.specs.declared.tree.Cmp.TheVariants.{Ne}
use Rattle.be_volume.specs.Query.{holds, sat}
use Rattle.be_plan.specs.Narrow.{IsIn, high_of}
use Rattle.be_plan.proofs.Collecting.{collects_none, collects_on}
use Rattle.be_plan.proofs.Seen.{key_pair, key_seen, left_key}
use Rattle.be_plan.proofs.Unequal.{above_unequal, below_unequal, part_leaves, unequal_either}
use Rattle.be_plan.proofs.walks.pass_unequal.Goals as goal

pub returns-in_default-clause-collects : goal.returns-in_default-clause-collects
returns-in_default-clause-collects g c = collects_none g.volume (formula c.args.walk.tree.now) c.args.found.now.items

pub returns-in_default-part_beyond-clause-collects : goal.returns-in_default-part_beyond-clause-collects
returns-in_default-part_beyond-clause-collects g c = collects_none g.volume (formula c.args.walk.tree.now) c.args.found.now.items

pub returns-in_default-part_beyond-2-clause-collects : goal.returns-in_default-part_beyond-2-clause-collects
returns-in_default-part_beyond-2-clause-collects g c = collects_none g.volume (formula c.args.walk.tree.now) c.args.found.now.items

pub walk_decided-requires : goal.walk_decided-requires
walk_decided-requires g c κs within =
    let l = literal c.in-Some.comparison.now.literal in
    let part = c.in-Some-part_beyond.below in
    let range = c.args.walk.range.now in (
      within,
      (
        c.requires.1.0,
        record {
          kind_is = c.requires.1.1.kind_is;
          leaves = part_leaves (formula c.args.walk.tree.now) (formula c.args.rest.now) c.args.walk.index.name.now l c.args.walk.index.kind range.low.items part.low.items (high_of range) (high_of part) c.requires.1.1.leaves
              c.in-Some.ensures c.in-Some-part_beyond.ensures.within (λ v n p w. below_unequal v l (c.in-Some-part_beyond.ensures.decides v n p w));
        },
      ),
    )

pub walk_decided-requires-2 : goal.walk_decided-requires-2
walk_decided-requires-2 g c κs within =
    let l = literal c.in-Some.comparison.now.literal in
    let part = c.in-Some-part_beyond-2.above in
    let range = c.args.walk.range.now in (
      within,
      (
        c.walk_decided.ensures.answers,
        record {
          kind_is = c.requires.1.1.kind_is;
          leaves = part_leaves (formula c.args.walk.tree.now) (formula c.args.rest.now) c.args.walk.index.name.now l c.args.walk.index.kind range.low.items part.low.items (high_of range) (high_of part) c.requires.1.1.leaves
              c.in-Some.ensures c.in-Some-part_beyond-2.ensures.within (λ v n p w. above_unequal v l (c.in-Some-part_beyond-2.ensures.decides v n p w));
        },
      ),
    )

pub returns-in_err-walk_decided-2-clause-collects : goal.returns-in_err-walk_decided-2-clause-collects
returns-in_err-walk_decided-2-clause-collects g c =
    collects_on g.volume (formula c.args.walk.tree.now) c.args.found.now.items c.walk_decided.new.found.items c.walk_decided-2.new.found.items c.walk_decided.ensures.collects c.walk_decided-2.ensures.collects

pub returns-clause-collects : goal.returns-clause-collects
returns-clause-collects g c =
    collects_on g.volume (formula c.args.walk.tree.now) c.args.found.now.items c.walk_decided.new.found.items c.walk_decided-2.new.found.items c.walk_decided.ensures.collects c.walk_decided-2.ensures.collects

pub returns-clause-has : goal.returns-clause-has
returns-clause-has g c = λ yes k h w holds_here.
    let s = g.volume in
    let f = formula c.args.walk.tree.now in
    let name = c.args.walk.index.name.now in
    let kind = c.args.walk.index.kind in
    let l = literal c.in-Some.comparison.now.literal in
    let range = c.args.walk.range.now in
    let sound = g.met.S.Source.sound c.args.source.now s c.requires.1.0 in
    let kind_is = c.requires.1.1.kind_is in
    let pair = key_pair s sound name k h kind kind_is in
    let seen = key_seen s sound name k h kind kind_is in
    let rest : sat s (Leaf name Ne l) h.node ≡ true =
    ap (λ g. sat s g h.node) (sym c.in-Some.ensures) ∙ sym (left_key s sound name k h kind kind_is f range.low.items (high_of range) (Some (formula c.args.rest.now)) c.requires.1.1.leaves w) ∙ holds_here in
    let unequal : holds Ne h.value l ≡ true = sym (ap (λ (o : Option Value). option_map_or (λ value. holds Ne value l) o false) seen) ∙ rest in
    let inside : IsIn range (key h.value h.node) = subst (IsIn range) h.is w in
    elim (unequal_either h.value l unequal) [
      | inl less ↦ c.walk_decided-2.ensures.collects.keeps h.node
          (c.in_ok-walk_decided.ensures.has k h (subst (IsIn c.in-Some-part_beyond.below) (sym h.is) (c.in-Some-part_beyond.ensures.keeps h.value h.node pair less inside)) holds_here)
      | inr more ↦ c.in_ok-walk_decided-2.ensures.has k h (subst (IsIn c.in-Some-part_beyond-2.above) (sym h.is) (c.in-Some-part_beyond-2.ensures.keeps h.value h.node pair more inside)) holds_here
    ]
