use Rattle.std.proofs.Common.{◌≡◌, ◌<◌, ◌+◌, refl, sym, subst, ◌∙◌, arith}
use Rattle.std.specs.declared.option.Option.{Option}
use Rattle.std.specs.declared.option.Option.TheVariants.{Some}
use Rattle.be_value.specs.Key.{key}
use Rattle.be_query.specs.Grammar.{Formula, comparisons}
use Rattle.be_query.specs.View.{formula}
use Rattle.be_volume.specs.Reading.{index_kind}
use Rattle.be_plan.specs.Narrow.{LeavesRest, high_of}
use Rattle.be_plan.specs.Cover.{comparison_of}
use Rattle.be_plan.proofs.Left.{adds_left, has_left}
use Rattle.be_plan.proofs.Reaching.{on_ok, has_reached}
use Rattle.be_plan.proofs.Spines.{there_in}
use Rattle.be_plan.proofs.running.walk_pick.Goals as goal

pub kind_of-requires : goal.kind_of-requires
kind_of-requires g c = (g.volume, c.requires.1.0)

pub walk_alone-requires : goal.walk_alone-requires
walk_alone-requires g c κs within = (
  within,
  (
    c.kind_of.ensures.answers g.volume c.requires.1.0,
    record {
      kind_is = sym (c.in-Some-kind_of.ensures.answer g.volume c.requires.1.0);
      leaves = λ s v n p inside seen. c.rest_of_whole-rest.ensures c.args.pick.from (formula c.args.pick.part.now) s n c.requires.1.1.lies.under (c.in-Ok.ensures.leaves s v n p inside seen);
    },
  ),
)

pub returns-in-Some-asked_apart-clause-collects : goal.returns-in-Some-asked_apart-clause-collects
returns-in-Some-asked_apart-clause-collects g c =
    let f = formula c.args.pick.tree.now in
    let name = c.in-Some.comparison.now.name in
    let kind = c.in-Some-kind_of.kind in
    let low = c.narrow_all.new.range.low.items in
    let high = high_of c.narrow_all.new.range in
    let rest = formula c.in-Some-asked_apart.apart.now in
    let sound = g.met.S.Source.sound c.args.source.now g.volume c.requires.1.0 in
    let R : Option Formula → Type 0 = λ r. LeavesRest f name kind low high r in
    let leaves : LeavesRest f name kind low high (Some rest) = subst R c.in-Some-asked_apart.ensures
    (λ s v n p inside seen. c.rest_of_whole-rest.ensures c.args.pick.from (formula c.args.pick.part.now) s n c.requires.1.1.lies.under (c.in-Ok.ensures.leaves s v n p inside seen)) in
    adds_left g.volume sound f rest rest name _ low _ high _ kind (sym (c.in-Some-kind_of.ensures.answer g.volume c.requires.1.0)) leaves refl c.keys.ensures.name c.keys.ensures.low c.keys.ensures.high
    c.args.found.now.items c.ask_each.new.found.items c.ask_each.ensures.keeps c.ask_each.ensures.only

pub returns-in-Some-asked_apart-clause-has : goal.returns-in-Some-asked_apart-clause-has
returns-in-Some-asked_apart-clause-has g c =
    let f = formula c.args.pick.tree.now in
    let part = formula c.args.pick.part.now in
    let name = c.in-Some.comparison.now.name in
    let kind = c.in-Some-kind_of.kind in
    let kind_is : index_kind g.volume name ≡ Some kind = sym (c.in-Some-kind_of.ensures.answer g.volume c.requires.1.0) in
    let low = c.narrow_all.new.range.low.items in
    let high = high_of c.narrow_all.new.range in
    let lies = c.requires.1.1.lies in
    let rest = formula c.in-Some-asked_apart.apart.now in
    let sound = g.met.S.Source.sound c.args.source.now g.volume c.requires.1.0 in
    let R : Option Formula → Type 0 = λ r. LeavesRest f name kind low high r in
    let leaves : LeavesRest f name kind low high (Some rest) = subst R c.in-Some-asked_apart.ensures
    (λ s v n p inside seen. c.rest_of_whole-rest.ensures c.args.pick.from (formula c.args.pick.part.now) s n lies.under (c.in-Ok.ensures.leaves s v n p inside seen)) in
    on_ok c.ask_each.result (λ has. has_reached g.volume f c.args.pick.place (comparison_of c.in-Some.comparison.now) kind low high c.ask_each.new.found.items
    sound (there_in f part c.args.pick.place c.args.pick.from lies ∙ sym c.in-Some.ensures) kind_is
    (λ v n p h. c.narrow_all.ensures.keeps v n p (lies.under.allows c.args.pick.place name v lies.first lies.last h) (c.open.ensures (key v n)))
    (has_left g.volume sound f rest rest name _ low _ high _ kind kind_is leaves refl c.keys.ensures.name c.keys.ensures.low c.keys.ensures.high c.ask_each.new.found.items has))
    c.ask_each.ensures.has

pub returns-clause-has : goal.returns-clause-has
returns-clause-has g c =
    let f = formula c.args.pick.tree.now in
    let part = formula c.args.pick.part.now in
    let low = c.narrow_all.new.range.low.items in
    let high = high_of c.narrow_all.new.range in
    let lies = c.requires.1.1.lies in
    on_ok c.walk_alone.result (λ within. has_reached g.volume f c.args.pick.place (comparison_of c.in-Some.comparison.now) c.in-Some-kind_of.kind low high c.walk_alone.new.found.items
    (g.met.S.Source.sound c.args.source.now g.volume c.requires.1.0) (there_in f part c.args.pick.place c.args.pick.from lies ∙ sym c.in-Some.ensures)
    (sym (c.in-Some-kind_of.ensures.answer g.volume c.requires.1.0))
    (λ v n p h. c.narrow_all.ensures.keeps v n p (lies.under.allows c.args.pick.place c.in-Some.comparison.now.name v lies.first lies.last h) (c.open.ensures (key v n))) within)
    c.walk_alone.ensures.has

pub unreachable-requires-in_default-narrow_all : goal.unreachable-requires-in_default-narrow_all
unreachable-requires-in_default-narrow_all g c =
    let below : c.args.pick.place < c.args.pick.from + comparisons (formula c.args.pick.part.now) = c.requires.1.1.lies.last in
    let beyond = c.in_default-narrow_all.ensures.beyond in
    omega (arith, below, beyond.0, beyond.1)
