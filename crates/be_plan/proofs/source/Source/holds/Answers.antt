use Rattle.std.proofs.Common.{List, ℕ, ◌≡◌, ◌∙◌, Some, ap, sym, subst}
use Rattle.be_query.specs.View.{literal}
use Rattle.be_value.specs.Value.{is_indexable}
use Rattle.be_value.specs.declared.values.Value.{Value}
use Rattle.be_volume.specs.Keys.{IsKey}
use Rattle.be_volume.specs.Query.{holds}
use Rattle.be_volume.specs.Reading.{index_kind}
use Rattle.be_plan.proofs.Seen.{not_indexable, seen_by_key}
use Rattle.be_plan.proofs.source.Source.holds.Goals as goal

pub kind_of-requires : goal.kind_of-requires
kind_of-requires g c = (c.requires.0, c.value.ensures.answers _ c.requires.1)

pub has_key-requires : goal.has_key-requires
has_key-requires g c = (c.requires.0, c.kind_of.ensures.answers _ (c.value.ensures.answers _ c.requires.1))

pub returns-then-indexable-clause-answer : goal.returns-then-indexable-clause-answer
returns-then-indexable-clause-answer g c = λ volume is.
    let asked = c.args.comparison.now in
    let reported = λ (v : Value). holds asked.op v (literal asked.literal) in
    let since = c.value.ensures.answers volume is in
    let last = c.kind_of.ensures.answers volume since in
    let P : List ℕ → Type 0 = λ k. IsKey volume asked.name k in
    let key_is = c.as_slice.ensures.value ∙ c.key_of.ensures in
    let kind_is : index_kind volume asked.name ≡ Some c.in-Some-kind_of.field-0 = sym (c.kind_of.ensures.answer volume since) ∙ c.in-Some-kind_of.is in
    seen_by_key volume (g.met.Self.Source.sound c.args.self.now volume is) asked.name c.args.node c.ranges.node.fits reported c.in-Some.value c.in-Some-kind_of.field-0 kind_is (sym (c.in-Some.ensures.answer volume is))
    (sym c.holds.ensures ∙ c.if-not-holds.false) c.has_key.result (λ yes. subst P key_is (c.has_key.ensures.found volume last yes)) (λ k. c.has_key.ensures.finds volume last (subst P (sym key_is) k))

pub returns-else-indexable-clause-answer : goal.returns-else-indexable-clause-answer
returns-else-indexable-clause-answer g c = λ volume is.
    let asked = c.args.comparison.now in
    let reported = λ (v : Value). holds asked.op v (literal asked.literal) in
    let since = c.value.ensures.answers volume is in
    let kind_is : index_kind volume asked.name ≡ Some c.in-Some-kind_of.field-0 = sym (c.kind_of.ensures.answer volume since) ∙ c.in-Some-kind_of.is in
    c.if-indexable.false
    ∙ not_indexable volume (g.met.Self.Source.sound c.args.self.now volume is) asked.name c.args.node c.ranges.node.fits reported c.in-Some.value c.in-Some-kind_of.field-0 kind_is (sym (c.in-Some.ensures.answer volume is))
    (ap is_indexable (sym c.kind.ensures) ∙ sym c.indexable.ensures ∙ c.if-indexable.false)
