use Rattle.std.proofs.Common.{List, ℕ, sym, ap, subst, ◌∙◌}
use Rattle.be_value.specs.Value.{is_indexable}
use Rattle.be_volume.specs.Keys.{IsKey}
use Rattle.be_volume_state.proofs.Keys.{reported, unfit, without}
use Rattle.be_volume_state.proofs.plain.index_has.Goals as goal

pub returns-in_default : goal.returns-in_default
returns-in_default c = without c.args.volume.now c.sound.ensures c.args.node c.args.name.now (sym c.get.ensures ∙ c.in_default.is)

pub returns-then-indexable : goal.returns-then-indexable
returns-then-indexable c =
    let P : List ℕ → Type 0 = λ k. IsKey c.args.volume.now c.args.name.now k in
    let is = c.as_slice.ensures.value ∙ c.key_of.ensures in
    reported c.args.volume.now c.sound.ensures c.args.node c.args.name.now c.in-Some.value (sym c.get.ensures ∙ c.in-Some.is) c.ranges.node.fits c.has_key.result
    (λ yes. subst P is (c.has_key.ensures.found yes)) (λ k. c.has_key.ensures.finds (subst P (sym is) k))

pub returns-else-indexable : goal.returns-else-indexable
returns-else-indexable c =
    c.if-indexable.false ∙ unfit c.args.volume.now c.sound.ensures c.args.node c.args.name.now c.in-Some.value (sym c.get.ensures ∙ c.in-Some.is)
    (sym (c.indexable.ensures ∙ ap is_indexable c.kind.ensures) ∙ c.if-indexable.false)
