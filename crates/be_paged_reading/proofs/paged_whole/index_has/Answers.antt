use Rattle.std.proofs.Common.{List, ℕ, sym, ap, subst, ◌∙◌}
use Rattle.be_volume_state.proofs.Keys.{reported, unfit, without}
use Rattle.be_value.specs.Value.{is_indexable}
use Rattle.be_volume.specs.Keys.{IsKey}
use Rattle.be_paged_reading.proofs.Versions.{version_since}
use Rattle.be_paged_reading.proofs.paged_whole.index_has.Goals as goal

pub returns-in_default-clause-held : goal.returns-in_default-clause-held
returns-in_default-clause-held g c = λ volume version.
    without volume version.sound c.args.node c.args.name.now (sym (c.get.ensures.value volume version) ∙ c.in_default.is)

pub has_pair-requires : goal.has_pair-requires
has_pair-requires g c =
    let since = c.get.ensures.unchanged in
    record {
      version = (
        c.requires.version.0,
        version_since (g.L.Look.page_state c.args.look.now) (g.L.Look.page_state c.get.new.look) (g.L.Look.words c.args.look.now) (g.L.Look.words c.get.new.look) c.args.version_page c.requires.version.0 since.page_state since.words c.requires.version.1,
      );
    }

pub returns-then-indexable-clause-held : goal.returns-then-indexable-clause-held
returns-then-indexable-clause-held g c = λ volume version.
    let since = c.get.ensures.unchanged in
    let now = version_since (g.L.Look.page_state c.args.look.now) (g.L.Look.page_state c.get.new.look) (g.L.Look.words c.args.look.now) (g.L.Look.words c.get.new.look) c.args.version_page volume since.page_state since.words version in
    let P : List ℕ → Type 0 = λ k. IsKey volume c.args.name.now k in
    let is = c.as_slice.ensures.value ∙ c.key_of.ensures in
    reported volume version.sound c.args.node c.args.name.now c.in-Some.value (sym (c.get.ensures.value volume version) ∙ c.in-Some.is) c.ranges.node.fits c.has_pair.result
    (λ yes. subst P is (c.has_pair.ensures.found volume now yes)) (λ k. c.has_pair.ensures.finds volume now (subst P (sym is) k))

pub returns-else-indexable-clause-held : goal.returns-else-indexable-clause-held
returns-else-indexable-clause-held g c = λ volume version.
    c.if-indexable.false ∙ unfit volume version.sound c.args.node c.args.name.now c.in-Some.value (sym (c.get.ensures.value volume version) ∙ c.in-Some.is)
    (sym (c.indexable.ensures ∙ ap is_indexable c.kind.ensures) ∙ c.if-indexable.false)
