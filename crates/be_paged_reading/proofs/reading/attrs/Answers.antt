use Rattle.std.proofs.Common.{◌≡◌, ℕ, List, ◌∙◌, inr, ap, sym, subst, refl, Ok}
use Rattle.std.specs.Prelude.{Err, IsOk, IfErr}
use Rattle.std.specs.declared.result.Result.{Result}
use Rattle.be_value.specs.declared.refusals.Refusal.{Refusal}
use Rattle.be_value.specs.declared.refusals.Refusal.TheVariants.{OutOfMemory}
use Rattle.be_value.specs.declared.values.Value.{Value}
use Rattle.be_tree_reading.specs.Tree.{pairs}
use Rattle.be_paged_reading.specs.Catalog.{IsCatalog}
use Rattle.be_paged_reading.proofs.CatalogPairs.FactValues.{attributes_none, attributes_some, node_there}
use Rattle.be_paged_reading.proofs.CatalogPairs.Validity.{values_valid}
use Rattle.be_paged_reading.proofs.reading.attrs.Goals as goal

pub returns-then-not-has_key-clause-answer : goal.returns-then-not-has_key-clause-answer
returns-then-not-has_key-clause-answer g c = λ volume version.
    let root = subst (λ (r : ℕ). IsCatalog (pairs (g.L.Look.words c.args.look.now) r) volume.nodes) (sym c.word-catalog.ensures.value) version.encodes.catalog in
    let catalog = subst (λ (w : ℕ → ℕ → ℕ). IsCatalog (pairs w c.word-catalog.result) volume.nodes) (sym c.word-catalog.ensures.words) root in
    let there = node_there (pairs (g.L.Look.words c.word-catalog.new.self) c.word-catalog.result) volume.nodes c.args.node c.to_be_bytes.result catalog c.ranges.node.fits c.to_be_bytes.ensures in
    inr (attributes_none volume c.args.node (sym there ∙ sym c.has_key.ensures.found ∙ c.if-not-has_key.true))

pub returns-clause-answer : goal.returns-clause-answer
returns-clause-answer g c = λ volume version.
    let root = subst (λ (r : ℕ). IsCatalog (pairs (g.L.Look.words c.args.look.now) r) volume.nodes) (sym c.word-catalog.ensures.value) version.encodes.catalog in
    let catalog = subst (λ (w : ℕ → ℕ → ℕ). IsCatalog (pairs w c.word-catalog.result) volume.nodes) (sym c.word-catalog.ensures.words) root in
    let read = subst (λ (w : ℕ → ℕ → ℕ). IsCatalog (pairs w c.word-catalog.result) volume.nodes) (sym c.has_key.ensures.unchanged.words) catalog in
    let there = node_there (pairs (g.L.Look.words c.word-catalog.new.self) c.word-catalog.result) volume.nodes c.args.node c.to_be_bytes.result catalog c.ranges.node.fits c.to_be_bytes.ensures in
    attributes_some volume c.args.node (sym there ∙ sym c.has_key.ensures.found ∙ c.if-not-has_key.false)
    ∙ ap Ok (sym (c.in_ok-list_attributes.ensures.list volume.nodes read (values_valid volume version.sound) (version.sound.few_attributes c.args.node)))

-- What always holds also holds if memory ran out.
where_wanted : {T P : Type 0} (r : Result T Refusal) → P → IfErr r (λ e. e ≡ OutOfMemory → P)
where_wanted (Ok x) p = tt
where_wanted (Err e) p = λ is. p

pub returns-then-not-has_key-clause-wanted : goal.returns-then-not-has_key-clause-wanted
returns-then-not-has_key-clause-wanted g c = λ volume version is. absurd (let e = is in cc)

pub returns-in_err-list_attributes-clause-wanted : goal.returns-in_err-list_attributes-clause-wanted
returns-in_err-list_attributes-clause-wanted g c = λ volume version.
    let root = subst (λ (r : ℕ). IsCatalog (pairs (g.L.Look.words c.args.look.now) r) volume.nodes) (sym c.word-catalog.ensures.value) version.encodes.catalog in
    let catalog = subst (λ (w : ℕ → ℕ → ℕ). IsCatalog (pairs w c.word-catalog.result) volume.nodes) (sym c.word-catalog.ensures.words) root in
    let there = node_there (pairs (g.L.Look.words c.word-catalog.new.self) c.word-catalog.result) volume.nodes c.args.node c.to_be_bytes.result catalog c.ranges.node.fits c.to_be_bytes.ensures in
    where_wanted c.from_residual.result
    (subst (λ (r : Result (List (List ℕ × Value)) Refusal). IsOk r) (sym (attributes_some volume c.args.node (sym there ∙ sym c.has_key.ensures.found ∙ c.if-not-has_key.false))) refl)
