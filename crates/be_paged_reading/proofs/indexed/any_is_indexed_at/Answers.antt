use Rattle.std.proofs.Common.{◌≡◌, ℕ, List, Bool, true, false, ◌&&◌, ap, sym, ◌∙◌, is_some}
use Rattle.std.proofs.lemmas.Option.{same_Some}
use Rattle.be_value.specs.Key.{key}
use Rattle.be_value.specs.Value.{kind_of, is_indexable}
use Rattle.be_value.specs.declared.values.Value.{Value}
use Rattle.be_tree_reading.specs.Key.{payload_at}
use Rattle.be_tree_reading.specs.Tree.{pairs}
use Rattle.be_paged_reading.proofs.indexed.any_is_indexed_at.Goals as goal

pub returns-in-None-clause-has : goal.returns-in-None-clause-has
returns-in-None-clause-has g c = λ v is e. let none = c.in-None.ensures.value v is e in cc

pub returns-then-indexable-clause-has : goal.returns-then-indexable-clause-has
returns-then-indexable-clause-has g c = λ v is e.
    let index = c.args.index in
    let node = c.args.node in
    let now = g.L.Look.words c.value_at.new.look in
    let before = g.L.Look.words c.args.look.now in
    let same : c.in-Some.value ≡ v = same_Some c.in-Some.value v (c.in-Some.ensures.value v is e) in
    let yes : is_indexable (kind_of v) ≡ true =
    sym (ap (λ (w : Value). is_indexable (kind_of w)) same) ∙ sym (ap is_indexable c.kind.ensures) ∙ sym c.indexable.ensures ∙ c.if-indexable.true in
    c.has_key.ensures.found
    ∙ ap (λ (k : List ℕ). is_some (payload_at (pairs now index) k)) (c.as_slice.ensures.value ∙ c.key_of.ensures)
    ∙ ap (λ (u : ℕ → ℕ → ℕ). is_some (payload_at (pairs u index) (key c.in-Some.value node))) c.in-Some.ensures.unchanged.words
    ∙ ap (λ (w : Value). is_some (payload_at (pairs before index) (key w node))) same
    ∙ sym (ap (λ (b : Bool). b && is_some (payload_at (pairs before index) (key v node))) yes)

pub returns-else-indexable-clause-has : goal.returns-else-indexable-clause-has
returns-else-indexable-clause-has g c = λ v is e.
    let before = g.L.Look.words c.args.look.now in
    let same : c.in-Some.value ≡ v = same_Some c.in-Some.value v (c.in-Some.ensures.value v is e) in
    let not : is_indexable (kind_of v) ≡ false =
    sym (ap (λ (w : Value). is_indexable (kind_of w)) same) ∙ sym (ap is_indexable c.kind.ensures) ∙ sym c.indexable.ensures ∙ c.if-indexable.false in
    c.if-indexable.false ∙ sym (ap (λ (b : Bool). b && is_some (payload_at (pairs before c.args.index) (key v c.args.node))) not)
