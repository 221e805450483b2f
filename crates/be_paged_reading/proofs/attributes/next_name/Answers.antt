use Rattle.std.proofs.Common.{◌≡◌, ℕ, List, drop, Some, None, ap, sym, ◌∙◌}
use Rattle.std.specs.declared.option.Option.{Option}
use Rattle.be_value.specs.declared.values.Value.{Value}
use Rattle.be_tree_reading.specs.Page.{item_at}
use Rattle.be_tree_reading.specs.Pair.{Pair}
use Rattle.be_paged_reading.specs.Catalog.{catalog_key}
use Rattle.be_paged_reading.specs.Reading.{attribute_pair}
use Rattle.be_paged_reading.proofs.Asking.Walks.{some_same, none_some}
use Rattle.be_paged_reading.proofs.attributes.next_name.Goals as goal

-- The key of the pair that the walk visits.
same_key : (words now : ℕ → ℕ → ℕ) (page at node : ℕ) (name : List ℕ) (value : Value) (first : Option Pair) → now ≡ words → first ≡ Some (item_at (words page) at) → first ≡ Some (attribute_pair node (name, value))
    → (item_at (now page) at).key ≡ catalog_key node name
same_key words now page at node name value first same met is =
    ap (λ (w : ℕ → ℕ → ℕ). (item_at (w page) at).key) same ∙ ap (λ (x : Pair). x.key) (some_same (item_at (words page) at) (attribute_pair node (name, value)) (sym met ∙ is))

none_name : {A : Type 0} (name : List ℕ) → None ≡ Some name → A
none_name name e = absurd (clash e)
  where
    clash : None ≡ Some name → ⊥
    clash e = cc

pub returns-in_err-name-clause-name : goal.returns-in_err-name-clause-name
returns-in_err-name-clause-name g c = λ name value named e.
    none_name name (c.in_err-name.ensures.name c.args.node name named
    (same_key (g.L.Look.words c.args.look.now) (g.L.Look.words c.next_attribute.new.look) c.in_ok-page.page c.in_ok-page.at c.args.node name value _ c.in_ok-page.ensures.unchanged.words c.in_ok-page.ensures.item e))

pub returns-in_err-name-clause-none : goal.returns-in_err-name-clause-none
returns-in_err-name-clause-none g c = λ e. none_some (item_at (g.L.Look.words c.args.look.now c.in_ok-page.page) c.in_ok-page.at) (sym e ∙ c.in_ok-page.ensures.item)

pub returns-clause-name : goal.returns-clause-name
returns-clause-name g c = λ name value named e.
    c.in_ok-name.ensures.name c.args.node name named
    (same_key (g.L.Look.words c.args.look.now) (g.L.Look.words c.next_attribute.new.look) c.in_ok-page.page c.in_ok-page.at c.args.node name value _ c.in_ok-page.ensures.unchanged.words c.in_ok-page.ensures.item e)

pub returns-clause-none : goal.returns-clause-none
returns-clause-none g c = λ e. none_some (item_at (g.L.Look.words c.args.look.now c.in_ok-page.page) c.in_ok-page.at) (sym e ∙ c.in_ok-page.ensures.item)

pub returns-clause-beyond : goal.returns-clause-beyond
returns-clause-beyond g c = c.in_ok-name.ensures.beyond ∙ ap (λ (w : ℕ → ℕ → ℕ). drop 8 (item_at (w c.in_ok-page.page) c.in_ok-page.at).key) c.in_ok-page.ensures.unchanged.words
