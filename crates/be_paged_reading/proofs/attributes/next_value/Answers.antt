use Rattle.std.proofs.Common.{ℕ, ap, sym, ◌∙◌}
use Rattle.be_tree_reading.specs.Cursor.{remaining}
use Rattle.be_tree_reading.specs.Page.{item_at}
use Rattle.be_paged_reading.specs.Reading.{front_of_node, attribute_pair}
use Rattle.be_paged_reading.proofs.Asking.Walks.{always, some_same, none_some, not_end}
use Rattle.be_paged_reading.proofs.attributes.next_value.Goals as goal

pub returns-clause-value : goal.returns-clause-value
returns-clause-value g c = λ name value named valid e.
    let item = item_at (g.L.Look.words c.args.look.now c.in_ok-page.page) c.in_ok-page.at in
    c.read_attribute.ensures.attribute c.args.node name value named valid
    (ap (λ (w : ℕ → ℕ → ℕ). item_at (w c.in_ok-page.page) c.in_ok-page.at) c.in_ok-page.ensures.unchanged.words ∙ some_same item (attribute_pair c.args.node (name, value)) (sym c.in_ok-page.ensures.item ∙ e))

pub returns-clause-none : goal.returns-clause-none
returns-clause-none g c = λ e. none_some (item_at (g.L.Look.words c.args.look.now c.in_ok-page.page) c.in_ok-page.at) (sym e ∙ c.in_ok-page.ensures.item)

pub returns-clause-more : goal.returns-clause-more
returns-clause-more g c =
    always c.read_attribute.result
    (not_end (front_of_node c.args.node (remaining (g.L.Look.words c.args.look.now) c.args.cursor.now)) 0 (item_at (g.L.Look.words c.args.look.now c.in_ok-page.page) c.in_ok-page.at) c.in_ok-page.ensures.item)

pub returns-clause-rest : goal.returns-clause-rest
returns-clause-rest g c = always c.read_attribute.result c.in_ok-page.ensures.rest
