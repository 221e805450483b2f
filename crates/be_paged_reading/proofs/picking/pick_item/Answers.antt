use Rattle.std.proofs.Common.{◌≡◌, ◌∙◌, ◌++◌, ◌∷◌, [], ℕ, Bool, true, false, ap, sym, subst, if◌then◌else◌}
use Rattle.std.specs.Prelude.{OnOk}
use Rattle.std.proofs.lemmas.List.{append-nil}
use Rattle.be_plan.specs.Marks.{is_marked}
use Rattle.be_plan.specs.declared.keytests.KeyTest.{KeyTest}
use Rattle.be_tree_reading.specs.Page.{item_at}
use Rattle.be_tree_reading.specs.Range.{number_of}
use Rattle.be_paged_reading.specs.KeyTests.{IsTestable, node_if}
use Rattle.be_paged_reading.proofs.picking.pick_item.Goals as goal

pub test_item-requires-clause-is_text : goal.test_item-requires-clause-is_text
test_item-requires-clause-is_text g c =
    let key = (item_at (g.L.Look.words c.args.look.now c.args.page) c.args.at).key in
    subst (λ (t : KeyTest). IsTestable t key) c.in-Text.is c.requires.testable

pub number_at-number-requires-clause-long : goal.number_at-number-requires-clause-long
number_at-number-requires-clause-long g c =
    let key = (item_at (g.L.Look.words c.args.look.now c.args.page) c.args.at).key in
    subst (λ (t : KeyTest). IsTestable t key) c.in-Marked.is c.requires.testable

pub returns-in-Text-clause-added : goal.returns-in-Text-clause-added
returns-in-Text-clause-added g c =
    let item = item_at (g.L.Look.words c.args.look.now c.args.page) c.args.at in
    subst (λ (t : KeyTest). OnOk c.test_item.result (c.test_item.new.found.items ≡ c.args.found.now.items ++ node_if t item)) (sym c.in-Text.is) c.test_item.ensures.added

pub returns-in_ok-push-in-Marked-clause-added : goal.returns-in_ok-push-in-Marked-clause-added
returns-in_ok-push-in-Marked-clause-added g c =
    let item = item_at (g.L.Look.words c.args.look.now c.args.page) c.args.at in
    let before = c.args.found.now.items in
    let marks = c.in-Marked.marks.now in
    let number : c.number_at-number.result ≡ number_of item.key = c.number_at-number.ensures.number in
    let marked : is_marked marks (number_of item.key) ≡ true = ap (is_marked marks) (sym number) ∙ sym c.has.ensures ∙ c.if-has.true in
    subst (λ (t : KeyTest). c.push.new.self.items ≡ before ++ node_if t item) (sym c.in-Marked.is)
    (c.in_ok-push-in-Marked.ensures.items ∙ ap (λ (n : ℕ). before ++ n ∷ []) number ∙ ap (λ (p : Bool). before ++ (if p then number_of item.key ∷ [] else [])) (sym marked))

pub returns-else-has-clause-added : goal.returns-else-has-clause-added
returns-else-has-clause-added g c =
    let item = item_at (g.L.Look.words c.args.look.now c.args.page) c.args.at in
    let before = c.args.found.now.items in
    let marks = c.in-Marked.marks.now in
    let number : c.number_at-number.result ≡ number_of item.key = c.number_at-number.ensures.number in
    let unmarked : is_marked marks (number_of item.key) ≡ false = ap (is_marked marks) (sym number) ∙ sym c.has.ensures ∙ c.if-has.false in
    subst (λ (t : KeyTest). before ≡ before ++ node_if t item) (sym c.in-Marked.is)
    (sym (append-nil before) ∙ ap (λ (p : Bool). before ++ (if p then number_of item.key ∷ [] else [])) (sym unmarked))
