use Rattle.std.proofs.Common.{◌≡◌, ◌∙◌, ◌++◌, ◌∷◌, ◌≤◌, [], ℕ, Bool, List, length, ap, sym, subst, IsUtf8, if◌then◌else◌}
use Rattle.std.proofs.lemmas.List.{append-nil}
use Rattle.be_plan.specs.Texts.{text_in}
use Rattle.be_tree_reading.specs.Page.{IsItem, item_at}
use Rattle.be_tree_reading.specs.Range.{number_of}
use Rattle.be_volume.specs.Query.{holds_of_text}
use Rattle.be_paged_reading.specs.Texts.{passes}
use Rattle.be_paged_reading.proofs.texts.test_item.Given.{Over}
use Rattle.be_paged_reading.proofs.texts.test_item.Goals as goal
use Rattle.be_paged_reading.proofs.texts.test_item.Goals.{After-passes-passes}

pub number_at-number-requires-clause-item : goal.number_at-number-requires-clause-item
number_at-number-requires-clause-item g c = subst (λ (w : ℕ → ℕ → ℕ). IsItem (w c.args.page) c.args.at) (sym c.put_text-length.ensures.unchanged.words) c.requires.item

pub number_at-number-requires-clause-long : goal.number_at-number-requires-clause-long
number_at-number-requires-clause-long g c =
    subst (λ (w : ℕ → ℕ → ℕ). 8 ≤ length (item_at (w c.args.page) c.args.at).key) (sym c.put_text-length.ensures.unchanged.words) c.requires.is_text.long

-- The result of the test is whether the key passes.
reported : (g : Over) (c : After-passes-passes g) → c.passes-passes.result ≡ passes c.args.test.now.0 c.args.test.now.1 (item_at (g.L.Look.words c.args.look.now c.args.page) c.args.at).key
reported g c =
    let key = (item_at (g.L.Look.words c.args.look.now c.args.page) c.args.at).key in
    let text : c.front.result.now ≡ text_in key = c.front.ensures ∙ c.put_text-length.ensures.text in
    c.passes-passes.ensures (subst IsUtf8 (sym text) c.requires.is_text.is_text) ∙ ap (λ (t : List ℕ). holds_of_text c.args.test.now.0 t c.args.test.now.1) text

pub returns-in_ok-push-clause-added : goal.returns-in_ok-push-clause-added
returns-in_ok-push-clause-added g c =
    let b = (goal.at.returns-in_ok-push-clause-added g c).After-passes-passes in
    let key = (item_at (g.L.Look.words c.args.look.now c.args.page) c.args.at).key in
    let before = c.args.found.now.items in
    let number : c.number_at-number.result ≡ number_of key =
    c.number_at-number.ensures.number ∙ ap (λ (w : ℕ → ℕ → ℕ). number_of (item_at (w c.args.page) c.args.at).key) c.put_text-length.ensures.unchanged.words in
    c.in_ok-push.ensures.items ∙ ap (λ (n : ℕ). before ++ n ∷ []) number
    ∙ ap (λ (p : Bool). before ++ (if p then number_of key ∷ [] else [])) (sym (sym (reported g b) ∙ c.if-passes.true))

pub returns-else-passes-clause-added : goal.returns-else-passes-clause-added
returns-else-passes-clause-added g c =
    let b = (goal.at.returns-else-passes-clause-added g c).After-passes-passes in
    let key = (item_at (g.L.Look.words c.args.look.now c.args.page) c.args.at).key in
    let before = c.args.found.now.items in
    sym (append-nil before) ∙ ap (λ (p : Bool). before ++ (if p then number_of key ∷ [] else [])) (sym (sym (reported g b) ∙ c.if-passes.false))
