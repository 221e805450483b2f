use Rattle.std.proofs.Common.{ℕ, ap, sym, ◌∙◌}
use Rattle.std.specs.Ordering.{is_eq}
use Rattle.be_tree_reading.specs.Cursor.{remaining}
use Rattle.be_tree_reading.specs.Key.{key_cmp}
use Rattle.be_tree_reading.specs.Page.{item_at}
use Rattle.be_tree_reading.proofs.Order.{key_same}
use Rattle.be_paged_reading.proofs.Reported.{elsewhere}
use Rattle.be_paged_reading.proofs.rows.step_to.Goals as goal

pub returns-then-not-is_key_at-clause-none : goal.returns-then-not-is_key_at-clause-none
returns-then-not-is_key_at-clause-none g c =
    let v = g.L.Look.words c.args.look.now in
    let same = c.is_key_at.ensures.same ∙ ap (λ (w : ℕ → ℕ → ℕ). is_eq (key_cmp (item_at (w c.in_ok-page.page) c.in_ok-page.at).key c.args.key.now)) c.in_ok-page.ensures.unchanged.words in
    elsewhere c.args.key.now (remaining v c.args.cursor.now) (item_at (v c.in_ok-page.page) c.in_ok-page.at) c.in_ok-page.ensures.item (sym same ∙ c.if-not-is_key_at.true)

pub returns-clause-same : goal.returns-clause-same
returns-clause-same g c =
    let v = g.L.Look.words c.args.look.now in
    let same = c.is_key_at.ensures.same ∙ ap (λ (w : ℕ → ℕ → ℕ). is_eq (key_cmp (item_at (w c.in_ok-page.page) c.in_ok-page.at).key c.args.key.now)) c.in_ok-page.ensures.unchanged.words in
    key_same (item_at (v c.in_ok-page.page) c.in_ok-page.at).key c.args.key.now (sym same ∙ c.if-not-is_key_at.false)
