use Rattle.std.proofs.Common.{◌≡◌, ℕ, ◌<◌, List, [], Bool, true, length, get_or, ap, sym, subst, ◌∙◌}
use Rattle.be_tree_reading.specs.Cursor.{remaining}
use Rattle.be_tree_reading.specs.Page.{item_at}
use Rattle.be_tree_reading.proofs.Order.{key_same}
use Rattle.be_tree_reading.specs.Range.{pairs_from}
use Rattle.be_tree_reading.specs.Tree.{pairs}
use Rattle.be_value.specs.declared.values.Kind.TheVariants as kinds
use Rattle.be_paged_reading.specs.Entry.{Entry}
use Rattle.be_paged_reading.specs.Page.{contents_of}
use Rattle.be_paged_reading.proofs.Asking.Walks.{cursor_since}
use Rattle.be_paged_reading.proofs.paged_source.PagedSource.walk_to.Goals as goal

nowhere : Entry
nowhere = record { name = []; kind = kinds.Cstr; root = 0 }

pub returns-then-is_key_at-clause-rest : goal.returns-then-is_key_at-clause-rest
returns-then-is_key_at-clause-rest g c =
    let self = c.args.self.now in
    let w = g.L.Look.words self.look in
    let es = (contents_of (w self.page)).entries in
    let root = c.args.index.root in
    let last = (item_at (w self.last.0) self.last.1).key in
    let same : c.args.index.place ≡ self.place = c.if-index-self.true in
    let key : last ≡ c.args.from.now = key_same last c.args.from.now (sym c.is_key_at.ensures.same ∙ c.if-is_key_at.true) in
    ap (λ (u : ℕ → ℕ → ℕ). remaining u self.cursor) c.is_key_at.ensures.unchanged.words
    ∙ c.requires.beyond.rest nowhere (subst (λ (p : ℕ). p < length es) same c.requires.index.in_range)
    ∙ ap (λ (p : ℕ). pairs_from (pairs w (get_or es p nowhere).root) last true) (sym same)
    ∙ ap (λ (r : ℕ). pairs_from (pairs w r) last true) (sym (c.requires.index.root nowhere))
    ∙ ap (λ (k : List ℕ). pairs_from (pairs w root) k true) key
    ∙ ap (λ (b : Bool). pairs_from (pairs w root) c.args.from.now b) (sym c.if-after.true)
    ∙ ap (λ (u : ℕ → ℕ → ℕ). pairs_from (pairs u root) c.args.from.now c.args.after) (sym c.is_key_at.ensures.unchanged.words)

pub returns-clause-cursor : goal.returns-clause-cursor
returns-clause-cursor g c =
    let before = c.if-after.self.look in
    let since = c.seek.ensures.unchanged in
    cursor_since (g.L.Look.page_state before) (g.L.Look.page_state c.seek.new.look) (g.L.Look.words before) (g.L.Look.words c.seek.new.look) c.seek.new.self since.page_state since.words c.seek.ensures.cursor

pub returns-clause-rest : goal.returns-clause-rest
returns-clause-rest g c =
    let since = c.seek.ensures.unchanged in
    ap (λ (u : ℕ → ℕ → ℕ). remaining u c.seek.new.self) since.words ∙ c.seek.ensures.remaining
    ∙ ap (λ (u : ℕ → ℕ → ℕ). pairs_from (pairs u c.args.index.root) c.args.from.now c.args.after) (sym since.words)
