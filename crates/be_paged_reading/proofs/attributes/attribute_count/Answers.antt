use Rattle.std.proofs.Common.{ℕ, ◌∙◌, ap}
use Rattle.std.specs.Ordering.{is_eq}
use Rattle.be_tree_reading.specs.Cursor.{remaining}
use Rattle.be_tree_reading.specs.Page.{item_at}
use Rattle.be_tree_reading.specs.Key.{key_cmp}
use Rattle.be_tree_reading.specs.Tree.{pairs}
use Rattle.be_tree_reading.proofs.Trees.{tree_rising}
use Rattle.be_paged_reading.proofs.Asking.Counting.{counted_after, none_at_end, none_elsewhere}
use Rattle.be_paged_reading.proofs.Asking.Walks.{cursor_since}
use Rattle.be_paged_reading.proofs.attributes.attribute_count.Goals as goal

pub returns-in_err-page-clause-count : goal.returns-in_err-page-clause-count
returns-in_err-page-clause-count g c = λ nodes catalog valid few.
    let v = g.L.Look.words c.args.look.now in
    let rising = tree_rising (g.L.Look.page_state c.args.look.now) v c.args.catalog c.requires.tree in
    let now = remaining (g.L.Look.words c.seek.new.look) c.seek.new.self in
    let start = ap (λ (w : ℕ → ℕ → ℕ). remaining w c.seek.new.self) c.seek.ensures.unchanged.words ∙ c.seek.ensures.remaining in
    c.from_residual.ensures
    ∙ none_at_end (pairs v c.args.catalog) nodes c.args.node c.to_be_bytes-mark.result c.ranges.node.fits c.to_be_bytes-mark.ensures rising catalog now start c.in_err-page.ensures.none

pub returns-then-not-is_key_at-clause-count : goal.returns-then-not-is_key_at-clause-count
returns-then-not-is_key_at-clause-count g c = λ nodes catalog valid few.
    let v = g.L.Look.words c.args.look.now in
    let rising = tree_rising (g.L.Look.page_state c.args.look.now) v c.args.catalog c.requires.tree in
    let seen = g.L.Look.words c.seek.new.look in
    let item = item_at (seen c.in_ok-page.page) c.in_ok-page.at in
    let start = ap (λ (w : ℕ → ℕ → ℕ). remaining w c.seek.new.self) c.seek.ensures.unchanged.words ∙ c.seek.ensures.remaining in
    let same = c.is_key_at.ensures.same ∙ ap (λ (w : ℕ → ℕ → ℕ). is_eq (key_cmp (item_at (w c.in_ok-page.page) c.in_ok-page.at).key c.to_be_bytes-mark.result)) c.in_ok-page.ensures.unchanged.words in
    none_elsewhere (pairs v c.args.catalog) nodes c.args.node c.to_be_bytes-mark.result c.ranges.node.fits c.to_be_bytes-mark.ensures rising catalog (remaining seen c.seek.new.self) item c.is_key_at.result
    start c.in_ok-page.ensures.item same c.if-not-is_key_at.true

pub count_rest-requires : goal.count_rest-requires
count_rest-requires g c =
    let first = c.in_ok-page.ensures.unchanged in
    let last = c.is_key_at.ensures.unchanged in
    record {
      cursor = cursor_since (g.L.Look.page_state c.seek.new.look) (g.L.Look.page_state c.is_key_at.new.look) (g.L.Look.words c.seek.new.look) (g.L.Look.words c.is_key_at.new.look) c.step.new.self
          (last.page_state ∙ first.page_state) (last.words ∙ first.words) c.in_ok-page.ensures.cursor;
    }

pub returns-clause-count : goal.returns-clause-count
returns-clause-count g c = λ nodes catalog valid few.
    let v = g.L.Look.words c.args.look.now in
    let rising = tree_rising (g.L.Look.page_state c.args.look.now) v c.args.catalog c.requires.tree in
    let seen = g.L.Look.words c.seek.new.look in
    let item = item_at (seen c.in_ok-page.page) c.in_ok-page.at in
    let start = ap (λ (w : ℕ → ℕ → ℕ). remaining w c.seek.new.self) c.seek.ensures.unchanged.words ∙ c.seek.ensures.remaining in
    let same = c.is_key_at.ensures.same ∙ ap (λ (w : ℕ → ℕ → ℕ). is_eq (key_cmp (item_at (w c.in_ok-page.page) c.in_ok-page.at).key c.to_be_bytes-mark.result)) c.in_ok-page.ensures.unchanged.words in
    let rest = remaining (g.L.Look.words c.is_key_at.new.look) c.step.new.self in
    let left = ap (λ (w : ℕ → ℕ → ℕ). remaining w c.step.new.self) (c.is_key_at.ensures.unchanged.words ∙ c.in_ok-page.ensures.unchanged.words) ∙ c.in_ok-page.ensures.remaining in
    counted_after (pairs v c.args.catalog) nodes c.args.node c.to_be_bytes-mark.result c.ranges.node.fits c.to_be_bytes-mark.ensures rising catalog valid (remaining seen c.seek.new.self) rest item c.is_key_at.result c.count_rest.result
    start c.in_ok-page.ensures.item left same c.if-not-is_key_at.false few c.count_rest.ensures.count
