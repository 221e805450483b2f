use Rattle.std.proofs.Common.{◌≡◌, ◌∙◌, ◌<◌, ◌+◌, ◌*◌, ◌||◌, ◌++◌, ℕ, List, [], false, drop, refl, ap, sym, subst, arith}
use Rattle.std.specs.Option.{option_copied}
use Rattle.std.proofs.lemmas.List.{append-nil}
use Rattle.be_tree_reading.specs.Pair.{Pair}
use Rattle.be_tree_reading.specs.Page.{IsItem, item_at, items_of}
use Rattle.be_tree_reading.specs.Range.{is_past}
use Rattle.be_tree_reading.proofs.Frame.{unchanged_trans}
use Rattle.be_tree_reading.proofs.Reading.Leaves.{any_past, none_left, rest_at}
use Rattle.be_paged_reading.specs.Texts.{IsTextKey, node_if_passing, nodes_passing_to}
use Rattle.be_paged_reading.proofs.Asking.PassingNodes.{closed, got_more, got_whole, opened, text_at}
use Rattle.be_paged_reading.proofs.texts.test_leaf.Given.{Over}
use Rattle.be_paged_reading.proofs.texts.test_leaf.Goals as goal
use Rattle.be_paged_reading.proofs.texts.test_leaf.Goals.{After-is_past_at-is_past}

pub loop-i-init : goal.loop-i-init
loop-i-init g c = record {
  has = record { got = []; parts = refl; is = sym (append-nil c.args.found.now.items) };
  same = refl;
  unchanged = record { kept = c.word-count.ensures.kept; page_state = c.word-count.ensures.page_state; words = c.word-count.ensures.words };
}

pub is_past_at-is_past-requires-clause-in_page : goal.is_past_at-is_past-requires-clause-in_page
is_past_at-is_past-requires-clause-in_page g c = omega (arith, c.loop-i-test.true, c.word-count.ensures.value, c.requires.leaf.node.is_page.few)

pub is_past_at-is_past-requires-clause-item : goal.is_past_at-is_past-requires-clause-item
is_past_at-is_past-requires-clause-item g c =
    subst (λ (w : ℕ → ℕ → ℕ). IsItem (w c.args.leaf.0) (2 + 42 * c.loop-i.i)) (sym c.loop-i.invariant.unchanged.words)
    (c.requires.leaf.node.is_page.each c.loop-i.i (omega (arith, c.loop-i-test.true, c.word-count.ensures.value)))

here : (g : Over) (c : After-is_past_at-is_past g) → c.loop-i.i < g.L.Look.words c.args.look.now c.args.leaf.0 1
here g c = omega (arith, c.loop-i-test.true, c.word-count.ensures.value)

-- Whether the item is above the bound.
asked : (g : Over) (c : After-is_past_at-is_past g) → is_past (option_copied c.args.high) (item_at (g.L.Look.words c.args.look.now c.args.leaf.0) (2 + 42 * c.loop-i.i)).key ≡ c.is_past_at-is_past.result
asked g c =
    sym (ap (λ (w : ℕ → ℕ → ℕ). is_past (option_copied c.args.high) (item_at (w c.args.leaf.0) (2 + 42 * c.loop-i.i)).key) c.loop-i.invariant.unchanged.words)
    ∙ sym c.is_past_at-is_past.ensures.past

-- The words are those at the call.
read : (g : Over) (c : After-is_past_at-is_past g) → g.L.Look.words c.is_past_at-is_past.new.look ≡ g.L.Look.words c.args.look.now
read g c = c.is_past_at-is_past.ensures.unchanged.words ∙ c.loop-i.invariant.unchanged.words

pub test_item-requires-clause-item : goal.test_item-requires-clause-item
test_item-requires-clause-item g c =
    let b = (goal.at.test_item-requires-clause-item g c).After-is_past_at-is_past in
    subst (λ (w : ℕ → ℕ → ℕ). IsItem (w c.args.leaf.0) (2 + 42 * c.loop-i.i)) (sym (read g b)) (c.requires.leaf.node.is_page.each c.loop-i.i (here g b))

pub test_item-requires-clause-in_page : goal.test_item-requires-clause-in_page
test_item-requires-clause-in_page g c = omega (arith, c.loop-i-test.true, c.word-count.ensures.value, c.requires.leaf.node.is_page.few)

pub test_item-requires-clause-is_text : goal.test_item-requires-clause-is_text
test_item-requires-clause-is_text g c =
    let b = (goal.at.test_item-requires-clause-is_text g c).After-is_past_at-is_past in
    let words = g.L.Look.words c.args.look.now c.args.leaf.0 in
    subst (λ (w : ℕ → ℕ → ℕ). IsTextKey (item_at (w c.args.leaf.0) (2 + 42 * c.loop-i.i)).key) (sym (read g b))
    (text_at words c.args.leaf.1 c.loop-i.i (omega (arith, c.loop-i.auto.i)) (here g b) c.requires.texts)

pub loop-i-preserved : goal.loop-i-preserved
loop-i-preserved g c =
    let b = (goal.at.loop-i-preserved g c).After-is_past_at-is_past in
    let words = g.L.Look.words c.args.look.now in
    let high = option_copied c.args.high in
    let t = node_if_passing c.args.test.now.0 c.args.test.now.1 in
    let to = λ (xs : List Pair). nodes_passing_to c.args.test.now.0 c.args.test.now.1 xs high in
    let items = items_of (words c.args.leaf.0) in
    let i = c.loop-i.i in
    let x = item_at (words c.args.leaf.0) (2 + 42 * i) in
    let parts = rest_at (words c.args.leaf.0) i (here g b) in
    let within : is_past high x.key ≡ false = asked g b ∙ c.if-is_past.false in
    record {
      has = got_more c.args.found.now.items (to (drop c.args.leaf.1 items)) (to (drop i items)) (t x) (to (drop (i + 1) items)) c.loop-i.found.items c.test_item.new.found.items c.loop-i.invariant.has
          (ap to parts ∙ opened t x (drop (i + 1) items) high within)
          (c.in_ok-test_item.ensures.added ∙ ap (λ (w : ℕ → ℕ → ℕ). c.loop-i.found.items ++ t (item_at (w c.args.leaf.0) (2 + 42 * i))) (read g b));
      same = c.loop-i.invariant.same ∙ ap (any_past high) parts ∙ ap (λ q. q || any_past high (drop (i + 1) items)) within;
      unchanged = unchanged_trans g.L.Look.kept g.L.Look.page_state g.L.Look.words c.args.look.now c.is_past_at-is_past.new.look c.test_item.new.look
          (unchanged_trans g.L.Look.kept g.L.Look.page_state g.L.Look.words c.args.look.now c.loop-i.look c.is_past_at-is_past.new.look c.loop-i.invariant.unchanged c.is_past_at-is_past.ensures.unchanged)
          c.test_item.ensures.unchanged;
    }

-- The bound is in this leaf.
pub returns-then-is_past-clause-first : goal.returns-then-is_past-clause-first
returns-then-is_past-clause-first g c = record {
  left = nodes_passing_to c.args.test.now.0 c.args.test.now.1 (drop c.loop-i.i (items_of (g.L.Look.words c.args.look.now c.args.leaf.0))) (option_copied c.args.high);
  has = c.loop-i.invariant.has;
}

pub returns-then-is_past-clause-found : goal.returns-then-is_past-clause-found
returns-then-is_past-clause-found g c =
    let b = (goal.at.returns-then-is_past-clause-found g c).After-is_past_at-is_past in
    let words = g.L.Look.words c.args.look.now in
    let high = option_copied c.args.high in
    let t = node_if_passing c.args.test.now.0 c.args.test.now.1 in
    let to = λ (xs : List Pair). nodes_passing_to c.args.test.now.0 c.args.test.now.1 xs high in
    let items = items_of (words c.args.leaf.0) in
    let i = c.loop-i.i in
    let x = item_at (words c.args.leaf.0) (2 + 42 * i) in
    got_whole c.args.found.now.items (to (drop c.args.leaf.1 items)) (to (drop i items)) c.loop-i.found.items c.loop-i.invariant.has
    (ap to (rest_at (words c.args.leaf.0) i (here g b)) ∙ closed t x (drop (i + 1) items) high (asked g b ∙ c.if-is_past.true))

pub returns-then-is_past-clause-past : goal.returns-then-is_past-clause-past
returns-then-is_past-clause-past g c =
    let b = (goal.at.returns-then-is_past-clause-past g c).After-is_past_at-is_past in
    let words = g.L.Look.words c.args.look.now in
    let high = option_copied c.args.high in
    let items = items_of (words c.args.leaf.0) in
    let i = c.loop-i.i in
    sym (c.loop-i.invariant.same ∙ ap (any_past high) (rest_at (words c.args.leaf.0) i (here g b)) ∙ ap (λ q. q || any_past high (drop (i + 1) items)) (asked g b ∙ c.if-is_past.true))

pub returns-in_err-test_item-clause-first : goal.returns-in_err-test_item-clause-first
returns-in_err-test_item-clause-first g c =
    let has = c.loop-i.invariant.has in
    record {
      left = nodes_passing_to c.args.test.now.0 c.args.test.now.1 (drop c.loop-i.i (items_of (g.L.Look.words c.args.look.now c.args.leaf.0))) (option_copied c.args.high);
      has = record { got = has.got; parts = has.parts; is = c.in_err-test_item.ensures.kept ∙ has.is };
    }

-- No key of this leaf is above the bound.
pub returns-clause-first : goal.returns-clause-first
returns-clause-first g c = record {
  left = nodes_passing_to c.args.test.now.0 c.args.test.now.1 (drop c.loop-i.i (items_of (g.L.Look.words c.args.look.now c.args.leaf.0))) (option_copied c.args.high);
  has = c.loop-i.invariant.has;
}

pub returns-clause-found : goal.returns-clause-found
returns-clause-found g c =
    let words = g.L.Look.words c.args.look.now in
    let to = λ (xs : List Pair). nodes_passing_to c.args.test.now.0 c.args.test.now.1 xs (option_copied c.args.high) in
    let items = items_of (words c.args.leaf.0) in
    let none = none_left (words c.args.leaf.0) c.loop-i.i (omega (arith, c.loop-i-test.false, c.word-count.ensures.value)) in
    got_whole c.args.found.now.items (to (drop c.args.leaf.1 items)) (to (drop c.loop-i.i items)) c.loop-i.found.items c.loop-i.invariant.has (ap to none)

pub returns-clause-past : goal.returns-clause-past
returns-clause-past g c =
    let none = none_left (g.L.Look.words c.args.look.now c.args.leaf.0) c.loop-i.i (omega (arith, c.loop-i-test.false, c.word-count.ensures.value)) in
    sym (c.loop-i.invariant.same ∙ ap (any_past (option_copied c.args.high)) none)
