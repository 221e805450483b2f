use Rattle.std.proofs.Common.{◌≡◌, ◌∙◌, ◌++◌, ◌+◌, ◌-◌, ◌*◌, ℕ, List, ◌≤◌, None, false, drop, refl, ap, sym, subst, arith}
use Rattle.std.specs.Option.{option_copied}
use Rattle.std.specs.Result.{IfOk, OnOk}
use Rattle.std.specs.Prelude.{Bool}
use Rattle.be_tree_reading.specs.Pair.{Pair}
use Rattle.be_tree_reading.specs.Page.{IsItem, item_at, items_of}
use Rattle.be_tree_reading.specs.Places.{number_at_place}
use Rattle.be_tree_reading.specs.Range.{AreLong, HasFirst, is_past, numbers_to}
use Rattle.be_tree_reading.proofs.Items.{item_get, items_count}
use Rattle.be_tree_reading.proofs.Reading.Leaves.{any_past, never_past, none_past, none_past_from, uncut}
use Rattle.be_tree_reading.proofs.Reading.Starts.{number_back}
use Rattle.be_tree_reading.proofs.numbers.push_leaf.Given.{Over}
use Rattle.be_tree_reading.proofs.numbers.push_leaf.Goals as goal
use Rattle.be_tree_reading.proofs.numbers.push_leaf.Goals.{After-is_past_at}

pub is_past_at-requires-clause-in_page : goal.is_past_at-requires-clause-in_page
is_past_at-requires-clause-in_page g c = omega (arith, c.word-count.ensures.value, c.requires.leaf.node.is_page.few, c.requires.left)

pub is_past_at-requires-clause-item : goal.is_past_at-requires-clause-item
is_past_at-requires-clause-item g c =
    subst (λ (w : ℕ → ℕ → ℕ). IsItem (w c.args.page) (2 + 42 * (c.word-count.result - 1))) (sym c.word-count.ensures.words)
    (c.requires.leaf.node.is_page.each (c.word-count.result - 1) (omega (arith, c.word-count.ensures.value, c.requires.left)))

-- the words are those at the call
words_same : (g : Over) (c : After-is_past_at g) → g.L.Look.words c.is_past_at.new.look ≡ g.L.Look.words c.args.look.now
words_same g c = c.is_past_at.ensures.unchanged.words ∙ c.word-count.ensures.words

-- if the last key isn't above the bound, none is
within : (g : Over) (c : After-is_past_at g) → c.is_past_at.result ≡ false → any_past (option_copied c.args.high) (drop c.args.from (items_of (g.L.Look.words c.args.look.now c.args.page))) ≡ false
within g c is =
    let words = g.L.Look.words c.args.look.now in
    let high = option_copied c.args.high in
    let items = items_of (words c.args.page) in
    let last = c.word-count.result - 1 in
    let x = item_at (words c.args.page) (2 + 42 * last) in
    let asked : is_past high x.key ≡ false =
    sym (ap (λ (w : ℕ → ℕ → ℕ). is_past high (item_at (w c.args.page) (2 + 42 * last)).key) c.word-count.ensures.words) ∙ sym c.is_past_at.ensures.past ∙ is in
    none_past_from c.args.from items high
    (none_past items high last x c.requires.leaf.below.rising (omega (arith, c.word-count.ensures.value, c.requires.left, items_count (words c.args.page)))
    (ap (λ (y : Pair). is_past high y.key) (item_get (words c.args.page) last x (omega (arith, c.word-count.ensures.value, c.requires.left))) ∙ asked))

-- the number at a place
number : (n : ℕ) → number_at_place (2 + 42 * n) ≡ n
number n = number_back (2 + 42 * n) n refl

long : (g : Over) (c : After-is_past_at g) → AreLong (drop (number_at_place (2 + 42 * c.args.from)) (items_of (g.L.Look.words c.is_past_at.new.look c.args.page)))
long g c =
    subst (λ (w : ℕ → ℕ → ℕ). AreLong (drop (number_at_place (2 + 42 * c.args.from)) (items_of (w c.args.page)))) (sym (words_same g c))
    (subst (λ (n : ℕ). AreLong (drop n (items_of (g.L.Look.words c.args.look.now c.args.page)))) (sym (number c.args.from)) c.requires.long)

inside : (g : Over) (c : After-is_past_at g) → number_at_place (2 + 42 * c.args.from) ≤ g.L.Look.words c.is_past_at.new.look c.args.page 1
inside g c =
    subst (λ (w : ℕ → ℕ → ℕ). number_at_place (2 + 42 * c.args.from) ≤ w c.args.page 1) (sym (words_same g c)) (omega (arith, number c.args.from, c.requires.left))

pub push_to-requires-clause-place : goal.push_to-requires-clause-place
push_to-requires-clause-place g c = sym (ap (λ (n : ℕ). 2 + 42 * n) (number c.args.from))

pub push_to-requires-clause-in_range : goal.push_to-requires-clause-in_range
push_to-requires-clause-in_range g c = inside g (goal.at.push_to-requires-clause-in_range g c).After-is_past_at

pub push_to-requires-clause-long : goal.push_to-requires-clause-long
push_to-requires-clause-long g c = long g (goal.at.push_to-requires-clause-long g c).After-is_past_at

pub push_to-requires-else-is_past_at-clause-place : goal.push_to-requires-else-is_past_at-clause-place
push_to-requires-else-is_past_at-clause-place g c = sym (ap (λ (n : ℕ). 2 + 42 * n) (number c.args.from))

pub push_to-requires-else-is_past_at-clause-in_range : goal.push_to-requires-else-is_past_at-clause-in_range
push_to-requires-else-is_past_at-clause-in_range g c = inside g (goal.at.push_to-requires-else-is_past_at-clause-in_range g c).After-is_past_at

pub push_to-requires-else-is_past_at-clause-long : goal.push_to-requires-else-is_past_at-clause-long
push_to-requires-else-is_past_at-clause-long g c = long g (goal.at.push_to-requires-else-is_past_at-clause-long g c).After-is_past_at

-- the items from the place on are those from the number on
same_items : (g : Over) (c : After-is_past_at g) → drop (number_at_place (2 + 42 * c.args.from)) (items_of (g.L.Look.words c.is_past_at.new.look c.args.page)) ≡ drop c.args.from (items_of (g.L.Look.words c.args.look.now c.args.page))
same_items g c =
    ap (λ (w : ℕ → ℕ → ℕ). drop (number_at_place (2 + 42 * c.args.from)) (items_of (w c.args.page))) (words_same g c)
    ∙ ap (λ (n : ℕ). drop n (items_of (g.L.Look.words c.args.look.now c.args.page))) (number c.args.from)

pub returns-then-is_past_at-clause-first : goal.returns-then-is_past_at-clause-first
returns-then-is_past_at-clause-first g c =
    let at = (goal.at.returns-then-is_past_at-clause-first g c).After-is_past_at in
    subst (λ (xs : List Pair). HasFirst c.args.found.now.items (numbers_to xs (option_copied c.args.high)) c.push_to.new.found.items) (same_items g at) c.push_to.ensures.first

pub returns-then-is_past_at-clause-found : goal.returns-then-is_past_at-clause-found
returns-then-is_past_at-clause-found g c =
    let at = (goal.at.returns-then-is_past_at-clause-found g c).After-is_past_at in
    subst (λ (xs : List Pair). OnOk c.push_to.result (c.push_to.new.found.items ≡ c.args.found.now.items ++ numbers_to xs (option_copied c.args.high))) (same_items g at) c.push_to.ensures.found

pub returns-then-is_past_at-clause-past : goal.returns-then-is_past_at-clause-past
returns-then-is_past_at-clause-past g c =
    let at = (goal.at.returns-then-is_past_at-clause-past g c).After-is_past_at in
    subst (λ (xs : List Pair). IfOk c.push_to.result (λ (past : Bool). past ≡ any_past (option_copied c.args.high) xs)) (same_items g at) c.push_to.ensures.past

-- what is pushed without a bound
unbounded : (g : Over) (c : After-is_past_at g) → c.is_past_at.result ≡ false → numbers_to (drop (number_at_place (2 + 42 * c.args.from)) (items_of (g.L.Look.words c.is_past_at.new.look c.args.page))) None
    ≡ numbers_to (drop c.args.from (items_of (g.L.Look.words c.args.look.now c.args.page))) (option_copied c.args.high)
unbounded g c is =
    ap (λ (xs : List Pair). numbers_to xs None) (same_items g c)
    ∙ uncut (drop c.args.from (items_of (g.L.Look.words c.args.look.now c.args.page))) (option_copied c.args.high) (within g c is)

pub returns-else-is_past_at-clause-first : goal.returns-else-is_past_at-clause-first
returns-else-is_past_at-clause-first g c =
    let at = (goal.at.returns-else-is_past_at-clause-first g c).After-is_past_at in
    subst (λ (ns : List ℕ). HasFirst c.args.found.now.items ns c.push_to-else-is_past_at.new.found.items) (unbounded g at c.if-is_past_at.false) c.push_to-else-is_past_at.ensures.first

pub returns-else-is_past_at-clause-found : goal.returns-else-is_past_at-clause-found
returns-else-is_past_at-clause-found g c =
    let at = (goal.at.returns-else-is_past_at-clause-found g c).After-is_past_at in
    subst (λ (ns : List ℕ). OnOk c.push_to-else-is_past_at.result (c.push_to-else-is_past_at.new.found.items ≡ c.args.found.now.items ++ ns)) (unbounded g at c.if-is_past_at.false) c.push_to-else-is_past_at.ensures.found

pub returns-else-is_past_at-clause-past : goal.returns-else-is_past_at-clause-past
returns-else-is_past_at-clause-past g c =
    let at = (goal.at.returns-else-is_past_at-clause-past g c).After-is_past_at in
    subst (λ (b : Bool). IfOk c.push_to-else-is_past_at.result (λ (past : Bool). past ≡ b))
    (never_past (drop (number_at_place (2 + 42 * c.args.from)) (items_of (g.L.Look.words c.is_past_at.new.look c.args.page))) ∙ sym (within g at c.if-is_past_at.false)) c.push_to-else-is_past_at.ensures.past
