use Rattle.std.proofs.Common.{◌≡◌, ◌∙◌, ◌<◌, ◌≤◌, ◌+◌, ◌*◌, ◌||◌, ℕ, List, [], false, length, drop, refl, ap, sym, subst, arith}
use Rattle.std.specs.List.{slice_get}
use Rattle.std.specs.Option.{option_copied}
use Rattle.std.proofs.lemmas.List.{append-nil}
use Rattle.be_tree_reading.specs.Pair.{Pair}
use Rattle.be_tree_reading.specs.Page.{IsItem, item_at, items_of}
use Rattle.be_tree_reading.specs.Places.{number_at_place}
use Rattle.be_tree_reading.specs.Range.{is_past, number_of, numbers_to}
use Rattle.be_tree_reading.proofs.Frame.{unchanged_trans}
use Rattle.be_tree_reading.proofs.Reading.LastBytes.{got_one, got_all, past_bound}
use Rattle.be_tree_reading.proofs.Reading.Leaves.{any_past, long_at, none_left, rest_at}
use Rattle.be_tree_reading.proofs.numbers.push_to.Given.{Over}
use Rattle.be_tree_reading.proofs.numbers.push_to.Goals as goal
use Rattle.be_tree_reading.proofs.numbers.push_to.Goals.{After-is_past_at}

pub loop-at-init : goal.loop-at-init
loop-at-init g c = record {
  number = number_at_place c.args.from;
  is_place = c.requires.place;
  begun = omega arith;
  in_range = c.requires.in_range;
  has = record { got = []; parts = refl; is = sym (append-nil c.args.found.now.items) };
  same = refl;
  unchanged = c.end_of-end.ensures.unchanged;
}

-- the place is an item's
pub is_past_at-requires-clause-in_page : goal.is_past_at-requires-clause-in_page
is_past_at-requires-clause-in_page g c = omega (arith, c.loop-at.invariant.is_place, c.loop-at-test.true, c.end_of-end.ensures.end, c.requires.leaf.node.is_page.few)

pub is_past_at-requires-clause-item : goal.is_past_at-requires-clause-item
is_past_at-requires-clause-item g c =
    let i = c.loop-at.invariant in
    subst (λ (w : ℕ → ℕ → ℕ). IsItem (w c.args.page) c.loop-at.at) (sym i.unchanged.words)
    (subst (λ (p : ℕ). IsItem (g.L.Look.words c.args.look.now c.args.page) p) (sym i.is_place)
    (c.requires.leaf.node.is_page.each i.number (omega (arith, i.is_place, c.loop-at-test.true, c.end_of-end.ensures.end))))

here : (g : Over) (c : After-is_past_at g) → c.loop-at.invariant.number < g.L.Look.words c.args.look.now c.args.page 1
here g c = omega (arith, c.loop-at.invariant.is_place, c.loop-at-test.true, c.end_of-end.ensures.end)

-- whether the item is above the bound
asked : (g : Over) (c : After-is_past_at g) → is_past (option_copied c.args.high) (item_at (g.L.Look.words c.args.look.now c.args.page) (2 + 42 * c.loop-at.invariant.number)).key ≡ c.is_past_at.result
asked g c =
    sym (ap (λ (w : ℕ → ℕ → ℕ). is_past (option_copied c.args.high) (item_at (w c.args.page) c.loop-at.at).key) c.loop-at.invariant.unchanged.words
    ∙ ap (λ (p : ℕ). is_past (option_copied c.args.high) (item_at (g.L.Look.words c.args.look.now c.args.page) p).key) c.loop-at.invariant.is_place)
    ∙ sym c.is_past_at.ensures.past

pub number_at-number-requires-clause-long : goal.number_at-number-requires-clause-long
number_at-number-requires-clause-long g c =
    let at = (goal.at.number_at-number-requires-clause-long g c).After-is_past_at in
    let i = c.loop-at.invariant in
    subst (λ (w : ℕ → ℕ → ℕ). 8 ≤ length (item_at (w c.args.page) c.loop-at.at).key) (sym (c.is_past_at.ensures.unchanged.words ∙ i.unchanged.words))
    (subst (λ (p : ℕ). 8 ≤ length (item_at (g.L.Look.words c.args.look.now c.args.page) p).key) (sym i.is_place)
    (long_at (g.L.Look.words c.args.look.now c.args.page) (number_at_place c.args.from) i.number i.begun (here g at) c.requires.long))

pub number_at-number-requires-clause-item : goal.number_at-number-requires-clause-item
number_at-number-requires-clause-item g c =
    let i = c.loop-at.invariant in
    subst (λ (w : ℕ → ℕ → ℕ). IsItem (w c.args.page) c.loop-at.at) (sym (c.is_past_at.ensures.unchanged.words ∙ i.unchanged.words))
    (subst (λ (p : ℕ). IsItem (g.L.Look.words c.args.look.now c.args.page) p) (sym i.is_place)
    (c.requires.leaf.node.is_page.each i.number (omega (arith, i.is_place, c.loop-at-test.true, c.end_of-end.ensures.end))))

pub loop-at-preserved : goal.loop-at-preserved
loop-at-preserved g c =
    let at = (goal.at.loop-at-preserved g c).After-is_past_at in
    let words = g.L.Look.words c.args.look.now in
    let same = c.loop-at.invariant.unchanged.words in
    let high = option_copied c.args.high in
    let items = items_of (words c.args.page) in
    let place = c.loop-at.invariant.number in
    let x = item_at (words c.args.page) (2 + 42 * place) in
    let parts = rest_at (words c.args.page) place (here g at) in
    let within : is_past high x.key ≡ false = asked g at ∙ c.if-is_past_at.false in
    let number : c.number_at-number.result ≡ number_of x.key =
    c.number_at-number.ensures.number ∙ ap (λ (w : ℕ → ℕ → ℕ). number_of (item_at (w c.args.page) c.loop-at.at).key) (c.is_past_at.ensures.unchanged.words ∙ same)
    ∙ ap (λ (p : ℕ). number_of (item_at (words c.args.page) p).key) c.loop-at.invariant.is_place in
    record {
      number = place + 1;
      is_place = omega (arith, c.loop-at.invariant.is_place);
      begun = omega (arith, c.loop-at.invariant.begun);
      in_range = omega (arith, here g at);
      has = got_one c.args.found.now.items (numbers_to (drop (number_at_place c.args.from) items) high) c.loop-at.found.items c.push.new.self.items (drop place items) (drop (place + 1) items) high x c.number_at-number.result
          (ap (λ (xs : List Pair). slice_get xs 0) parts) (sym (ap (λ (xs : List Pair). drop 1 xs) parts)) within number c.in_ok-push.ensures.items c.loop-at.invariant.has;
      same = c.loop-at.invariant.same ∙ ap (any_past high) parts ∙ ap (λ b. b || any_past high (drop (place + 1) items)) within;
      unchanged = unchanged_trans g.L.Look.kept g.L.Look.page_state g.L.Look.words c.args.look.now c.is_past_at.new.look c.number_at-number.new.look
          (unchanged_trans g.L.Look.kept g.L.Look.page_state g.L.Look.words c.args.look.now c.loop-at.look c.is_past_at.new.look c.loop-at.invariant.unchanged c.is_past_at.ensures.unchanged)
          c.number_at-number.ensures.unchanged;
    }

-- the bound is at this item
pub returns-then-is_past_at-clause-found : goal.returns-then-is_past_at-clause-found
returns-then-is_past_at-clause-found g c =
    let at = (goal.at.returns-then-is_past_at-clause-found g c).After-is_past_at in
    let high = option_copied c.args.high in
    let items = items_of (g.L.Look.words c.args.look.now c.args.page) in
    let place = c.loop-at.invariant.number in
    let x = item_at (g.L.Look.words c.args.look.now c.args.page) (2 + 42 * place) in
    let parts = rest_at (g.L.Look.words c.args.look.now c.args.page) place (here g at) in
    got_all c.args.found.now.items (numbers_to (drop (number_at_place c.args.from) items) high) (numbers_to (drop place items) high) c.loop-at.found.items
    (past_bound (drop place items) high x (ap (λ (xs : List Pair). slice_get xs 0) parts) (asked g at ∙ c.if-is_past_at.true)) c.loop-at.invariant.has

pub returns-then-is_past_at-clause-past : goal.returns-then-is_past_at-clause-past
returns-then-is_past_at-clause-past g c =
    let at = (goal.at.returns-then-is_past_at-clause-past g c).After-is_past_at in
    let high = option_copied c.args.high in
    let items = items_of (g.L.Look.words c.args.look.now c.args.page) in
    let place = c.loop-at.invariant.number in
    let parts = rest_at (g.L.Look.words c.args.look.now c.args.page) place (here g at) in
    sym (c.loop-at.invariant.same ∙ ap (any_past high) parts ∙ ap (λ b. b || any_past high (drop (place + 1) items)) (asked g at ∙ c.if-is_past_at.true))

-- no key is above it
pub returns-clause-found : goal.returns-clause-found
returns-clause-found g c =
    let high = option_copied c.args.high in
    let items = items_of (g.L.Look.words c.args.look.now c.args.page) in
    let i = c.loop-at.invariant in
    let none = none_left (g.L.Look.words c.args.look.now c.args.page) i.number (omega (arith, i.is_place, c.loop-at-test.false, c.end_of-end.ensures.end)) in
    got_all c.args.found.now.items (numbers_to (drop (number_at_place c.args.from) items) high) (numbers_to (drop i.number items) high) c.loop-at.found.items
    (ap (λ (xs : List Pair). numbers_to xs high) none) c.loop-at.invariant.has

pub returns-clause-past : goal.returns-clause-past
returns-clause-past g c =
    let i = c.loop-at.invariant in
    let none = none_left (g.L.Look.words c.args.look.now c.args.page) i.number (omega (arith, i.is_place, c.loop-at-test.false, c.end_of-end.ensures.end)) in
    sym (c.loop-at.invariant.same ∙ ap (any_past (option_copied c.args.high)) none)
