use Rattle.std.proofs.Common.{◌≡◌, ◌∙◌, ℕ, ◌+◌, ◌-◌, ◌<◌, List, [], ◌∷◌, IsTrue, length, take, ap, sym, subst, arith, rules, ◌*◌, refl}
use Rattle.std.proofs.Math.Seq.{take-length}
use Rattle.std.proofs.lemmas.List.{length-take-le}
use Rattle.std.proofs.lemmas.Result.{IfOk-weaker}
use Rattle.be_pages.specs.Pages.{IsUnchanged, KeepsStart}
use Rattle.be_tree.specs.declared.path.Step.{Step}
use Rattle.be_tree.specs.declared.settling.Turn.{Turn}
use Rattle.be_tree.specs.declared.slot.Slot.{Slot}
use Rattle.be_tree_reading.specs.Page.{level_of}
use Rattle.be_tree_reading.specs.Pair.{Pair}
use Rattle.be_tree.specs.Path.{IsInHand, minimum_at, whole}
use Rattle.be_tree.specs.Settling.{IsAbove, IsTurned, taken_for}
use Rattle.be_tree.specs.Slot.{pairs_of}
use Rattle.be_tree_reading.specs.Tree.{BecomesTree, pages, pages_below, pairs_below}
use Rattle.be_tree.proofs.Balances.{hand_apart, hand_rest, hand_tree_at, hands_start, read_hand, read_same, steps_above}
use Rattle.be_tree_reading.proofs.Frame.{readable_kept, start_trans, unchanged_start}
use Rattle.be_tree_reading.proofs.Shape.Heights.{height}
use Rattle.be_tree.proofs.Shape.Parts.{on_err}
use Rattle.be_tree_reading.proofs.Shape.Roots.{root_some}
use Rattle.be_tree.specs.Counting.{TakesAtMost, TakesFewer, in_hand, most_taken}
use Rattle.be_pages.specs.declared.room.PageState.{PageState}
use Rattle.be_tree.proofs.Sizes.InHand.{takes_same}
use Rattle.be_tree.proofs.Sizes.Refusals.{refuses_since, takes_on}
use Rattle.be_tree.proofs.settling.settle.Given.{Over}
use Rattle.be_tree.proofs.settling.settle.Goals as goal
use Rattle.be_tree.proofs.settling.settle.Goals.{After-deref, After-word-level}

minus_none : (n : ℕ) → n - 0 ≡ n
minus_none n = omega arith

pub loop-i-init : goal.loop-i-init
loop-i-init g c =
    let above = c.args.above.now in
    let is : take (length above - 0) above ≡ above = ap (λ n. take n above) (minus_none (length above)) ∙ take-length above in
    record {
      in_hand = λ start h. subst (λ xs. IsInHand g.R.Look.kept g.R.Look.page_state g.R.Look.words c.args.root xs c.args.was c.args.pair.now c.args.in_hand.items (level_of (g.R.Look.words start c.args.was)) start c.args.room.now) (sym is) h;
      same = λ start h. ap (λ xs. whole (g.R.Look.words start) xs (pairs_below (level_of (g.R.Look.words start c.args.was)) (g.R.Look.words c.args.room.now) (pairs_of (g.R.Look.words c.args.room.now) c.args.pair.now c.args.in_hand.items))) is;
      within = omega arith;
      takes = takes_same (g.R.Look.page_state c.args.room.now) (g.R.Look.page_state c.args.room.now) refl;
      few = c.requires.few;
      some = c.requires.some;
    }

-- the node as it was given, for every tree to which it may belong, and the pairs that the tree will
-- have
abbrev Begun : (g : Over) (c : After-deref g) (start : g.row.R.Denot) → Type 0
Begun g c start = IsInHand g.R.Look.kept g.R.Look.page_state g.R.Look.words c.args.root c.args.above.now c.args.was c.args.pair.now c.args.in_hand.items (level_of (g.R.Look.words start c.args.was)) start c.args.room.now

abbrev all : (g : Over) (c : After-deref g) (start : g.row.R.Denot) → List Pair
all g c start = whole (g.R.Look.words start) c.args.above.now (pairs_below (level_of (g.R.Look.words start c.args.was)) (g.R.Look.words c.args.room.now) (pairs_of (g.R.Look.words c.args.room.now) c.args.pair.now c.args.in_hand.items))

-- the steps left
abbrev left : (xs : List Step) (i : ℕ) → List Step
left xs i = take (length xs - i) xs

-- how many pages are taken until the page above is unwritten, and until the pages above are written
one_more : (i : ℕ) (s t u : ℕ → PageState) → TakesAtMost (2 * i) s t → TakesAtMost 2 t u → TakesAtMost (2 * (i + 1)) s u
one_more i s t u before two n = omega (arith, before n, two n)

last_takes : (above : List Step) (i : ℕ) (s t u : ℕ → PageState) → i < length above → TakesAtMost (2 * i) s t → TakesAtMost (length (left above i) + 2) t u → TakesAtMost (most_taken (length above)) s u
last_takes above i s t u lt before more n = omega (arith, lt, length-take-le (length above - i) above (omega arith), before n, more n)

last_fewer : (above : List Step) (i : ℕ) (s t u : ℕ → PageState) → i < length above → TakesAtMost (2 * i) s t → TakesFewer (length (left above i) + 2) t u → TakesFewer (most_taken (length above)) s u
last_fewer above i s t u lt before more n = omega (arith, lt, length-take-le (length above - i) above (omega arith), before n, more n)

-- the node that remains to be settled
module _ (g : Over) (c : After-deref g) (start : g.row.R.Denot) (h : Begun g c start) where
  hand : IsInHand g.R.Look.kept g.R.Look.page_state g.R.Look.words c.args.root (left c.args.above.now c.loop-i.i) c.loop-i.was c.args.pair.now c.deref.result.now (level_of (g.R.Look.words start c.loop-i.was)) start c.loop-i.room
  hand =
      subst (λ xs. IsInHand g.R.Look.kept g.R.Look.page_state g.R.Look.words c.args.root (left c.args.above.now c.loop-i.i) c.loop-i.was c.args.pair.now xs (level_of (g.R.Look.words start c.loop-i.was)) start c.loop-i.room) (sym c.deref.ensures.0)
      (c.loop-i.invariant.in_hand start h)

  same : whole (g.R.Look.words start) (left c.args.above.now c.loop-i.i) (pairs_below (level_of (g.R.Look.words start c.loop-i.was)) (g.R.Look.words c.loop-i.room) (pairs_of (g.R.Look.words c.loop-i.room) c.args.pair.now c.deref.result.now)) ≡ all g c start
  same =
      ap (λ xs. whole (g.R.Look.words start) (left c.args.above.now c.loop-i.i) (pairs_below (level_of (g.R.Look.words start c.loop-i.was)) (g.R.Look.words c.loop-i.room) (pairs_of (g.R.Look.words c.loop-i.room) c.args.pair.now xs))) c.deref.ensures.0
      ∙ c.loop-i.invariant.same start h

  starts : KeepsStart g.R.Look.kept g.R.Look.page_state g.R.Look.words c.args.room.now c.loop-i.room
  starts =
      hands_start g.R.Look.kept g.R.Look.page_state g.R.Look.words c.args.root c.args.above.now (left c.args.above.now c.loop-i.i) c.args.was c.loop-i.was c.args.pair.now c.args.in_hand.items c.loop-i.slots.items
      (level_of (g.R.Look.words start c.args.was)) (level_of (g.R.Look.words start c.loop-i.was)) start c.args.room.now c.loop-i.room h (c.loop-i.invariant.in_hand start h)

  -- the page above it is now unwritten
  up : (page : ℕ) (out : List Slot) (new : g.row.R.Denot) → c.loop-i.i < length c.args.above.now
      → IsAbove g.R.Look.kept g.R.Look.page_state g.R.Look.words c.args.root (take (length (left c.args.above.now c.loop-i.i) - 1) (left c.args.above.now c.loop-i.i)) page c.args.pair.now out
      (whole (g.R.Look.words start) (left c.args.above.now c.loop-i.i) (pairs_below (level_of (g.R.Look.words start c.loop-i.was)) (g.R.Look.words c.loop-i.room) (pairs_of (g.R.Look.words c.loop-i.room) c.args.pair.now c.deref.result.now))) start new
      → IsAbove g.R.Look.kept g.R.Look.page_state g.R.Look.words c.args.root (take (length c.args.above.now - (c.loop-i.i + 1)) c.args.above.now) page c.args.pair.now out (all g c start) start new
  up page out new lt turned =
      subst (λ xs. IsAbove g.R.Look.kept g.R.Look.page_state g.R.Look.words c.args.root xs page c.args.pair.now out (all g c start) start new) (steps_above c.args.above.now c.loop-i.i lt)
      (subst (λ ps. IsAbove g.R.Look.kept g.R.Look.page_state g.R.Look.words c.args.root (take (length (left c.args.above.now c.loop-i.i) - 1) (left c.args.above.now c.loop-i.i)) page c.args.pair.now out ps start new) same turned)

  -- or the tree is complete
  whole_now : (root : ℕ) (new : g.row.R.Denot)
      → BecomesTree g.R.Look.kept g.R.Look.page_state g.R.Look.words (pages (g.R.Look.words start) c.args.root)
      (whole (g.R.Look.words start) (left c.args.above.now c.loop-i.i) (pairs_below (level_of (g.R.Look.words start c.loop-i.was)) (g.R.Look.words c.loop-i.room) (pairs_of (g.R.Look.words c.loop-i.room) c.args.pair.now c.deref.result.now))) root start new
      → BecomesTree g.R.Look.kept g.R.Look.page_state g.R.Look.words (pages (g.R.Look.words start) c.args.root) (all g c start) root start new
  whole_now root new made = subst (λ ps. BecomesTree g.R.Look.kept g.R.Look.page_state g.R.Look.words (pages (g.R.Look.words start) c.args.root) ps root start new) same made

pub settle_once-requires-clause-in_hand : goal.settle_once-requires-clause-in_hand
settle_once-requires-clause-in_hand g c = (c.requires.in_hand.0, hand g (goal.at.settle_once-requires-clause-in_hand g c).After-deref c.requires.in_hand.0 c.requires.in_hand.1)

pub settle_once-requires-clause-below : goal.settle_once-requires-clause-below
settle_once-requires-clause-below g c = omega (arith, c.loop-i-test.true, length-take-le (length c.args.above.now - c.loop-i.i) c.args.above.now (omega arith))

pub settle_once-requires-clause-size : goal.settle_once-requires-clause-size
settle_once-requires-clause-size g c =
    (omega (arith, c.loop-i.invariant.some c.loop-i-test.true, ap length c.deref.ensures.0), omega (arith, c.loop-i.invariant.few, ap length c.deref.ensures.0))

pub settle_once-requires-clause-open : goal.settle_once-requires-clause-open
settle_once-requires-clause-open g c =
    let at = (goal.at.settle_once-requires-clause-open g c).After-deref in
    subst (λ k. IsTrue (g.R.Look.is_open k)) (sym (starts g at c.requires.in_hand.0 c.requires.in_hand.1).kept) c.requires.open

pub loop-i-preserved : goal.loop-i-preserved
loop-i-preserved g c =
    let at = (goal.at.loop-i-preserved g c).After-deref in
    let new = c.settle_once.new.room in
    let page = c.in-Above.page in
    let out = c.in-Above.items.items in
    let turned = λ (start : g.row.R.Denot) (h : Begun g at start).
    up g at start h page out new c.loop-i-test.true
    (subst (λ (t : Turn). IsTurned g.R.Look.kept g.R.Look.page_state g.R.Look.words c.args.root (left c.args.above.now c.loop-i.i) c.args.pair.now
    (whole (g.R.Look.words start) (left c.args.above.now c.loop-i.i) (pairs_below (level_of (g.R.Look.words start c.loop-i.was)) (g.R.Look.words c.loop-i.room) (pairs_of (g.R.Look.words c.loop-i.room) c.args.pair.now c.deref.result.now))) t start new) c.in-Above.is
    (c.in_ok-turn.ensures.ok start (hand g at start h))) in
    let first = turned c.requires.in_hand.0 c.requires.in_hand.1 in
    record {
      in_hand = λ start h. (turned start h).in_hand;
      same = λ start h. (turned start h).same;
      within = omega (arith, c.loop-i-test.true);
      takes = one_more c.loop-i.i (g.R.Look.page_state c.args.room.now) (g.R.Look.page_state c.loop-i.room) (g.R.Look.page_state new) c.loop-i.invariant.takes
          (subst (λ (t : Turn). TakesAtMost (taken_for t (length (left c.args.above.now c.loop-i.i))) (g.R.Look.page_state c.loop-i.room) (g.R.Look.page_state new)) c.in-Above.is c.in_ok-turn.ensures.takes);
      few = first.few;
      some = λ lt. first.some (omega (arith, lt, length-take-le (length c.args.above.now - (c.loop-i.i + 1)) c.args.above.now (omega arith)));
    }

pub returns-in-Whole-clause-ok : goal.returns-in-Whole-clause-ok
returns-in-Whole-clause-ok g c = λ start h.
    let at = (goal.at.returns-in-Whole-clause-ok g c).After-deref in
    let new = c.settle_once.new.room in
    whole_now g at start h c.in-Whole.new new
    (subst (λ (t : Turn). IsTurned g.R.Look.kept g.R.Look.page_state g.R.Look.words c.args.root (left c.args.above.now c.loop-i.i) c.args.pair.now
    (whole (g.R.Look.words start) (left c.args.above.now c.loop-i.i) (pairs_below (level_of (g.R.Look.words start c.loop-i.was)) (g.R.Look.words c.loop-i.room) (pairs_of (g.R.Look.words c.loop-i.room) c.args.pair.now c.deref.result.now))) t start new) c.in-Whole.is
    (c.in_ok-turn.ensures.ok start (hand g at start h)))

pub returns-in_err-turn-clause-refused : goal.returns-in_err-turn-clause-refused
returns-in_err-turn-clause-refused g c =
    let at = (goal.at.returns-in_err-turn-clause-refused g c).After-deref in
    let P = start_trans g.R.Look.kept g.R.Look.page_state g.R.Look.words c.args.room.now c.loop-i.room c.settle_once.new.room (starts g at c.requires.in_hand.0 c.requires.in_hand.1) c.in_err-turn.ensures.refused.0 in
    (on_err _ P, search rules, takes_on (most_taken (length c.args.above.now)) _ (g.R.Look.page_state c.args.room.now) (g.R.Look.page_state c.settle_once.new.room) (last_fewer c.args.above.now c.loop-i.i (g.R.Look.page_state c.args.room.now) (g.R.Look.page_state c.loop-i.room) (g.R.Look.page_state c.settle_once.new.room) c.loop-i-test.true c.loop-i.invariant.takes c.in_err-turn.ensures.refused.2.1))

pub returns-in-Whole-clause-refused : goal.returns-in-Whole-clause-refused
returns-in-Whole-clause-refused g c = (
  tt,
  tt,
  (
    last_takes c.args.above.now c.loop-i.i (g.R.Look.page_state c.args.room.now) (g.R.Look.page_state c.loop-i.room) (g.R.Look.page_state c.settle_once.new.room) c.loop-i-test.true c.loop-i.invariant.takes
        (subst (λ (t : Turn). TakesAtMost (taken_for t (length (left c.args.above.now c.loop-i.i))) (g.R.Look.page_state c.loop-i.room) (g.R.Look.page_state c.settle_once.new.room)) c.in-Whole.is c.in_ok-turn.ensures.takes),
    tt,
  ),
)

pub word-level-requires-clause-readable : goal.word-level-requires-clause-readable
word-level-requires-clause-readable g c =
    let start = c.requires.in_hand.0 in
    readable_kept (g.R.Look.page_state c.loop-i.room c.loop-i.was)
    (hand_apart g.R.Look.kept g.R.Look.page_state g.R.Look.words c.args.root (left c.args.above.now c.loop-i.i) c.loop-i.was (level_of (g.R.Look.words start c.loop-i.was)) c.args.pair.now c.loop-i.slots.items start c.loop-i.room
    (c.loop-i.invariant.in_hand start c.requires.in_hand.1)).0

-- the root's node is left
module _ (g : Over) (c : After-word-level g) (start : g.row.R.Denot)
    (h : IsInHand g.R.Look.kept g.R.Look.page_state g.R.Look.words c.args.root c.args.above.now c.args.was c.args.pair.now c.args.in_hand.items (level_of (g.R.Look.words start c.args.was)) start c.args.room.now) where
  read : IsUnchanged g.R.Look.kept g.R.Look.page_state g.R.Look.words c.loop-i.room c.word-level.new.self
  read = record { kept = c.word-level.ensures.kept; page_state = c.word-level.ensures.page_state; words = c.word-level.ensures.words }

  last_hand : IsInHand g.R.Look.kept g.R.Look.page_state g.R.Look.words c.args.root (left c.args.above.now c.loop-i.i) c.loop-i.was c.args.pair.now c.loop-i.slots.items c.word-level.result start c.word-level.new.self
  last_hand =
      read_hand g.R.Look.kept g.R.Look.page_state g.R.Look.words c.args.root (left c.args.above.now c.loop-i.i) c.loop-i.was c.word-level.result c.args.pair.now c.loop-i.slots.items c.loop-i.room c.word-level.new.self read c.word-level.ensures.value start
      (c.loop-i.invariant.in_hand start h)

  last_same : whole (g.R.Look.words start) (left c.args.above.now c.loop-i.i) (pairs_below c.word-level.result (g.R.Look.words c.word-level.new.self) (pairs_of (g.R.Look.words c.word-level.new.self) c.args.pair.now c.loop-i.slots.items))
      ≡ whole (g.R.Look.words start) c.args.above.now (pairs_below (level_of (g.R.Look.words start c.args.was)) (g.R.Look.words c.args.room.now) (pairs_of (g.R.Look.words c.args.room.now) c.args.pair.now c.args.in_hand.items))
  last_same =
      read_same g.R.Look.kept g.R.Look.page_state g.R.Look.words c.args.root (left c.args.above.now c.loop-i.i) c.loop-i.was c.word-level.result c.args.pair.now c.loop-i.slots.items c.loop-i.room c.word-level.new.self read c.word-level.ensures.value start
      (c.loop-i.invariant.in_hand start h) ∙ c.loop-i.invariant.same start h

  last_starts : KeepsStart g.R.Look.kept g.R.Look.page_state g.R.Look.words c.args.room.now c.word-level.new.self
  last_starts =
      start_trans g.R.Look.kept g.R.Look.page_state g.R.Look.words c.args.room.now c.loop-i.room c.word-level.new.self
      (hands_start g.R.Look.kept g.R.Look.page_state g.R.Look.words c.args.root c.args.above.now (left c.args.above.now c.loop-i.i) c.args.was c.loop-i.was c.args.pair.now c.args.in_hand.items c.loop-i.slots.items
      (level_of (g.R.Look.words start c.args.was)) (level_of (g.R.Look.words start c.loop-i.was)) start c.args.room.now c.loop-i.room h (c.loop-i.invariant.in_hand start h))
      (unchanged_start g.R.Look.kept g.R.Look.page_state g.R.Look.words c.loop-i.room c.word-level.new.self read)

  made_last : left c.args.above.now c.loop-i.i ≡ [] → (root : ℕ) (new : g.row.R.Denot)
      → BecomesTree g.R.Look.kept g.R.Look.page_state g.R.Look.words (c.loop-i.was ∷ pages_below c.word-level.result (g.R.Look.words c.word-level.new.self) (pairs_of (g.R.Look.words c.word-level.new.self) c.args.pair.now c.loop-i.slots.items))
      (pairs_below c.word-level.result (g.R.Look.words c.word-level.new.self) (pairs_of (g.R.Look.words c.word-level.new.self) c.args.pair.now c.loop-i.slots.items)) root c.word-level.new.self new
      → BecomesTree g.R.Look.kept g.R.Look.page_state g.R.Look.words (pages (g.R.Look.words start) c.args.root)
      (whole (g.R.Look.words start) c.args.above.now (pairs_below (level_of (g.R.Look.words start c.args.was)) (g.R.Look.words c.args.room.now) (pairs_of (g.R.Look.words c.args.room.now) c.args.pair.now c.args.in_hand.items))) root start new
  made_last empty root new made =
      subst (λ ps. BecomesTree g.R.Look.kept g.R.Look.page_state g.R.Look.words (pages (g.R.Look.words start) c.args.root) ps root start new) last_same
      (hand_rest g.R.Look.kept g.R.Look.page_state g.R.Look.words c.args.root (left c.args.above.now c.loop-i.i) c.loop-i.was c.word-level.result c.args.pair.now c.loop-i.slots.items start c.word-level.new.self last_hand empty root new made)

some_minimum : (above : List Step) (level : ℕ) → 0 < minimum_at above level
some_minimum [] level = root_some level
some_minimum (s ∷ below) level = omega arith

pub write_rest-requires-clause-low : goal.write_rest-requires-clause-low
write_rest-requires-clause-low g c =
    let at = (goal.at.write_rest-requires-clause-low g c).After-word-level in
    let start = c.requires.in_hand.0 in
    let above = left c.args.above.now c.loop-i.i in
    let level = c.word-level.result in
    let tree = hand_tree_at g.R.Look.kept g.R.Look.page_state g.R.Look.words c.args.root above c.loop-i.was level c.args.pair.now c.loop-i.slots.items start c.word-level.new.self (last_hand g at start c.requires.in_hand.1) in
    omega (arith, height level (minimum_at above level) (g.R.Look.page_state start) (g.R.Look.words start) c.loop-i.was (some_minimum above level) tree (g.met.R.Look.pages_small start))

pub write_rest-requires-clause-node : goal.write_rest-requires-clause-node
write_rest-requires-clause-node g c =
    let at = (goal.at.write_rest-requires-clause-node g c).After-word-level in
    let h = subst (λ xs. IsInHand g.R.Look.kept g.R.Look.page_state g.R.Look.words c.args.root (left c.args.above.now c.loop-i.i) c.loop-i.was c.args.pair.now xs c.word-level.result c.requires.in_hand.0 c.word-level.new.self) (sym c.deref-2.ensures.0)
    (last_hand g at c.requires.in_hand.0 c.requires.in_hand.1) in
    (h.node.below, (h.ready, h.key_fits))

pub write_rest-requires-clause-few : goal.write_rest-requires-clause-few
write_rest-requires-clause-few g c = omega (arith, c.loop-i.invariant.few, ap length c.deref-2.ensures.0)

pub write_rest-requires-clause-old : goal.write_rest-requires-clause-old
write_rest-requires-clause-old g c =
    let at = (goal.at.write_rest-requires-clause-old g c).After-word-level in
    let start = c.requires.in_hand.0 in
    let h = subst (λ xs. IsInHand g.R.Look.kept g.R.Look.page_state g.R.Look.words c.args.root (left c.args.above.now c.loop-i.i) c.loop-i.was c.args.pair.now xs c.word-level.result start c.word-level.new.self) (sym c.deref-2.ensures.0)
    (last_hand g at start c.requires.in_hand.1) in
    hand_apart g.R.Look.kept g.R.Look.page_state g.R.Look.words c.args.root (left c.args.above.now c.loop-i.i) c.loop-i.was c.word-level.result c.args.pair.now c.deref-2.result.now start c.word-level.new.self h

pub write_rest-requires-clause-open : goal.write_rest-requires-clause-open
write_rest-requires-clause-open g c =
    let at = (goal.at.write_rest-requires-clause-open g c).After-word-level in
    subst (λ k. IsTrue (g.R.Look.is_open k)) (sym (last_starts g at c.requires.in_hand.0 c.requires.in_hand.1).kept) c.requires.open

pub returns-clause-ok : goal.returns-clause-ok
returns-clause-ok g c =
    let at = (goal.at.returns-clause-ok g c).After-word-level in
    let above = c.args.above.now in
    let none : length above - c.loop-i.i ≡ 0 = omega (arith, c.loop-i-test.false) in
    let read = c.word-level.new.self in
    let words = g.R.Look.words read in
    let level = c.word-level.result in
    let becomes = λ (xs : List Slot) (root : ℕ). BecomesTree g.R.Look.kept g.R.Look.page_state g.R.Look.words (c.loop-i.was ∷ pages_below level words (pairs_of words c.args.pair.now xs)) (pairs_below level words (pairs_of words c.args.pair.now xs)) root read c.write_rest.new.room in
    IfOk-weaker c.write_rest.result (becomes c.deref-2.result.now)
    (λ root. (start : g.row.R.Denot) → IsInHand g.R.Look.kept g.R.Look.page_state g.R.Look.words c.args.root above c.args.was c.args.pair.now c.args.in_hand.items (level_of (g.R.Look.words start c.args.was)) start c.args.room.now
    → BecomesTree g.R.Look.kept g.R.Look.page_state g.R.Look.words (pages (g.R.Look.words start) c.args.root)
    (whole (g.R.Look.words start) above (pairs_below (level_of (g.R.Look.words start c.args.was)) (g.R.Look.words c.args.room.now) (pairs_of (g.R.Look.words c.args.room.now) c.args.pair.now c.args.in_hand.items))) root start c.write_rest.new.room)
    (λ root made start h. made_last g at start h (ap (λ n. take n above) none) root c.write_rest.new.room (subst (λ xs. becomes xs root) c.deref-2.ensures.0 made))
    c.write_rest.ensures.ok

pub returns-clause-refused : goal.returns-clause-refused
returns-clause-refused g c =
    let at = (goal.at.returns-clause-refused g c).After-word-level in
    refuses_since g.R.Look.kept g.R.Look.page_state g.R.Look.words g.R.Room.full (2 * c.loop-i.i) 3 (most_taken (length c.args.above.now)) c.write_rest.result c.args.room.now c.word-level.new.self c.write_rest.new.room (last_starts g at c.requires.in_hand.0 c.requires.in_hand.1)
    (λ n. omega (arith, c.loop-i.invariant.takes n, ap (in_hand n) c.word-level.ensures.page_state)) (omega (arith, c.loop-i.invariant.within)) c.write_rest.ensures.refused
