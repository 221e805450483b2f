use Rattle.std.proofs.Common.{◌≡◌, ◌∙◌, ◌⊎◌, ℕ, Bool, true, eqb, ltb, suc, ◌+◌, ◌-◌, ◌<◌, ◌≤◌, List, [], ◌∷◌, ◌++◌, IsTrue, length, get_or, take, ap, sym, subst, arith, rules}
use Rattle.std.proofs.lemmas.Bool.Decides.{nat_tests}
use Rattle.be_pages.specs.Pages.{IsUnchanged, KeepsStart, is_readable}
use Rattle.be_tree.specs.declared.path.Step.{Step}
use Rattle.be_tree.specs.declared.settling.Settled.{Settled}
use Rattle.be_tree.specs.declared.slot.Slot.{Slot}
use Rattle.be_tree_reading.specs.Page.{IsPage, items_of, level_of}
use Rattle.be_tree_reading.specs.Pair.{Pair}
use Rattle.be_tree.specs.Path.{IsChanged, IsInHand, minimum_at, whole}
use Rattle.be_tree.specs.Settling.{IsAbove, IsChildInHand, IsSettled, beside}
use Rattle.be_tree.specs.Slot.{loaded, pairs_of}
use Rattle.be_tree.specs.Splicing.{CanBeSpliced, IsSpliced, spliced}
use Rattle.be_tree_reading.specs.Tree.{BecomesTree, pages, pairs_at, pairs_below}
use Rattle.be_tree.proofs.Balances.{can_settle, child_in_hand, hand_apart, minimum_front, now_kept, now_page, now_range, once_hand, once_same, out_above, settled_at, settled_count, settled_read, settled_start, settled_tree}
use Rattle.be_tree_reading.proofs.Frame.{readable_kept, start_trans, swaps_start, unchanged_start}
use Rattle.be_tree.proofs.Shape.Parts.{on_err}
use Rattle.be_tree.specs.Counting.{TakesAtMost, TakesFewer, in_hand}
use Rattle.be_pages.specs.declared.room.PageState.{PageState}
use Rattle.std.proofs.lemmas.List.{length-take-le}
use Rattle.be_tree.proofs.Sizes.InHand.{fewer_within, takes_fewer_then, takes_same, takes_then, takes_within}
use Rattle.be_tree.proofs.Sizes.Refusals.{takes_on}
use Rattle.be_tree.proofs.settling.settle_once.Given.{Over}
use Rattle.be_tree.proofs.settling.settle_once.Goals as goal
use Rattle.be_tree.proofs.settling.settle_once.Goals.{After-word-level}

above_zero : (n : ℕ) → ltb 0 n ≡ true → 0 < n
above_zero n e = grind (arith, nat_tests)

-- the lowest step, and those above it
abbrev last : List Step → Step
last xs = get_or xs (length xs - 1) (record { page = 0; at = 0 })

abbrev front : List Step → List Step
front xs = take (length xs - 1) xs

-- how many pages are taken until the node is settled, and until the pages above are written
settled_takes : (s a b d : ℕ → PageState) → a ≡ s → TakesAtMost 2 a b → d ≡ b → TakesAtMost 2 s d
settled_takes s a b d first two last n = omega (arith, ap (in_hand n) first, two n, ap (in_hand n) last)

risen_takes : (above : List Step) (s d e f : ℕ → PageState) → 0 < length above → TakesAtMost 2 s d → TakesAtMost 1 d e → TakesAtMost (length (front above)) e f → TakesAtMost (length above + 2) s f
risen_takes above s d e f some two one more n = omega (arith, some, length-take-le (length above - 1) above (omega arith), two n, one n, more n)

risen_fewer : (above : List Step) (s d e f : ℕ → PageState) → 0 < length above → TakesAtMost 2 s d → TakesAtMost 1 d e → TakesFewer (length (front above)) e f → TakesFewer (length above + 2) s f
risen_fewer above s d e f some two one more n = omega (arith, some, length-take-le (length above - 1) above (omega arith), two n, one n, more n)

-- the node, for every tree to which it may belong, after its page's level was read
abbrev Begun : (g : Over) (c : After-word-level g) (start : g.row.R.Denot) → Type 0
Begun g c start = IsInHand g.R.Look.kept g.R.Look.page_state g.R.Look.words c.args.root c.args.above.now c.args.was c.args.pair.now c.args.slots.now (level_of (g.R.Look.words start c.args.was)) start c.args.room.now

-- the pairs that the tree will have
abbrev all : (g : Over) (c : After-word-level g) (start : g.row.R.Denot) → List Pair
all g c start = whole (g.R.Look.words start) c.args.above.now (pairs_below (level_of (g.R.Look.words start c.args.was)) (g.R.Look.words c.args.room.now) (pairs_of (g.R.Look.words c.args.room.now) c.args.pair.now c.args.slots.now))

same : (g : Over) (c : After-word-level g) → IsUnchanged g.R.Look.kept g.R.Look.page_state g.R.Look.words c.args.room.now c.word-level.new.self
same g c = record { kept = c.word-level.ensures.kept; page_state = c.word-level.ensures.page_state; words = c.word-level.ensures.words }

module _ (g : Over) (c : After-word-level g) (start : g.row.R.Denot) (h : Begun g c start) where
  hand : IsInHand g.R.Look.kept g.R.Look.page_state g.R.Look.words c.args.root (front c.args.above.now ++ last c.args.above.now ∷ []) c.args.was c.args.pair.now c.args.slots.now c.word-level.result start c.word-level.new.self
  hand =
      once_hand g.R.Look.kept g.R.Look.page_state g.R.Look.words c.args.root c.args.above.now c.args.was c.word-level.result c.args.pair.now c.args.slots.now c.args.room.now c.word-level.new.self (same g c) c.word-level.ensures.value start h
      c.requires.below

  same_pairs : whole (g.R.Look.words start) (front c.args.above.now ++ last c.args.above.now ∷ []) (pairs_below c.word-level.result (g.R.Look.words c.word-level.new.self) (pairs_of (g.R.Look.words c.word-level.new.self) c.args.pair.now c.args.slots.now)) ≡ all g c start
  same_pairs =
      once_same g.R.Look.kept g.R.Look.page_state g.R.Look.words c.args.root c.args.above.now c.args.was c.word-level.result c.args.pair.now c.args.slots.now c.args.room.now c.word-level.new.self (same g c) c.word-level.ensures.value start h
      c.requires.below

  node : IsChildInHand g.R.Look.kept g.R.Look.page_state g.R.Look.words (last c.args.above.now) c.args.was c.word-level.result c.args.pair.now c.args.slots.now start c.word-level.new.self
  node =
      child_in_hand g.R.Look.kept g.R.Look.page_state g.R.Look.words c.args.root (front c.args.above.now) (last c.args.above.now) c.args.was c.word-level.result c.args.pair.now c.args.slots.now start c.word-level.new.self hand c.requires.size.0 c.requires.size.1

  -- after it was settled
  module _ (settled : Settled) (new : g.row.R.Denot)
      (s : IsSettled g.R.Look.kept g.R.Look.page_state g.R.Look.words (last c.args.above.now) c.word-level.result c.args.pair.now
      (beside (suc c.word-level.result) (g.R.Look.words start) (last c.args.above.now) (pairs_below c.word-level.result (g.R.Look.words c.word-level.new.self) (pairs_of (g.R.Look.words c.word-level.new.self) c.args.pair.now c.args.slots.now))) settled start new) where
    page : IsPage (g.R.Look.words new (last c.args.above.now).page)
    page = now_page g.R.Look.kept g.R.Look.page_state g.R.Look.words c.args.root (front c.args.above.now) (last c.args.above.now) c.args.was c.word-level.result c.args.pair.now c.args.slots.now start c.word-level.new.self hand settled new s

    readable : IsTrue (is_readable (g.R.Look.page_state new (last c.args.above.now).page))
    readable =
        readable_kept (g.R.Look.page_state new (last c.args.above.now).page)
        (now_kept g.R.Look.kept g.R.Look.page_state g.R.Look.words c.args.root (front c.args.above.now) (last c.args.above.now) c.args.was c.word-level.result c.args.pair.now c.args.slots.now start c.word-level.new.self hand settled new s)

    in_range : settled.cut.at + settled.cut.gone ≤ g.R.Look.words new (last c.args.above.now).page 1
    in_range = now_range g.R.Look.kept g.R.Look.page_state g.R.Look.words c.args.root (front c.args.above.now) (last c.args.above.now) c.args.was c.word-level.result c.args.pair.now c.args.slots.now start c.word-level.new.self hand settled new s

    starts : KeepsStart g.R.Look.kept g.R.Look.page_state g.R.Look.words c.args.room.now new
    starts =
        start_trans g.R.Look.kept g.R.Look.page_state g.R.Look.words c.args.room.now c.word-level.new.self new (unchanged_start g.R.Look.kept g.R.Look.page_state g.R.Look.words c.args.room.now c.word-level.new.self (same g c))
        (settled_start g.R.Look.kept g.R.Look.page_state g.R.Look.words c.args.root (front c.args.above.now) (last c.args.above.now) c.args.was c.word-level.result c.args.pair.now c.args.slots.now start c.word-level.new.self hand settled new s)

    -- the same, after pages were only read
    read : (now : g.row.R.Denot) → IsUnchanged g.R.Look.kept g.R.Look.page_state g.R.Look.words new now
        → IsSettled g.R.Look.kept g.R.Look.page_state g.R.Look.words (last c.args.above.now) c.word-level.result c.args.pair.now
        (beside (suc c.word-level.result) (g.R.Look.words start) (last c.args.above.now) (pairs_below c.word-level.result (g.R.Look.words c.word-level.new.self) (pairs_of (g.R.Look.words c.word-level.new.self) c.args.pair.now c.args.slots.now))) settled start now
    read now unchanged = settled_read g.R.Look.kept g.R.Look.page_state g.R.Look.words (last c.args.above.now) c.word-level.result c.args.pair.now
        (beside (suc c.word-level.result) (g.R.Look.words start) (last c.args.above.now) (pairs_below c.word-level.result (g.R.Look.words c.word-level.new.self) (pairs_of (g.R.Look.words c.word-level.new.self) c.args.pair.now c.args.slots.now))) settled start new now unchanged s

    -- the branches can be put in their place
    can : (bs : List Slot) → bs ≡ settled.branches.items → g.R.Look.words new (last c.args.above.now).page 1 + length settled.branches.items ≤ 12 + settled.cut.gone
        → CanBeSpliced (g.R.Look.page_state new) (g.R.Look.words new) (last c.args.above.now).page settled.cut c.args.pair.now bs
    can bs is few =
        subst (CanBeSpliced (g.R.Look.page_state new) (g.R.Look.words new) (last c.args.above.now).page settled.cut c.args.pair.now) (sym is)
        (can_settle g.R.Look.kept g.R.Look.page_state g.R.Look.words c.args.root (front c.args.above.now) (last c.args.above.now) c.args.was c.word-level.result c.args.pair.now c.args.slots.now start c.word-level.new.self hand settled new s few)

    count : length (spliced settled.cut (items_of (g.R.Look.words start (last c.args.above.now).page)) (pairs_of (g.R.Look.words new) c.args.pair.now settled.branches.items)) + settled.cut.gone ≡ g.R.Look.words new (last c.args.above.now).page 1 + length settled.branches.items
    count = settled_count g.R.Look.kept g.R.Look.page_state g.R.Look.words c.args.root (front c.args.above.now) (last c.args.above.now) c.args.was c.word-level.result c.args.pair.now c.args.slots.now start c.word-level.new.self hand settled new s

    -- and they were put there
    module _ (bs : List Slot) (is : bs ≡ settled.branches.items) (to : ℕ) (put : g.row.R.Denot) (spliced_in : IsSpliced g.R.Look.kept g.R.Look.page_state g.R.Look.words (last c.args.above.now).page settled.cut c.args.pair.now bs to new put)
        (enough : minimum_at (front c.args.above.now) (suc c.word-level.result) ≤ length (spliced settled.cut (items_of (g.R.Look.words start (last c.args.above.now).page)) (pairs_of (g.R.Look.words new) c.args.pair.now settled.branches.items))) where
      spliced_so : IsSpliced g.R.Look.kept g.R.Look.page_state g.R.Look.words (last c.args.above.now).page settled.cut c.args.pair.now settled.branches.items to new put
      spliced_so = subst (λ xs. IsSpliced g.R.Look.kept g.R.Look.page_state g.R.Look.words (last c.args.above.now).page settled.cut c.args.pair.now xs to new put) is spliced_in

      changed : (b : Bool) → (b ≡ true → 0 < settled.cut.at) → IsChanged g.R.Look.kept g.R.Look.page_state g.R.Look.words c.args.root (front c.args.above.now) (record { was = (last c.args.above.now).page; page = to; same_minimum = b })
          (level_of (g.R.Look.words start (last c.args.above.now).page)) start put
      changed b how = settled_at g.R.Look.kept g.R.Look.page_state g.R.Look.words c.args.root (front c.args.above.now) (last c.args.above.now) c.args.was c.word-level.result c.args.pair.now c.args.slots.now start c.word-level.new.self hand settled new s to put spliced_so enough b how

      tree : (new_root : ℕ) (final : g.row.R.Denot) → BecomesTree g.R.Look.kept g.R.Look.page_state g.R.Look.words (pages (g.R.Look.words start) c.args.root)
          (whole (g.R.Look.words start) (front c.args.above.now) (pairs_at (level_of (g.R.Look.words start (last c.args.above.now).page)) (g.R.Look.words put) to)) new_root start final
          → BecomesTree g.R.Look.kept g.R.Look.page_state g.R.Look.words (pages (g.R.Look.words start) c.args.root) (all g c start) new_root start final
      tree new_root final made =
          subst (λ ps. BecomesTree g.R.Look.kept g.R.Look.page_state g.R.Look.words (pages (g.R.Look.words start) c.args.root) ps new_root start final) same_pairs
          (settled_tree g.R.Look.kept g.R.Look.page_state g.R.Look.words c.args.root (front c.args.above.now) (last c.args.above.now) c.args.was c.word-level.result c.args.pair.now c.args.slots.now start c.word-level.new.self hand settled new s to put spliced_so enough new_root final made)

    -- or the page above is an unwritten node
    above : (out : List Slot) (now : g.row.R.Denot) → IsUnchanged g.R.Look.kept g.R.Look.page_state g.R.Look.words new now → out ≡ spliced settled.cut (loaded (last c.args.above.now).page (g.R.Look.words new (last c.args.above.now).page 1)) settled.branches.items
        → IsAbove g.R.Look.kept g.R.Look.page_state g.R.Look.words c.args.root (front c.args.above.now) (last c.args.above.now).page c.args.pair.now out (all g c start) start now
    above out now unchanged is =
        out_above g.R.Look.kept g.R.Look.page_state g.R.Look.words c.args.root (front c.args.above.now) (last c.args.above.now) c.args.was c.word-level.result c.args.pair.now c.args.slots.now start c.word-level.new.self hand settled new s out now unchanged is (all g c start) same_pairs

pub word-level-requires-clause-readable : goal.word-level-requires-clause-readable
word-level-requires-clause-readable g c =
    let start = c.requires.in_hand.0 in
    readable_kept (g.R.Look.page_state c.args.room.now c.args.was)
    (hand_apart g.R.Look.kept g.R.Look.page_state g.R.Look.words c.args.root c.args.above.now c.args.was (level_of (g.R.Look.words start c.args.was)) c.args.pair.now c.args.slots.now start c.args.room.now c.requires.in_hand.1).0

pub settle_child-requires-clause-child : goal.settle_child-requires-clause-child
settle_child-requires-clause-child g c =
    let at = (goal.at.settle_child-requires-clause-child g c).After-word-level in
    (c.requires.in_hand.0, node g at c.requires.in_hand.0 c.requires.in_hand.1)

pub settle_child-requires-clause-open : goal.settle_child-requires-clause-open
settle_child-requires-clause-open g c = subst (λ k. IsTrue (g.R.Look.is_open k)) (sym c.word-level.ensures.kept) c.requires.open

pub count_of-requires-clause-readable : goal.count_of-requires-clause-readable
count_of-requires-clause-readable g c =
    let at = (goal.at.count_of-requires-clause-readable g c).After-word-level in
    let start = c.requires.in_hand.0 in
    let h = c.requires.in_hand.1 in
    readable g at start h c.in_ok-settled.settled c.settle_child.new.room (c.in_ok-settled.ensures.ok start (node g at start h))

pub count_of-requires-clause-page : goal.count_of-requires-clause-page
count_of-requires-clause-page g c =
    let at = (goal.at.count_of-requires-clause-page g c).After-word-level in
    let start = c.requires.in_hand.0 in
    let h = c.requires.in_hand.1 in
    page g at start h c.in_ok-settled.settled c.settle_child.new.room (c.in_ok-settled.ensures.ok start (node g at start h))

pub overflow_sub-count : goal.overflow_sub-count
overflow_sub-count g c =
    let at = (goal.at.overflow_sub-count g c).After-word-level in
    let start = c.requires.in_hand.0 in
    let h = c.requires.in_hand.1 in
    omega (arith, c.count_of.ensures.count, in_range g at start h c.in_ok-settled.settled c.settle_child.new.room (c.in_ok-settled.ensures.ok start (node g at start h)))

pub overflow_add-count : goal.overflow_add-count
overflow_add-count g c =
    let at = (goal.at.overflow_add-count g c).After-word-level in
    let start = c.requires.in_hand.0 in
    let h = c.requires.in_hand.1 in
    let s = c.in_ok-settled.ensures.ok start (node g at start h) in
    omega (arith, c.count_of.ensures.count, s.some, c.len.ensures, (page g at start h c.in_ok-settled.settled c.settle_child.new.room s).few)

pub splice-requires-clause-cut : goal.splice-requires-clause-cut
splice-requires-clause-cut g c =
    let at = (goal.at.splice-requires-clause-cut g c).After-word-level in
    let start = c.requires.in_hand.0 in
    let h = c.requires.in_hand.1 in
    let settled = c.in_ok-settled.settled in
    let s = c.in_ok-settled.ensures.ok start (node g at start h) in
    let now = c.count_of.new.look in
    let after = read g at start h settled c.settle_child.new.room s now c.count_of.ensures.unchanged in
    can g at start h settled now after c.deref.result.now c.deref.ensures.0
    (omega (
      arith,
      c.fits.ensures.most c.if-fits.true,
      c.len.ensures,
      c.count_of.ensures.count,
      ap (λ (w : ℕ → ℕ → ℕ). w (last c.args.above.now).page 1) c.count_of.ensures.unchanged.words,
      in_range g at start h settled now after,
    ))

pub splice-requires-clause-open : goal.splice-requires-clause-open
splice-requires-clause-open g c =
    let at = (goal.at.splice-requires-clause-open g c).After-word-level in
    let start = c.requires.in_hand.0 in
    let h = c.requires.in_hand.1 in
    let settled = c.in_ok-settled.settled in
    let s = c.in_ok-settled.ensures.ok start (node g at start h) in
    let after = read g at start h settled c.settle_child.new.room s c.count_of.new.look c.count_of.ensures.unchanged in
    subst (λ k. IsTrue (g.R.Look.is_open k)) (sym (starts g at start h settled c.count_of.new.look after).kept) c.requires.open

-- the page has enough items
enough : (above : List Step) (level n gone len count : ℕ) → 0 < length above → 2 ≤ n - gone + len → (eqb (length above - 1) 0 ≡ true) ⊎ (6 ≤ n - gone + len) → gone ≤ n → count + gone ≡ n + len → minimum_at (front above) (suc level) ≤ count
enough above level n gone len count some two six le is =
    let least = minimum_front above (length above - 1) level (n - gone + len) (omega (arith, some)) two six in
    omega (arith, least, le, is)

pub rise-requires-clause-changed : goal.rise-requires-clause-changed
rise-requires-clause-changed g c =
    let at = (goal.at.rise-requires-clause-changed g c).After-word-level in
    let start = c.requires.in_hand.0 in
    let h = c.requires.in_hand.1 in
    let settled = c.in_ok-settled.settled in
    let s = c.in_ok-settled.ensures.ok start (node g at start h) in
    let now = c.count_of.new.look in
    let after = read g at start h settled c.settle_child.new.room s now c.count_of.ensures.unchanged in
    let n = ap (λ (w : ℕ → ℕ → ℕ). w (last c.args.above.now).page 1) c.count_of.ensures.unchanged.words in
    let many = enough c.args.above.now c.word-level.result c.count_of.result settled.cut.gone c.len.result (length (spliced settled.cut (items_of (g.R.Look.words start (last c.args.above.now).page)) (pairs_of (g.R.Look.words now) c.args.pair.now settled.branches.items)))
    c.requires.below (c.fits.ensures.least c.if-fits.true) (c.fits.ensures.minimum_below c.if-fits.true) (omega (arith, in_range g at start h settled now after, n, c.count_of.ensures.count)) (omega (arith, count g at start h settled now after, n, c.count_of.ensures.count, c.len.ensures)) in
    (start, changed g at start h settled now after c.deref.result.now c.deref.ensures.0 c.in_ok-page.page c.splice.new.room c.in_ok-page.ensures.ok many (ltb 0 settled.cut.at) (above_zero settled.cut.at))

pub rise-requires-clause-open : goal.rise-requires-clause-open
rise-requires-clause-open g c =
    let at = (goal.at.rise-requires-clause-open g c).After-word-level in
    let start = c.requires.in_hand.0 in
    let h = c.requires.in_hand.1 in
    let settled = c.in_ok-settled.settled in
    let s = c.in_ok-settled.ensures.ok start (node g at start h) in
    let after = read g at start h settled c.settle_child.new.room s c.count_of.new.look c.count_of.ensures.unchanged in
    subst (λ k. IsTrue (g.R.Look.is_open k)) (sym (c.in_ok-page.ensures.ok.swaps.kept ∙ (starts g at start h settled c.count_of.new.look after).kept)) c.requires.open

pub slots_with-slots-requires-clause-readable : goal.slots_with-slots-requires-clause-readable
slots_with-slots-requires-clause-readable g c =
    let at = (goal.at.slots_with-slots-requires-clause-readable g c).After-word-level in
    let start = c.requires.in_hand.0 in
    let h = c.requires.in_hand.1 in
    let s = c.in_ok-settled.ensures.ok start (node g at start h) in
    readable g at start h c.in_ok-settled.settled c.count_of.new.look (read g at start h c.in_ok-settled.settled c.settle_child.new.room s c.count_of.new.look c.count_of.ensures.unchanged)

pub slots_with-slots-requires-clause-page : goal.slots_with-slots-requires-clause-page
slots_with-slots-requires-clause-page g c =
    let at = (goal.at.slots_with-slots-requires-clause-page g c).After-word-level in
    let start = c.requires.in_hand.0 in
    let h = c.requires.in_hand.1 in
    let s = c.in_ok-settled.ensures.ok start (node g at start h) in
    page g at start h c.in_ok-settled.settled c.count_of.new.look (read g at start h c.in_ok-settled.settled c.settle_child.new.room s c.count_of.new.look c.count_of.ensures.unchanged)

pub slots_with-slots-requires-clause-in_range : goal.slots_with-slots-requires-clause-in_range
slots_with-slots-requires-clause-in_range g c =
    let at = (goal.at.slots_with-slots-requires-clause-in_range g c).After-word-level in
    let start = c.requires.in_hand.0 in
    let h = c.requires.in_hand.1 in
    let s = c.in_ok-settled.ensures.ok start (node g at start h) in
    in_range g at start h c.in_ok-settled.settled c.count_of.new.look (read g at start h c.in_ok-settled.settled c.settle_child.new.room s c.count_of.new.look c.count_of.ensures.unchanged)

pub slots_with-slots-requires-clause-gone : goal.slots_with-slots-requires-clause-gone
slots_with-slots-requires-clause-gone g c =
    let at = (goal.at.slots_with-slots-requires-clause-gone g c).After-word-level in
    (c.in_ok-settled.ensures.ok c.requires.in_hand.0 (node g at c.requires.in_hand.0 c.requires.in_hand.1)).gone

pub slots_with-slots-requires-clause-some : goal.slots_with-slots-requires-clause-some
slots_with-slots-requires-clause-some g c =
    let at = (goal.at.slots_with-slots-requires-clause-some g c).After-word-level in
    (c.in_ok-settled.ensures.ok c.requires.in_hand.0 (node g at c.requires.in_hand.0 c.requires.in_hand.1)).some

pub returns-clause-ok : goal.returns-clause-ok
returns-clause-ok g c = λ start h.
    let at = (goal.at.returns-clause-ok g c).After-word-level in
    let s = c.in_ok-settled.ensures.ok start (node g at start h) in
    above g at start h c.in_ok-settled.settled c.count_of.new.look (read g at start h c.in_ok-settled.settled c.settle_child.new.room s c.count_of.new.look c.count_of.ensures.unchanged)
    c.slots_with-slots.result.items c.slots_with-slots.new.look c.slots_with-slots.ensures.unchanged c.slots_with-slots.ensures.slots

pub returns-then-fits-clause-ok : goal.returns-then-fits-clause-ok
returns-then-fits-clause-ok g c = λ start h.
    let at = (goal.at.returns-then-fits-clause-ok g c).After-word-level in
    let settled = c.in_ok-settled.settled in
    let s = c.in_ok-settled.ensures.ok start (node g at start h) in
    let now = c.count_of.new.look in
    let after = read g at start h settled c.settle_child.new.room s now c.count_of.ensures.unchanged in
    let n = ap (λ (w : ℕ → ℕ → ℕ). w (last c.args.above.now).page 1) c.count_of.ensures.unchanged.words in
    let many = enough c.args.above.now c.word-level.result c.count_of.result settled.cut.gone c.len.result (length (spliced settled.cut (items_of (g.R.Look.words start (last c.args.above.now).page)) (pairs_of (g.R.Look.words now) c.args.pair.now settled.branches.items)))
    c.requires.below (c.fits.ensures.least c.if-fits.true) (c.fits.ensures.minimum_below c.if-fits.true) (omega (arith, in_range g at start h settled now after, n, c.count_of.ensures.count)) (omega (arith, count g at start h settled now after, n, c.count_of.ensures.count, c.len.ensures)) in
    tree g at start h settled now after c.deref.result.now c.deref.ensures.0 c.in_ok-page.page c.splice.new.room c.in_ok-page.ensures.ok many c.in_ok-whole.whole c.rise.new.room
    (c.in_ok-whole.ensures.ok start (changed g at start h settled now after c.deref.result.now c.deref.ensures.0 c.in_ok-page.page c.splice.new.room c.in_ok-page.ensures.ok many (ltb 0 settled.cut.at) (above_zero settled.cut.at)))

pub returns-clause-takes : goal.returns-clause-takes
returns-clause-takes g c =
    takes_then 2 0 (g.R.Look.page_state c.args.room.now) (g.R.Look.page_state c.count_of.new.look) (g.R.Look.page_state c.slots_with-slots.new.look) (settled_takes (g.R.Look.page_state c.args.room.now) (g.R.Look.page_state c.word-level.new.self) (g.R.Look.page_state c.settle_child.new.room) (g.R.Look.page_state c.count_of.new.look) c.word-level.ensures.page_state c.in_ok-settled.ensures.refused.2.0 c.count_of.ensures.unchanged.page_state) (takes_same (g.R.Look.page_state c.count_of.new.look) (g.R.Look.page_state c.slots_with-slots.new.look) c.slots_with-slots.ensures.unchanged.page_state)

pub returns-then-fits-clause-takes : goal.returns-then-fits-clause-takes
returns-then-fits-clause-takes g c =
    risen_takes c.args.above.now (g.R.Look.page_state c.args.room.now) (g.R.Look.page_state c.count_of.new.look) (g.R.Look.page_state c.splice.new.room) (g.R.Look.page_state c.rise.new.room) c.requires.below (settled_takes (g.R.Look.page_state c.args.room.now) (g.R.Look.page_state c.word-level.new.self) (g.R.Look.page_state c.settle_child.new.room) (g.R.Look.page_state c.count_of.new.look) c.word-level.ensures.page_state c.in_ok-settled.ensures.refused.2.0 c.count_of.ensures.unchanged.page_state) c.in_ok-page.ensures.refused.2.0 c.in_ok-whole.ensures.refused.2.0

pub returns-clause-refused : goal.returns-clause-refused
returns-clause-refused g c =
    (tt, tt, (takes_within 2 (length c.args.above.now + 2) (g.R.Look.page_state c.args.room.now) (g.R.Look.page_state c.slots_with-slots.new.look) (omega arith) (takes_then 2 0 (g.R.Look.page_state c.args.room.now) (g.R.Look.page_state c.count_of.new.look) (g.R.Look.page_state c.slots_with-slots.new.look) (settled_takes (g.R.Look.page_state c.args.room.now) (g.R.Look.page_state c.word-level.new.self) (g.R.Look.page_state c.settle_child.new.room) (g.R.Look.page_state c.count_of.new.look) c.word-level.ensures.page_state c.in_ok-settled.ensures.refused.2.0 c.count_of.ensures.unchanged.page_state) (takes_same (g.R.Look.page_state c.count_of.new.look) (g.R.Look.page_state c.slots_with-slots.new.look) c.slots_with-slots.ensures.unchanged.page_state)), tt))

pub returns-then-fits-clause-refused : goal.returns-then-fits-clause-refused
returns-then-fits-clause-refused g c =
    (tt, tt, (risen_takes c.args.above.now (g.R.Look.page_state c.args.room.now) (g.R.Look.page_state c.count_of.new.look) (g.R.Look.page_state c.splice.new.room) (g.R.Look.page_state c.rise.new.room) c.requires.below (settled_takes (g.R.Look.page_state c.args.room.now) (g.R.Look.page_state c.word-level.new.self) (g.R.Look.page_state c.settle_child.new.room) (g.R.Look.page_state c.count_of.new.look) c.word-level.ensures.page_state c.in_ok-settled.ensures.refused.2.0 c.count_of.ensures.unchanged.page_state) c.in_ok-page.ensures.refused.2.0 c.in_ok-whole.ensures.refused.2.0, tt))

pub returns-in_err-settled-clause-refused : goal.returns-in_err-settled-clause-refused
returns-in_err-settled-clause-refused g c =
    let at = (goal.at.returns-in_err-settled-clause-refused g c).After-word-level in
    let P = start_trans g.R.Look.kept g.R.Look.page_state g.R.Look.words c.args.room.now c.word-level.new.self c.settle_child.new.room (unchanged_start g.R.Look.kept g.R.Look.page_state g.R.Look.words c.args.room.now c.word-level.new.self (same g at)) c.in_err-settled.ensures.refused.0 in
    (on_err _ P, search rules, takes_on (length c.args.above.now + 2) _ (g.R.Look.page_state c.args.room.now) (g.R.Look.page_state c.settle_child.new.room) (fewer_within 2 (length c.args.above.now + 2) (g.R.Look.page_state c.args.room.now) (g.R.Look.page_state c.settle_child.new.room) (omega arith) (takes_fewer_then 0 2 (g.R.Look.page_state c.args.room.now) (g.R.Look.page_state c.word-level.new.self) (g.R.Look.page_state c.settle_child.new.room) (takes_same (g.R.Look.page_state c.args.room.now) (g.R.Look.page_state c.word-level.new.self) c.word-level.ensures.page_state) c.in_err-settled.ensures.refused.2.1)))

pub returns-in_err-page-clause-refused : goal.returns-in_err-page-clause-refused
returns-in_err-page-clause-refused g c =
    let at = (goal.at.returns-in_err-page-clause-refused g c).After-word-level in
    let start = c.requires.in_hand.0 in
    let h = c.requires.in_hand.1 in
    let s = c.in_ok-settled.ensures.ok start (node g at start h) in
    let after = read g at start h c.in_ok-settled.settled c.settle_child.new.room s c.count_of.new.look c.count_of.ensures.unchanged in
    let P = start_trans g.R.Look.kept g.R.Look.page_state g.R.Look.words c.args.room.now c.count_of.new.look c.splice.new.room (starts g at start h c.in_ok-settled.settled c.count_of.new.look after) c.in_err-page.ensures.refused.0 in
    (on_err _ P, search rules, takes_on (length c.args.above.now + 2) _ (g.R.Look.page_state c.args.room.now) (g.R.Look.page_state c.splice.new.room) (fewer_within 3 (length c.args.above.now + 2) (g.R.Look.page_state c.args.room.now) (g.R.Look.page_state c.splice.new.room) (omega (arith, c.requires.below)) (takes_fewer_then 2 1 (g.R.Look.page_state c.args.room.now) (g.R.Look.page_state c.count_of.new.look) (g.R.Look.page_state c.splice.new.room) (settled_takes (g.R.Look.page_state c.args.room.now) (g.R.Look.page_state c.word-level.new.self) (g.R.Look.page_state c.settle_child.new.room) (g.R.Look.page_state c.count_of.new.look) c.word-level.ensures.page_state c.in_ok-settled.ensures.refused.2.0 c.count_of.ensures.unchanged.page_state) c.in_err-page.ensures.refused.2.1)))

pub returns-in_err-whole-clause-refused : goal.returns-in_err-whole-clause-refused
returns-in_err-whole-clause-refused g c =
    let at = (goal.at.returns-in_err-whole-clause-refused g c).After-word-level in
    let start = c.requires.in_hand.0 in
    let h = c.requires.in_hand.1 in
    let s = c.in_ok-settled.ensures.ok start (node g at start h) in
    let now = c.count_of.new.look in
    let after = read g at start h c.in_ok-settled.settled c.settle_child.new.room s now c.count_of.ensures.unchanged in
    let P = start_trans g.R.Look.kept g.R.Look.page_state g.R.Look.words c.args.room.now now c.rise.new.room (starts g at start h c.in_ok-settled.settled now after)
    (start_trans g.R.Look.kept g.R.Look.page_state g.R.Look.words now c.splice.new.room c.rise.new.room
    (swaps_start g.R.Look.kept g.R.Look.page_state g.R.Look.words ((last c.args.above.now).page ∷ []) (c.in_ok-page.page ∷ []) now c.splice.new.room c.in_ok-page.ensures.ok.swaps) c.in_err-whole.ensures.refused.0) in
    (on_err _ P, search rules, takes_on (length c.args.above.now + 2) _ (g.R.Look.page_state c.args.room.now) (g.R.Look.page_state c.rise.new.room) (risen_fewer c.args.above.now (g.R.Look.page_state c.args.room.now) (g.R.Look.page_state c.count_of.new.look) (g.R.Look.page_state c.splice.new.room) (g.R.Look.page_state c.rise.new.room) c.requires.below (settled_takes (g.R.Look.page_state c.args.room.now) (g.R.Look.page_state c.word-level.new.self) (g.R.Look.page_state c.settle_child.new.room) (g.R.Look.page_state c.count_of.new.look) c.word-level.ensures.page_state c.in_ok-settled.ensures.refused.2.0 c.count_of.ensures.unchanged.page_state) c.in_ok-page.ensures.refused.2.0 c.in_err-whole.ensures.refused.2.1))
