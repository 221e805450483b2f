-- The levels above the leaves, up to the root.
use Rattle.std.proofs.Common.{◌≡◌, ℕ, zero, suc, ◌+◌, ◌-◌, ◌/◌, ◌<◌, ◌≤◌, ◌^◌, ◌⊎◌, List, [], ◌∷◌, All, Result, Ok, Err, length, ap, sym, subst, ◌∙◌, inl, inr, arith}
use Rattle.std.specs.Prelude.{IfErr, IfOk, OnErr, OnOk}
use Rattle.std.proofs.lemmas.Bool.{cases_lt}
use Rattle.std.proofs.lemmas.List.{length-map}
use Rattle.be_pages.specs.declared.room.PageState.{PageState}
use Rattle.be_pages.specs.Pages.{Swaps}
use Rattle.be_tree_reading.specs.Pair.{Pair}
use Rattle.be_pages.specs.Refusal.{IsFullOf}
use Rattle.be_tree_reading.specs.Tree.{child, pages, pages_at, pages_below, pairs_below, Becomes, BecomesTree, IsBelow, IsWritten, minimum_of_root}
use Rattle.be_tree_reading.proofs.Frame.{swaps_trans}
use Rattle.be_tree_reading.proofs.Shape.Roots.{becomes_tree, root_written}
use Rattle.be_value.specs.declared.refusals.Refusal.{Refusal}
use Rattle.be_value.specs.declared.refusals.Refusal.TheVariants.{OutOfMemory}
use Rattle.be_tree_reading.proofs.Shape.Below.{beside_pages}
use Rattle.be_tree.specs.declared.slot.Slot.{Slot}
use Rattle.be_tree.specs.Building.{branches_of, items_on, pages_under, HoldsFewer, IsShort, AreFewest}
use Rattle.be_tree.specs.Slot.{branch_to, pair_of, pairs_of, IsBranchSlot, IsReady}
use Rattle.be_tree.specs.Counting.{in_hand, TakesAtMost, TakesFewer}
use Rattle.be_tree.proofs.Builds.Fewest.{IsLow, leaf_pages, needs}
use Rattle.be_tree.proofs.Builds.Parts.{same_pair}
use Rattle.be_tree.proofs.Nodes.Slots.{branches_ready, child_branch}
use Rattle.be_tree.proofs.Shape.Parts.{becomes_same}

-- the write has taken the pages of the levels below this one, some of which it had before
abbrev pub HasTaken : (had level n : ℕ) → (old new : ℕ → PageState) → Type 0
HasTaken had level n old new = (k : ℕ) → in_hand k new + had ≤ in_hand k old + pages_under level n

pub low_more : (level n : ℕ) → IsLow level n → 12 < items_on level n → IsLow (suc level) n
low_more level n low more l lt = elim (cases_lt l level) [
  | inl less ↦ low l less
  | inr past ↦ let e : level ≡ l = omega (arith, lt, past) in subst (λ i. 12 < items_on i n) e more
]

pub taken_more : (had level n : ℕ) (s t u : ℕ → PageState) → HasTaken had level n s t → TakesAtMost (items_on (suc level) n) t u → HasTaken had (suc level) n s u
taken_more had level n s t u taken more k = omega (arith, taken k, more k)

-- no page was left for the root
pub short_root : (had level n : ℕ) (s t u : ℕ → PageState) → 0 < n → IsLow level n → HasTaken had level n s t → TakesFewer 1 t u → IsShort had n s u
short_root had level n s t u some low taken fewer page_state words root tree le k =
    omega (arith, taken k, fewer k, needs level n some low page_state words root tree le)

-- or for one of the pages of a level
pub short_level : (had level n : ℕ) (s t u : ℕ → PageState) → 0 < n → IsLow (suc level) n → HasTaken had level n s t → HoldsFewer 0 (items_on (suc level) n) t u → IsShort had n s u
short_level had level n s t u some low taken fewer page_state words root tree le k =
    omega (arith, taken k, fewer k, needs (suc level) n some low page_state words root tree le)

pub fewest_root : (level n count : ℕ) → 0 < n → IsLow level n → count ≡ suc (pages_under level n) → AreFewest count n
fewest_root level n count some low e page_state words root tree le = omega (arith, e, needs level n some low page_state words root tree le)

pub root_minimum : (level : ℕ) → minimum_of_root level ≤ 2
root_minimum zero = omega arith
root_minimum (suc level) = omega arith

-- the pages of a tree whose root was written
pub root_pages : {S K : Type 0} (kept_of : S → K) (page_state_of : S → ℕ → PageState) (words_of : S → ℕ → ℕ → ℕ) (level : ℕ) (items : List Pair) (branch : Pair) (old new : S)
    → IsBelow level (page_state_of old) (words_of old) items → IsWritten level (words_of new) items branch → Swaps kept_of page_state_of words_of [] (child branch ∷ []) old new
    → length (pages (words_of new) (suc (child branch))) ≡ suc (length (pages_below level (words_of old) items))
root_pages kept_of page_state_of words_of level items branch old new below written swaps =
    let w = words_of new in
    let page = child branch in
    ap (λ n. length (pages_at n w page)) written.at_level
    ∙ ap (λ xs. suc (length (pages_below level w xs))) written.has_items
    ∙ ap (λ ps. suc (length ps)) (beside_pages kept_of page_state_of words_of [] (page ∷ []) old new swaps level items below (λ q. omega (arith, below.once q)))

module _ {S K : Type 0} (kept_of : S → K) (page_state_of : S → ℕ → PageState) (words_of : S → ℕ → ℕ → ℕ) where
  -- the leaves are below these branches on a level, with as few pages as possible
  pub record IsRisen (leaves slots : List Slot) (level : ℕ) (old now : S) : Type 0 where
    pub becomes : Becomes kept_of page_state_of words_of (pages_below 1 (words_of old) (branches_of (words_of old) leaves)) (pairs_below 1 (words_of old) (branches_of (words_of old) leaves)) level
        (branches_of (words_of now) slots) old now
    pub are : All IsBranchSlot slots
    pub some : 2 ≤ length slots
    pub high : 0 < level
    pub bounded : level + length slots ≤ 1 + length leaves
    pub count : length slots ≡ items_on level (length (pairs_below 1 (words_of old) (branches_of (words_of old) leaves)))
    pub low : IsLow level (length (pairs_below 1 (words_of old) (branches_of (words_of old) leaves)))
    pub pages_are : length (pages_below level (words_of now) (branches_of (words_of now) slots)) ≡ pages_under level (length (pairs_below 1 (words_of old) (branches_of (words_of old) leaves)))
    pub holds : HasTaken (length leaves) level (length (pairs_below 1 (words_of old) (branches_of (words_of old) leaves))) (page_state_of old) (page_state_of now)

  pub risen_first : (leaves : List Slot) (old : S) → IsBelow 1 (page_state_of old) (words_of old) (branches_of (words_of old) leaves) → All IsBranchSlot leaves → 2 ≤ length leaves
      → length leaves ≡ items_on 1 (length (pairs_below 1 (words_of old) (branches_of (words_of old) leaves))) → IsRisen leaves leaves 1 old old
  risen_first leaves old below are some full =
      let n = length (pairs_below 1 (words_of old) (branches_of (words_of old) leaves)) in
      let many : 12 < n = omega (arith, full, some) in
      record {
        becomes = becomes_same kept_of page_state_of words_of 1 (branches_of (words_of old) leaves) old below;
        are = are;
        some = some;
        high = omega arith;
        bounded = omega arith;
        count = full;
        low = low_more 0 n (λ l lt. absurd (omega (arith, lt))) many;
        pages_are = omega (arith, leaf_pages (words_of old) (branches_of (words_of old) leaves), length-map leaves (pair_of (words_of old) (record { key = []; payload = [] })), full);
        holds = λ k. omega (arith, full);
      }

  module _ (leaves slots : List Slot) (level : ℕ) (old mid : S) (risen : IsRisen leaves slots level old mid) where
    some_pairs : 0 < length (pairs_below 1 (words_of old) (branches_of (words_of old) leaves))
    some_pairs = by level risen.high risen.low
      where
        by : (l : ℕ) → 0 < l → IsLow l (length (pairs_below 1 (words_of old) (branches_of (words_of old) leaves))) → 0 < length (pairs_below 1 (words_of old) (branches_of (words_of old) leaves))
        by l high low = omega (arith, low 0 high)

    pub risen_ready : All (IsReady (page_state_of mid) (words_of mid)) slots
    risen_ready =
        let e : level ≡ suc (level - 1) = omega (arith, risen.high) in
        branches_ready (level - 1) (page_state_of mid) (words_of mid) (record { key = []; payload = [] }) slots risen.are (subst (λ n. IsBelow n (page_state_of mid) (words_of mid) (branches_of (words_of mid) slots)) e risen.becomes.below)

    -- the next level
    module _ (many : 12 < length slots) where
      next_low : IsLow (suc level) (length (pairs_below 1 (words_of old) (branches_of (words_of old) leaves)))
      next_low = low_more level (length (pairs_below 1 (words_of old) (branches_of (words_of old) leaves))) risen.low (omega (arith, many, risen.count))

      next_count : (length slots + 11) / 12 ≡ items_on (suc level) (length (pairs_below 1 (words_of old) (branches_of (words_of old) leaves)))
      next_count = ap (λ m. (m + 11) / 12) risen.count

      pub risen_next : (above : List Slot) (new : S)
          → Becomes kept_of page_state_of words_of (pages_below level (words_of mid) (branches_of (words_of mid) slots)) (pairs_below level (words_of mid) (branches_of (words_of mid) slots)) (suc level) (branches_of (words_of new) above) mid new
          → All IsBranchSlot above → length above ≡ (length slots + 11) / 12
          → length (pages_below (suc level) (words_of new) (branches_of (words_of new) above)) ≡ length above + length (pages_below level (words_of mid) (branches_of (words_of mid) slots))
          → TakesAtMost (length above) (page_state_of mid) (page_state_of new) → IsRisen leaves above (level + 1) old new
      risen_next above new last are size counted takes =
          let n = length (pairs_below 1 (words_of old) (branches_of (words_of old) leaves)) in
          let e : suc level ≡ level + 1 = omega arith in
          let is : length above ≡ items_on (suc level) n = size ∙ next_count in
          subst (λ l. IsRisen leaves above l old new) e (record {
            becomes = record {
              below = last.below;
              has_pairs = last.has_pairs ∙ risen.becomes.has_pairs;
              swaps = swaps_trans kept_of page_state_of words_of (pages_below 1 (words_of old) (branches_of (words_of old) leaves)) (pages_below level (words_of mid) (branches_of (words_of mid) slots))
                  (pages_below (suc level) (words_of new) (branches_of (words_of new) above)) old mid new risen.becomes.swaps last.swaps;
            };
            are = are;
            some = omega (arith, size, many);
            high = omega arith;
            bounded = omega (arith, size, many, risen.bounded);
            count = is;
            low = next_low;
            pages_are = omega (arith, counted, is, risen.pages_are);
            holds = taken_more (length leaves) level n (page_state_of old) (page_state_of mid) (page_state_of new) risen.holds (subst (λ m. TakesAtMost m (page_state_of mid) (page_state_of new)) is takes);
          })

      pub risen_short : (new : S) → HoldsFewer 0 ((length slots + 11) / 12) (page_state_of mid) (page_state_of new)
          → IsShort (length leaves) (length (pairs_below 1 (words_of old) (branches_of (words_of old) leaves))) (page_state_of old) (page_state_of new)
      risen_short new fewer =
          short_level (length leaves) level (length (pairs_below 1 (words_of old) (branches_of (words_of old) leaves))) (page_state_of old) (page_state_of mid) (page_state_of new) some_pairs next_low risen.holds
          (subst (λ m. HoldsFewer 0 m (page_state_of mid) (page_state_of new)) next_count fewer)

    -- the root
    pub risen_no_root : (new : S) → TakesFewer 1 (page_state_of mid) (page_state_of new)
        → IsShort (length leaves) (length (pairs_below 1 (words_of old) (branches_of (words_of old) leaves))) (page_state_of old) (page_state_of new)
    risen_no_root new fewer =
        short_root (length leaves) level (length (pairs_below 1 (words_of old) (branches_of (words_of old) leaves))) (page_state_of old) (page_state_of mid) (page_state_of new) some_pairs risen.low risen.holds fewer

    pub risen_root : (given : Pair) (top : ℕ) (new : S) → given.key ≡ [] → given.payload ≡ [] → top < 2 ^ 32 → IsWritten level (words_of new) (pairs_of (words_of mid) given slots) (branch_to (words_of new) top)
        → Swaps kept_of page_state_of words_of [] (top ∷ []) mid new
        → BecomesTree kept_of page_state_of words_of (pages_below 1 (words_of old) (branches_of (words_of old) leaves)) (pairs_below 1 (words_of old) (branches_of (words_of old) leaves)) (top + 1) old new
        × AreFewest (length (pages (words_of new) (top + 1))) (length (pairs_below 1 (words_of old) (branches_of (words_of old) leaves)))
    risen_root given top new no_key no_payload small wrote swaps =
        let v = words_of mid in
        let w = words_of new in
        let items = branches_of v slots in
        let all = pairs_below 1 (words_of old) (branches_of (words_of old) leaves) in
        let branch = branch_to w top in
        let is = child_branch w top small in
        let e : suc (child branch) ≡ top + 1 = omega (arith, is) in
        let written = subst (λ p. IsWritten level w (pairs_of v p slots) branch) (same_pair given [] [] no_key no_payload) wrote in
        let took = subst (λ p. Swaps kept_of page_state_of words_of [] (p ∷ []) mid new) (sym is) swaps in
        let enough : minimum_of_root level ≤ length items = omega (arith, root_minimum level, risen.some, length-map slots (pair_of v (record { key = []; payload = [] }))) in (
          subst (λ r. BecomesTree kept_of page_state_of words_of (pages_below 1 (words_of old) (branches_of (words_of old) leaves)) all r old new) e
              (becomes_tree kept_of page_state_of words_of (pages_below 1 (words_of old) (branches_of (words_of old) leaves)) all level items (suc (child branch)) old mid new risen.becomes
              (root_written kept_of page_state_of words_of level items branch [] mid new risen.becomes.below enough written took (λ q. omega (arith, risen.becomes.below.once q)))),
          fewest_root level (length all) (length (pages w (top + 1))) some_pairs risen.low
              (ap (λ r. length (pages w r)) (sym e) ∙ root_pages kept_of page_state_of words_of level items branch mid new risen.becomes.below written took ∙ ap suc risen.pages_are),
        )

-- a call that is refused because no page is free
pub as_full : {A : Type 0} (r : Result A Refusal) (full : ℕ → Type 0) (few : Type 0) → IfErr r (IsFullOf full) → few → IfErr r (λ e. (e ≡ OutOfMemory) ⊎ (IsFullOf full e × few))
as_full (Ok x) full few h f = tt
as_full (Err e) full few h f = inr (h, f)

-- an error that is passed on, where other pages are counted
pub as_refused : {A : Type 0} (r : Result A Refusal) (full : ℕ → Type 0) (few more : Type 0) → (few → more) → IfErr r (λ e. (e ≡ OutOfMemory) ⊎ (IsFullOf full e × few))
    → IfErr r (λ e. (e ≡ OutOfMemory) ⊎ (IsFullOf full e × more))
as_refused (Ok x) full few more f h = tt
as_refused (Err e) full few more f h = elim h [ inl o ↦ inl o | inr g ↦ inr (g.0, f g.1) ]

-- a result that is passed on
pub ok_as : {A E P Q : Type 0} (r : Result A E) → (P → Q) → OnOk r P → OnOk r Q
ok_as (Ok x) f p = f p
ok_as (Err e) f p = tt

pub err_as : {A E P Q : Type 0} (r : Result A E) → (P → Q) → OnErr r P → OnErr r Q
err_as (Ok x) f p = tt
err_as (Err e) f p = f p

pub if_ok_as : {A E : Type 0} (r : Result A E) (P Q : A → Type 0) → ((x : A) → P x → Q x) → IfOk r P → IfOk r Q
if_ok_as (Ok x) P Q f p = f x p
if_ok_as (Err e) P Q f p = tt
