-- Putting a pair below a page.
use Rattle.std.proofs.Common.{◌≡◌, ℕ, zero, suc, ◌-◌, ◌<◌, ◌≤◌, List, [], ◌∷◌, ◌++◌, length, get_or, take, drop, IsTrue, ap, sym, subst, ◌∙◌, refl, inl, inr, arith}
use mathlib.Core.Bool.{false≢true}
use Rattle.std.specs.List.{flat_map, remove}
use Rattle.std.specs.declared.cmp.Ordering.TheVariants.{Less, Equal, Greater}
use Rattle.std.proofs.lemmas.Bool.{cases_eq}
use Rattle.std.proofs.lemmas.List.{append-nil}
use Rattle.be_pages.specs.declared.room.PageState.{PageState}
use Rattle.be_pages.specs.declared.room.PageState.TheVariants.{Free, Old, GivenUp, Taken, Filled}
use Rattle.be_pages.specs.Pages.{is_kept, is_held, times, after_give_up, PageStep, untouched, unused, fresh, given_old, given_new, stays_old, stays_new, Swaps, IsUnchanged}
use Rattle.be_tree_reading.specs.Pair.{Pair}
use Rattle.be_tree_reading.specs.Key.{key_cmp, AllAbove, IsRising, IsRank, put, put_before}
use Rattle.be_tree_reading.specs.Page.{items_of}
use Rattle.be_tree_reading.specs.Tree.{child, pairs_at, pairs_below, pages_below, AreShaped, IsBelow, IsTreeAt, Becomes}
use Rattle.be_tree_reading.proofs.Order.{key_exact, key_cmp_flip_less, AllAbove_trans}
use Rattle.be_tree_reading.proofs.Frame.{times_append, times-cons, times_other, same_page, swaps_fresh, swaps_trans, swaps_stays, swaps_with, readable_kept}
use Rattle.be_tree_reading.proofs.TreeFacts.{in_three, IsSplit, put_split, inner_split, leaf_split, as_branches, branch_tree}

-- a put preserves the order
above_put : (k : List ℕ) (pair : Pair) (xs : List Pair) → key_cmp pair.key k ≡ Greater → AllAbove k xs → AllAbove k (put pair xs)
above_put k pair [] gt above = (gt, tt)
above_put k pair (x ∷ xs) gt above =
    elim (key_cmp x.key pair.key) as (λ r. AllAbove k (put_before r pair x xs (put pair xs))) [
      | Less ↦ (above.0, above_put k pair xs gt above.1)
      | Equal ↦ (gt, above.1)
      | Greater ↦ (gt, above)
    ]

pub rising_put : (pair : Pair) (xs : List Pair) → IsRising xs → IsRising (put pair xs)
rising_put pair [] rising = (tt, tt)
rising_put pair (x ∷ xs) rising =
    elim (key_cmp x.key pair.key) as (λ r. key_cmp x.key pair.key ≡ r → IsRising (put_before r pair x xs (put pair xs))) [
      | Less ↦ λ e. (above_put x.key pair xs (key_cmp_flip_less x.key pair.key e) rising.0, rising_put pair xs rising.1)
      | Equal ↦ λ e. (subst (λ k. AllAbove k xs) (key_exact x.key pair.key e) rising.0, rising.1)
      | Greater ↦ λ e. ((e, AllAbove_trans x.key pair.key xs e rising.0), rising)
    ] refl

-- a put into the pairs below some items goes to one item
pub put_at_item : (level : ℕ) (page_state : ℕ → PageState) (words : ℕ → ℕ → ℕ) (items : List Pair) (pair : Pair) (r at : ℕ) (item : Pair)
    → IsBelow level page_state words items → 0 < length items → IsRank pair.key items r → at ≡ r - 1 → item ≡ get_or items at item
    → record {
      in_range : at < length items;
      all : put pair (pairs_below level words items)
          ≡ pairs_below level words (take at items) ++ (put pair (pairs_below level words (item ∷ [])) ++ pairs_below level words (drop (suc at) items));
    }
put_at_item zero page_state words items pair r at item below some rank place is =
    let split = subst (IsSplit (λ x. x ∷ []) pair.key items) (sym place) (leaf_split items below.rising pair.key r rank some) in
    record {
      in_range = split.in_range;
      all = ap (put pair) (sym (as_branches items)) ∙ put_split (λ x. x ∷ []) pair.key items at split pair item refl
          ∙ ap2 (as_branches (take at items)) (ap (λ x. put pair (x ∷ [])) (sym is)) (as_branches (drop (suc at) items));
    }
  where
    ap2 : {a b c d e f : List Pair} → a ≡ b → c ≡ d → e ≡ f → a ++ (c ++ e) ≡ b ++ (d ++ f)
    ap2 p q r = cc
put_at_item (suc level) page_state words items pair r at item below some rank place is =
    let f = λ (b : Pair). pairs_at level words (child b) in
    let split = subst (IsSplit f pair.key items) (sym place) (inner_split level page_state words items below pair.key r rank some) in
    record {
      in_range = split.in_range;
      all = put_split f pair.key items at split pair item refl
          ∙ ap (λ x. flat_map f (take at items) ++ (put pair (f x) ++ flat_map f (drop (suc at) items))) (sym is)
          ∙ ap (λ x. flat_map f (take at items) ++ (put pair x ++ flat_map f (drop (suc at) items))) (sym (append-nil (f item)));
    }

-- a page in use that isn't among the pages before isn't among those after
pub given_up_page : {S K : Type 0} (kept_of : S → K) (page_state_of : S → ℕ → PageState) (words_of : S → ℕ → ℕ → ℕ) (before after : List ℕ) (page : ℕ) (old mid : S) → Swaps kept_of page_state_of words_of before after old mid
    → times page before ≡ 0 → IsTrue (is_kept (page_state_of old page)) → times page after ≡ 0
given_up_page kept_of page_state_of words_of before after page old mid swaps none used = elim (cases_eq (times page after) 0) [
  | inl e ↦ e
  | inr ne ↦ absurd (false≢true (ap is_kept (sym (swaps_fresh kept_of page_state_of words_of before after old mid swaps page none (omega (arith, ne)))) ∙ used))
]

module _ {S K : Type 0} (kept_of : S → K) (page_state_of : S → ℕ → PageState) (words_of : S → ℕ → ℕ → ℕ) where
  -- a page in use is given up too
  pub swaps_given_up : (before after : List ℕ) (page : ℕ) (old mid new : S) → Swaps kept_of page_state_of words_of before after old mid
      → times page before ≡ 0 → IsTrue (is_kept (page_state_of old page))
      → kept_of new ≡ kept_of mid → words_of new ≡ words_of mid → page_state_of new page ≡ after_give_up (page_state_of mid page) → ((q : ℕ) → (q ≡ page → ⊥) → page_state_of new q ≡ page_state_of mid q)
      → Swaps kept_of page_state_of words_of (page ∷ before) after old new
  swaps_given_up before after page old mid new swaps none used kept words gone others = record {
    kept = kept ∙ swaps.kept;
    each = λ q. subst (λ w. PageStep (w q ≡ words_of old q) (times q (page ∷ before)) (times q after) (page_state_of old q) (page_state_of new q)) (sym words)
        (elim (cases_eq q page) [
          | inl e ↦ subst (λ p. PageStep (words_of mid p ≡ words_of old p) (times p (page ∷ before)) (times p after) (page_state_of old p) (page_state_of new p)) (sym e) given
          | inr ne ↦
              subst (λ n. PageStep (words_of mid q ≡ words_of old q) n (times q after) (page_state_of old q) (page_state_of new q)) (sym (besides q ne))
              (subst (λ t. PageStep (words_of mid q ≡ words_of old q) (times q before) (times q after) (page_state_of old q) t) (sym (others q ne)) (swaps.each q))
        ]);
  }
    where
      no_more : times page after ≡ 0
      no_more = given_up_page kept_of page_state_of words_of before after page old mid swaps none used

      besides : (q : ℕ) → (q ≡ page → ⊥) → times q (page ∷ before) ≡ times q before
      besides q ne = omega (arith, times_append q (page ∷ []) before, times_other q page ne)

      give : {P : Type 0} {b a : ℕ} {s t : PageState} → b ≡ 0 → a ≡ 0 → IsTrue (is_kept s) → PageStep P b a s t → (u : PageState) → u ≡ after_give_up t → PageStep P 1 0 s u
      give nb na used step u e = given_up_step _ _ _ used (untouched_is nb na used step) u e
        where
          untouched_is : {P : Type 0} {b a : ℕ} {s t : PageState} → b ≡ 0 → a ≡ 0 → IsTrue (is_kept s) → PageStep P b a s t → P × (t ≡ s)
          untouched_is nb na used (untouched p) = (p, refl)
          untouched_is nb na used unused = absurd (false≢true used)
          untouched_is nb na used fresh = absurd (false≢true used)
          untouched_is nb na used (given_old {b} p) = absurd (omega (arith, nb))
          untouched_is nb na used (given_new {b}) = absurd (omega (arith, nb))
          untouched_is nb na used (stays_old {b} p) = absurd (omega (arith, nb))
          untouched_is nb na used (stays_new {b}) = absurd (omega (arith, nb))

          given_up_step : (P : Type 0) (s t : PageState) → IsTrue (is_kept s) → P × (t ≡ s) → (u : PageState) → u ≡ after_give_up t → PageStep P 1 0 s u
          given_up_step P Free t used h u e = absurd (false≢true used)
          given_up_step P Old t used h u e = subst (λ v. PageStep P 1 0 Old v) (sym (e ∙ ap after_give_up h.1)) (given_old h.0)
          given_up_step P GivenUp t used h u e = absurd (false≢true used)
          given_up_step P Taken t used h u e = absurd (false≢true used)
          given_up_step P Filled t used h u e = subst (λ v. PageStep P 1 0 Filled v) (sym (e ∙ ap after_give_up h.1)) given_new

      given : PageStep (words_of mid page ≡ words_of old page) (times page (page ∷ before)) (times page after) (page_state_of old page) (page_state_of new page)
      given =
          let one : 1 ≡ times page (page ∷ before) = omega (arith, times-cons page page before, same_page page, none) in
          subst (λ n. PageStep (words_of mid page ≡ words_of old page) n (times page after) (page_state_of old page) (page_state_of new page)) one
          (subst (λ n. PageStep (words_of mid page ≡ words_of old page) 1 n (page_state_of old page) (page_state_of new page)) (sym no_more)
          (give none no_more used (swaps.each page) (page_state_of new page) gone))

  pub becomes_given_up : (before : List ℕ) (all : List Pair) (level : ℕ) (items : List Pair) (page : ℕ) (old mid new : S)
      → Becomes kept_of page_state_of words_of before all level items old mid
      → times page before ≡ 0 → IsTrue (is_kept (page_state_of old page))
      → kept_of new ≡ kept_of mid → words_of new ≡ words_of mid → page_state_of new page ≡ after_give_up (page_state_of mid page) → ((q : ℕ) → (q ≡ page → ⊥) → page_state_of new q ≡ page_state_of mid q)
      → Becomes kept_of page_state_of words_of (page ∷ before) all level items old new
  becomes_given_up before all level items page old mid new becomes none used kept words gone others =
      let now = λ (w : ℕ → ℕ → ℕ). pages_below level w items in
      record {
        below = record {
          keys_fit = becomes.below.keys_fit;
          shaped = subst (λ w. AreShaped level w items) (sym words) becomes.below.shaped;
          rising = subst (λ w. IsRising (pairs_below level w items)) (sym words) becomes.below.rising;
          once = λ q. subst (λ w. times q (pages_below level w items) ≤ 1) (sym words) (becomes.below.once q);
          in_use = λ q some.
              let was = subst (λ w. 0 < times q (pages_below level w items)) words some in
              elim (cases_eq q page) [
                | inl e ↦ absurd (not_page (subst (λ p. 0 < times p (pages_below level (words_of mid) items)) e was))
                | inr ne ↦ subst (λ s. IsTrue (is_kept s)) (sym (others q ne)) (becomes.below.in_use q was)
              ];
        };
        has_pairs = ap (λ w. pairs_below level w items) words ∙ becomes.has_pairs;
        swaps = subst (λ w. Swaps kept_of page_state_of words_of (page ∷ before) (pages_below level w items) old new) (sym words)
            (swaps_given_up before (pages_below level (words_of mid) items) page old mid new becomes.swaps none used kept words gone others);
      }
    where
      not_page : 0 < times page (pages_below level (words_of mid) items) → ⊥
      not_page some = absurd (omega (arith, some, given_up_page kept_of page_state_of words_of before (pages_below level (words_of mid) items) page old mid becomes.swaps none used))

  -- a page in use that isn't among the pages before is still kept
  pub held_after : (before after : List ℕ) (page : ℕ) (old new : S) → Swaps kept_of page_state_of words_of before after old new → times page before ≡ 0 → IsTrue (is_kept (page_state_of old page)) → IsTrue (is_held (page_state_of new page))
  held_after before after page old new swaps none used = held _ (subst (λ s. IsTrue (is_kept s)) (sym (swaps_stays kept_of page_state_of words_of before after old new swaps page none (readable_kept _ used))) used)
    where
      held : (s : PageState) → IsTrue (is_kept s) → IsTrue (is_held s)
      held Free used = used
      held Old used = refl
      held GivenUp used = used
      held Taken used = refl
      held Filled used = refl

  -- and it is still in use
  pub kept_after : (before after : List ℕ) (page : ℕ) (old new : S) → Swaps kept_of page_state_of words_of before after old new → times page before ≡ 0 → IsTrue (is_kept (page_state_of old page)) → IsTrue (is_kept (page_state_of new page))
  kept_after before after page old new swaps none used = subst (λ s. IsTrue (is_kept s)) (sym (swaps_stays kept_of page_state_of words_of before after old new swaps page none (readable_kept _ used))) used

  -- a change, after pages were only read
  pub becomes_since : (before : List ℕ) (all : List Pair) (level : ℕ) (items : List Pair) (old read new : S) → IsUnchanged kept_of page_state_of words_of old read
      → Becomes kept_of page_state_of words_of before all level items read new → Becomes kept_of page_state_of words_of before all level items old new
  becomes_since before all level items old read new same becomes = record {
    below = becomes.below;
    has_pairs = becomes.has_pairs;
    swaps = record {
      kept = becomes.swaps.kept ∙ same.kept;
      each = λ q. subst (λ s. PageStep (words_of new q ≡ words_of old q) (times q before) (times q (pages_below level (words_of new) items)) (s q) (page_state_of new q)) same.page_state
          (subst (λ w. PageStep (words_of new q ≡ w q) (times q before) (times q (pages_below level (words_of new) items)) (page_state_of read q) (page_state_of new q)) same.words (becomes.swaps.each q));
    };
  }

  -- what a page's items become when one of them becomes others and the page is given up
  module _ (level : ℕ) (page : ℕ) (pair item : Pair) (items rest : List Pair) (r at : ℕ) (old read : S)
      (tree : IsTreeAt level 1 (page_state_of old) (words_of old) page) (same : IsUnchanged kept_of page_state_of words_of old read)
      (loaded : items ≡ items_of (words_of read page)) (rank : IsRank pair.key items r) (place : at ≡ r - 1) (is : item ≡ get_or items at item) (removed : rest ≡ remove items at) where
    pub tree_read : IsTreeAt level 1 (page_state_of read) (words_of read) page
    tree_read = subst (λ s. IsTreeAt level 1 s (words_of read) page) (sym same.page_state) (subst (λ w. IsTreeAt level 1 (page_state_of old) w page) (sym same.words) tree)

    below : IsBelow level (page_state_of read) (words_of read) items
    below = subst (IsBelow level (page_state_of read) (words_of read)) (sym loaded) tree_read.below

    some : 0 < length items
    some = omega (arith, tree_read.node.enough, ap length loaded)

    pub parts : record {
      in_range : at < length items;
      all : put pair (pairs_below level (words_of read) items)
          ≡ pairs_below level (words_of read) (take at items) ++ (put pair (pairs_below level (words_of read) (item ∷ [])) ++ pairs_below level (words_of read) (drop (suc at) items));
    }
    parts = put_at_item level (page_state_of read) (words_of read) items pair r at item below some rank place is

    three : items ≡ take at items ++ item ∷ drop (suc at) items
    three = in_three items at item parts.in_range ∙ ap (λ x. take at items ++ x ∷ drop (suc at) items) (sym is)

-- a single branch, and its child
pub branch_child : (level below : ℕ) (page_state : ℕ → PageState) (words : ℕ → ℕ → ℕ) (item : Pair) → level ≡ suc below → IsBelow level page_state words (item ∷ []) → IsTreeAt below 6 page_state words (child item)
branch_child level below page_state words item e h = branch_tree below page_state words (item ∷ []) (subst (λ n. IsBelow n page_state words (item ∷ [])) e h) 0 item (omega arith)

pub tree_weaker : (level least : ℕ) (page_state : ℕ → PageState) (words : ℕ → ℕ → ℕ) (page : ℕ) → 1 ≤ least → IsTreeAt level least page_state words page → IsTreeAt level 1 page_state words page
tree_weaker level least page_state words page le tree = record {
  node = record { is_page = tree.node.is_page; at_level = tree.node.at_level; enough = omega (arith, tree.node.enough) };
  below = tree.below;
  page_once = tree.page_once;
  page_in_use = tree.page_in_use;
}

module _ {S K : Type 0} (kept_of : S → K) (page_state_of : S → ℕ → PageState) (words_of : S → ℕ → ℕ → ℕ) where
  -- a change, and then pages are only read
  pub becomes_until : (before : List ℕ) (all : List Pair) (level : ℕ) (items : List Pair) (old new read : S) → IsUnchanged kept_of page_state_of words_of new read
      → Becomes kept_of page_state_of words_of before all level items old new → Becomes kept_of page_state_of words_of before all level items old read
  becomes_until before all level items old new read same becomes = record {
    below = subst (λ s. IsBelow level s (words_of read) items) (sym same.page_state) (subst (λ w. IsBelow level (page_state_of new) w items) (sym same.words) becomes.below);
    has_pairs = ap (λ w. pairs_below level w items) same.words ∙ becomes.has_pairs;
    swaps = record {
      kept = same.kept ∙ becomes.swaps.kept;
      each = λ q. subst (λ s. PageStep (words_of read q ≡ words_of old q) (times q before) (times q (pages_below level (words_of read) items)) (page_state_of old q) (s q)) (sym same.page_state)
          (subst (λ w. PageStep (w q ≡ words_of old q) (times q before) (times q (pages_below level w items)) (page_state_of old q) (page_state_of new q)) (sym same.words) (becomes.swaps.each q));
    };
  }

  -- the child of a branch that was read
  pub child_read : (level below : ℕ) (item : Pair) (page : ℕ) (old read : S) → level ≡ suc below → IsBelow level (page_state_of old) (words_of old) (item ∷ []) → page ≡ child item → IsUnchanged kept_of page_state_of words_of old read
      → IsTreeAt below 6 (page_state_of read) (words_of read) page
  child_read level below item page old read e h is same =
      subst (λ p. IsTreeAt below 6 (page_state_of read) (words_of read) p) (sym is)
      (subst (λ s. IsTreeAt below 6 s (words_of read) (child item)) (sym same.page_state)
      (subst (λ w. IsTreeAt below 6 (page_state_of old) w (child item)) (sym same.words) (branch_child level below (page_state_of old) (words_of old) item e h)))

  -- a page's items change and are then written in its place
  pub becomes_over : (before : List ℕ) (all : List Pair) (level next page : ℕ) (xs us : List Pair) (old mid new : S) → Becomes kept_of page_state_of words_of before all level xs old mid
      → times page before ≡ 0 → ((q : ℕ) → times q before ≤ 1) → IsTrue (is_kept (page_state_of old page))
      → Becomes kept_of page_state_of words_of (page ∷ pages_below level (words_of mid) xs) (pairs_below level (words_of mid) xs) next us mid new
      → Becomes kept_of page_state_of words_of (page ∷ before) all next us old new
  becomes_over before all level next page xs us old mid new first none once used last = record {
    below = last.below;
    has_pairs = last.has_pairs ∙ first.has_pairs;
    swaps = swaps_trans kept_of page_state_of words_of (page ∷ before) (page ∷ pages_below level (words_of mid) xs) (pages_below next (words_of new) us) old mid new
        (swaps_with kept_of page_state_of words_of page before (pages_below level (words_of mid) xs) old mid first.swaps none once used) last.swaps;
  }
