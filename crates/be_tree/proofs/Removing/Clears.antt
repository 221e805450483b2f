-- Giving up pages one after another.
use Rattle.std.proofs.Common.{◌≡◌, ℕ, zero, suc, ◌+◌, ◌<◌, ◌≤◌, List, [], ◌∷◌, ◌++◌, length, get_or, take, drop, IsTrue, ap, sym, subst, ◌∙◌, refl, arith}
use Rattle.std.proofs.lemmas.List.{take-append-drop, append-nil}
use Rattle.std.proofs.Math.Seq.{take-suc}
use Rattle.std.proofs.lemmas.Bool.Decides.{nat_tests}
use Rattle.be_pages.specs.declared.room.PageState.{PageState}
use Rattle.be_pages.specs.Pages.{is_kept, is_readable, after_give_up, times, PageStep, untouched, SetsStateAt, Swaps, IsUnchanged}
use Rattle.be_tree_reading.specs.Pair.{Pair}
use Rattle.be_tree_reading.specs.Page.{items_of, item_at, item_place}
use Rattle.be_tree_reading.specs.Tree.{child, pages_at, pages_below, IsTreeAt}
use Rattle.be_tree_reading.proofs.Shape.Below.{pages_append, times_pages}
use Rattle.be_tree_reading.proofs.Frame.{times_append, times-cons, times_tail, same_page, swaps_trans, swaps_frame, swaps_stays, readable_kept}
use Rattle.be_tree_reading.proofs.Items.{item_get, items_count}
use Rattle.be_tree_reading.proofs.TreeFacts.{branch_tree}
use Rattle.be_tree_reading.proofs.Putting.Puts.{tree_weaker, swaps_given_up}

module _ {S K : Type 0} (kept_of : S → K) (page_state_of : S → ℕ → PageState) (words_of : S → ℕ → ℕ → ℕ) where
  -- if nothing changed, no page was replaced
  pub swaps_none : (old new : S) → IsUnchanged kept_of page_state_of words_of old new → Swaps kept_of page_state_of words_of [] [] old new
  swaps_none old new same = record {
    kept = same.kept;
    each = λ q. subst (λ t. PageStep (words_of new q ≡ words_of old q) 0 0 (page_state_of old q) t) (sym (ap (λ s. s q) same.page_state)) (untouched (ap (λ w. w q) same.words));
  }

  -- some pages are given up, and then others
  pub gives_both : (first last : List ℕ) (old mid new : S) → Swaps kept_of page_state_of words_of first [] old mid → Swaps kept_of page_state_of words_of last [] mid new
      → ((q : ℕ) → times q first + times q last ≤ 1) → ((q : ℕ) → 0 < times q last → IsTrue (is_kept (page_state_of old q)))
      → Swaps kept_of page_state_of words_of (first ++ last) [] old new
  gives_both first last old mid new before after once used =
      swaps_trans kept_of page_state_of words_of (first ++ last) last [] old mid new
      (swaps_frame kept_of page_state_of words_of first [] (first ++ last) last (λ q. times q last) old mid before
      (λ q. omega (arith, times_append q first last)) (λ q. omega arith) (λ q. omega (arith, times_append q first last, once q)) used)
      after

  -- a tree whose pages keep their words and states
  pub tree_stays : (level least page : ℕ) (old mid : S) → IsTreeAt level least (page_state_of old) (words_of old) page → words_of mid ≡ words_of old
      → ((q : ℕ) → 0 < times q (pages_at level (words_of old) page) → page_state_of mid q ≡ page_state_of old q) → IsTreeAt level least (page_state_of mid) (words_of mid) page
  tree_stays level least page old mid tree words states =
      subst (λ w. IsTreeAt level least (page_state_of mid) w page) (sym words) (record {
        node = tree.node;
        below = record {
          keys_fit = tree.below.keys_fit;
          shaped = tree.below.shaped;
          rising = tree.below.rising;
          once = tree.below.once;
          in_use = λ q some. subst (λ s. IsTrue (is_kept s)) (sym (states q (omega (arith, some, times_tail q page (pages_below level (words_of old) (items_of (words_of old page))))))) (tree.below.in_use q some);
        };
        page_once = tree.page_once;
        page_in_use = subst (λ s. IsTrue (is_kept s)) (sym (states page (omega (arith, times-cons page page (pages_below level (words_of old) (items_of (words_of old page))), same_page page)))) tree.page_in_use;
      })

-- the pages below the first branches of a node, and those of the next
module _ (level below least : ℕ) (page_state : ℕ → PageState) (words : ℕ → ℕ → ℕ) (page j : ℕ) (e : level ≡ suc below) (tree : IsTreeAt level least page_state words page) (lt : j < words page 1) where
  in_items : j < length (items_of (words page))
  in_items = omega (arith, lt, items_count (words page))

  is_branch : get_or (items_of (words page)) j (item_at (words page) (item_place j)) ≡ item_at (words page) (item_place j)
  is_branch = item_get (words page) j (item_at (words page) (item_place j)) lt

  pub one_more : pages_below level words (take (j + 1) (items_of (words page))) ≡ pages_below level words (take j (items_of (words page))) ++ pages_at below words (child (item_at (words page) (item_place j)))
  one_more =
      let past : j + 1 ≡ suc j = omega arith in
      subst (λ l. pages_below l words (take (j + 1) (items_of (words page))) ≡ pages_below l words (take j (items_of (words page))) ++ pages_at below words (child (item_at (words page) (item_place j)))) (sym e)
      (ap (λ n. pages_below (suc below) words (take n (items_of (words page)))) past
      ∙ ap (pages_below (suc below) words) (take-suc (items_of (words page)) j (item_at (words page) (item_place j)) in_items)
      ∙ pages_append (suc below) words (take j (items_of (words page))) (get_or (items_of (words page)) j (item_at (words page) (item_place j)) ∷ [])
      ∙ ap (λ (x : Pair). pages_below (suc below) words (take j (items_of (words page))) ++ pages_below (suc below) words (x ∷ [])) is_branch
      ∙ ap (λ ps. pages_below (suc below) words (take j (items_of (words page))) ++ ps) (append-nil (pages_at below words (child (item_at (words page) (item_place j))))))

  pub among : (q : ℕ) → times q (pages_below level words (take j (items_of (words page)))) + times q (pages_at below words (child (item_at (words page) (item_place j)))) ≤ times q (pages_below level words (items_of (words page)))
  among q = omega (
    arith,
    ap (λ xs. times q (pages_below level words xs)) (take-append-drop (j + 1) (items_of (words page))),
    times_pages level words (take (j + 1) (items_of (words page))) (drop (j + 1) (items_of (words page))) q,
    ap (times q) one_more,
    times_append q (pages_below level words (take j (items_of (words page)))) (pages_at below words (child (item_at (words page) (item_place j)))),
  )

  pub next_apart : (q : ℕ) → times q (pages_below level words (take j (items_of (words page)))) + times q (pages_at below words (child (item_at (words page) (item_place j)))) ≤ 1
  next_apart q = omega (arith, among q, tree.below.once q)

  pub next_in_use : (q : ℕ) → 0 < times q (pages_at below words (child (item_at (words page) (item_place j)))) → IsTrue (is_kept (page_state q))
  next_in_use q some = tree.below.in_use q (omega (arith, among q, some))

  pub next_names_page : length (item_at (words page) (item_place j)).payload ≡ 8
  next_names_page =
      let inner = subst (λ l. IsTreeAt l least page_state words page) e tree in
      subst (λ (x : Pair). length x.payload ≡ 8) is_branch (inner.below.shaped j (item_at (words page) (item_place j)) in_items).1.names_page

  pub next_tree : IsTreeAt below 1 page_state words (child (item_at (words page) (item_place j)))
  next_tree =
      let inner = subst (λ l. IsTreeAt l least page_state words page) e tree in
      let down = branch_tree below page_state words (items_of (words page)) inner.below j (item_at (words page) (item_place j)) in_items in
      subst (λ (x : Pair). IsTreeAt below 1 page_state words (child x)) is_branch (tree_weaker below 6 page_state words (child (get_or (items_of (words page)) j (item_at (words page) (item_place j)))) (omega arith) down)

-- all items of a page
pub take_count : (words : ℕ → ℕ) (n : ℕ) → n ≡ words 1 → take n (items_of words) ≡ items_of words
take_count words n e = all_of (items_of words) n (e ∙ sym (items_count words))
  where
    all_of : (xs : List Pair) (n : ℕ) → n ≡ length xs → take n xs ≡ xs
    all_of [] zero e = refl
    all_of [] (suc n) e = refl
    all_of (x ∷ xs) zero e = absurd (omega (arith, e))
    all_of (x ∷ xs) (suc n) e = ap (λ ys. x ∷ ys) (all_of xs n (omega (arith, e)))

-- nothing is below an empty list of items
pub none_below : (level : ℕ) (words : ℕ → ℕ → ℕ) → pages_below level words [] ≡ []
none_below zero words = refl
none_below (suc level) words = refl

-- the pages below some of a node's items are among those below all
pub taken_among : (level : ℕ) (words : ℕ → ℕ → ℕ) (items : List Pair) (j q : ℕ) → times q (pages_below level words (take j items)) ≤ times q (pages_below level words items)
taken_among level words items j q = omega (
  arith,
  ap (λ xs. times q (pages_below level words xs)) (take-append-drop j items),
  times_pages level words (take j items) (drop j items) q,
)

module _ {S K : Type 0} (kept_of : S → K) (page_state_of : S → ℕ → PageState) (words_of : S → ℕ → ℕ → ℕ) where
  -- pages were replaced, and then others were only read
  pub swaps_until : (before after : List ℕ) (old mid read : S) → Swaps kept_of page_state_of words_of before after old mid → IsUnchanged kept_of page_state_of words_of mid read → Swaps kept_of page_state_of words_of before after old read
  swaps_until before after old mid read swaps same = record {
    kept = same.kept ∙ swaps.kept;
    each = λ q. subst (λ s. PageStep (words_of read q ≡ words_of old q) (times q before) (times q after) (page_state_of old q) (s q)) (sym same.page_state)
        (subst (λ w. PageStep (w q ≡ words_of old q) (times q before) (times q after) (page_state_of old q) (page_state_of mid q)) (sym same.words) (swaps.each q));
  }

  -- the node's page isn't among those below it, so it can be read while they are given up
  pub node_readable : (level least page j : ℕ) (old mid : S) → IsTreeAt level least (page_state_of old) (words_of old) page
      → Swaps kept_of page_state_of words_of (pages_below level (words_of old) (take j (items_of (words_of old page)))) [] old mid → IsTrue (is_readable (page_state_of mid page))
  node_readable level least page j old mid tree swaps =
      let read = readable_kept (page_state_of old page) tree.page_in_use in
      let none : times page (pages_below level (words_of old) (take j (items_of (words_of old page)))) ≡ 0 = omega (arith, taken_among level (words_of old) (items_of (words_of old page)) j page, tree.page_once) in
      subst (λ s. IsTrue (is_readable s)) (sym (swaps_stays kept_of page_state_of words_of (pages_below level (words_of old) (take j (items_of (words_of old page)))) [] old mid swaps page none read)) read

  -- the next branch's child remains well formed while those before it are given up
  pub child_still : (level below least page j : ℕ) (old mid : S) → level ≡ suc below → IsTreeAt level least (page_state_of old) (words_of old) page → j < words_of old page 1
      → Swaps kept_of page_state_of words_of (pages_below level (words_of old) (take j (items_of (words_of old page)))) [] old mid → words_of mid ≡ words_of old
      → IsTreeAt below 1 (page_state_of mid) (words_of mid) (child (item_at (words_of old page) (item_place j)))
  child_still level below least page j old mid e tree lt swaps words =
      let taken = pages_below level (words_of old) (take j (items_of (words_of old page))) in
      tree_stays kept_of page_state_of words_of below 1 (child (item_at (words_of old page) (item_place j))) old mid (next_tree level below least (page_state_of old) (words_of old) page j e tree lt) words
      (λ q some. swaps_stays kept_of page_state_of words_of taken [] old mid swaps q
      (omega (arith, next_apart level below least (page_state_of old) (words_of old) page j e tree lt q, some))
      (readable_kept (page_state_of old q) (next_in_use level below least (page_state_of old) (words_of old) page j e tree lt q some)))

  -- another page is given up too
  pub swaps_gives : (before after : List ℕ) (page : ℕ) (old mid new : S) → Swaps kept_of page_state_of words_of before after old mid → times page before ≡ 0 → IsTrue (is_kept (page_state_of old page))
      → kept_of new ≡ kept_of mid → words_of new ≡ words_of mid → SetsStateAt (page_state_of mid) (page_state_of new) page (after_give_up (page_state_of mid page)) → Swaps kept_of page_state_of words_of (page ∷ before) after old new
  swaps_gives before after page old mid new swaps none used kept words states =
      swaps_given_up kept_of page_state_of words_of before after page old mid new swaps none used kept words at_page off_page
    where
      at_page : page_state_of new page ≡ after_give_up (page_state_of mid page)
      at_page = grind (arith, nat_tests, states page)

      off_page : (q : ℕ) → (q ≡ page → ⊥) → page_state_of new q ≡ page_state_of mid q
      off_page q ne = grind (arith, nat_tests, states q)
