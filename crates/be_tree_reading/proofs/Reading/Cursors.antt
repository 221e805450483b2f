-- A cursor's path.
use Rattle.std.proofs.Common.{◌≡◌, ℕ, zero, suc, ◌+◌, ◌-◌, ◌<◌, ◌≤◌, List, [], ◌∷◌, ◌++◌, length, get_or, drop, ap, sym, subst, ◌∙◌, refl, inl, inr, arith, Bool, drop-cons, append_assoc}
use Rattle.std.proofs.lemmas.Bool.{cases_lt}
use Rattle.std.proofs.lemmas.List.{append-nil, get_or_append_left, get_or-append-add, length-append}
use Rattle.be_pages.specs.declared.room.PageState.{PageState}
use Rattle.be_tree_reading.specs.declared.cursor.Place.{Place}
use Rattle.be_tree_reading.specs.Pair.{Pair}
use Rattle.be_tree_reading.specs.Key.{IsRank}
use Rattle.be_tree_reading.specs.Page.{items_of, item_at, level_of, item_place}
use Rattle.be_tree_reading.specs.Tree.{child, pairs, pairs_at, pairs_below, IsTreeAt}
use Rattle.be_tree_reading.specs.Cursor.{pairs_past, pairs_along, IsPlace, IsPath}
use Rattle.be_tree_reading.specs.Range.{pairs_from}
use Rattle.be_tree_reading.proofs.Items.{item_get, items_count}
use Rattle.be_tree_reading.proofs.TreeFacts.{branch_tree, inner_split}
use Rattle.be_tree_reading.proofs.Putting.Puts.{tree_weaker}
use Rattle.be_tree_reading.proofs.Shape.Below.{all_left}
use Rattle.be_tree_reading.proofs.Ranges.{from_split}

-- on a path with one more place, what is after that place comes first
pub along_push : (words : ℕ → ℕ → ℕ) (path : List Place) (place : Place) → pairs_along words (path ++ place ∷ []) ≡ pairs_past words place ++ pairs_along words path
along_push words [] place = sym (append-nil (pairs_past words place))
along_push words (q ∷ path) place =
    ap (λ xs. xs ++ pairs_past words q) (along_push words path place)
    ∙ append_assoc (pairs_past words place) (pairs_along words path) (pairs_past words q)

module _ (page_state : ℕ → PageState) (words : ℕ → ℕ → ℕ) (path : List Place) (place : Place) where
  pub path_push : IsPath page_state words path → IsPlace page_state words place → place.level + length path ≤ 13 → IsPath page_state words (path ++ place ∷ [])
  path_push is_path is_place short = record {
    places = λ i d lt. elim (cases_lt i (length path)) [
      | inl in_path ↦ subst (IsPlace page_state words) (sym (get_or_append_left path (place ∷ []) d i in_path)) (is_path.places i d in_path)
      | inr past ↦ subst (IsPlace page_state words) (sym (at_end i d (end i lt past))) is_place
    ];
    short = λ i d lt. elim (cases_lt i (length path)) [
      | inl in_path ↦ subst (λ (p : Place). p.level + i ≤ 13) (sym (get_or_append_left path (place ∷ []) d i in_path)) (is_path.short i d in_path)
      | inr past ↦ subst (λ (p : Place). p.level + i ≤ 13) (sym (at_end i d (end i lt past))) (omega (arith, short, end i lt past))
    ];
  }
    where
      end : (i : ℕ) → i < length (path ++ place ∷ []) → length path ≤ i → i ≡ length path + 0
      end i lt past = omega (arith, lt, past, length-append path (place ∷ []))

      at_end : (i : ℕ) (d : Place) → i ≡ length path + 0 → get_or (path ++ place ∷ []) i d ≡ place
      at_end i d e = ap (λ n. get_or (path ++ place ∷ []) n d) e ∙ get_or-append-add path (place ∷ []) 0 d

  pub path_front : IsPath page_state words (path ++ place ∷ []) → IsPath page_state words path
  path_front is_path = record {
    places = all_left (IsPlace page_state words) path (place ∷ []) is_path.places;
    short = λ i d lt. subst (λ (p : Place). p.level + i ≤ 13) (get_or_append_left path (place ∷ []) d i lt) (is_path.short i d (omega (arith, lt, length-append path (place ∷ []))));
  }

pub nothing_past : (xs : List Pair) (i : ℕ) → length xs ≤ i → drop i xs ≡ []
nothing_past [] zero le = refl
nothing_past [] (suc i) le = refl
nothing_past (x ∷ xs) zero le = absurd (omega (arith, le))
nothing_past (x ∷ xs) (suc i) le = nothing_past xs i (omega (arith, le))

-- nothing is after a place at its page's end
pub past_end : (words : ℕ → ℕ → ℕ) (place : Place) → length (items_of (words place.page)) ≤ place.next → pairs_past words place ≡ []
past_end words place end = ap (λ xs. pairs_below place.level words xs) (nothing_past (items_of (words place.page)) place.next end) ∙ none place.level
  where
    none : (level : ℕ) → pairs_below level words [] ≡ []
    none zero = refl
    none (suc level) = refl

-- an item's place in a page
module _ (page_state : ℕ → PageState) (words : ℕ → ℕ → ℕ) (level least page next : ℕ) (tree : IsTreeAt level least page_state words page) (lt : next < words page 1) where
  in_items : next < length (items_of (words page))
  in_items = omega (arith, lt, items_count (words page))

  is_here : get_or (items_of (words page)) next (item_at (words page) (item_place next)) ≡ item_at (words page) (item_place next)
  is_here = item_get (words page) next (item_at (words page) (item_place next)) lt

  pub at_rest : drop next (items_of (words page)) ≡ item_at (words page) (item_place next) ∷ drop (next + 1) (items_of (words page))
  at_rest =
      let e : suc next ≡ next + 1 = omega arith in
      drop-cons (items_of (words page)) next (item_at (words page) (item_place next)) in_items
      ∙ ap (λ (x : Pair). x ∷ drop (suc next) (items_of (words page))) is_here
      ∙ ap (λ i. item_at (words page) (item_place next) ∷ drop i (items_of (words page))) e

  -- the pair at a leaf's place, followed by those after it
  pub leaf_step : level ≡ 0 → pairs_below level words (drop next (items_of (words page))) ≡ item_at (words page) (item_place next) ∷ pairs_below level words (drop (next + 1) (items_of (words page)))
  leaf_step e = subst (λ l. pairs_below l words (drop next (items_of (words page))) ≡ item_at (words page) (item_place next) ∷ pairs_below l words (drop (next + 1) (items_of (words page)))) (sym e) at_rest

-- the pairs from a leaf's place on: the item there, and the others
pub step_parts : (page_state : ℕ → PageState) (words : ℕ → ℕ → ℕ) (place : Place) (all rest : List Pair) → IsPlace page_state words place → place.next < words place.page 1 → place.level ≡ 0
    → all ≡ pairs_past words place ++ rest
    → all ≡ item_at (words place.page) (item_place place.next) ∷ (pairs_below place.level words (drop (place.next + 1) (items_of (words place.page))) ++ rest)
step_parts page_state words place all rest is lt leaf e = e ∙ ap (λ xs. xs ++ rest) (leaf_step page_state words place.level 1 place.page place.next is.tree lt leaf)

-- what the branch at an inner node's place leads to
pub record LeadsDown (level below : ℕ) (page_state : ℕ → PageState) (words : ℕ → ℕ → ℕ) (page next : ℕ) (branch : Pair) : Type 0 where
  pub names_page : length branch.payload ≡ 8
  pub tree : IsTreeAt below 1 page_state words (child branch)
  pub some : 0 < words (child branch) 1
  pub parts : pairs_below level words (drop next (items_of (words page))) ≡ pairs_at below words (child branch) ++ pairs_below level words (drop (next + 1) (items_of (words page)))

leads_from : (below : ℕ) (page_state : ℕ → PageState) (words : ℕ → ℕ → ℕ) (least page next : ℕ) → IsTreeAt (suc below) least page_state words page → next < words page 1
    → LeadsDown (suc below) below page_state words page next (item_at (words page) (item_place next))
leads_from below page_state words least page next tree lt =
    let branch = item_at (words page) (item_place next) in
    let items = items_of (words page) in
    let in_items : next < length items = omega (arith, lt, items_count (words page)) in
    let is : get_or items next branch ≡ branch = item_get (words page) next branch lt in
    let down = branch_tree below page_state words items tree.below next branch in_items in
    let low = tree_weaker below 6 page_state words (child (get_or items next branch)) (omega arith) down in
    let full : 0 < words (child (get_or items next branch)) 1 = omega (arith, down.node.enough, items_count (words (child (get_or items next branch)))) in
    record {
      names_page = subst (λ (x : Pair). length x.payload ≡ 8) is (tree.below.shaped next branch in_items).1.names_page;
      tree = subst (λ (x : Pair). IsTreeAt below 1 page_state words (child x)) is low;
      some = subst (λ (x : Pair). 0 < words (child x) 1) is full;
      parts = ap (pairs_below (suc below) words) (at_rest page_state words (suc below) least page next tree lt);
    }

pub leads_down : (level below : ℕ) (page_state : ℕ → PageState) (words : ℕ → ℕ → ℕ) (least page next : ℕ) → level ≡ suc below → IsTreeAt level least page_state words page → next < words page 1
    → LeadsDown level below page_state words page next (item_at (words page) (item_place next))
leads_down level below page_state words least page next e tree lt =
    subst (λ l. LeadsDown l below page_state words page next (item_at (words page) (item_place next))) (sym e) (leads_from below page_state words least page next (subst (λ l. IsTreeAt l least page_state words page) e tree) lt)

-- on the way down to the pairs from a key on: those of the branch, and all after it
pub from_branch : (level below : ℕ) (page_state : ℕ → PageState) (words : ℕ → ℕ → ℕ) (least page : ℕ) (k : List ℕ) (r at : ℕ) (after : Bool)
    → level ≡ suc below → IsTreeAt level least page_state words page → 0 < least → IsRank k (items_of (words page)) r → at ≡ r - 1 → at < words page 1
    → pairs_from (pairs_at level words page) k after ≡ pairs_from (pairs_at below words (child (item_at (words page) (item_place at)))) k after ++ pairs_below level words (drop (at + 1) (items_of (words page)))
from_branch level below page_state words least page k r at after e tree some rank place lt =
    subst (λ l. pairs_from (pairs_at l words page) k after ≡ pairs_from (pairs_at below words (child (item_at (words page) (item_place at)))) k after ++ pairs_below l words (drop (at + 1) (items_of (words page)))) (sym e)
    (from_inner (subst (λ l. IsTreeAt l least page_state words page) e tree))
  where
    from_inner : IsTreeAt (suc below) least page_state words page
        → pairs_from (pairs_at (suc below) words page) k after ≡ pairs_from (pairs_at below words (child (item_at (words page) (item_place at)))) k after ++ pairs_below (suc below) words (drop (at + 1) (items_of (words page)))
    from_inner inner =
        let branch = item_at (words page) (item_place at) in
        let items = items_of (words page) in
        let split = inner_split below page_state words items inner.below k r rank (omega (arith, inner.node.enough, some)) in
        let is : get_or items (r - 1) branch ≡ branch = ap (λ i. get_or items i branch) (sym place) ∙ item_get (words page) at branch lt in
        let past : suc (r - 1) ≡ at + 1 = omega (arith, place) in
        from_split (λ b. pairs_at below words (child b)) k items (r - 1) split after branch
        ∙ ap (λ (x : Pair). pairs_from (pairs_at below words (child x)) k after ++ pairs_below (suc below) words (drop (suc (r - 1)) items)) is
        ∙ ap (λ i. pairs_from (pairs_at below words (child branch)) k after ++ pairs_below (suc below) words (drop i items)) past

-- a tree's pairs, starting from its root's page
pub root_pairs : (root page level : ℕ) (words : ℕ → ℕ → ℕ) → root ≡ suc page → level ≡ level_of (words page) → pairs words root ≡ pairs_at level words page
root_pairs root page level words e at = ap (pairs words) e ∙ ap (λ l. pairs_at l words page) (sym at)
