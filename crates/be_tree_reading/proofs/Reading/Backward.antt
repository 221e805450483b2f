-- The path of a cursor that goes backwards.
use Rattle.std.proofs.Common.{◌≡◌, ℕ, zero, suc, ◌+◌, ◌-◌, ◌<◌, ◌≤◌, List, [], ◌∷◌, ◌++◌, length, get_or, take, ap, sym, subst, ◌∙◌, refl, arith, Bool, Some, append_assoc}
use Rattle.std.proofs.lemmas.List.{append-nil, get_or-append-add, length-append, take_all, take_more}
use Rattle.be_pages.specs.declared.room.PageState.{PageState}
use Rattle.be_tree_reading.specs.declared.cursor.Place.{Place}
use Rattle.be_tree_reading.specs.Pair.{Pair}
use Rattle.be_tree_reading.specs.Key.{IsRank}
use Rattle.be_tree_reading.specs.Page.{items_of, item_at, item_place}
use Rattle.be_tree_reading.specs.Tree.{child, pairs_at, pairs_below, IsTreeAt}
use Rattle.be_tree_reading.specs.Back.{pairs_before, pairs_up_to}
use Rattle.be_tree_reading.specs.Cursor.{IsPath, IsPlace}
use Rattle.be_tree_reading.specs.Way.{pairs_until}
use Rattle.be_tree_reading.proofs.Items.{item_get, items_count}
use Rattle.be_tree_reading.proofs.Shape.Below.{pairs_append}
use Rattle.be_tree_reading.proofs.TreeFacts.{inner_split}
use Rattle.be_tree_reading.proofs.Untils.{until_split}

-- on a path with one more place, what is before that place comes last
pub up_push : (words : ℕ → ℕ → ℕ) (path : List Place) (place : Place) → pairs_up_to words (path ++ place ∷ []) ≡ pairs_up_to words path ++ pairs_before words place
up_push words [] place = append-nil (pairs_before words place)
up_push words (q ∷ path) place =
    ap (λ xs. pairs_before words q ++ xs) (up_push words path place)
    ∙ sym (append_assoc (pairs_before words q) (pairs_up_to words path) (pairs_before words place))

-- nothing is before a place at its page's start
pub before_start : (words : ℕ → ℕ → ℕ) (place : Place) → place.next ≡ 0 → pairs_before words place ≡ []
before_start words place start = ap (λ n. pairs_below place.level words (take n (items_of (words place.page)))) start ∙ none place.level
  where
    none : (level : ℕ) → pairs_below level words [] ≡ []
    none zero = refl
    none (suc level) = refl

-- before a place at its page's end is everything below the page
pub before_end : (words : ℕ → ℕ → ℕ) (level page next : ℕ) → next ≡ words page 1 → pairs_below level words (take next (items_of (words page))) ≡ pairs_at level words page
before_end words level page next end = ap (pairs_below level words) (take_all next (items_of (words page)) (omega (arith, end, items_count (words page))))

-- before a place of an inner page is what is before the branch there, and then what is below the branch
branch_before : (below : ℕ) (words : ℕ → ℕ → ℕ) (page at : ℕ) → at < words page 1
    → pairs_below (suc below) words (take (at + 1) (items_of (words page)))
    ≡ pairs_below (suc below) words (take at (items_of (words page))) ++ pairs_at below words (child (item_at (words page) (item_place at)))
branch_before below words page at lt =
    let items = items_of (words page) in
    let branch = item_at (words page) (item_place at) in
    ap (pairs_below (suc below) words) (take_more items at branch (omega (arith, lt, items_count (words page))) ∙ ap (λ (x : Pair). take at items ++ x ∷ []) (item_get (words page) at branch lt))
    ∙ pairs_append (suc below) words (take at items) (branch ∷ [])
    ∙ ap (λ xs. pairs_below (suc below) words (take at items) ++ xs) (append-nil (pairs_at below words (child branch)))

pub leads_back : (level below : ℕ) (words : ℕ → ℕ → ℕ) (page at : ℕ) → level ≡ suc below → at < words page 1
    → pairs_below level words (take (at + 1) (items_of (words page)))
    ≡ pairs_below level words (take at (items_of (words page))) ++ pairs_at below words (child (item_at (words page) (item_place at)))
leads_back level below words page at e lt =
    subst (λ l. pairs_below l words (take (at + 1) (items_of (words page))) ≡ pairs_below l words (take at (items_of (words page))) ++ pairs_at below words (child (item_at (words page) (item_place at)))) (sym e)
    (branch_before below words page at lt)

-- on the way down to the pairs up to a key: all before the branch, and those of the branch
pub until_branch : (level below : ℕ) (page_state : ℕ → PageState) (words : ℕ → ℕ → ℕ) (least page : ℕ) (k : List ℕ) (r at : ℕ) (before : Bool)
    → level ≡ suc below → IsTreeAt level least page_state words page → 0 < least → IsRank k (items_of (words page)) r → at ≡ r - 1 → at < words page 1
    → pairs_until (pairs_at level words page) (Some k) before ≡ pairs_below level words (take at (items_of (words page))) ++ pairs_until (pairs_at below words (child (item_at (words page) (item_place at)))) (Some k) before
until_branch level below page_state words least page k r at before e tree some rank place lt =
    subst (λ l. pairs_until (pairs_at l words page) (Some k) before ≡ pairs_below l words (take at (items_of (words page))) ++ pairs_until (pairs_at below words (child (item_at (words page) (item_place at)))) (Some k) before) (sym e)
    (until_inner (subst (λ l. IsTreeAt l least page_state words page) e tree))
  where
    until_inner : IsTreeAt (suc below) least page_state words page
        → pairs_until (pairs_at (suc below) words page) (Some k) before ≡ pairs_below (suc below) words (take at (items_of (words page))) ++ pairs_until (pairs_at below words (child (item_at (words page) (item_place at)))) (Some k) before
    until_inner inner =
        let branch = item_at (words page) (item_place at) in
        let items = items_of (words page) in
        let split = inner_split below page_state words items inner.below k r rank (omega (arith, inner.node.enough, some)) in
        let is : get_or items (r - 1) branch ≡ branch = ap (λ i. get_or items i branch) (sym place) ∙ item_get (words page) at branch lt in
        until_split (λ b. pairs_at below words (child b)) k items (r - 1) split before branch
        ∙ ap (λ (x : Pair). pairs_below (suc below) words (take (r - 1) items) ++ pairs_until (pairs_at below words (child x)) (Some k) before) is
        ∙ ap (λ i. pairs_below (suc below) words (take i items) ++ pairs_until (pairs_at below words (child branch)) (Some k) before) (sym place)

-- a path's last place
module _ (page_state : ℕ → PageState) (words : ℕ → ℕ → ℕ) (path : List Place) (place : Place) where
  last_place : (d : Place) → get_or (path ++ place ∷ []) (length path) d ≡ place
  last_place d =
      let e : length path ≡ length path + 0 = omega arith in
      ap (λ n. get_or (path ++ place ∷ []) n d) e ∙ get_or-append-add path (place ∷ []) 0 d

  pub path_last : IsPath page_state words (path ++ place ∷ []) → IsPlace page_state words place × (place.level + length path ≤ 13)
  path_last is =
      let lt : length path < length (path ++ place ∷ []) = omega (arith, length-append path (place ∷ [])) in (
        subst (IsPlace page_state words) (last_place place) (is.places (length path) place lt),
        subst (λ (p : Place). p.level + length path ≤ 13) (last_place place) (is.short (length path) place lt),
      )
