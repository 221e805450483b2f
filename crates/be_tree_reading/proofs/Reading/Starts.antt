-- The pairs after a leaf, and the branch with the first key among them.
use Rattle.std.proofs.Common.{◌≡◌, ℕ, zero, suc, ◌+◌, ◌-◌, ◌<◌, ◌≤◌, true, false, Bool, List, [], ◌∷◌, ◌++◌, length, take, drop, map, ap, sym, subst, ◌∙◌, arith, if◌then◌else◌}
use Rattle.std.specs.declared.option.Option.{Option}
use Rattle.std.proofs.lemmas.List.{append-nil, drop-drop, take-append-drop}
use Rattle.be_pages.specs.declared.room.PageState.{PageState}
use Rattle.be_tree_reading.specs.Pair.{Pair}
use Rattle.be_tree_reading.specs.Key.{IsRising, StartsAt}
use Rattle.be_tree_reading.specs.Page.{item_at, item_place, items_of}
use Rattle.be_tree_reading.specs.Places.{IsNext, number_at_place}
use Rattle.be_tree_reading.specs.Range.{HasFirst, HasGot, is_past, number_of, numbers_to, pairs_from, pairs_to}
use Rattle.be_tree_reading.specs.Tree.{IsTree, IsTreeAt, child, pairs, pairs_at, pairs_below}
use Rattle.be_tree_reading.proofs.Frame.{readable_kept}
use Rattle.be_tree_reading.proofs.Items.{item_get, items_count}
use Rattle.be_tree_reading.proofs.Ranges.{next_from}
use Rattle.be_tree_reading.proofs.Reading.Cursors.{leads_down, past_end}
use Rattle.be_tree_reading.proofs.Reading.Leaves.{any_past, first_of_two, got_first, last_leaf, none_left, rest_at, whole_leaf}

-- the number at a place
pub number_back : (place n : ℕ) → place ≡ item_place n → number_at_place place ≡ n
number_back place n e = omega (arith, e)

-- appending to a list doesn't change its first key
starts_append : (k : List ℕ) (xs ys : List Pair) → StartsAt k xs → StartsAt k (xs ++ ys)
starts_append k [] ys none = absurd none
starts_append k (x ∷ xs) ys is = is

module _ (level below : ℕ) (page_state : ℕ → PageState) (words : ℕ → ℕ → ℕ) (least page next : ℕ) where
  -- a branch has the first key below it
  starts_from : level ≡ suc below → IsTreeAt level least page_state words page → next < words page 1
      → StartsAt (item_at (words page) (item_place next)).key (pairs_below level words (drop next (items_of (words page))))
  starts_from e tree lt =
      let branch = item_at (words page) (item_place next) in
      let items = items_of (words page) in
      let inner = subst (λ l. IsTreeAt l least page_state words page) e tree in
      let in_items : next < length items = omega (arith, lt, items_count (words page)) in
      let starts = subst (λ (x : Pair). StartsAt x.key (pairs_at below words (child x))) (item_get (words page) next branch lt) (inner.below.shaped next branch in_items).1.starts in
      let lead = leads_down level below page_state words least page next e tree lt in
      subst (StartsAt branch.key) (sym lead.parts) (starts_append branch.key (pairs_at below words (child branch)) (pairs_below level words (drop (next + 1) items)) starts)

  -- the branch after the one that was taken
  pub next_here : (rest : List Pair) → level ≡ suc below → IsTreeAt level least page_state words page → next < words page 1
      → IsNext page_state words page (item_place next) (pairs_below level words (drop next (items_of (words page))) ++ rest)
  next_here rest e tree lt = record {
    none = λ z. absurd (omega (arith, z));
    starts = λ _. starts_append (item_at (words page) (item_place next)).key (pairs_below level words (drop next (items_of (words page)))) rest (starts_from e tree lt);
    is_item = λ _. tree.node.is_page.each next lt;
    in_page = omega (arith, lt, tree.node.is_page.few);
    readable = λ _. readable_kept (page_state page) tree.page_in_use;
  }

  -- no branch comes after it on this page
  pub next_above : (rest : List Pair) (q place : ℕ) → words page 1 ≤ next → IsNext page_state words q place rest
      → IsNext page_state words q place (pairs_below level words (drop next (items_of (words page))) ++ rest)
  next_above rest q place end is =
      subst (IsNext page_state words q place) (sym (ap (λ xs. xs ++ rest) (past_end words (record { page = page; next = next; level = level }) (omega (arith, end, items_count (words page)))))) is

-- if the first key is above the bound, no key is within it
pub none_within : (k : List ℕ) (rest : List Pair) (high : Option (List ℕ)) → StartsAt k rest → is_past high k ≡ true → numbers_to rest high ≡ []
none_within k [] high starts past = absurd starts
none_within k (x ∷ xs) high same past =
    ap (λ (b : Bool). map (λ (y : Pair). number_of y.key) (if b then [] else x ∷ pairs_to xs high)) (ap (is_past high) same ∙ past)

-- the pairs after one of those from a key on
pub after_pair : (front all : List Pair) (k : List ℕ) (after : Bool) (y : Pair) (rest : List Pair) → IsRising all → pairs_from all k after ≡ front ++ y ∷ rest → pairs_from all y.key true ≡ rest
after_pair [] all k after y rest rising e = next_from all k after y rest rising e
after_pair (x ∷ front) all k after y rest rising e = after_pair front all x.key true y rest rising (next_from all k after x (front ++ y ∷ rest) rising e)

-- the last of a leaf's items
pub last_of : (words : ℕ → ℕ) (number last : ℕ) → number ≤ last → suc last ≡ words 1
    → drop number (items_of words) ≡ take (last - number) (drop number (items_of words)) ++ item_at words (item_place last) ∷ []
last_of words number last le e =
    let items = items_of words in
    let xs = drop number items in
    let m = last - number in
    let place : number + m ≡ last = omega (arith, le) in
    sym (take-append-drop m xs)
    ∙ ap (λ zs. take m xs ++ zs)
    (drop-drop m number items ∙ ap (λ n. drop n items) place ∙ rest_at words last (omega (arith, e)) ∙ ap (λ ys. item_at words (item_place last) ∷ ys) (none_left words (last + 1) (omega (arith, e))))

-- a tree's pairs ascend
pub root_rising : (root : ℕ) (page_state : ℕ → PageState) (words : ℕ → ℕ → ℕ) → IsTree page_state words root → IsRising (pairs words root)
root_rising zero page_state words tree = tt
root_rising (suc page) page_state words tree = tree.below.rising

-- what a list has gained of all numbers after those of the first leaf were pushed
module _ (before mid : List ℕ) (all xs rest : List Pair) (high : Option (List ℕ)) (parts : all ≡ xs ++ rest) where
  begun : HasGot before (numbers_to all high) (numbers_to (xs ++ rest) high) before
  begun = record { got = []; parts = ap (λ (ps : List Pair). numbers_to ps high) parts; is = sym (append-nil before) }

  pub leaf_first : HasFirst before (numbers_to xs high) mid → HasFirst before (numbers_to all high) mid
  leaf_first first = got_first before (numbers_to all high) (numbers_to (xs ++ rest) high) before mid begun (first_of_two before mid xs rest high first)

  pub leaf_last : true ≡ any_past high xs → mid ≡ before ++ numbers_to xs high → mid ≡ before ++ numbers_to all high
  leaf_last e push = last_leaf before (numbers_to all high) before mid xs rest high begun e push

  pub leaf_whole : false ≡ any_past high xs → mid ≡ before ++ numbers_to xs high → HasGot before (numbers_to all high) (numbers_to rest high) mid
  leaf_whole e push = whole_leaf before (numbers_to all high) before mid xs rest high begun e push
