-- A node's branch on the way to a key.
use Rattle.std.proofs.Common.{◌≡◌, ◌≢◌, ℕ, zero, suc, ◌+◌, ◌-◌, ◌<◌, ◌≤◌, List, [], ◌∷◌, ◌++◌, length, get_or, take, drop, All, Some, None, ap, sym, subst, ◌∙◌, refl, inl, inr, if◌then◌else◌, arith, zero-add, drop-cons}
use Rattle.std.specs.List.{flat_map, range_with_len}
use Rattle.std.specs.declared.cmp.Ordering.TheVariants.{Greater}
use Rattle.std.specs.Ordering.{is_eq}
use Rattle.std.proofs.lemmas.Bool.{cases_lt}
use Rattle.std.proofs.lemmas.List.{take-append-drop, map-id, length-take}
use Rattle.std.proofs.lemmas.List.Concat.{flat_map-append, flat_map_single}
use Rattle.be_pages.specs.declared.room.PageState.{PageState}
use Rattle.be_pages.specs.Pages.{times}
use Rattle.be_tree_reading.specs.Pair.{Pair}
use Rattle.be_tree_reading.specs.Key.{key_cmp, AllBelow, AllAbove, IsRising, payload_at, put, StartsAt, IsRank}
use Rattle.be_tree_reading.specs.Page.{items_of, item_at, bytes_at, item_place, key_len, payload_len, IsItem, IsPage}
use Rattle.std.proofs.lemmas.List.Elements.{All-map}
use Rattle.std.proofs.lemmas.List.FromFn.{get_or-range_with_len, length-range_with_len}
use Rattle.be_tree_reading.specs.Tree.{child, pairs_at, pages_at, pages_below, IsBelow, IsTreeAt}
use Rattle.be_tree_reading.proofs.Frame.{times_append, times-cons, times_tail, same_page}
use Rattle.be_tree_reading.proofs.Order.{AllAbove_right, IsRising_left, IsRising_right, AllBelow_before, AllAbove_from, payload_at_left, payload_at_right, put_left, put_right}

-- a list in three parts
pub in_three : {A : Type 0} (xs : List A) (i : ℕ) (d : A) → i < length xs → xs ≡ take i xs ++ get_or xs i d ∷ drop (suc i) xs
in_three xs i d lt = sym (take-append-drop i xs) ∙ ap (λ ys. take i xs ++ ys) (drop-cons xs i d lt)

-- what the items contain, in three parts
pub flat_map_in_three : {A : Type 0} (f : Pair → List A) (items : List Pair) (at : ℕ) (d : Pair) → at < length items
    → flat_map f items ≡ flat_map f (take at items) ++ (f (get_or items at d) ++ flat_map f (drop (suc at) items))
flat_map_in_three f items at d lt =
    ap (flat_map f) (in_three items at d lt) ∙ flat_map-append f (take at items) (get_or items at d ∷ drop (suc at) items)

-- the keys that the items before `at` contain are below k, and those that the items after it
-- contain are above k
pub record IsSplit (f : Pair → List Pair) (k : List ℕ) (items : List Pair) (at : ℕ) : Type 0 where
  pub in_range : at < length items
  pub below : AllBelow k (flat_map f (take at items))
  pub above : AllAbove k (flat_map f (drop (suc at) items))

starts_below : (k key : List ℕ) (xs ys zs : List Pair) → StartsAt key ys → IsRising (xs ++ (ys ++ zs)) → key_cmp key k ≢ Greater → AllBelow k xs
starts_below k key xs [] zs starts rising le = absurd starts
starts_below k key xs (y ∷ ys) zs starts rising le = AllBelow_before k xs y (ys ++ zs) rising (λ gt. le (ap (λ q. key_cmp q k) (sym starts) ∙ gt))

starts_above : (k key : List ℕ) (ys zs : List Pair) → StartsAt key ys → IsRising (ys ++ zs) → key_cmp key k ≡ Greater → AllAbove k (ys ++ zs)
starts_above k key [] zs starts rising gt = absurd starts
starts_above k key (y ∷ ys) zs starts rising gt = AllAbove_from k y (ys ++ zs) rising (ap (λ q. key_cmp q k) starts ∙ gt)

module _ (f : Pair → List Pair) (k : List ℕ) (items : List Pair) (rising : IsRising (flat_map f items)) (starts : All (λ b. StartsAt b.key (f b)) items) where
  -- if an item is above k, so is everything that it and later items contain
  above_from : (i : ℕ) → ((d : Pair) → i < length items → key_cmp (get_or items i d).key k ≡ Greater) → AllAbove k (flat_map f (drop i items))
  above_from i gt = elim (cases_lt i (length items)) [
    | inl lt ↦
        let d : Pair = record { key = []; payload = [] } in
        let parts = drop-cons items i d lt in
        let part : IsRising (flat_map f (drop i items)) = IsRising_right (flat_map f (take i items)) (flat_map f (drop i items)) (subst IsRising (ap (flat_map f) (sym (take-append-drop i items)) ∙ flat_map-append f (take i items) (drop i items)) rising) in
        subst (λ xs. AllAbove k (flat_map f xs)) (sym parts)
        (starts_above k (get_or items i d).key (f (get_or items i d)) (flat_map f (drop (suc i) items)) (starts i d lt) (subst (λ xs. IsRising (flat_map f xs)) parts part) (gt d lt))
    | inr past ↦ subst (λ xs. AllAbove k (flat_map f xs)) (sym (nothing_past items i past)) tt
  ]
    where
      nothing_past : (xs : List Pair) (i : ℕ) → length xs ≤ i → drop i xs ≡ []
      nothing_past [] zero le = refl
      nothing_past [] (suc i) le = refl
      nothing_past (x ∷ xs) zero le = absurd (omega (arith, le))
      nothing_past (x ∷ xs) (suc i) le = nothing_past xs i (omega (arith, le))

  -- everything that comes before an item that isn't above k is below k
  below_before : (i : ℕ) (d : Pair) → i < length items → key_cmp (get_or items i d).key k ≢ Greater → AllBelow k (flat_map f (take i items))
  below_before i d lt le =
      starts_below k (get_or items i d).key (flat_map f (take i items)) (f (get_or items i d)) (flat_map f (drop (suc i) items)) (starts i d lt)
      (subst IsRising (flat_map_in_three f items i d lt) rising) le

  -- the branch to descend to is the last one whose key isn't above k, or the first one
  pub rank_split : (r : ℕ) → IsRank k items r → 0 < length items → IsSplit f k items (r - 1)
  rank_split zero rank some =
      let all = above_from 0 rank.above in
      let d : Pair = record { key = []; payload = [] } in
      record {
        in_range = some;
        below = tt;
        above = AllAbove_right k (f (get_or items 0 d)) (flat_map f (drop 1 items)) (subst (AllAbove k) (flat_map_in_three f items 0 d some) all);
      }
  rank_split (suc m) rank some =
      let e : suc m - 1 ≡ m = omega arith in
      let d : Pair = record { key = []; payload = [] } in
      let lt : m < length items = omega (arith, rank.in_range) in
      rw e (record {
        in_range = lt;
        below = below_before m d lt (rank.not_above m d refl);
        above = above_from (suc m) rank.above;
      })

module _ (f : Pair → List Pair) (k : List ℕ) (items : List Pair) (at : ℕ) (split : IsSplit f k items at) where
  -- a look-up goes down that branch
  pub payload_split : (d : Pair) → payload_at (flat_map f items) k ≡ payload_at (f (get_or items at d)) k
  payload_split d =
      ap (λ xs. payload_at xs k) (flat_map_in_three f items at d split.in_range)
      ∙ payload_at_right k (flat_map f (take at items)) (f (get_or items at d) ++ flat_map f (drop (suc at) items)) split.below
      ∙ payload_at_left k (f (get_or items at d)) (flat_map f (drop (suc at) items)) split.above

  -- and so does a put
  pub put_split : (pair d : Pair) → pair.key ≡ k → put pair (flat_map f items) ≡ flat_map f (take at items) ++ (put pair (f (get_or items at d)) ++ flat_map f (drop (suc at) items))
  put_split pair d e =
      ap (put pair) (flat_map_in_three f items at d split.in_range)
      ∙ put_right pair (flat_map f (take at items)) (f (get_or items at d) ++ flat_map f (drop (suc at) items)) (subst (λ q. AllBelow q (flat_map f (take at items))) (sym e) split.below)
      ∙ ap (λ ys. flat_map f (take at items) ++ ys) (put_left pair (f (get_or items at d)) (flat_map f (drop (suc at) items)) (subst (λ q. AllAbove q (flat_map f (drop (suc at) items))) (sym e) split.above))

pub times_part : (f : Pair → List ℕ) (q : ℕ) (items : List Pair) (at : ℕ) (d : Pair) → at < length items → times q (f (get_or items at d)) ≤ times q (flat_map f items)
times_part f q items at d lt =
    omega (
      arith,
      ap (times q) (flat_map_in_three f items at d lt),
      times_append q (flat_map f (take at items)) (f (get_or items at d) ++ flat_map f (drop (suc at) items)),
      times_append q (f (get_or items at d)) (flat_map f (drop (suc at) items)),
    )

-- a page's keys fit
pub key_fits : (words : ℕ → ℕ) (at : ℕ) → IsItem words at → length (item_at words at).key ≤ 264
unfolding item_at
key_fits words at item = omega (arith, length-take (key_len words at) (bytes_at words (at + 1) (key_len words at + payload_len words at)), item.key_fits)

pub page_keys : (words : ℕ → ℕ) → IsPage words → All (λ item. length item.key ≤ 264) (items_of words)
page_keys words page = All-map (λ item. length item.key ≤ 264) (λ (j : ℕ). item_at words (item_place j)) (range_with_len 0 (words 1)) (λ j d lt.
    let at : get_or (range_with_len 0 (words 1)) j d ≡ j = get_or-range_with_len 0 (words 1) j d (omega (arith, lt, length-range_with_len 0 (words 1))) ∙ zero-add j in
    subst (λ n. length (item_at words (item_place n)).key ≤ 264) (sym at) (key_fits words (item_place j) (page.each j (omega (arith, lt, length-range_with_len 0 (words 1))))))

module _ (level : ℕ) (page_state : ℕ → PageState) (words : ℕ → ℕ → ℕ) (items : List Pair) (below : IsBelow (suc level) page_state words items) where
  -- a branch's child is a tree on the level below
  pub branch_tree : (at : ℕ) (d : Pair) → at < length items → IsTreeAt level 6 page_state words (child (get_or items at d))
  branch_tree at d lt =
      let f = λ (b : Pair). pairs_at level words (child b) in
      let g = λ (b : Pair). pages_at level words (child b) in
      let b = get_or items at d in
      let here = below.shaped at d lt in
      let parts = subst IsRising (flat_map_in_three f items at d lt) below.rising in
      let some : 0 < times (child b) (g b) = omega (arith, times-cons (child b) (child b) (pages_below level words (items_of (words (child b)))), same_page (child b)) in
      record {
        node = here.0;
        below = record {
          keys_fit = page_keys (words (child b)) here.0.is_page;
          shaped = here.2;
          rising = IsRising_left (f b) (flat_map f (drop (suc at) items)) (IsRising_right (flat_map f (take at items)) (f b ++ flat_map f (drop (suc at) items)) parts);
          once = λ q. omega (arith, times_part g q items at d lt, below.once q, times_tail q (child b) (pages_below level words (items_of (words (child b)))));
          in_use = λ q some. below.in_use q (omega (arith, times_part g q items at d lt, some, times_tail q (child b) (pages_below level words (items_of (words (child b))))));
        };
        page_once = omega (arith, times_part g (child b) items at d lt, below.once (child b), times-cons (child b) (child b) (pages_below level words (items_of (words (child b)))), same_page (child b));
        page_in_use = below.in_use (child b) (omega (arith, times_part g (child b) items at d lt, some));
      }

  -- the branches have the lowest keys of their children
  pub branches_start : All (λ b. StartsAt b.key (pairs_at level words (child b))) items
  branches_start at d lt = (below.shaped at d lt).1.starts

  -- the way to a key in an inner node
  pub inner_split : (k : List ℕ) (r : ℕ) → IsRank k items r → 0 < length items → IsSplit (λ b. pairs_at level words (child b)) k items (r - 1)
  inner_split k r rank some = rank_split (λ b. pairs_at level words (child b)) k items below.rising branches_start r rank some

-- the same in a leaf, whose branches are its pairs
pub as_branches : (items : List Pair) → flat_map (λ x. x ∷ []) items ≡ items
as_branches items = flat_map_single (λ (x : Pair). x) items ∙ map-id items

pub leaf_split : (items : List Pair) → IsRising items → (k : List ℕ) (r : ℕ) → IsRank k items r → 0 < length items → IsSplit (λ x. x ∷ []) k items (r - 1)
leaf_split items rising k r rank some =
    rank_split (λ x. x ∷ []) k items (subst IsRising (sym (as_branches items)) rising) (λ j d lt. refl) r rank some

-- a step down from an inner node, at the branch that was read
pub record StepsDown (level below : ℕ) (page_state : ℕ → PageState) (words : ℕ → ℕ → ℕ) (page : ℕ) (k : List ℕ) (branch : Pair) : Type 0 where
  pub names_page : length branch.payload ≡ 8
  pub tree : IsTreeAt below 6 page_state words (child branch)
  pub same : payload_at (pairs_at level words page) k ≡ payload_at (pairs_at below words (child branch)) k

pub steps_down : (level below least : ℕ) (page_state : ℕ → PageState) (words : ℕ → ℕ → ℕ) (page : ℕ) (k : List ℕ) (items : List Pair) (r at : ℕ) (branch : Pair)
    → level ≡ suc below → IsTreeAt level least page_state words page → 0 < least → items ≡ items_of (words page) → IsRank k items r → at ≡ r - 1 → branch ≡ get_or items at branch
    → StepsDown level below page_state words page k branch
steps_down level below least page_state words page k items r at branch e tree0 minimum_some read rank place is =
    let tree = subst (λ n. IsTreeAt n least page_state words page) e tree0 in
    let split = inner_split below page_state words (items_of (words page)) tree.below k r (subst (λ xs. IsRank k xs r) read rank) (omega (arith, tree.node.enough)) in
    let b : get_or (items_of (words page)) (r - 1) branch ≡ branch = sym (is ∙ ap (λ xs. get_or xs at branch) read ∙ ap (λ i. get_or (items_of (words page)) i branch) place) in
    record {
      names_page = subst (λ x. length x.payload ≡ 8) b (tree.below.shaped (r - 1) branch split.in_range).1.names_page;
      tree = subst (λ x. IsTreeAt below 6 page_state words (child x)) b (branch_tree below page_state words (items_of (words page)) tree.below (r - 1) branch split.in_range);
      same = ap (λ n. payload_at (pairs_at n words page) k) e
          ∙ payload_split (λ x. pairs_at below words (child x)) k (items_of (words page)) (r - 1) split branch
          ∙ ap (λ x. payload_at (pairs_at below words (child x)) k) b;
    }

-- a look-up in a leaf, at the item that was read
pub found_in_leaf : (level least : ℕ) (page_state : ℕ → PageState) (words : ℕ → ℕ → ℕ) (page : ℕ) (k : List ℕ) (items : List Pair) (r at : ℕ) (item : Pair)
    → level ≡ 0 → IsTreeAt level least page_state words page → 0 < least → items ≡ items_of (words page) → IsRank k items r → at ≡ r - 1 → item ≡ get_or items at item
    → payload_at (pairs_at level words page) k ≡ (if is_eq (key_cmp item.key k) then Some item.payload else None)
found_in_leaf zero least page_state words page k items r at item leaf tree minimum_some read rank place is =
    let split = leaf_split (items_of (words page)) tree.below.rising k r (subst (λ xs. IsRank k xs r) read rank) (omega (arith, tree.node.enough)) in
    let b : get_or (items_of (words page)) (r - 1) item ≡ item = sym (is ∙ ap (λ xs. get_or xs at item) read ∙ ap (λ i. get_or (items_of (words page)) i item) place) in
    ap (λ xs. payload_at xs k) (sym (as_branches (items_of (words page))))
    ∙ payload_split (λ x. x ∷ []) k (items_of (words page)) (r - 1) split item
    ∙ ap (λ x. payload_at (x ∷ []) k) b
found_in_leaf (suc level) least page_state words page k items r at item leaf tree minimum_some read rank place is = absurd (omega (arith, leaf))
