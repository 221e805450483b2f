-- How the pages in use are replaced part by part.
use Rattle.std.proofs.Common.{◌≡◌, ℕ, zero, suc, ◌+◌, ◌<◌, ◌≤◌, List, [], ◌∷◌, ◌++◌, length, get_or, All, Result, Ok, Err, OnErr, ap, sym, subst, ◌∙◌, refl, arith}
use Rattle.std.proofs.lemmas.List.{append-nil}
use Rattle.std.proofs.lemmas.List.Elements.{All-nil, All-cons}
use Rattle.be_pages.specs.declared.room.PageState.{PageState}
use Rattle.be_pages.specs.Pages.{times, untouched, Swaps}
use Rattle.be_tree_reading.specs.Pair.{Pair}
use Rattle.be_tree_reading.specs.Key.{IsRising, StartsAt}
use Rattle.be_tree_reading.specs.Page.{items_of}
use Rattle.be_tree_reading.specs.Tree.{child, pairs_at, pairs_below, pages_below, IsNode, IsBranch, AreShaped, IsBelow, IsWritten, Becomes}
use Rattle.be_tree_reading.proofs.Order.{IsRising_right}
use Rattle.be_tree_reading.proofs.Frame.{times_append, one_page, swaps_trans, swaps_frame, swaps_after}
use Rattle.be_tree_reading.proofs.Shape.Below.{pairs_append, times_both, times_pages, below_left, below_right, below_append, beside_pairs, beside_pages, beside_below, beside_apart}

pub starts_append : (k : List ℕ) (xs ys : List Pair) → StartsAt k xs → StartsAt k (xs ++ ys)
starts_append k [] ys h = absurd h
starts_append k (x ∷ xs) ys h = h

-- the pairs below items start at the first item's key
pub starts_first : (level : ℕ) (words : ℕ → ℕ → ℕ) (items : List Pair) (d : Pair) → AreShaped level words items → 0 < length items → StartsAt (get_or items 0 d).key (pairs_below level words items)
starts_first level words [] d shaped some = absurd (omega (arith, some))
starts_first zero words (x ∷ xs) d shaped some = refl
starts_first (suc level) words (x ∷ xs) d shaped some = starts_append x.key (pairs_at level words (child x)) (pairs_below (suc level) words xs) (shaped 0 x (omega arith)).1.starts

-- the branch to a page that was written with items, given what is below them
pub branch_above : (level : ℕ) (words : ℕ → ℕ → ℕ) (items : List Pair) (branch : Pair) → IsWritten level words items branch → 6 ≤ length items → AreShaped level words items
    → IsNode level 6 (words (child branch)) × IsBranch branch (pairs_at level words (child branch)) × AreShaped level words (items_of (words (child branch)))
branch_above level words items branch written enough shaped =
    let starts : StartsAt branch.key (pairs_at level words (child branch)) =
    subst (λ k. StartsAt k (pairs_at level words (child branch))) (sym written.key)
    (subst (λ xs. StartsAt (get_or items 0 branch).key (pairs_below level words xs)) (sym written.has_items) (starts_first level words items branch shaped (omega (arith, enough)))) in (
      record { is_page = written.is_page; at_level = written.at_level; enough = subst (λ xs. 6 ≤ length xs) (sym written.has_items) enough },
      record { starts = starts; names_page = written.names_page },
      subst (AreShaped level words) (sym written.has_items) shaped,
    )

key_written : (level : ℕ) (words : ℕ → ℕ → ℕ) (items : List Pair) (branch : Pair) → IsWritten level words items branch → 0 < length items → All (λ item. length item.key ≤ 264) items → length branch.key ≤ 264
key_written level words items branch written some fit = subst (λ k. length k ≤ 264) (sym written.key) (fit 0 branch some)

pub all_one : {A : Type 0} (P : A → Type 0) (x : A) → P x → All P (x ∷ [])
all_one P x p = All-cons P x [] p (All-nil P)

module _ {S K : Type 0} (kept_of : S → K) (page_state_of : S → ℕ → PageState) (words_of : S → ℕ → ℕ → ℕ) where
  -- nothing has changed
  pub becomes_same : (level : ℕ) (items : List Pair) (room : S) → IsBelow level (page_state_of room) (words_of room) items
      → Becomes kept_of page_state_of words_of (pages_below level (words_of room) items) (pairs_below level (words_of room) items) level items room room
  becomes_same level items room below = record {
    below = below;
    has_pairs = refl;
    swaps = swaps_frame kept_of page_state_of words_of [] [] (pages_below level (words_of room) items) (pages_below level (words_of room) items) (λ q. times q (pages_below level (words_of room) items)) room room
        (record { kept = refl; each = λ q. untouched refl }) (λ q. omega arith) (λ q. omega arith) below.once below.in_use;
  }

  -- items are written to a page with a branch to it, replacing other pages
  module _ (level : ℕ) (items : List Pair) (branch : Pair) (source : List ℕ) (old new : S)
      (below : IsBelow level (page_state_of old) (words_of old) items) (enough : 6 ≤ length items)
      (written : IsWritten level (words_of new) items branch) (swaps : Swaps kept_of page_state_of words_of source (child branch ∷ []) old new)
      (apart : (q : ℕ) → times q source + times q (pages_below level (words_of old) items) ≤ 1) where
    pages_are : pages_below (suc level) (words_of new) (branch ∷ []) ≡ child branch ∷ pages_below level (words_of old) items
    pages_are = append-nil _ ∙ ap (λ ps. child branch ∷ ps) (ap (pages_below level (words_of new)) written.has_items ∙ beside_pages kept_of page_state_of words_of source (child branch ∷ []) old new swaps level items below apart)

    pairs_are : pairs_below (suc level) (words_of new) (branch ∷ []) ≡ pairs_below level (words_of old) items
    pairs_are = append-nil _ ∙ (ap (pairs_below level (words_of new)) written.has_items ∙ beside_pairs kept_of page_state_of words_of source (child branch ∷ []) old new swaps level items below apart)

    once : (q : ℕ) → times q (pages_below (suc level) (words_of new) (branch ∷ [])) ≤ 1
    once q =
        omega (arith, ap (times q) pages_are, times_append q (child branch ∷ []) (pages_below level (words_of old) items), beside_apart kept_of page_state_of words_of source (child branch ∷ []) old new swaps level items below apart q (one_page q (child branch)))

    framed : Swaps kept_of page_state_of words_of (source ++ pages_below level (words_of old) items) (pages_below (suc level) (words_of new) (branch ∷ [])) old new
    framed =
        swaps_frame kept_of page_state_of words_of source (child branch ∷ []) (source ++ pages_below level (words_of old) items) (pages_below (suc level) (words_of new) (branch ∷ [])) (λ q. times q (pages_below level (words_of old) items)) old new swaps
        (λ q. omega (arith, times_append q source (pages_below level (words_of old) items))) (λ q. omega (arith, ap (times q) pages_are, times_append q (child branch ∷ []) (pages_below level (words_of old) items)))
        (λ q. omega (arith, times_append q source (pages_below level (words_of old) items), apart q)) below.in_use

    pub becomes_branch : Becomes kept_of page_state_of words_of (source ++ pages_below level (words_of old) items) (pairs_below level (words_of old) items) (suc level) (branch ∷ []) old new
    becomes_branch =
        let inner = beside_below kept_of page_state_of words_of source (child branch ∷ []) old new swaps level items below apart in
        record {
          below = record {
            keys_fit = all_one (λ item. length item.key ≤ 264) branch (key_written level (words_of new) items branch written (omega (arith, enough)) below.keys_fit);
            shaped = all_one (λ b. IsNode level 6 (words_of new (child b)) × IsBranch b (pairs_at level (words_of new) (child b)) × AreShaped level (words_of new) (items_of (words_of new (child b)))) branch
                (branch_above level (words_of new) items branch written enough inner.shaped);
            rising = subst IsRising (sym pairs_are) below.rising;
            once = once;
            in_use = swaps_after kept_of page_state_of words_of (source ++ pages_below level (words_of old) items) (pages_below (suc level) (words_of new) (branch ∷ [])) old new framed;
          };
          has_pairs = pairs_are;
          swaps = framed;
        }

  -- items are written to two pages
  module _ (level : ℕ) (xs ys : List Pair) (left right : Pair) (source : List ℕ) (old new : S)
      (below : IsBelow level (page_state_of old) (words_of old) (xs ++ ys)) (first_enough : 6 ≤ length xs) (last_enough : 6 ≤ length ys)
      (first : IsWritten level (words_of new) xs left) (last : IsWritten level (words_of new) ys right)
      (swaps : Swaps kept_of page_state_of words_of source (child left ∷ child right ∷ []) old new)
      (apart : (q : ℕ) → times q source + times q (pages_below level (words_of old) (xs ++ ys)) ≤ 1)
      (different : (q : ℕ) → times q (child left ∷ child right ∷ []) ≤ 1) where
    whole_pages : pages_below level (words_of new) (xs ++ ys) ≡ pages_below level (words_of old) (xs ++ ys)
    whole_pages = beside_pages kept_of page_state_of words_of source (child left ∷ child right ∷ []) old new swaps level (xs ++ ys) below apart

    two_pages : (q : ℕ) → times q (pages_below (suc level) (words_of new) (left ∷ right ∷ [])) ≡ times q (child left ∷ child right ∷ []) + times q (pages_below level (words_of old) (xs ++ ys))
    two_pages q =
        times_both level (words_of new) left right q
        ∙ ap (λ zs. times q (child left ∷ child right ∷ []) + times q (pages_below level (words_of new) (zs ++ items_of (words_of new (child right))))) first.has_items
        ∙ ap (λ zs. times q (child left ∷ child right ∷ []) + times q (pages_below level (words_of new) (xs ++ zs))) last.has_items
        ∙ ap (λ ps. times q (child left ∷ child right ∷ []) + times q ps) whole_pages

    two_pairs : pairs_below (suc level) (words_of new) (left ∷ right ∷ []) ≡ pairs_below level (words_of old) (xs ++ ys)
    two_pairs =
        ap (λ zs. pairs_at level (words_of new) (child left) ++ zs) (append-nil (pairs_at level (words_of new) (child right)))
        ∙ ap (λ zs. pairs_below level (words_of new) zs ++ pairs_at level (words_of new) (child right)) first.has_items
        ∙ ap (λ zs. pairs_below level (words_of new) xs ++ pairs_below level (words_of new) zs) last.has_items
        ∙ sym (pairs_append level (words_of new) xs ys)
        ∙ beside_pairs kept_of page_state_of words_of source (child left ∷ child right ∷ []) old new swaps level (xs ++ ys) below apart

    two_framed : Swaps kept_of page_state_of words_of (source ++ pages_below level (words_of old) (xs ++ ys)) (pages_below (suc level) (words_of new) (left ∷ right ∷ [])) old new
    two_framed =
        swaps_frame kept_of page_state_of words_of source (child left ∷ child right ∷ []) (source ++ pages_below level (words_of old) (xs ++ ys)) (pages_below (suc level) (words_of new) (left ∷ right ∷ [])) (λ q. times q (pages_below level (words_of old) (xs ++ ys))) old new swaps
        (λ q. omega (arith, times_append q source (pages_below level (words_of old) (xs ++ ys)))) (λ q. omega (arith, two_pages q))
        (λ q. omega (arith, times_append q source (pages_below level (words_of old) (xs ++ ys)), apart q)) below.in_use

    pub becomes_two : Becomes kept_of page_state_of words_of (source ++ pages_below level (words_of old) (xs ++ ys)) (pairs_below level (words_of old) (xs ++ ys)) (suc level) (left ∷ right ∷ []) old new
    becomes_two =
        let inner = beside_below kept_of page_state_of words_of source (child left ∷ child right ∷ []) old new swaps level (xs ++ ys) below apart in
        let front = below_left level (page_state_of new) (words_of new) xs ys inner in
        let back = below_right level (page_state_of new) (words_of new) xs ys inner in
        let shaped = λ (b : Pair). IsNode level 6 (words_of new (child b)) × IsBranch b (pairs_at level (words_of new) (child b)) × AreShaped level (words_of new) (items_of (words_of new (child b))) in
        record {
          below = record {
            keys_fit = All-cons (λ item. length item.key ≤ 264) left (right ∷ []) (key_written level (words_of new) xs left first (omega (arith, first_enough)) front.keys_fit)
                (all_one (λ item. length item.key ≤ 264) right (key_written level (words_of new) ys right last (omega (arith, last_enough)) back.keys_fit));
            shaped = All-cons shaped left (right ∷ []) (branch_above level (words_of new) xs left first first_enough front.shaped) (all_one shaped right (branch_above level (words_of new) ys right last last_enough back.shaped));
            rising = subst IsRising (sym two_pairs) below.rising;
            once = λ q. omega (arith, two_pages q, beside_apart kept_of page_state_of words_of source (child left ∷ child right ∷ []) old new swaps level (xs ++ ys) below apart q (different q));
            in_use = swaps_after kept_of page_state_of words_of (source ++ pages_below level (words_of old) (xs ++ ys)) (pages_below (suc level) (words_of new) (left ∷ right ∷ [])) old new two_framed;
          };
          has_pairs = two_pairs;
          swaps = two_framed;
        }

  -- one part becomes another, and then the part after it
  module _ (level next : ℕ) (xs ys us bs ps qs : List Pair) (old mid new : S)
      (below : IsBelow level (page_state_of old) (words_of old) (xs ++ ys))
      (first : Becomes kept_of page_state_of words_of (pages_below level (words_of old) xs) ps next us old mid)
      (last : Becomes kept_of page_state_of words_of (pages_below level (words_of mid) ys) qs next bs mid new)
      (rising : IsRising (ps ++ qs)) where
    left_out : (q : ℕ) → times q (pages_below level (words_of old) xs) + times q (pages_below level (words_of old) ys) ≤ 1
    left_out q = omega (arith, times_pages level (words_of old) xs ys q, below.once q)

    ys_below : IsBelow level (page_state_of old) (words_of old) ys
    ys_below = below_right level (page_state_of old) (words_of old) xs ys below

    ys_pages : pages_below level (words_of mid) ys ≡ pages_below level (words_of old) ys
    ys_pages = beside_pages kept_of page_state_of words_of (pages_below level (words_of old) xs) (pages_below next (words_of mid) us) old mid first.swaps level ys ys_below left_out

    us_ys : (q : ℕ) → times q (pages_below level (words_of mid) ys) + times q (pages_below next (words_of mid) us) ≤ 1
    us_ys q = omega (arith, ap (times q) ys_pages, beside_apart kept_of page_state_of words_of (pages_below level (words_of old) xs) (pages_below next (words_of mid) us) old mid first.swaps level ys ys_below left_out q (first.below.once q))

    us_below : IsBelow next (page_state_of new) (words_of new) us
    us_below = beside_below kept_of page_state_of words_of (pages_below level (words_of mid) ys) (pages_below next (words_of new) bs) mid new last.swaps next us first.below us_ys

    us_pages : pages_below next (words_of new) us ≡ pages_below next (words_of mid) us
    us_pages = beside_pages kept_of page_state_of words_of (pages_below level (words_of mid) ys) (pages_below next (words_of new) bs) mid new last.swaps next us first.below us_ys

    us_pairs : pairs_below next (words_of new) us ≡ ps
    us_pairs = beside_pairs kept_of page_state_of words_of (pages_below level (words_of mid) ys) (pages_below next (words_of new) bs) mid new last.swaps next us first.below us_ys ∙ first.has_pairs

    both_pairs : pairs_below next (words_of new) us ++ pairs_below next (words_of new) bs ≡ ps ++ qs
    both_pairs = ap (λ zs. zs ++ pairs_below next (words_of new) bs) us_pairs ∙ ap (λ zs. ps ++ zs) last.has_pairs

    us_bs : (q : ℕ) → times q (pages_below next (words_of new) us) + times q (pages_below next (words_of new) bs) ≤ 1
    us_bs q = omega (arith, ap (times q) us_pages, beside_apart kept_of page_state_of words_of (pages_below level (words_of mid) ys) (pages_below next (words_of new) bs) mid new last.swaps next us first.below us_ys q (last.below.once q))

    between : List ℕ
    between = pages_below next (words_of mid) us ++ pages_below level (words_of mid) ys

    between_times : (q : ℕ) → times q between ≡ times q (pages_below next (words_of mid) us) + times q (pages_below level (words_of mid) ys)
    unfolding between
    between_times q = times_append q (pages_below next (words_of mid) us) (pages_below level (words_of mid) ys)

    pub becomes_append : Becomes kept_of page_state_of words_of (pages_below level (words_of old) (xs ++ ys)) (ps ++ qs) next (us ++ bs) old new
    becomes_append = record {
      below = below_append next (page_state_of new) (words_of new) us bs us_below last.below (subst IsRising (sym both_pairs) rising) us_bs;
      has_pairs = pairs_append next (words_of new) us bs ∙ both_pairs;
      swaps = swaps_trans kept_of page_state_of words_of (pages_below level (words_of old) (xs ++ ys)) between (pages_below next (words_of new) (us ++ bs)) old mid new
          (swaps_frame kept_of page_state_of words_of (pages_below level (words_of old) xs) (pages_below next (words_of mid) us) (pages_below level (words_of old) (xs ++ ys)) between (λ q. times q (pages_below level (words_of old) ys)) old mid first.swaps
          (λ q. omega (arith, times_pages level (words_of old) xs ys q)) (λ q. omega (arith, between_times q, ap (times q) ys_pages)) below.once ys_below.in_use)
          (swaps_frame kept_of page_state_of words_of (pages_below level (words_of mid) ys) (pages_below next (words_of new) bs) between (pages_below next (words_of new) (us ++ bs)) (λ q. times q (pages_below next (words_of mid) us)) mid new last.swaps
          between_times (λ q. omega (arith, times_pages next (words_of new) us bs q, ap (times q) us_pages)) (λ q. omega (arith, between_times q, us_ys q)) first.below.in_use);
    }

  -- the same for a list that is given in two halves
  module _ (level : ℕ) (items xs ys us : List Pair) (ps : List Pair) (next : ℕ) (halves : items ≡ xs ++ ys) (old mid : S)
      (below : IsBelow level (page_state_of old) (words_of old) items) where
    both_below : IsBelow level (page_state_of old) (words_of old) (xs ++ ys)
    both_below = subst (IsBelow level (page_state_of old) (words_of old)) halves below

    halves_apart : (q : ℕ) → times q (pages_below level (words_of old) xs) + times q (pages_below level (words_of old) ys) ≤ 1
    halves_apart q = omega (arith, times_pages level (words_of old) xs ys q, both_below.once q)

    pub back_below : Becomes kept_of page_state_of words_of (pages_below level (words_of old) xs) ps next us old mid → IsBelow level (page_state_of mid) (words_of mid) ys
    back_below first =
        beside_below kept_of page_state_of words_of (pages_below level (words_of old) xs) (pages_below next (words_of mid) us) old mid first.swaps level ys
        (below_right level (page_state_of old) (words_of old) xs ys both_below) halves_apart

    pub back_pairs : Becomes kept_of page_state_of words_of (pages_below level (words_of old) xs) ps next us old mid → pairs_below level (words_of mid) ys ≡ pairs_below level (words_of old) ys
    back_pairs first =
        beside_pairs kept_of page_state_of words_of (pages_below level (words_of old) xs) (pages_below next (words_of mid) us) old mid first.swaps level ys
        (below_right level (page_state_of old) (words_of old) xs ys both_below) halves_apart

  -- some items become others, between those before and after them
  pub becomes_part : (level : ℕ) (xs ys zs us : List Pair) (ps : List Pair) (old new : S)
      → IsBelow level (page_state_of old) (words_of old) (xs ++ (ys ++ zs))
      → Becomes kept_of page_state_of words_of (pages_below level (words_of old) ys) ps level us old new
      → IsRising (pairs_below level (words_of old) xs ++ (ps ++ pairs_below level (words_of old) zs))
      → Becomes kept_of page_state_of words_of (pages_below level (words_of old) (xs ++ (ys ++ zs))) (pairs_below level (words_of old) xs ++ (ps ++ pairs_below level (words_of old) zs)) level (xs ++ (us ++ zs)) old new
  becomes_part level xs ys zs us ps old new below middle rising =
      let front = below_left level (page_state_of old) (words_of old) xs (ys ++ zs) below in
      let rest = below_right level (page_state_of old) (words_of old) xs (ys ++ zs) below in
      let same = back_pairs level (ys ++ zs) ys zs us ps level refl old new rest middle in
      let end = becomes_same level zs new (back_below level (ys ++ zs) ys zs us ps level refl old new rest middle) in
      let back = becomes_append level level ys zs us zs ps (pairs_below level (words_of new) zs) old new new rest middle end
      (subst (λ qs. IsRising (ps ++ qs)) (sym same) (IsRising_right (pairs_below level (words_of old) xs) (ps ++ pairs_below level (words_of old) zs) rising)) in
      let back' = subst (λ qs. Becomes kept_of page_state_of words_of (pages_below level (words_of old) (ys ++ zs)) (ps ++ qs) level (us ++ zs) old new) same back in
      becomes_append level level xs (ys ++ zs) xs (us ++ zs) (pairs_below level (words_of old) xs) (ps ++ pairs_below level (words_of old) zs) old old new below
      (becomes_same level xs old front) back' rising

-- a clause about an error, if what it says always holds
pub on_err : {T E P : Type 0} (r : Result T E) → P → OnErr r P
on_err (Ok x) p = tt
on_err (Err e) p = p
