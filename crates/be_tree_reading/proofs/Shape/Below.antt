-- What is below a node's items, part by part and while other pages change.
use Rattle.std.proofs.Common.{◌≡◌, ℕ, zero, suc, ◌+◌, ◌<◌, ◌≤◌, List, [], ◌∷◌, ◌++◌, length, get_or, All, IsTrue, ap, sym, subst, ◌∙◌, refl, arith}
use mathlib.Core.Bool.{false≢true}
use Rattle.std.specs.List.{flat_map}
use Rattle.std.proofs.lemmas.List.{get_or_append_left, get_or-append-add, length-append}
use Rattle.std.proofs.lemmas.List.Concat.{flat_map-append}
use Rattle.std.proofs.lemmas.List.Elements.{All-append}
use Rattle.be_pages.specs.declared.room.PageState.{PageState}
use Rattle.be_pages.specs.Pages.{is_kept, times, Swaps}
use Rattle.be_tree_reading.specs.Pair.{Pair}
use Rattle.be_tree_reading.specs.Key.{IsRising}
use Rattle.be_tree_reading.specs.Page.{items_of}
use Rattle.be_tree_reading.specs.Tree.{child, pairs_at, pairs_below, pages_at, pages_below, IsNode, IsBranch, AreShaped, IsBelow}
use Rattle.be_tree_reading.proofs.Order.{IsRising_left, IsRising_right}
use Rattle.be_tree_reading.proofs.Frame.{times_append, times-cons, times_tail, same_page, swaps_same, swaps_stays, swaps_fresh, readable_kept}
use Rattle.be_tree_reading.proofs.TreeFacts.{times_part}

-- what is below two lists of items
pub pairs_append : (level : ℕ) (words : ℕ → ℕ → ℕ) (xs ys : List Pair) → pairs_below level words (xs ++ ys) ≡ pairs_below level words xs ++ pairs_below level words ys
pairs_append zero words xs ys = refl
pairs_append (suc level) words xs ys = flat_map-append (λ b. pairs_below level words (items_of (words (child b)))) xs ys

pub pages_append : (level : ℕ) (words : ℕ → ℕ → ℕ) (xs ys : List Pair) → pages_below level words (xs ++ ys) ≡ pages_below level words xs ++ pages_below level words ys
pages_append zero words xs ys = refl
pages_append (suc level) words xs ys = flat_map-append (λ b. child b ∷ pages_below level words (items_of (words (child b)))) xs ys

pub times_pages : (level : ℕ) (words : ℕ → ℕ → ℕ) (xs ys : List Pair) (q : ℕ) → times q (pages_below level words (xs ++ ys)) ≡ times q (pages_below level words xs) + times q (pages_below level words ys)
times_pages level words xs ys q = ap (times q) (pages_append level words xs ys) ∙ times_append q (pages_below level words xs) (pages_below level words ys)

-- how many times a page occurs among those of two branches
pub times_both : (level : ℕ) (words : ℕ → ℕ → ℕ) (left right : Pair) (q : ℕ) → times q (pages_below (suc level) words (left ∷ right ∷ []))
    ≡ times q (child left ∷ child right ∷ []) + times q (pages_below level words (items_of (words (child left)) ++ items_of (words (child right))))
times_both level words left right q =
    let ps = pages_below level words (items_of (words (child left))) in
    let qs = pages_below level words (items_of (words (child right))) in
    omega (
      arith,
      times_append q (child left ∷ ps) (child right ∷ qs ++ []),
      times-cons q (child left) ps,
      times_append q (child right ∷ qs) [],
      times-cons q (child right) qs,
      times-cons q (child left) (child right ∷ []),
      times-cons q (child right) [],
      times_pages level words (items_of (words (child left))) (items_of (words (child right))) q,
    )

-- what holds for all of a list holds for each part of it
pub all_left : {A : Type 0} (P : A → Type 0) (xs ys : List A) → All P (xs ++ ys) → All P xs
all_left P xs ys all i d lt = subst P (get_or_append_left xs ys d i lt) (all i d (omega (arith, length-append xs ys, lt)))

pub all_right : {A : Type 0} (P : A → Type 0) (xs ys : List A) → All P (xs ++ ys) → All P ys
all_right P xs ys all i d lt = subst P (get_or-append-add xs ys i d) (all (length xs + i) d (omega (arith, length-append xs ys, lt)))

shaped_left : (level : ℕ) (words : ℕ → ℕ → ℕ) (xs ys : List Pair) → AreShaped level words (xs ++ ys) → AreShaped level words xs
shaped_left zero words xs ys h = tt
shaped_left (suc level) words xs ys h = all_left (λ b. IsNode level 6 (words (child b)) × IsBranch b (pairs_at level words (child b)) × AreShaped level words (items_of (words (child b)))) xs ys h

shaped_right : (level : ℕ) (words : ℕ → ℕ → ℕ) (xs ys : List Pair) → AreShaped level words (xs ++ ys) → AreShaped level words ys
shaped_right zero words xs ys h = tt
shaped_right (suc level) words xs ys h = all_right (λ b. IsNode level 6 (words (child b)) × IsBranch b (pairs_at level words (child b)) × AreShaped level words (items_of (words (child b)))) xs ys h

shaped_append : (level : ℕ) (words : ℕ → ℕ → ℕ) (xs ys : List Pair) → AreShaped level words xs → AreShaped level words ys → AreShaped level words (xs ++ ys)
shaped_append zero words xs ys g h = tt
shaped_append (suc level) words xs ys g h = All-append (λ b. IsNode level 6 (words (child b)) × IsBranch b (pairs_at level words (child b)) × AreShaped level words (items_of (words (child b)))) xs ys g h

module _ (level : ℕ) (page_state : ℕ → PageState) (words : ℕ → ℕ → ℕ) (xs ys : List Pair) where
  pub below_left : IsBelow level page_state words (xs ++ ys) → IsBelow level page_state words xs
  below_left h = record {
    keys_fit = all_left (λ item. length item.key ≤ 264) xs ys h.keys_fit;
    shaped = shaped_left level words xs ys h.shaped;
    rising = IsRising_left (pairs_below level words xs) (pairs_below level words ys) (subst IsRising (pairs_append level words xs ys) h.rising);
    once = λ q. omega (arith, times_pages level words xs ys q, h.once q);
    in_use = λ q some. h.in_use q (omega (arith, times_pages level words xs ys q, some));
  }

  pub below_right : IsBelow level page_state words (xs ++ ys) → IsBelow level page_state words ys
  below_right h = record {
    keys_fit = all_right (λ item. length item.key ≤ 264) xs ys h.keys_fit;
    shaped = shaped_right level words xs ys h.shaped;
    rising = IsRising_right (pairs_below level words xs) (pairs_below level words ys) (subst IsRising (pairs_append level words xs ys) h.rising);
    once = λ q. omega (arith, times_pages level words xs ys q, h.once q);
    in_use = λ q some. h.in_use q (omega (arith, times_pages level words xs ys q, some));
  }

  pub below_append : IsBelow level page_state words xs → IsBelow level page_state words ys → IsRising (pairs_below level words xs ++ pairs_below level words ys)
      → ((q : ℕ) → times q (pages_below level words xs) + times q (pages_below level words ys) ≤ 1) → IsBelow level page_state words (xs ++ ys)
  below_append f g rising apart = record {
    keys_fit = All-append (λ item. length item.key ≤ 264) xs ys f.keys_fit g.keys_fit;
    shaped = shaped_append level words xs ys f.shaped g.shaped;
    rising = subst IsRising (sym (pairs_append level words xs ys)) rising;
    once = λ q. omega (arith, times_pages level words xs ys q, apart q);
    in_use = λ q some. either q (times q (pages_below level words xs)) refl (omega (arith, times_pages level words xs ys q, some));
  }
    where
      either : (q n : ℕ) → times q (pages_below level words xs) ≡ n → 0 < n + times q (pages_below level words ys) → IsTrue (is_kept (page_state q))
      either q zero e some = g.in_use q (omega (arith, some))
      either q (suc n) e some = f.in_use q (omega (arith, e))

-- items whose pages have the same words
flat_map_same : {A : Type 0} (f g : Pair → List A) (items : List Pair) → ((i : ℕ) (d : Pair) → i < length items → f (get_or items i d) ≡ g (get_or items i d)) → flat_map f items ≡ flat_map g items
flat_map_same f g [] same = refl
flat_map_same f g (x ∷ xs) same = ap2 (same 0 x (omega arith)) (flat_map_same f g xs (λ i d lt. same (suc i) d (omega (arith, lt))))
  where
    ap2 : {A : Type 0} {a b c d : List A} → a ≡ b → c ≡ d → a ++ c ≡ b ++ d
    ap2 p q = cc

-- the pages below a branch are among those below the items
pub child_page : (level : ℕ) (words : ℕ → ℕ → ℕ) (items : List Pair) (i : ℕ) (d : Pair) → i < length items → 0 < times (child (get_or items i d)) (pages_below (suc level) words items)
child_page level words items i d lt =
    let b = get_or items i d in
    omega (arith, times_part (λ b. pages_at level words (child b)) (child b) items i d lt, times-cons (child b) (child b) (pages_below level words (items_of (words (child b)))), same_page (child b))

deeper_page : (level : ℕ) (words : ℕ → ℕ → ℕ) (items : List Pair) (i : ℕ) (d : Pair) → i < length items → (q : ℕ) → 0 < times q (pages_below level words (items_of (words (child (get_or items i d))))) → 0 < times q (pages_below (suc level) words items)
deeper_page level words items i d lt q some =
    let b = get_or items i d in
    omega (arith, times_part (λ b. pages_at level words (child b)) q items i d lt, times_tail q (child b) (pages_below level words (items_of (words (child b)))), some)

pub pairs_same : (level : ℕ) (v w : ℕ → ℕ → ℕ) (items : List Pair) → ((q : ℕ) → 0 < times q (pages_below level v items) → w q ≡ v q) → pairs_below level w items ≡ pairs_below level v items
pairs_same zero v w items same = refl
pairs_same (suc level) v w items same =
    flat_map_same (λ b. pairs_below level w (items_of (w (child b)))) (λ b. pairs_below level v (items_of (v (child b)))) items (λ i d lt.
    ap (λ page. pairs_below level w (items_of page)) (same (child (get_or items i d)) (child_page level v items i d lt))
    ∙ pairs_same level v w (items_of (v (child (get_or items i d)))) (λ q some. same q (deeper_page level v items i d lt q some)))

pub pages_same : (level : ℕ) (v w : ℕ → ℕ → ℕ) (items : List Pair) → ((q : ℕ) → 0 < times q (pages_below level v items) → w q ≡ v q) → pages_below level w items ≡ pages_below level v items
pages_same zero v w items same = refl
pages_same (suc level) v w items same =
    flat_map_same (λ b. pages_at level w (child b)) (λ b. pages_at level v (child b)) items (λ i d lt.
    ap (λ ps. child (get_or items i d) ∷ ps)
    (ap (λ page. pages_below level w (items_of page)) (same (child (get_or items i d)) (child_page level v items i d lt))
    ∙ pages_same level v w (items_of (v (child (get_or items i d)))) (λ q some. same q (deeper_page level v items i d lt q some))))

pub shaped_same : (level : ℕ) (v w : ℕ → ℕ → ℕ) (items : List Pair) → ((q : ℕ) → 0 < times q (pages_below level v items) → w q ≡ v q) → AreShaped level v items → AreShaped level w items
shaped_same zero v w items same h = tt
shaped_same (suc level) v w items same h = λ i d lt.
    let b = get_or items i d in
    let here = h i d lt in
    let page = same (child b) (child_page level v items i d lt) in
    let deeper = λ (q : ℕ) (some : 0 < times q (pages_below level v (items_of (v (child b))))). same q (deeper_page level v items i d lt q some) in
    let read : items_of (w (child b)) ≡ items_of (v (child b)) = ap items_of page in
    let pairs : pairs_at level w (child b) ≡ pairs_at level v (child b) = ap (pairs_below level w) read ∙ pairs_same level v w (items_of (v (child b))) deeper in (
      subst (IsNode level 6) (sym page) here.0,
      subst (IsBranch b) (sym pairs) here.1,
      subst (AreShaped level w) (sym read) (shaped_same level v w (items_of (v (child b))) deeper here.2),
    )

module _ {S K : Type 0} (kept_of : S → K) (page_state_of : S → ℕ → PageState) (words_of : S → ℕ → ℕ → ℕ) (before after : List ℕ) (old new : S) (swaps : Swaps kept_of page_state_of words_of before after old new)
    (level : ℕ) (items : List Pair) (below : IsBelow level (page_state_of old) (words_of old) items) (apart : (q : ℕ) → times q before + times q (pages_below level (words_of old) items) ≤ 1) where
  -- a page of the part still has its words
  beside_words : (q : ℕ) → 0 < times q (pages_below level (words_of old) items) → words_of new q ≡ words_of old q
  beside_words q some = swaps_same kept_of page_state_of words_of before after old new swaps q (omega (arith, apart q, some)) (readable_kept (page_state_of old q) (below.in_use q some))

  pub beside_pairs : pairs_below level (words_of new) items ≡ pairs_below level (words_of old) items
  beside_pairs = pairs_same level (words_of old) (words_of new) items beside_words

  pub beside_pages : pages_below level (words_of new) items ≡ pages_below level (words_of old) items
  beside_pages = pages_same level (words_of old) (words_of new) items beside_words

  pub beside_below : IsBelow level (page_state_of new) (words_of new) items
  beside_below = record {
    keys_fit = below.keys_fit;
    shaped = shaped_same level (words_of old) (words_of new) items beside_words below.shaped;
    rising = subst IsRising (sym beside_pairs) below.rising;
    once = λ q. omega (arith, ap (times q) beside_pages, below.once q);
    in_use = λ q some.
        let was : 0 < times q (pages_below level (words_of old) items) = omega (arith, ap (times q) beside_pages, some) in
        subst (λ s. IsTrue (is_kept s)) (sym (swaps_stays kept_of page_state_of words_of before after old new swaps q (omega (arith, apart q, was)) (readable_kept (page_state_of old q) (below.in_use q was)))) (below.in_use q was);
  }

  -- the pages that come into use aren't among the part's
  pub beside_apart : (q : ℕ) → times q after ≤ 1 → times q after + times q (pages_below level (words_of old) items) ≤ 1
  beside_apart q once = split (times q (pages_below level (words_of old) items)) (times q after) refl refl
    where
      split : (n m : ℕ) → times q (pages_below level (words_of old) items) ≡ n → times q after ≡ m → times q after + times q (pages_below level (words_of old) items) ≤ 1
      split zero m en em = omega (arith, en, once)
      split (suc n) zero en em = omega (arith, en, em, apart q)
      split (suc n) (suc m) en em =
          let free = swaps_fresh kept_of page_state_of words_of before after old new swaps q (omega (arith, apart q, en)) (omega (arith, em)) in
          absurd (false≢true (ap is_kept (sym free) ∙ below.in_use q (omega (arith, en))))
