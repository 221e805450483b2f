-- Unwritten nodes while pages change.
use Rattle.std.proofs.Common.{◌≡◌, ℕ, suc, ◌+◌, ◌<◌, ◌≤◌, ◌^◌, List, [], ◌∷◌, length, get_or, map, All, IsTrue, ap, sym, subst, ◌∙◌, refl, arith, zero-add}
use Rattle.std.specs.List.{range_with_len}
use Rattle.std.specs.Int.{to_be_bytes, w64}
use Rattle.std.proofs.lemmas.Nat.{from_be_bytes-to_be_bytes_8}
use Rattle.std.proofs.lemmas.List.FromFn.{get_or-map-range_with_len, length-map-range_with_len}
use Rattle.std.proofs.lemmas.List.{get_or-map, length-map}
use Rattle.std.proofs.lemmas.Simd.{map-map}
use Rattle.be_pages.specs.declared.room.PageState.{PageState}
use Rattle.be_pages.specs.Pages.{is_readable, is_kept, times, Swaps}
use Rattle.be_tree.specs.declared.slot.Slot.{Slot}
use Rattle.be_tree.specs.declared.slot.Slot.TheVariants.{At, Branch, New}
use Rattle.be_tree_reading.specs.Pair.{Pair}
use Rattle.be_tree_reading.specs.Page.{item_at, items_of, level_of, IsItem, IsPage, item_place}
use Rattle.be_tree_reading.specs.Tree.{child, IsBelow, IsNode, IsWritten}
use Rattle.be_tree_reading.proofs.Items.{item_get, items_count}
use Rattle.be_tree_reading.proofs.Frame.{swaps_stays, swaps_same, readable_kept}
use Rattle.be_tree_reading.proofs.Shape.Below.{child_page}
use Rattle.be_tree.specs.Slot.{branch_to, pair_of, pairs_of, IsReady, IsBranchSlot}

-- a page's items as given by a list of slots
pub stored_map : (f : Slot → Pair) (g : ℕ → Pair) (slots : List Slot) (n : ℕ) → n ≡ length slots → ((k : ℕ) (d : Slot) → k < n → g k ≡ f (get_or slots k d)) → map g (range_with_len 0 n) ≡ map f slots
stored_map f g slots n len same = subst (λ m. map g (range_with_len 0 m) ≡ map f slots) (sym len) (from g slots 0 (λ k d lt. ap g (zero-add k) ∙ same k d (omega (arith, len, lt))))
  where
    from : (g : ℕ → Pair) (xs : List Slot) (a : ℕ) → ((k : ℕ) (d : Slot) → k < length xs → g (a + k) ≡ f (get_or xs k d)) → map g (range_with_len a (length xs)) ≡ map f xs
    from g [] a same = refl
    from g (x ∷ xs) a same =
        let e : a + 0 ≡ a = omega arith in
        ap2 (ap g (sym e) ∙ same 0 x (omega arith)) (from g xs (a + 1) (λ k d lt. let e : a + 1 + k ≡ a + suc k = omega arith in ap g e ∙ same (suc k) d (omega (arith, lt))))
      where
        ap2 : {A : Type 0} {x y : A} {xs ys : List A} → x ≡ y → xs ≡ ys → x ∷ xs ≡ y ∷ ys
        ap2 p q = cc

-- a branch to a page leads to that page
pub child_branch : (w : ℕ → ℕ → ℕ) (page : ℕ) → page < 2 ^ 32 → child (branch_to w page) ≡ page
unfolding child
child_branch w page small = from_be_bytes-to_be_bytes_8 page (omega (arith, small))

-- a page written with items, and the branch to it
pub written_at : (level : ℕ) (w : ℕ → ℕ → ℕ) (items : List Pair) (page : ℕ) → page < 2 ^ 32 → IsPage (w page) → level_of (w page) ≡ level → items_of (w page) ≡ items → 0 < length items
    → IsWritten level w items (branch_to w page)
written_at level w items page small is_page at_level has some =
    let is = sym (child_branch w page small) in
    record {
      is_page = subst (λ p. IsPage (w p)) is is_page;
      at_level = subst (λ p. level_of (w p) ≡ level) is at_level;
      has_items = subst (λ p. items_of (w p) ≡ items) is has;
      key = ap (λ (p : Pair). p.key) (sym (item_get (w page) 0 (branch_to w page) (omega (arith, some, ap length has, items_count (w page)))) ∙ ap (λ xs. get_or xs 0 (branch_to w page)) has);
      names_page = refl;
    }

-- the slot's page isn't among these
pub IsApart : List ℕ → Slot → Type 0
IsApart pages (At at page) = times page pages ≡ 0
IsApart pages (Branch page) = times page pages ≡ 0
IsApart pages New = Unit {0}

pub apart_nil : (slot : Slot) → IsApart [] slot
unfolding IsApart
apart_nil (At at page) = refl
apart_nil (Branch page) = refl
apart_nil New = tt

pub map_agree : {A B : Type 0} (f g : A → B) (xs : List A) → ((i : ℕ) (d : A) → i < length xs → f (get_or xs i d) ≡ g (get_or xs i d)) → map f xs ≡ map g xs
map_agree f g [] same = refl
map_agree f g (x ∷ xs) same = ap2 (same 0 x (omega arith)) (map_agree f g xs (λ i d lt. same (suc i) d (omega (arith, lt))))
  where
    ap2 : {A : Type 0} {x y : A} {xs ys : List A} → x ≡ y → xs ≡ ys → x ∷ xs ≡ y ∷ ys
    ap2 p q = cc

-- slots of pages that a change doesn't touch
module _ {S K : Type 0} (kept_of : S → K) (page_state_of : S → ℕ → PageState) (words_of : S → ℕ → ℕ → ℕ) (before after : List ℕ) (old new : S) (swaps : Swaps kept_of page_state_of words_of before after old new) where
  page_ready : (page : ℕ) (P : (ℕ → ℕ) → Type 0) → times page before ≡ 0 → IsTrue (is_readable (page_state_of old page)) × P (words_of old page) → IsTrue (is_readable (page_state_of new page)) × P (words_of new page)
  page_ready page P none ready = (
    subst (λ s. IsTrue (is_readable s)) (sym (swaps_stays kept_of page_state_of words_of before after old new swaps page none ready.0)) ready.0,
    subst P (sym (swaps_same kept_of page_state_of words_of before after old new swaps page none ready.0)) ready.1,
  )

  pub ready_swaps : (slot : Slot) → IsApart before slot → IsReady (page_state_of old) (words_of old) slot → IsReady (page_state_of new) (words_of new) slot
  unfolding IsApart
  ready_swaps (At at page) apart ready = page_ready page (λ w. (at + 42 ≤ 512) × IsItem w at) apart ready
  ready_swaps (Branch page) apart ready = page_ready page (λ w. (page < 2 ^ 32) × IsItem w 2) apart ready
  ready_swaps New apart ready = tt

  pub pair_swaps : (given : Pair) (slot : Slot) → IsApart before slot → IsReady (page_state_of old) (words_of old) slot → pair_of (words_of new) given slot ≡ pair_of (words_of old) given slot
  unfolding IsApart
  pair_swaps given (At at page) apart ready = ap (λ w. item_at w at) (swaps_same kept_of page_state_of words_of before after old new swaps page apart ready.0)
  pair_swaps given (Branch page) apart ready = ap (λ w. branch_of w page) (swaps_same kept_of page_state_of words_of before after old new swaps page apart ready.0)
    where
      branch_of : (ℕ → ℕ) → ℕ → Pair
      branch_of u from = record { key = (item_at u 2).key; payload = to_be_bytes w64 from }
  pair_swaps given New apart ready = refl

  pub all_ready_swaps : (slots : List Slot) → All (IsApart before) slots → All (IsReady (page_state_of old) (words_of old)) slots → All (IsReady (page_state_of new) (words_of new)) slots
  all_ready_swaps slots apart ready = λ i d lt. ready_swaps (get_or slots i d) (apart i d lt) (ready i d lt)

  pub pairs_swaps : (given : Pair) (slots : List Slot) → All (IsApart before) slots → All (IsReady (page_state_of old) (words_of old)) slots → pairs_of (words_of new) given slots ≡ pairs_of (words_of old) given slots
  pairs_swaps given slots apart ready = map_agree (pair_of (words_of new) given) (pair_of (words_of old) given) slots (λ i d lt. pair_swaps given (get_or slots i d) (apart i d lt) (ready i d lt))

pub all_apart_nil : (slots : List Slot) → All (IsApart []) slots
all_apart_nil slots = λ i d lt. apart_nil (get_or slots i d)

-- branches to well-formed nodes can be read
branch_ready : (level : ℕ) (s : ℕ → PageState) (w : ℕ → ℕ → ℕ) (given : Pair) (slot : Slot) → IsBranchSlot slot → IsNode level 6 (w (child (pair_of w given slot))) → IsTrue (is_kept (s (child (pair_of w given slot)))) → IsReady s w slot
branch_ready level s w given (At at page) is node used = absurd is
branch_ready level s w given (Branch page) is node used =
    let e = child_branch w page is in
    let here = subst (λ p. IsNode level 6 (w p)) e node in
    (readable_kept (s page) (subst (λ p. IsTrue (is_kept (s p))) e used), (is, here.is_page.each 0 (omega (arith, here.enough, items_count (w page)))))
branch_ready level s w given New is node used = absurd is

pub branches_ready : (level : ℕ) (s : ℕ → PageState) (w : ℕ → ℕ → ℕ) (given : Pair) (slots : List Slot) → All IsBranchSlot slots → IsBelow (suc level) s w (pairs_of w given slots) → All (IsReady s w) slots
branches_ready level s w given slots are below = λ i d lt.
    let len : length (pairs_of w given slots) ≡ length slots = length-map slots (pair_of w given) in
    let e = get_or-map (pair_of w given) slots i d given lt in
    branch_ready level s w given (get_or slots i d) (are i d lt)
    (subst (λ p. IsNode level 6 (w (child p))) e (below.shaped i given (omega (arith, len, lt))).0)
    (subst (λ p. IsTrue (is_kept (s (child p)))) e (below.in_use _ (child_page level w (pairs_of w given slots) i given (omega (arith, len, lt)))))

-- a page's items as slots
pub loaded : ℕ → ℕ → List Slot
loaded page n = map (λ j. At (item_place j) page) (range_with_len 0 n)

pub loaded_pairs : (w : ℕ → ℕ → ℕ) (given : Pair) (page n : ℕ) → n ≡ w page 1 → pairs_of w given (map (λ j. At (item_place j) page) (range_with_len 0 n)) ≡ items_of (w page)
loaded_pairs w given page n e = map-map (pair_of w given) (λ j. At (item_place j) page) (range_with_len 0 n) ∙ ap (λ m. map (λ j. item_at (w page) (item_place j)) (range_with_len 0 m)) e

pub loaded_ready : (s : ℕ → PageState) (w : ℕ → ℕ → ℕ) (page n : ℕ) → n ≡ w page 1 → IsTrue (is_readable (s page)) → IsPage (w page) → All (IsReady s w) (map (λ j. At (item_place j) page) (range_with_len 0 n))
loaded_ready s w page n e readable is_page = λ i d lt.
    let len = length-map-range_with_len (λ j. At (item_place j) page) 0 n in
    subst (IsReady s w) (sym (get_or-map-range_with_len (λ j. At (item_place j) page) 0 n i i d (omega (arith, lt, len)) (zero-add i)))
    (readable, (omega (arith, lt, len, e, is_page.few), is_page.each i (omega (arith, lt, len, e))))

pub branch_same : (v w : ℕ → ℕ → ℕ) (page : ℕ) → w page ≡ v page → branch_to w page ≡ branch_to v page
branch_same v w page same = ap (λ u. branch_of u page) same
  where
    branch_of : (ℕ → ℕ) → ℕ → Pair
    branch_of u from = record { key = (item_at u 2).key; payload = to_be_bytes w64 from }

pub apart_branch : (pages : List ℕ) (page : ℕ) → times page pages ≡ 0 → IsApart pages (Branch page)
unfolding IsApart
apart_branch pages page none = none
