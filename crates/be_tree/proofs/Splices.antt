-- The items of pages while the words of one page are written.
use Rattle.std.proofs.Common.{◌≡◌, ◌≢◌, ℕ, ◌+◌, ◌-◌, ◌<◌, ◌≤◌, ◌⊎◌, ◌==◌, if◌then◌else◌, IsTrue, List, [], ◌++◌, length, map, take, drop, get_or, ap, sym, subst, ◌∙◌, inl, inr, refl, arith, length-append, length-drop}
use Rattle.std.proofs.lemmas.Bool.{cases_eq, cases_lt}
use Rattle.std.proofs.lemmas.Bool.Decides.{nat_tests}
use Rattle.be_pages.specs.declared.room.PageState.{PageState}
use Rattle.std.proofs.lemmas.List.{ext_get_or, get_or-append_right, get_or-drop, get_or-map, get_or-take, get_or_append_left, length-map, length-take-le}
use mathlib.Core.Bool.{false≢true}
use Rattle.be_pages.specs.declared.room.PageState.TheVariants.{Filled, Free}
use Rattle.be_pages.specs.Pages.{OnlyWrites, SetsStateAt, is_readable}
use Rattle.be_tree.specs.declared.slot.Slot.{Slot}
use Rattle.be_tree.specs.declared.slot.Slot.TheVariants.{At, Branch, New}
use Rattle.be_tree_reading.specs.Page.{IsItem, IsPage, item_at, item_place, items_of}
use Rattle.be_tree_reading.specs.Pair.{Pair}
use Rattle.be_tree.specs.Slot.{IsOff, IsReady, pair_of}
use Rattle.be_tree.specs.declared.splicing.Cut.{Cut}
use Rattle.be_tree.specs.Splicing.{AreCopies, HasGap, IsStored, spliced}
use Rattle.be_tree.proofs.Bytes.Zeros.{IsItem_same}
use Rattle.be_tree_reading.proofs.Codec.{item_at_same}
use Rattle.be_tree.proofs.Nodes.PageStates.{changed_state, other_states}
use Rattle.be_tree_reading.proofs.Items.{item_get, items_count}
use Rattle.be_tree.proofs.Nodes.Slots.{branch_same}

-- what a page has after its header was written and the items before and after a cut were copied
pub gap_of : (u v : ℕ → ℕ) (cut : Cut) (more rest : ℕ) → cut.at + cut.gone ≤ u 1 → rest ≡ u 1 - (cut.at + cut.gone) → v 0 ≡ u 0 → v 1 ≡ cut.at + more + rest
    → AreCopies u v 0 0 cut.at → AreCopies u v (cut.at + cut.gone) (cut.at + more) rest → HasGap u v cut more
gap_of u v cut more rest in_range is level count front back = record {
  same_level = level;
  count = omega (arith, count, is, in_range);
  front = front;
  back = λ k lt. back k (omega (arith, lt, is));
}

pub other_word : (j i : ℕ) → (j ≡ i → ⊥) → (x y : ℕ) → (if j == i then x else y) ≡ y
other_word j i ne x y = grind (arith, nat_tests)

-- writing a word to a page that has a filled one
pub fill_only : {S K : Type 0} (kept_of : S → K) (page_state_of : S → ℕ → PageState) (words_of : S → ℕ → ℕ → ℕ) (page i word : ℕ) (old now : S)
    → kept_of now ≡ kept_of old → SetsStateAt (page_state_of old) (page_state_of now) page Filled → page_state_of old page ≡ Filled
    → ((j : ℕ) → words_of now page j ≡ (if j == i then word else words_of old page j)) → ((q : ℕ) → q ≢ page → words_of now q ≡ words_of old q)
    → OnlyWrites kept_of page_state_of words_of page i (i + 1) old now
fill_only kept_of page_state_of words_of page i word old now kept states filled place others = record {
  kept = kept;
  page_state = λ q. elim (cases_eq q page) [
    | inl e ↦ subst (λ p. page_state_of now p ≡ page_state_of old p) (sym e) (changed_state (page_state_of old) (page_state_of now) page Filled states ∙ sym filled)
    | inr ne ↦ other_states (page_state_of old) (page_state_of now) page Filled states q ne
  ];
  others = others;
  before = λ j lt. place j ∙ other_word j i (λ e. absurd (omega (arith, lt, e))) word (words_of old page j);
  after = λ j ge. place j ∙ other_word j i (λ e. absurd (omega (arith, ge, e))) word (words_of old page j);
}

-- after pages were only read
pub only_since : {S K : Type 0} (kept_of : S → K) (page_state_of : S → ℕ → PageState) (words_of : S → ℕ → ℕ → ℕ) (page lo hi : ℕ) (old read now : S)
    → kept_of read ≡ kept_of old → page_state_of read ≡ page_state_of old → words_of read ≡ words_of old → OnlyWrites kept_of page_state_of words_of page lo hi read now → OnlyWrites kept_of page_state_of words_of page lo hi old now
only_since kept_of page_state_of words_of page lo hi old read now kept page_state words only = record {
  kept = only.kept ∙ kept;
  page_state = λ q. only.page_state q ∙ ap (λ s. s q) page_state;
  others = λ q ne. only.others q ne ∙ ap (λ w. w q) words;
  before = λ j lt. only.before j lt ∙ ap (λ w. w page j) words;
  after = λ j ge. only.after j ge ∙ ap (λ w. w page j) words;
}

pub filled_word : (i x y : ℕ) → (if i == i then x else y) ≡ x
filled_word i x y = grind (arith, nat_tests)

module _ {S K : Type 0} (kept_of : S → K) (page_state_of : S → ℕ → PageState) (words_of : S → ℕ → ℕ → ℕ) (page lo hi : ℕ) (old now : S) (only : OnlyWrites kept_of page_state_of words_of page lo hi old now) where
  -- an item that wasn't overwritten
  pub there : (from place : ℕ) → (from ≡ page → (hi ≤ place) ⊎ (place + 42 ≤ lo)) → IsItem (words_of old from) place
      → (item_at (words_of now from) place ≡ item_at (words_of old from) place) × IsItem (words_of now from) place
  there from place apart item = elim (cases_eq from page) [
    | inl e ↦
        let same : (j : ℕ) → place ≤ j → j < place + 42 → words_of now from j ≡ words_of old from j = λ j ge lt.
        subst (λ q. words_of now q j ≡ words_of old q j) (sym e) (elim (apart e) [
          | inl above ↦ only.after j (omega (arith, above, ge))
          | inr below ↦ only.before j (omega (arith, below, lt))
        ]) in
        (item_at_same (words_of old from) (words_of now from) place item same, IsItem_same (words_of old from) (words_of now from) place item same)
    | inr ne ↦ (ap (λ u. item_at u place) (only.others from ne), subst (λ u. IsItem u place) (sym (only.others from ne)) item)
  ]

  -- words are written after other words
  pub only_then : (a b x y : ℕ) (new : S) → OnlyWrites kept_of page_state_of words_of page a b now new → x ≤ lo → x ≤ a → hi ≤ y → b ≤ y → OnlyWrites kept_of page_state_of words_of page x y old new
  only_then a b x y new more xlo xa hiy by = record {
    kept = more.kept ∙ only.kept;
    page_state = λ q. more.page_state q ∙ only.page_state q;
    others = λ q ne. more.others q ne ∙ only.others q ne;
    before = λ j lt. more.before j (omega (arith, lt, xa)) ∙ only.before j (omega (arith, lt, xlo));
    after = λ j ge. more.after j (omega (arith, ge, by)) ∙ only.after j (omega (arith, ge, hiy));
  }

-- slots of pages other than the one that is written
module _ (page : ℕ) (s t : ℕ → PageState) (v w : ℕ → ℕ → ℕ) (states : (q : ℕ) → q ≢ page → t q ≡ s q) (words : (q : ℕ) → q ≢ page → w q ≡ v q) where
  pub off_ready : (slot : Slot) → IsOff page slot → IsReady s v slot → IsReady t w slot
  off_ready (At at from) off ready = (subst (λ u. IsTrue (is_readable u)) (sym (states from off)) ready.0, (ready.1.0, subst (λ u. IsItem u at) (sym (words from off)) ready.1.1))
  off_ready (Branch child) off ready = (subst (λ u. IsTrue (is_readable u)) (sym (states child off)) ready.0, (ready.1.0, subst (λ u. IsItem u 2) (sym (words child off)) ready.1.1))
  off_ready New off ready = tt

  pub off_pair : (given : Pair) (slot : Slot) → IsOff page slot → pair_of w given slot ≡ pair_of v given slot
  off_pair given (At at from) off = ap (λ u. item_at u at) (words from off)
  off_pair given (Branch child) off = branch_same v w child (words child off)
  off_pair given New off = refl

-- a page that was free isn't the page of a ready slot
pub off_free : (page : ℕ) (s : ℕ → PageState) (v : ℕ → ℕ → ℕ) (slot : Slot) → s page ≡ Free → IsReady s v slot → IsOff page slot
off_free page s v (At at from) free ready = λ e. false≢true (ap is_readable (sym free) ∙ ap (λ q. is_readable (s q)) (sym e) ∙ ready.0)
off_free page s v (Branch child) free ready = λ e. false≢true (ap is_readable (sym free) ∙ ap (λ q. is_readable (s q)) (sym e) ∙ ready.0)
off_free page s v New free ready = tt

-- a page after the room in place of a cut was filled
module _ (u v w : ℕ → ℕ) (cut : Cut) (slots : List Slot) (f : Slot → Pair) (gap : HasGap u v cut (length slots)) (in_range : cut.at + cut.gone ≤ u 1)
    (stored : (k : ℕ) (d : Slot) → k < length slots → IsStored w (cut.at + k) (f (get_or slots k d)))
    (before : (j : ℕ) → j < item_place cut.at → w j ≡ v j) (after : (j : ℕ) → item_place (cut.at + length slots) ≤ j → w j ≡ v j) where
  total : w 1 + cut.gone ≡ u 1 + length slots
  total = omega (arith, before 1 (omega arith), gap.count)

  front : (j : ℕ) → j < cut.at → IsStored w j (item_at u (item_place j))
  front j lt =
      let e : 0 + j ≡ j = omega arith in
      let was = gap.front j lt in
      let same : (i : ℕ) → item_place (0 + j) ≤ i → i < item_place (0 + j) + 42 → w i ≡ v i = λ i ge less. before i (omega (arith, less, lt)) in
      subst (λ n. IsStored w n (item_at u (item_place n))) e (item_at_same v w (item_place (0 + j)) was.1 same ∙ was.0, IsItem_same v w (item_place (0 + j)) was.1 same)

  back : (k : ℕ) → cut.at + cut.gone + k < u 1 → IsStored w (cut.at + length slots + k) (item_at u (item_place (cut.at + cut.gone + k)))
  back k lt =
      let was = gap.back k lt in
      let here = item_place (cut.at + length slots + k) in
      let same : (i : ℕ) → here ≤ i → i < here + 42 → w i ≡ v i = λ i ge less. after i (omega (arith, ge)) in
      (item_at_same v w here was.1 same ∙ was.0, IsItem_same v w here was.1 same)

  item_in : (j : ℕ) → j < w 1 → IsItem w (item_place j)
  item_in j lt = elim (cases_lt j cut.at) [
    | inl less ↦ (front j less).1
    | inr ge ↦ elim (cases_lt j (cut.at + length slots)) [
      | inl less ↦
          let e : cut.at + (j - cut.at) ≡ j = omega (arith, ge) in
          subst (λ n. IsItem w (item_place n)) e (stored (j - cut.at) New (omega (arith, less, ge))).1
      | inr past ↦
          let e : cut.at + length slots + (j - (cut.at + length slots)) ≡ j = omega (arith, past) in
          subst (λ n. IsItem w (item_place n)) e (back (j - (cut.at + length slots)) (omega (arith, past, lt, total))).1
    ]
  ]

  pub spliced_page : u 1 + length slots ≤ 12 + cut.gone → IsPage w
  spliced_page few = record { few = omega (arith, total, few); each = item_in }

  none : Pair
  none = record { key = []; payload = [] }

  xs : List Pair
  xs = items_of u

  ys : List Pair
  ys = map f slots

  zs : List Pair
  zs = drop (cut.at + cut.gone) xs

  taken : length (take cut.at xs) ≡ cut.at
  unfolding xs
  taken = length-take-le cut.at xs (omega (arith, items_count u, in_range))

  len : length (items_of w) ≡ length (spliced cut xs ys)
  unfolding xs ys zs
  len = omega (arith, items_count w, total, items_count u, in_range, taken, length-append (take cut.at xs) (ys ++ zs), length-append ys zs, length-map slots f, length-drop (cut.at + cut.gone) xs)

  there_is : (j : ℕ) → j < w 1 → get_or (spliced cut xs ys) j none ≡ item_at w (item_place j)
  unfolding xs ys zs
  there_is j lt = elim (cases_lt j cut.at) [
    | inl less ↦
        get_or_append_left (take cut.at xs) (ys ++ zs) none j (omega (arith, less, taken)) ∙ get_or-take cut.at xs j none less ∙ item_get u j none (omega (arith, less, in_range)) ∙ sym (front j less).0
    | inr ge ↦ get_or-append_right (take cut.at xs) (ys ++ zs) cut.at j none taken ge ∙ elim (cases_lt j (cut.at + length slots)) [
      | inl less ↦
          let e : cut.at + (j - cut.at) ≡ j = omega (arith, ge) in
          let k : j - cut.at < length slots = omega (arith, less, ge) in
          get_or_append_left ys zs none (j - cut.at) (omega (arith, k, length-map slots f)) ∙ get_or-map f slots (j - cut.at) New none k
          ∙ sym (subst (λ n. item_at w (item_place n) ≡ f (get_or slots (j - cut.at) New)) e (stored (j - cut.at) New k).0)
      | inr past ↦
          let e : cut.at + length slots + (j - cut.at - length slots) ≡ j = omega (arith, past) in
          let k : cut.at + cut.gone + (j - cut.at - length slots) < u 1 = omega (arith, past, lt, total) in
          get_or-append_right ys zs (length slots) (j - cut.at) none (length-map slots f) (omega (arith, past)) ∙ get_or-drop (cut.at + cut.gone) xs (j - cut.at - length slots) none
          ∙ item_get u (cut.at + cut.gone + (j - cut.at - length slots)) none k
          ∙ sym (subst (λ n. item_at w (item_place n) ≡ item_at u (item_place (cut.at + cut.gone + (j - cut.at - length slots)))) e (back (j - cut.at - length slots) k).0)
    ]
  ]

  pub spliced_items : items_of w ≡ spliced cut (items_of u) (map f slots)
  unfolding xs ys zs
  spliced_items = ext_get_or none (items_of w) (spliced cut xs ys) len (λ j lt. item_get w j none (omega (arith, lt, items_count w)) ∙ sym (there_is j (omega (arith, lt, items_count w))))
