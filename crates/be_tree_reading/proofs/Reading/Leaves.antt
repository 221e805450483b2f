-- The numbers at the ends of a leaf's keys, up to a bound.
use Rattle.std.proofs.Common.{◌≡◌, ℕ, zero, suc, ◌+◌, ◌-◌, ◌<◌, ◌≤◌, true, false, Bool, ◌||◌, List, [], ◌∷◌, ◌++◌, length, get_or, drop, map, None, Some, ap, sym, subst, ◌∙◌, refl, arith, append_assoc, drop-cons, if◌then◌else◌}
use Rattle.std.specs.List.{list_any}
use Rattle.std.specs.Ordering.{is_gt}
use Rattle.std.specs.declared.option.Option.{Option}
use Rattle.std.specs.declared.cmp.Ordering.TheVariants.{Greater}
use Rattle.std.proofs.lemmas.Bool.{false≢true}
use Rattle.std.proofs.lemmas.List.{append-nil, get_or-drop, length-drop}
use Rattle.be_pages.specs.declared.room.PageState.{PageState}
use Rattle.be_tree_reading.specs.Pair.{Pair}
use Rattle.be_tree_reading.specs.Key.{key_cmp, IsRising}
use Rattle.be_tree_reading.specs.Page.{item_at, item_place, items_of}
use Rattle.be_tree_reading.specs.Range.{AreLong, HasFirst, HasGot, is_past, number_of, numbers_to, pairs_to}
use Rattle.be_tree_reading.specs.Tree.{IsTreeAt}
use Rattle.be_tree_reading.proofs.Items.{item_get, items_count}
use Rattle.be_tree_reading.proofs.Order.{key_cmp_flip, less_to_at_most}
use Rattle.be_tree_reading.proofs.Reading.Cursors.{nothing_past}
use Rattle.be_tree_reading.proofs.Searching.{above_get}
use Rattle.be_tree_reading.proofs.Shape.Below.{all_left, all_right}

-- some key is above the bound
abbrev pub any_past : Option (List ℕ) → List Pair → Bool
any_past high xs = list_any (λ (x : Pair). is_past high x.key) xs

-- the items from a number on
pub rest_at : (words : ℕ → ℕ) (at : ℕ) → at < words 1 → drop at (items_of words) ≡ item_at words (item_place at) ∷ drop (at + 1) (items_of words)
rest_at words at lt =
    let item = item_at words (item_place at) in
    let e : suc at ≡ at + 1 = omega arith in
    drop-cons (items_of words) at item (omega (arith, lt, items_count words))
    ∙ ap (λ (x : Pair). x ∷ drop (suc at) (items_of words)) (item_get words at item lt)
    ∙ ap (λ i. item ∷ drop i (items_of words)) e

pub none_left : (words : ℕ → ℕ) (at : ℕ) → words 1 ≤ at → drop at (items_of words) ≡ []
none_left words at end = nothing_past (items_of words) at (omega (arith, end, items_count words))

pub long_at : (words : ℕ → ℕ) (from at : ℕ) → from ≤ at → at < words 1 → AreLong (drop from (items_of words)) → 8 ≤ length (item_at words (item_place at)).key
long_at words from at le lt long =
    let d = item_at words (item_place at) in
    let e : from + (at - from) ≡ at = omega (arith, le) in
    subst (λ (x : Pair). 8 ≤ length x.key) (get_or-drop from (items_of words) (at - from) d ∙ ap (λ i. get_or (items_of words) i d) e ∙ item_get words at d lt)
    (long (at - from) d (omega (arith, le, lt, length-drop from (items_of words), items_count words)))

-- the keys of two parts
pub long_left : (xs ys : List Pair) → AreLong (xs ++ ys) → AreLong xs
long_left xs ys long = all_left (λ (x : Pair). 8 ≤ length x.key) xs ys long

pub long_right : (xs ys : List Pair) → AreLong (xs ++ ys) → AreLong ys
long_right xs ys long = all_right (λ (x : Pair). 8 ≤ length x.key) xs ys long

-- if the last of some ascending keys isn't above the bound, none is
before_bound : (high : Option (List ℕ)) (a b : List ℕ) → key_cmp b a ≡ Greater → is_past high b ≡ false → is_past high a ≡ false
before_bound None a b gt within = refl
before_bound (Some k) a b gt within = ap is_gt (less_to_at_most a b k (key_cmp_flip b a gt) (λ e. false≢true (sym within ∙ ap is_gt e)))

pub none_past : (xs : List Pair) (high : Option (List ℕ)) (i : ℕ) (d : Pair) → IsRising xs → suc i ≡ length xs → is_past high (get_or xs i d).key ≡ false → any_past high xs ≡ false
none_past [] high i d rising e within = absurd (omega (arith, e))
none_past (x ∷ []) high zero d rising e within = ap (λ b. b || false) within
none_past (x ∷ []) high (suc i) d rising e within = absurd (omega (arith, e))
none_past (x ∷ (y ∷ ys)) high zero d rising e within = absurd (omega (arith, e))
none_past (x ∷ (y ∷ ys)) high (suc i) d rising e within =
    let first : is_past high x.key ≡ false = before_bound high x.key (get_or (y ∷ ys) i d).key (above_get x.key (y ∷ ys) i d (omega (arith, e)) rising.0) within in
    ap (λ b. b || any_past high (y ∷ ys)) first ∙ none_past (y ∷ ys) high i d rising.1 (omega (arith, e)) within

-- the keys from a number on
pub none_past_from : (n : ℕ) (xs : List Pair) (high : Option (List ℕ)) → any_past high xs ≡ false → any_past high (drop n xs) ≡ false
none_past_from zero xs high none = none
none_past_from (suc n) [] high none = refl
none_past_from (suc n) (x ∷ xs) high none = none_past_from n xs high (others (is_past high x.key) none)
  where
    others : (b : Bool) → (b || any_past high xs) ≡ false → any_past high xs ≡ false
    others true e = absurd (false≢true (sym e))
    others false e = e

-- so the bound cuts nothing off
pub uncut : (xs : List Pair) (high : Option (List ℕ)) → any_past high xs ≡ false → numbers_to xs None ≡ numbers_to xs high
uncut [] high none = refl
uncut (x ∷ xs) high none = by (is_past high x.key) none (uncut xs high)
  where
    by : (b : Bool) → (b || any_past high xs) ≡ false → (any_past high xs ≡ false → numbers_to xs None ≡ numbers_to xs high)
        → number_of x.key ∷ numbers_to xs None ≡ map (λ (y : Pair). number_of y.key) (if b then [] else x ∷ pairs_to xs high)
    by true e rest = absurd (false≢true (sym e))
    by false e rest = ap (λ ns. number_of x.key ∷ ns) (rest e)

pub never_past : (xs : List Pair) → any_past None xs ≡ false
never_past [] = refl
never_past (x ∷ xs) = never_past xs

-- the numbers of two parts
to_append : (xs ys : List Pair) (high : Option (List ℕ)) → numbers_to (xs ++ ys) high ≡ numbers_to xs high ++ (if any_past high xs then [] else numbers_to ys high)
to_append [] ys high = refl
to_append (x ∷ xs) ys high = by (is_past high x.key) (to_append xs ys high)
  where
    by : (b : Bool) → numbers_to (xs ++ ys) high ≡ numbers_to xs high ++ (if any_past high xs then [] else numbers_to ys high)
        → map (λ (y : Pair). number_of y.key) (if b then [] else x ∷ pairs_to (xs ++ ys) high)
        ≡ map (λ (y : Pair). number_of y.key) (if b then [] else x ∷ pairs_to xs high) ++ (if (b || any_past high xs) then [] else numbers_to ys high)
    by true rest = refl
    by false rest = ap (λ ns. number_of x.key ∷ ns) rest

-- the first numbers of one part are the first of both together
pub first_of_two : (mid now : List ℕ) (xs ys : List Pair) (high : Option (List ℕ)) → HasFirst mid (numbers_to xs high) now → HasFirst mid (numbers_to (xs ++ ys) high) now
first_of_two mid now xs ys high first =
    let more = if any_past high xs then [] else numbers_to ys high in
    record {
      left = first.left ++ more;
      has = record {
        got = first.has.got;
        parts = to_append xs ys high ∙ ap (λ ns. ns ++ more) first.has.parts ∙ append_assoc first.has.got first.left more;
        is = first.has.is;
      };
    }

-- what a list has gained after numbers were pushed
module _ (before numbers left mid now : List ℕ) (has : HasGot before numbers left mid) where
  pub got_first : HasFirst mid left now → HasFirst before numbers now
  got_first first = record {
    left = first.left;
    has = record {
      got = has.got ++ first.has.got;
      parts = has.parts ∙ ap (λ ns. has.got ++ ns) first.has.parts ∙ sym (append_assoc has.got first.has.got first.left);
      is = first.has.is ∙ ap (λ ns. ns ++ first.has.got) has.is ∙ append_assoc before has.got first.has.got;
    };
  }

  pub got_rest : now ≡ mid ++ left → now ≡ before ++ numbers
  got_rest push = push ∙ ap (λ ns. ns ++ left) has.is ∙ append_assoc before has.got left ∙ ap (λ ns. before ++ ns) (sym has.parts)

module _ (before numbers mid now : List ℕ) (xs ys : List Pair) (high : Option (List ℕ)) (has : HasGot before numbers (numbers_to (xs ++ ys) high) mid) where
  -- the bound is after this leaf
  pub whole_leaf : false ≡ any_past high xs → now ≡ mid ++ numbers_to xs high → HasGot before numbers (numbers_to ys high) now
  whole_leaf e push = record {
    got = has.got ++ numbers_to xs high;
    parts = has.parts
        ∙ ap (λ ns. has.got ++ ns) (to_append xs ys high ∙ ap (λ b. numbers_to xs high ++ (if b then [] else numbers_to ys high)) (sym e))
        ∙ sym (append_assoc has.got (numbers_to xs high) (numbers_to ys high));
    is = push ∙ ap (λ ns. ns ++ numbers_to xs high) has.is ∙ append_assoc before has.got (numbers_to xs high);
  }

  -- the bound is in this leaf
  pub last_leaf : true ≡ any_past high xs → now ≡ mid ++ numbers_to xs high → now ≡ before ++ numbers
  last_leaf e push =
      got_rest before numbers (numbers_to (xs ++ ys) high) mid now has
      (push ∙ sym (ap (λ ns. mid ++ ns) (to_append xs ys high ∙ ap (λ b. numbers_to xs high ++ (if b then [] else numbers_to ys high)) (sym e) ∙ append-nil (numbers_to xs high))))

-- a leaf is the same after pages were only read
pub leaf_same : (s t : ℕ → PageState) (v w : ℕ → ℕ → ℕ) (page : ℕ) → t ≡ s → w ≡ v → IsTreeAt 0 1 s v page → IsTreeAt 0 1 t w page
leaf_same s t v w page es ew tree = subst (λ (u : ℕ → ℕ → ℕ). IsTreeAt 0 1 t u page) (sym ew) (subst (λ (r : ℕ → PageState). IsTreeAt 0 1 r v page) (sym es) tree)
