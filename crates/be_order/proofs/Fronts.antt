-- The first entries of an ordered list: those that are in it and come before all others.
use Rattle.std.proofs.Common.{◌≡◌, ◌⊎◌, ◌≤◌, ℕ, zero, suc, Bool, true, false, ◌&&◌, cond, List, [], ◌∷◌, refl, sym, ap, ◌∙◌, arith, Some, None, inl, inr, take, length}
use Rattle.std.specs.Prelude.{T}
use Rattle.std.proofs.lemmas.Option.{same_Some}
use Rattle.std.specs.List.{AllByRecursion, Contains}
use Rattle.std.specs.List.Sorted.{IsStrictlySortedBy}
use Rattle.std.specs.Ordering.{is_eq, is_lt, eq_by_cmp, ordering_reverse}
use Rattle.std.specs.Cmp.{tied_itself}
use Rattle.std.specs.FinMap.Entries.{find, is_sorted, below_all}
use Rattle.std.specs.declared.option.Option.{Option}
use Rattle.std.specs.declared.cmp.Ordering.{Ordering}
use Rattle.std.specs.declared.cmp.Ordering.TheVariants.{Less, Equal, Greater}
use Rattle.be_order.specs.Ordered.{key_cmp, keys_of}
use Rattle.be_order.proofs.KeyLists.{is_itself, is_same, key_apart, key_total}

both : (a b : Bool) → T a → T b → T (a && b)
both true b p q = q
both false b p q = p

first : (a b : Bool) → T (a && b) → T a
first true b p = tt
first false b p = p

second : (a b : Bool) → T (a && b) → T b
second true b p = p
second false b p = absurd p

less : (o : Ordering) → T (is_lt o) → o ≡ Less
less Less p = refl
less Equal p = absurd p
less Greater p = absurd p

lesser : (o : Ordering) → o ≡ Less → T (is_lt o)
lesser Less e = tt
lesser Equal e = cc
lesser Greater e = cc

no_pair : (n : ℕ) → None ≡ Some n → ⊥
no_pair n e = cc

module _ (descending : Bool) where
  abbrev R : List ℕ → List ℕ → Ordering
  R = key_cmp descending

  abbrev at : List ℕ → List (List ℕ × ℕ) → Option ℕ
  at = find R

  not_less : (k : List ℕ) → R k k ≡ Less → ⊥
  not_less k e = let same : R k k ≡ Equal = tied_itself (key_total descending) k in cc

  -- A key below all keys of a list isn't among them.
  at_below : (q : List ℕ) (es : List (List ℕ × ℕ)) → T (below_all R q es) → at q es ≡ None
  at_below q [] h = refl
  at_below q (e ∷ es) h = ap (λ r. cond (is_eq r) (Some e.1) (at q es)) (less _ (first _ _ h)) ∙ at_below q es (second _ _ h)

  below_more : (x y : List ℕ) (es : List (List ℕ × ℕ)) → R x y ≡ Less → T (below_all R y es) → T (below_all R x es)
  below_more x y [] p h = tt
  below_more x y (e ∷ es) p h = both _ _ (lesser _ ((key_total descending).trans x y e.0 p (less _ (first _ _ h)))) (below_more x y es p (second _ _ h))

  at_first : (e : List ℕ × ℕ) (es : List (List ℕ × ℕ)) → at e.0 (e ∷ es) ≡ Some e.1
  at_first e es = ap (λ b. cond b (Some e.1) (at e.0 es)) (is_itself descending e.0)

  -- An entry that is found after the first one has another key.
  apart : (q : List ℕ) (e : List ℕ × ℕ) (es : List (List ℕ × ℕ)) (n : ℕ) → T (below_all R e.0 es) → at q es ≡ Some n → eq_by_cmp R q e.0 ≡ false
  apart q e es n below found = by (eq_by_cmp R q e.0) refl
    where
      by : (b : Bool) → eq_by_cmp R q e.0 ≡ b → b ≡ false
      by true is = absurd (no_pair n (sym (at_below e.0 es below) ∙ ap (λ k. at k es) (sym (is_same descending q e.0 is)) ∙ found))
      by false is = refl

  pub contained_at : (q : List ℕ) (n : ℕ) (es : List (List ℕ × ℕ)) → at q es ≡ Some n → Contains es (q, n)
  contained_at q n [] h = cc
  contained_at q n (e ∷ es) h = by (eq_by_cmp R q e.0) refl h (λ g. contained_at q n es g)
    where
      by : (b : Bool) → eq_by_cmp R q e.0 ≡ b → cond b (Some e.1) (at q es) ≡ Some n → (at q es ≡ Some n → Contains es (q, n)) → Contains (e ∷ es) (q, n)
      by true is f more =
          let keys : e.0 ≡ q = sym (is_same descending q e.0 is) in
          let nodes : e.1 ≡ n = same_Some e.1 n f in
          let pair : e ≡ (q, n) = λ i. (keys i, nodes i) in
          (0, omega arith, pair)
      by false is f more = let later : Contains es (q, n) = more f in (suc later.0, omega (arith, later.1), later.2)

  -- An entry that follows others has a key above theirs.
  below_at : (x q : List ℕ) (n : ℕ) (es : List (List ℕ × ℕ)) → T (below_all R x es) → Contains es (q, n) → R x q ≡ Less
  below_at x q n [] h (k, below, is) = absurd (omega arith)
  below_at x q n (e ∷ es) h (zero, below, is) = let same : e.0 ≡ q = ap (λ (p : List ℕ × ℕ). p.0) is in ap (R x) (sym same) ∙ less _ (first _ _ h)
  below_at x q n (e ∷ es) h (suc k, below, is) = below_at x q n es (second _ _ h) (k, omega arith, is)

  pub at_contained : (q : List ℕ) (n : ℕ) (es : List (List ℕ × ℕ)) → T (is_sorted R es) → Contains es (q, n) → at q es ≡ Some n
  at_contained q n [] h (k, below, is) = absurd (omega arith)
  at_contained q n (e ∷ es) h (zero, below, is) =
      let keys : e.0 ≡ q = ap (λ (p : List ℕ × ℕ). p.0) is in
      let nodes : e.1 ≡ n = ap (λ (p : List ℕ × ℕ). p.1) is in
      ap (λ k. at k (e ∷ es)) (sym keys) ∙ at_first e es ∙ ap (λ m. Some m) nodes
  at_contained q n (e ∷ es) h (suc k, below, is) =
      let later : at q es ≡ Some n = at_contained q n es (second _ _ h) (k, omega arith, is) in
      ap (λ b. cond b (Some e.1) (at q es)) (apart q e es n (first _ _ h) later) ∙ later

  below_keys : (k : List ℕ) (es : List (List ℕ × ℕ)) → AllByRecursion (λ x. R k x ≡ Less) (keys_of es) → T (below_all R k es)
  below_keys k [] h = tt
  below_keys k (e ∷ es) h = both _ _ (lesser _ h.0) (below_keys k es h.1)

  pub sorted_keys : (es : List (List ℕ × ℕ)) → IsStrictlySortedBy R (keys_of es) → T (is_sorted R es)
  unfolding IsStrictlySortedBy
  sorted_keys [] h = tt
  sorted_keys (e ∷ es) h = both _ _ (below_keys e.0 es h.0) (sorted_keys es h.1)

  -- Each entry of one list is in the other. Entries that are only in the other list come after the
  -- first `most` entries of the one.
  abbrev Among : List (List ℕ × ℕ) → List (List ℕ × ℕ) → Type 0
  Among es ys = (q : List ℕ) (n : ℕ) → at q es ≡ Some n → at q ys ≡ Some n

  abbrev Reaches : ℕ → List (List ℕ × ℕ) → List (List ℕ × ℕ) → Type 0
  Reaches most es ys = (q : List ℕ) (n : ℕ) → at q ys ≡ Some n → (at q es ≡ Some n) ⊎ ((length es ≡ most) × ((x : List ℕ) (k : ℕ) → at x es ≡ Some k → R x q ≡ Less))

  none_wanted : (most : ℕ) (ys : List (List ℕ × ℕ)) → 0 ≡ most → [] ≡ take most ys
  none_wanted zero ys e = refl
  none_wanted (suc m) ys e = absurd (omega arith)

  abbrev none : List (List ℕ × ℕ)
  none = []

  take_none : (most : ℕ) → none ≡ take most none
  take_none zero = refl
  take_none (suc m) = refl

  module _ (e y : List ℕ × ℕ) (es ys : List (List ℕ × ℕ)) (up : T (below_all R e.0 es)) (over : T (below_all R y.0 ys)) (most : ℕ)
      (among : Among (e ∷ es) (y ∷ ys)) (reaches : Reaches (suc most) (e ∷ es) (y ∷ ys)) where
    same_first : (o : Ordering) → R e.0 y.0 ≡ o → (e.0 ≡ y.0) × (e.1 ≡ y.1)
    same_first Less is =
        let none : at e.0 (y ∷ ys) ≡ None = at_below e.0 (y ∷ ys) (both _ _ (lesser _ is) (below_more e.0 y.0 ys is over)) in
        absurd (no_pair e.1 (sym none ∙ among e.0 e.1 (at_first e es)))
    same_first Greater is =
        let under : R y.0 e.0 ≡ Less = (key_total descending).antisymm y.0 e.0 ∙ ap ordering_reverse is in
        let none : at y.0 (e ∷ es) ≡ None = at_below y.0 (e ∷ es) (both _ _ (lesser _ under) (below_more y.0 e.0 es under up)) in
        elim (reaches y.0 y.1 (at_first y ys)) [
          | inl there ↦ absurd (no_pair y.1 (sym none ∙ there))
          | inr full ↦ let before : R e.0 y.0 ≡ Less = full.1 e.0 e.1 (at_first e es) in absurd (not_less e.0 ((key_total descending).trans e.0 y.0 e.0 before under))
        ]
    same_first Equal is =
        let keys : e.0 ≡ y.0 = key_apart descending e.0 y.0 is in
        let nodes : e.1 ≡ y.1 = same_Some e.1 y.1 (sym (among e.0 e.1 (at_first e es)) ∙ ap (λ k. at k (y ∷ ys)) keys ∙ at_first y ys) in
        (keys, nodes)

    module _ (keys : e.0 ≡ y.0) where
      apart_e : (q : List ℕ) (n : ℕ) → at q ys ≡ Some n → eq_by_cmp R q e.0 ≡ false
      apart_e q n h = ap (eq_by_cmp R q) keys ∙ apart q y ys n over h

      apart_y : (q : List ℕ) (n : ℕ) → at q es ≡ Some n → eq_by_cmp R q y.0 ≡ false
      apart_y q n h = ap (eq_by_cmp R q) (sym keys) ∙ apart q e es n up h

      among_rest : Among es ys
      among_rest q n h =
          let here : at q (e ∷ es) ≡ Some n = ap (λ b. cond b (Some e.1) (at q es)) (apart q e es n up h) ∙ h in
          sym (ap (λ b. cond b (Some y.1) (at q ys)) (apart_y q n h)) ∙ among q n here

      reaches_rest : Reaches most es ys
      reaches_rest q n h =
          let there : at q (y ∷ ys) ≡ Some n = ap (λ b. cond b (Some y.1) (at q ys)) (apart q y ys n over h) ∙ h in
          elim (reaches q n there) [
            | inl is ↦ inl (sym (ap (λ b. cond b (Some e.1) (at q es)) (apart_e q n h)) ∙ is)
            | inr full ↦ inr (
              omega (arith, full.0),
              λ x k is. full.1 x k (ap (λ b. cond b (Some e.1) (at x es)) (apart x e es k up is) ∙ is),
            )
          ]

  pub first_are : (most : ℕ) (es ys : List (List ℕ × ℕ)) → T (is_sorted R es) → T (is_sorted R ys) → Among es ys → Reaches most es ys → length es ≤ most → es ≡ take most ys
  first_are most [] [] up over among reaches few = take_none most
  first_are most [] (y ∷ ys) up over among reaches few =
      elim (reaches y.0 y.1 (at_first y ys)) [
        | inl is ↦ absurd (no_pair y.1 is)
        | inr full ↦ none_wanted most (y ∷ ys) full.0
      ]
  first_are most (e ∷ es) [] up over among reaches few = absurd (no_pair e.1 (among e.0 e.1 (at_first e es)))
  first_are zero (e ∷ es) (y ∷ ys) up over among reaches few = absurd (omega (arith, few))
  first_are (suc most) (e ∷ es) (y ∷ ys) up over among reaches few =
      let ue = first (below_all R e.0 es) (is_sorted R es) up in
      let uy = first (below_all R y.0 ys) (is_sorted R ys) over in
      let same = same_first e y es ys ue uy most among reaches (R e.0 y.0) refl in
      let pair : e ≡ y = λ i. (same.0 i, same.1 i) in
      let rest = first_are most es ys (second (below_all R e.0 es) (is_sorted R es) up) (second (below_all R y.0 ys) (is_sorted R ys) over)
      (among_rest e y es ys ue uy most among reaches same.0) (reaches_rest e y es ys ue uy most among reaches same.0) (omega (arith, few)) in
      λ i. pair i ∷ rest i
