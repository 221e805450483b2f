-- The position of a cursor in an ordered list.
use Rattle.std.proofs.Common.{◌≡◌, ◌⊎◌, ℕ, zero, suc, Bool, true, false, ◌&&◌, cond, List, [], ◌∷◌, refl, sym, ap, ◌∙◌, arith, Some, None, inl, inr, take, drop}
use Rattle.std.specs.Prelude.{T}
use Rattle.std.specs.List.{Contains}
use Rattle.std.specs.Ordering.{is_lt}
use Rattle.std.specs.Cmp.{tied_itself}
use Rattle.std.specs.FinMap.Entries.{is_sorted, below_all}
use Rattle.std.specs.declared.option.Option.{Option}
use Rattle.std.specs.declared.cmp.Ordering.{Ordering}
use Rattle.std.specs.declared.cmp.Ordering.TheVariants.{Less, Equal, Greater}
use Rattle.be_order.specs.Ordered.{after, cursor_at, is_after, key_cmp, keys_of}
use Rattle.be_order.proofs.Filters.{filter_twice, from_filter}
use Rattle.be_order.proofs.KeyLists.{key_total}
use Rattle.be_order.proofs.WalkedPages.{contains_front}

first : (a b : Bool) → T (a && b) → T a
first true b p = tt
first false b p = p

second : (a b : Bool) → T (a && b) → T b
second true b p = p
second false b p = absurd p

less : (o : Ordering) → T (is_lt o) → o ≡ Less
less Less p = refl
less Equal p = absurd p
less Greater p = absurd p

less_if : (o : Ordering) → is_lt o ≡ true → o ≡ Less
less_if Less e = refl
less_if Equal e = cc
less_if Greater e = cc

abbrev Entries : Type 0
Entries = List (List ℕ × ℕ)

module _ (descending : Bool) where
  abbrev R : List ℕ → List ℕ → Ordering
  R = key_cmp descending

  not_less : (k : List ℕ) → is_lt (R k k) ≡ false
  not_less k = ap is_lt (tied_itself (key_total descending) k)

  not_back : (z k : List ℕ) → R z k ≡ Less → is_lt (R k z) ≡ false
  not_back z k e = by (R k z) refl
    where
      by : (o : Ordering) → R k z ≡ o → is_lt o ≡ false
      by Less f = let no = (key_total descending).trans z k z e f in let same = tied_itself (key_total descending) z in cc
      by Equal f = refl
      by Greater f = refl

  -- Everything above a key comes after it.
  all_after : (k : List ℕ) (es : Entries) → T (below_all R k es) → after descending (Some k) es ≡ es
  all_after k [] h = refl
  all_after k (e ∷ es) h =
      ap (λ b. cond b (e ∷ after descending (Some k) es) (after descending (Some k) es)) (ap is_lt (less _ (first _ _ h))) ∙ ap (λ l. e ∷ l) (all_after k es (second _ _ h))

  -- If the cursor is moved to later keys, no earlier key comes after it.
  left_behind : (z k : List ℕ) (n : ℕ) (es : Entries) → is_lt (R k z) ≡ false → T (below_all R z es) → is_after descending (cursor_at (Some k) (keys_of (take n es))) z ≡ false
  left_behind z k zero es h below = h
  left_behind z k (suc n) [] h below = h
  left_behind z k (suc n) (e ∷ es) h below = left_behind z e.0 n es (not_back z e.0 (less _ (first _ _ below))) (second _ _ below)

  -- The entries after the last of the first `n` entries are all the others.
  dropped : (n : ℕ) (cursor : Option (List ℕ)) (es : Entries) → T (is_sorted R es) → after descending cursor es ≡ es → after descending (cursor_at cursor (keys_of (take n es))) es ≡ drop n es
  dropped zero cursor es sorted all = all
  dropped (suc n) cursor [] sorted all = refl
  dropped (suc n) cursor (e ∷ es) sorted all =
      ap (λ b. cond b (e ∷ after descending (cursor_at (Some e.0) (keys_of (take n es))) es) (after descending (cursor_at (Some e.0) (keys_of (take n es))) es))
      (left_behind e.0 e.0 n es (not_less e.0) (first _ _ sorted))
      ∙ dropped n (Some e.0) es (second _ _ sorted) (all_after e.0 es (first _ _ sorted))

  -- The cursor is either unchanged or the key of an entry.
  moved_to : (cursor : Option (List ℕ)) (es : Entries) → (cursor_at cursor (keys_of es) ≡ cursor) ⊎ ((e : List ℕ × ℕ) × Contains es e × (cursor_at cursor (keys_of es) ≡ Some e.0))
  moved_to cursor [] = inl refl
  moved_to cursor (e ∷ es) = elim (moved_to (Some e.0) es) [
    | inl here ↦ inr (e, (0, omega arith, refl), here)
    | inr there ↦ inr (there.0, (suc there.1.0, omega (arith, there.1.1), there.1.2), there.2)
  ]

  further : (cursor : Option (List ℕ)) (k x : List ℕ) → is_after descending cursor k ≡ true → is_after descending (Some k) x ≡ true → is_after descending cursor x ≡ true
  further None k x h g = refl
  further (Some c) k x h g = ap is_lt ((key_total descending).trans c k x (less_if _ h) (less_if _ g))

  -- The entries after the last of the first `n` entries that follow a cursor.
  pub after_part : (n : ℕ) (cursor : Option (List ℕ)) (es : Entries) → T (is_sorted R (after descending cursor es)) →
      after descending (cursor_at cursor (keys_of (take n (after descending cursor es)))) es ≡ drop n (after descending cursor es)
  after_part n cursor es sorted =
      let ahead = after descending cursor es in
      let next = cursor_at cursor (keys_of (take n ahead)) in
      sym (filter_twice (λ (e : List ℕ × ℕ). is_after descending next e.0) (λ (e : List ℕ × ℕ). is_after descending cursor e.0) (λ e h. reach e.0 h) es)
      ∙ dropped n cursor ahead sorted (filter_twice (λ (e : List ℕ × ℕ). is_after descending cursor e.0) (λ (e : List ℕ × ℕ). is_after descending cursor e.0) (λ e h. h) es)
    where
      reach : (x : List ℕ) → is_after descending (cursor_at cursor (keys_of (take n (after descending cursor es)))) x ≡ true → is_after descending cursor x ≡ true
      reach x h = elim (moved_to cursor (take n (after descending cursor es))) [
        | inl stays ↦ ap (λ c. is_after descending c x) (sym stays) ∙ h
        | inr moves ↦
            let there = from_filter (λ (e : List ℕ × ℕ). is_after descending cursor e.0) es moves.0 (contains_front n (after descending cursor es) moves.0 moves.1) in
            further cursor moves.0.0 x there.1 (ap (λ c. is_after descending c x) (sym moves.2) ∙ h)
      ]
