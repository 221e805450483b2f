-- What a filtered list contains.
use Rattle.std.proofs.Common.{◌≡◌, ℕ, zero, suc, Bool, true, false, ◌&&◌, cond, List, [], ◌∷◌, refl, sym, ap, ◌∙◌, subst, arith, filter}
use Rattle.std.specs.Prelude.{T}
use Rattle.std.specs.List.{Contains}
use Rattle.std.specs.FinMap.Entries.{is_sorted, below_all}
use Rattle.be_order.specs.Ordered.{key_cmp, nodes_of}

module _ {X : Type 0} (p : X → Bool) where
  pub from_filter : (xs : List X) (y : X) → Contains (filter p xs) y → Contains xs y × (p y ≡ true)
  from_filter [] y (k, below, is) = absurd (omega arith)
  from_filter (x ∷ xs) y h = by (p x) refl h (from_filter xs y)
    where
      later : Contains xs y × (p y ≡ true) → Contains (x ∷ xs) y × (p y ≡ true)
      later r = ((suc r.0.0, omega (arith, r.0.1), r.0.2), r.1)

      by : (b : Bool) → p x ≡ b → Contains (cond b (x ∷ filter p xs) (filter p xs)) y → (Contains (filter p xs) y → Contains xs y × (p y ≡ true)) → Contains (x ∷ xs) y × (p y ≡ true)
      by true e (zero, below, is) rest = ((0, omega arith, is), ap p (sym is) ∙ e)
      by true e (suc k, below, is) rest = later (rest (k, omega arith, is))
      by false e h rest = later (rest h)

  pub in_filter : (xs : List X) (y : X) → Contains xs y → p y ≡ true → Contains (filter p xs) y
  in_filter [] y (k, below, is) e = absurd (omega arith)
  in_filter (x ∷ xs) y (zero, below, is) e = subst (λ b. Contains (cond b (x ∷ filter p xs) (filter p xs)) y) (sym (ap p is ∙ e)) (0, omega arith, is)
  in_filter (x ∷ xs) y (suc k, below, is) e = by (p x) (in_filter xs y (k, omega arith, is) e)
    where
      by : (b : Bool) → Contains (filter p xs) y → Contains (cond b (x ∷ filter p xs) (filter p xs)) y
      by true r = (suc r.0, omega (arith, r.1), r.2)
      by false r = r

  -- Filtering by a weaker test first doesn't change the result.
  pub filter_twice : (q : X → Bool) → ((x : X) → p x ≡ true → q x ≡ true) → (xs : List X) → filter p (filter q xs) ≡ filter p xs
  filter_twice q more [] = refl
  filter_twice q more (x ∷ xs) = by (p x) (q x) refl refl (filter_twice q more xs)
    where
      by : (a b : Bool) → p x ≡ a → q x ≡ b → filter p (filter q xs) ≡ filter p xs → filter p (cond b (x ∷ filter q xs) (filter q xs)) ≡ cond a (x ∷ filter p xs) (filter p xs)
      by true true e f rest = ap (λ c. cond c (x ∷ filter p (filter q xs)) (filter p (filter q xs))) e ∙ ap (λ l. x ∷ l) rest
      by true false e f rest = let no : true ≡ false = sym (more x e) ∙ f in cc
      by false true e f rest = ap (λ c. cond c (x ∷ filter p (filter q xs)) (filter p (filter q xs))) e ∙ rest
      by false false e f rest = rest

-- The nodes that pass.
pub nodes_filter : (p : ℕ → Bool) (xs : List (List ℕ × ℕ)) → nodes_of (filter (λ e. p e.1) xs) ≡ filter p (nodes_of xs)
nodes_filter p [] = refl
nodes_filter p (x ∷ xs) = by (p x.1) (nodes_filter p xs)
  where
    by : (b : Bool) → nodes_of (filter (λ e. p e.1) xs) ≡ filter p (nodes_of xs) →
        nodes_of (cond b (x ∷ filter (λ e. p e.1) xs) (filter (λ e. p e.1) xs)) ≡ cond b (x.1 ∷ filter p (nodes_of xs)) (filter p (nodes_of xs))
    by true rest = ap (λ l. x.1 ∷ l) rest
    by false rest = rest

both : (a b : Bool) → T a → T b → T (a && b)
both true b p q = q
both false b p q = p

first : (a b : Bool) → T (a && b) → T a
first true b p = tt
first false b p = p

second : (a b : Bool) → T (a && b) → T b
second true b p = p
second false b p = absurd p

module _ (descending : Bool) (p : List ℕ × ℕ → Bool) where
  below_filter : (k : List ℕ) (es : List (List ℕ × ℕ)) → T (below_all (key_cmp descending) k es) → T (below_all (key_cmp descending) k (filter p es))
  below_filter k [] h = tt
  below_filter k (e ∷ es) h = by (p e) (below_filter k es (second _ _ h))
    where
      by : (b : Bool) → T (below_all (key_cmp descending) k (filter p es)) → T (below_all (key_cmp descending) k (cond b (e ∷ filter p es) (filter p es)))
      by true rest = both _ _ (first _ _ h) rest
      by false rest = rest

  pub sorted_filter : (es : List (List ℕ × ℕ)) → T (is_sorted (key_cmp descending) es) → T (is_sorted (key_cmp descending) (filter p es))
  sorted_filter [] h = tt
  sorted_filter (e ∷ es) h = by (p e) (sorted_filter es (second _ _ h))
    where
      by : (b : Bool) → T (is_sorted (key_cmp descending) (filter p es)) → T (is_sorted (key_cmp descending) (cond b (e ∷ filter p es) (filter p es)))
      by true rest = both _ _ (below_filter e.0 es (first _ _ h)) rest
      by false rest = rest
