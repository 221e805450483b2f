-- Keys in the order of an index: ordered lists with the same members are equal.
use Rattle.std.proofs.Common.{◌≡◌, ℕ, zero, suc, Bool, true, false, ◌&&◌, ◌||◌, cond, List, [], ◌∷◌, refl, sym, ap, ◌∙◌, arith, Some, None, is_some, map, unwrap_or}
use Rattle.std.specs.Prelude.{T}
use Rattle.std.specs.List.{Contains, list_any, AllByRecursion}
use Rattle.std.specs.List.Sorted.{IsStrictlySortedBy}
use Rattle.std.specs.Ordering.{is_eq, is_lt, eq_by_cmp}
use Rattle.std.specs.Cmp.{IsTotalOrder, back_total, tied_itself, both_ways}
use Rattle.std.specs.Cmp.Lexicographic.{nat_list_cmp_total}
use Rattle.std.specs.FinMap as fin
use Rattle.std.specs.FinMap.{IsAntisymmetric, nat_cmp-IsAntisymmetric, slice_cmp-IsAntisymmetric}
use Rattle.std.specs.FinMap.Entries.{find, is_sorted, below_all, where_key, same_entries, is_sorted-where_key, find-where_key, is_some-find}
use Rattle.std.specs.declared.option.Option.{Option}
use Rattle.std.specs.declared.cmp.Ordering.{Ordering}
use Rattle.std.specs.declared.cmp.Ordering.TheVariants.{Less, Equal, Greater}
use Rattle.be_order.specs.Ordered.{key_cmp, after, is_after, keys_of}

pub key_total : (descending : Bool) → IsTotalOrder (key_cmp descending)
key_total true = back_total nat_list_cmp_total
key_total false = nat_list_cmp_total

pub key_apart : (descending : Bool) → IsAntisymmetric (key_cmp descending)
key_apart true = λ a b e. sym (slice_cmp-IsAntisymmetric nat_cmp-IsAntisymmetric b a e)
key_apart false = slice_cmp-IsAntisymmetric nat_cmp-IsAntisymmetric

both : (a b : Bool) → T a → T b → T (a && b)
both true b p q = q
both false b p q = p

is_less : (r : Ordering) → r ≡ Less → T (is_lt r)
is_less Less h = tt
is_less Equal h = cc
is_less Greater h = cc

is_equal : (r : Ordering) → is_eq r ≡ true → r ≡ Equal
is_equal Less h = cc
is_equal Equal h = refl
is_equal Greater h = cc

module _ (descending : Bool) where
  -- The list contains the key.
  abbrev pub is_key_in : List ℕ → List (List ℕ) → Bool
  is_key_in k ks = list_any (eq_by_cmp (key_cmp descending) k) ks

  pub is_itself : (k : List ℕ) → eq_by_cmp (key_cmp descending) k k ≡ true
  is_itself k = ap is_eq (tied_itself (key_total descending) k)

  pub is_same : (a b : List ℕ) → eq_by_cmp (key_cmp descending) a b ≡ true → a ≡ b
  is_same a b h = key_apart descending a b (is_equal _ h)

  pub is_in_contained : (ks : List (List ℕ)) (k : List ℕ) → Contains ks k → is_key_in k ks ≡ true
  is_in_contained [] k (i, below, is) = absurd (omega arith)
  is_in_contained (x ∷ ks) k (zero, below, is) = by (eq_by_cmp (key_cmp descending) k x) (ap (eq_by_cmp (key_cmp descending) k) is ∙ is_itself k)
    where
      by : (b : Bool) → b ≡ true → (b || is_key_in k ks) ≡ true
      by true h = refl
      by false h = cc
  is_in_contained (x ∷ ks) k (suc i, below, is) = by (eq_by_cmp (key_cmp descending) k x) (is_in_contained ks k (i, omega arith, is))
    where
      by : (b : Bool) → is_key_in k ks ≡ true → (b || is_key_in k ks) ≡ true
      by true h = refl
      by false h = h

  pub contained_is_in : (ks : List (List ℕ)) (k : List ℕ) → is_key_in k ks ≡ true → Contains ks k
  contained_is_in [] k h = cc
  contained_is_in (x ∷ ks) k h = by (eq_by_cmp (key_cmp descending) k x) refl h (λ g. contained_is_in ks k g)
    where
      by : (b : Bool) → eq_by_cmp (key_cmp descending) k x ≡ b → (b || is_key_in k ks) ≡ true → (is_key_in k ks ≡ true → Contains ks k) → Contains (x ∷ ks) k
      by true e g more = (0, omega arith, sym (is_same k x e))
      by false e g more = let later : Contains ks k = more g in (suc later.0, omega (arith, later.1), later.2)

  pub same_members : (xs ys : List (List ℕ)) → ((k : List ℕ) → Contains xs k → Contains ys k) → ((k : List ℕ) → Contains ys k → Contains xs k) →
      (k : List ℕ) → is_key_in k xs ≡ is_key_in k ys
  same_members xs ys f g k = both_ways _ _
      (λ h. is_in_contained ys k (f k (contained_is_in xs k h)))
      (λ h. is_in_contained xs k (g k (contained_is_in ys k h)))

  module _ (g : List ℕ → ℕ) where
    -- Each key with its node.
    abbrev pub with_nodes : List (List ℕ) → List (List ℕ × ℕ)
    with_nodes ks = map (λ k. (k, g k)) ks

    below_nodes : (k : List ℕ) (ks : List (List ℕ)) → AllByRecursion (λ x. key_cmp descending k x ≡ Less) ks → T (below_all (key_cmp descending) k (with_nodes ks))
    below_nodes k [] h = tt
    below_nodes k (x ∷ ks) h = both _ _ (is_less _ h.0) (below_nodes k ks h.1)

    pub sorted_nodes : (ks : List (List ℕ)) → IsStrictlySortedBy (key_cmp descending) ks → T (is_sorted (key_cmp descending) (with_nodes ks))
    unfolding IsStrictlySortedBy
    sorted_nodes [] h = tt
    sorted_nodes (x ∷ ks) h = both _ _ (below_nodes x ks h.0) (sorted_nodes ks h.1)

    find_nodes : (q : List ℕ) (ks : List (List ℕ)) → find (key_cmp descending) q (with_nodes ks) ≡ cond (is_key_in q ks) (Some (g q)) None
    find_nodes q [] = refl
    find_nodes q (x ∷ ks) = by (eq_by_cmp (key_cmp descending) q x) refl (find_nodes q ks)
      where
        by : (b : Bool) → eq_by_cmp (key_cmp descending) q x ≡ b → find (key_cmp descending) q (with_nodes ks) ≡ cond (is_key_in q ks) (Some (g q)) None →
            cond b (Some (g x)) (find (key_cmp descending) q (with_nodes ks)) ≡ cond (b || is_key_in q ks) (Some (g q)) None
        by true e h = ap (λ k. Some (g k)) (sym (is_same q x e))
        by false e h = h

  -- The node that a list has for a key.
  abbrev pub node_for : List (List ℕ × ℕ) → List ℕ → ℕ
  node_for es k = unwrap_or (find (key_cmp descending) k es) 0

  module _ (cursor : Option (List ℕ)) (es : List (List ℕ × ℕ)) where
    abbrev in_reach : List ℕ → Bool
    in_reach = is_after descending cursor

    abbrev left : List (List ℕ × ℕ)
    left = after descending cursor es

    abbrev ranked : fin.FinMap (key_cmp descending) ℕ
    ranked = fin.from_entries es

    alike : (q x : List ℕ) → key_cmp descending q x ≡ Equal → in_reach x ≡ in_reach q
    alike q x e = ap in_reach (sym (key_apart descending q x e))

    kept : (q : List ℕ) → find (key_cmp descending) q left ≡ find (key_cmp descending) q (where_key (key_cmp descending) in_reach (fin.entries ranked))
    kept q = find-where_key (key_cmp descending) in_reach q (alike q) es
        ∙ ap (λ (o : Option ℕ). cond (in_reach q) o None) (sym (fin.get-from_entries (key_total descending) es q) ∙ fin.get-entries ranked q)
        ∙ sym (find-where_key (key_cmp descending) in_reach q (alike q) (fin.entries ranked))

    -- What is found after the cursor in an ordered answer.
    pub found_after : (q : List ℕ) → find (key_cmp descending) q (after descending cursor (fin.entries (fin.from_entries {R = key_cmp descending} es))) ≡
        cond (in_reach q) (find (key_cmp descending) q es) None
    found_after q = find-where_key (key_cmp descending) in_reach q (alike q) (fin.entries ranked)
        ∙ ap (λ (o : Option ℕ). cond (in_reach q) o None) (sym (fin.get-entries ranked q) ∙ fin.get-from_entries (key_total descending) es q)

    module _ (ks : List (List ℕ)) (members : (k : List ℕ) → is_key_in k ks ≡ is_key_in k (keys_of left)) where
      found_in : (q : List ℕ) (found : Option ℕ) → find (key_cmp descending) q left ≡ found → cond (is_key_in q ks) (Some (node_for left q)) None ≡ find (key_cmp descending) q left
      found_in q None e = ap (λ b. cond b (Some (node_for left q)) None) (members q ∙ sym (is_some-find (key_cmp descending) q left) ∙ ap is_some e) ∙ sym e
      found_in q (Some n) e = ap (λ b. cond b (Some (node_for left q)) None) (members q ∙ sym (is_some-find (key_cmp descending) q left) ∙ ap is_some e)
          ∙ ap (λ (o : Option ℕ). Some (unwrap_or o 0)) e ∙ sym e

      -- If ordered keys are exactly the keys of a list, they are its entries in order.
      pub in_order_is : IsStrictlySortedBy (key_cmp descending) ks →
          with_nodes (node_for left) ks ≡ after descending cursor (fin.entries (fin.from_entries {R = key_cmp descending} es))
      in_order_is sorted =
          same_entries (key_cmp descending) (key_total descending) (key_apart descending) _ _
          (sorted_nodes (node_for left) ks sorted)
          (is_sorted-where_key (key_cmp descending) in_reach _ (fin.entries_sorted ranked))
          (λ q. find_nodes (node_for left) q ks ∙ found_in q (find (key_cmp descending) q left) refl ∙ kept q)
