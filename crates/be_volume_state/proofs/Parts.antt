-- The entries of maps from names, split by a test, and what is found in each part.
use Rattle.std.proofs.Common.{◌≡◌, ◌+◌, ℕ, Bool, true, false, cond, not, ◌&&◌, List, [], ◌∷◌, length, T, IsTrue, refl, sym, ap, ◌∙◌, arith, Some, None, map as each}
use Rattle.std.specs.Prelude.{filter}
use Rattle.std.specs.Option.{option_map}
use Rattle.std.specs.Ordering.{is_lt, is_eq, eq_by_cmp}
use Rattle.std.specs.declared.cmp.Ordering.{Ordering}
use Rattle.std.specs.declared.cmp.Ordering.TheVariants.{Less, Equal, Greater}
use Rattle.std.specs.FinMap as fin
use Rattle.std.specs.FinMap.{FinMap, find, is_sorted}
use Rattle.std.specs.FinMap.Entries.{below_all, where_key, is_sorted-where_key, find-where_key}
use Rattle.be_value.specs.Value.{is_indexable}
use Rattle.be_volume.specs.Maps.{name_cmp}
use Rattle.be_volume.specs.declared.maps.Index.{Index}
use Rattle.be_volume.proofs.MapLemmas.{exact_names, names_total}
use Rattle.be_volume_state.proofs.Observed.{own_name}
use Rattle.be_volume_state.proofs.Runs.{Distinct, AreIndexable, missed}

parts : (a b : Bool) → T (a && b) → T a × T b
parts true b p = (tt, p)
parts false b p = absurd p

less : (o : Ordering) → T (is_lt o) → o ≡ Less
less Less p = refl
less Equal p = absurd p
less Greater p = absurd p

module _ {X : Type 0} where
  find_below : (q : List ℕ) (es : List (List ℕ × X)) → T (below_all name_cmp q es) → find name_cmp q es ≡ None
  find_below q [] h = refl
  find_below q (e ∷ es) h =
      let p = parts _ _ h in
      ap (λ r. cond (is_eq r) (Some e.1) (find name_cmp q es)) (less _ p.0) ∙ find_below q es p.1

  distinct_sorted : (es : List (List ℕ × X)) → T (is_sorted name_cmp es) → Distinct es
  distinct_sorted [] h = tt
  distinct_sorted (e ∷ es) h = let p = parts _ _ h in (find_below e.0 es p.0, distinct_sorted es p.1)

  pub distinct_entries : (m : FinMap name_cmp X) → Distinct (fin.entries m)
  distinct_entries m = distinct_sorted (fin.entries m) (fin.entries_sorted m)

  module _ (m : FinMap name_cmp X) (p : List ℕ → Bool) where
    sorted_where : T (is_sorted name_cmp (where_key name_cmp p (fin.entries m)))
    sorted_where = is_sorted-where_key name_cmp p (fin.entries m) (fin.entries_sorted m)

    pub distinct_where : Distinct (filter (λ e. p e.0) (fin.entries m))
    distinct_where = distinct_sorted (filter (λ e. p e.0) (fin.entries m)) sorted_where

    pub find_where : (q : List ℕ) → find name_cmp q (filter (λ e. p e.0) (fin.entries m)) ≡ cond (p q) (fin.get m q) None
    find_where q = find-where_key name_cmp p q (λ x e. ap p (sym (exact_names q x e))) (fin.entries m) ∙ ap (λ o. cond (p q) o None) (sym (fin.get-entries m q))

    -- a map of the entries that pass the test
    pub len_where : (n : FinMap name_cmp X) → ((q : List ℕ) → fin.get n q ≡ cond (p q) (fin.get m q) None) → fin.len n ≡ length (filter (λ e. p e.0) (fin.entries m))
    len_where n h =
        let es : List (List ℕ × X) = filter (λ e. p e.0) (fin.entries m) in
        let made : FinMap name_cmp X = fin.from_sorted es in
        let same : n ≡ made = fin.same_map names_total exact_names n made (λ q. h q ∙ sym (find_where q) ∙ sym (fin.get-from_sorted name_cmp es q sorted_where)) in
        ap fin.len same ∙ fin.len-entries made ∙ ap length (fin.entries-from_sorted name_cmp es sorted_where)

  pub parted : (p : List ℕ → Bool) (es : List (List ℕ × X)) → length (filter (λ e. not (p e.0)) es) + length (filter (λ e. p e.0) es) ≡ length es
  parted p [] = refl
  parted p (e ∷ es) = by (p e.0) (parted p es)
    where
      by : (b : Bool) → length (filter (λ f. not (p f.0)) es) + length (filter (λ f. p f.0) es) ≡ length es →
          length (cond (not b) (e ∷ filter (λ f. not (p f.0)) es) (filter (λ f. not (p f.0)) es)) + length (cond b (e ∷ filter (λ f. p f.0) es) (filter (λ f. p f.0) es)) ≡ length (e ∷ es)
      by true h = omega (arith, h)
      by false h = omega (arith, h)

  pub find_each : {Y : Type 0} (f : X → Y) (q : List ℕ) (es : List (List ℕ × X)) → find name_cmp q (each (λ e. (e.0, f e.1)) es) ≡ option_map f (find name_cmp q es)
  find_each f q [] = refl
  find_each f q (e ∷ es) = by (eq_by_cmp name_cmp q e.0) (find_each f q es)
    where
      by : (b : Bool) → find name_cmp q (each (λ e. (e.0, f e.1)) es) ≡ option_map f (find name_cmp q es) →
          cond b (Some (f e.1)) (find name_cmp q (each (λ e. (e.0, f e.1)) es)) ≡ option_map f (cond b (Some e.1) (find name_cmp q es))
      by true h = refl
      by false h = h

  pub distinct_each : {Y : Type 0} (f : X → Y) (es : List (List ℕ × X)) → Distinct es → Distinct (each (λ e. (e.0, f e.1)) es)
  distinct_each f [] d = tt
  distinct_each f (e ∷ es) d = (find_each f e.0 es ∙ ap (option_map f) d.0, distinct_each f es d.1)

pub are_indexable : (es : List (List ℕ × Index)) → Distinct es → ((q : List ℕ) (i : Index) → find name_cmp q es ≡ Some i → IsTrue (is_indexable i.kind)) →
    AreIndexable (each (λ e. (e.0, e.1.kind)) es)
are_indexable [] d h = tt
are_indexable (e ∷ es) d h = (h e.0 e.1 (ap (λ b. cond b (Some e.1) (find name_cmp e.0 es)) (own_name e.0)), are_indexable es d.1 (λ q i f. h q i (later q i f)))
  where
    later : (q : List ℕ) (i : Index) → find name_cmp q es ≡ Some i → cond (eq_by_cmp name_cmp q e.0) (Some e.1) (find name_cmp q es) ≡ Some i
    later q i f = by (eq_by_cmp name_cmp q e.0) refl
      where
        by : (b : Bool) → eq_by_cmp name_cmp q e.0 ≡ b → cond b (Some e.1) (find name_cmp q es) ≡ Some i
        by true is = let none : None ≡ Some i = sym (missed e es q d.0 is) ∙ f in cc
        by false is = f
