-- Ascending pairs are no more numerous than a list of keys that includes theirs.
use Rattle.std.proofs.Common.{◌≡◌, ℕ, ◌≤◌, Bool, true, false, cond, ◌||◌, List, [], ◌∷◌, map, length, Some, None, is_some, unwrap_or, ap, sym, subst, ◌∙◌, refl}
use Rattle.std.specs.FinMap.{IsAntisymmetric}
use Rattle.std.specs.FinMap.Entries.{find}
use Rattle.std.specs.Cmp.{IsEquivalence, eq_by_cmp_equiv}
use Rattle.std.specs.List.{AllByRecursion, IsDistinct, flat_map, list_any}
use Rattle.std.specs.Ordering.{eq_by_cmp, is_eq}
use Rattle.std.specs.declared.cmp.Ordering.{Ordering}
use Rattle.std.specs.declared.cmp.Ordering.TheVariants.{Less, Equal, Greater}
use Rattle.std.proofs.lemmas.List.{length-map}
use Rattle.std.proofs.lemmas.List.Folds.{list_any-append}
use Rattle.std.proofs.lemmas.Map.Made.{length-le_from_is_member}
use Rattle.be_tree_reading.specs.Pair.{Pair}
use Rattle.be_tree_reading.specs.Key.{AllAbove, IsRising, key_cmp, payload_at}
use Rattle.be_tree_reading.proofs.Order.{key_total, key_cmp_flip}

pub same_key : IsEquivalence (eq_by_cmp key_cmp)
same_key = eq_by_cmp_equiv key_total

-- whether the key is one of `ys`
abbrev pub is_in : List (List ℕ) → List ℕ → Bool
is_in ys q = list_any (eq_by_cmp key_cmp q) ys

apart : (k : List ℕ) (xs : List Pair) → AllAbove k xs → AllByRecursion (λ y. eq_by_cmp key_cmp k y ≡ false) (map (λ x. x.key) xs)
apart k [] h = tt
apart k (x ∷ xs) h = (ap is_eq (key_cmp_flip x.key k h.0), apart k xs h.1)

distinct : (xs : List Pair) → IsRising xs → IsDistinct (eq_by_cmp key_cmp) (map (λ x. x.key) xs)
unfolding IsDistinct
distinct [] h = tt
distinct (x ∷ xs) h = (apart x.key xs h.0, distinct xs h.1)

found : (xs : List Pair) (q : List ℕ) → is_in (map (λ x. x.key) xs) q ≡ true → is_some (payload_at xs q) ≡ true
found [] q e = e
found (x ∷ xs) q e = by (eq_by_cmp key_cmp q x.key) refl (found xs q) e
  where
    by : (b : Bool) → eq_by_cmp key_cmp q x.key ≡ b → (is_in (map (λ x. x.key) xs) q ≡ true → is_some (payload_at xs q) ≡ true) → (b || is_in (map (λ x. x.key) xs) q) ≡ true
        → is_some (cond (eq_by_cmp key_cmp x.key q) (Some x.payload) (payload_at xs q)) ≡ true
    by true t rest e = ap (λ b. is_some (cond b (Some x.payload) (payload_at xs q))) (sym (same_key.symm q x.key) ∙ t)
    by false t rest e = ap (λ b. is_some (cond b (Some x.payload) (payload_at xs q))) (sym (same_key.symm q x.key) ∙ t) ∙ rest e

pub few_pairs : (xs : List Pair) (ys : List (List ℕ)) → IsRising xs → ((q : List ℕ) → is_some (payload_at xs q) ≡ true → is_in ys q ≡ true) → length xs ≤ length ys
few_pairs xs ys rising among =
    subst (λ n. n ≤ length ys) (length-map xs (λ x. x.key)) (length-le_from_is_member same_key (map (λ x. x.key) xs) ys (distinct xs rising) (λ q e. among q (found xs q e)))

-- if the second of two tests passes, one of them passes
pub or_right : (a b : Bool) → b ≡ true → (a || b) ≡ true
or_right true b e = refl
or_right false b e = e

pub or_left : (a b : Bool) → a ≡ true → (a || b) ≡ true
or_left true b e = refl
or_left false b e = absurd (never e)
  where
    never : false ≡ true → ⊥
    never e = cc

equal_of : (o : Ordering) → is_eq o ≡ true → o ≡ Equal
equal_of Less e = cc
equal_of Equal e = refl
equal_of Greater e = cc

pub any_entry : {K X : Type 0} (R : K → K → Ordering) (exact : IsAntisymmetric R) (test : K × X → Bool) (es : List (K × X)) (k : K) (v : X) → find R k es ≡ Some v → test (k, v) ≡ true → list_any test es ≡ true
any_entry R exact test [] k v e passes = absurd (never e)
  where
    never : None ≡ Some v → ⊥
    never e = cc
any_entry R exact test (x ∷ xs) k v e passes = by (eq_by_cmp R k x.0) refl (λ f. any_entry R exact test xs k v f passes) e
  where
    by : (b : Bool) → eq_by_cmp R k x.0 ≡ b → (find R k xs ≡ Some v → list_any test xs ≡ true) → cond b (Some x.1) (find R k xs) ≡ Some v → (test x || list_any test xs) ≡ true
    by true t rest e =
        let key = exact k x.0 (equal_of (R k x.0) t) in
        let value : x.1 ≡ v = ap (λ o. unwrap_or o v) e in
        or_left (test x) (list_any test xs) (ap (λ a. test (a, x.1)) (sym key) ∙ ap (λ a. test (k, a)) value ∙ passes)
    by false t rest e = or_right (test x) (list_any test xs) (rest e)

pub any_flat : {A : Type 0} (f : A → List (List ℕ)) (q : List ℕ) (es : List A) → is_in (flat_map f es) q ≡ list_any (λ e. is_in (f e) q) es
any_flat f q [] = refl
any_flat f q (x ∷ xs) = list_any-append (eq_by_cmp key_cmp q) (f x) (flat_map f xs) ∙ ap (λ b. is_in (f x) q || b) (any_flat f q xs)

pub any_map : {A : Type 0} (f : A → List ℕ) (q : List ℕ) (es : List A) → is_in (map f es) q ≡ list_any (λ e. eq_by_cmp key_cmp q (f e)) es
any_map f q [] = refl
any_map f q (x ∷ xs) = ap (λ b. eq_by_cmp key_cmp q (f x) || b) (any_map f q xs)
