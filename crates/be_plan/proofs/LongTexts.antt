-- Strings in values, compared with a string that is longer than any of them.
use Rattle.std.proofs.Common.{◌≡◌, ◌<◌, ◌≤◌, ℕ, suc, zero, Bool, true, false, List, [], ◌∷◌, ◌++◌, ◌||◌, length, nat_eq, append_assoc, take, drop, refl, sym, ap, ◌∙◌, arith, ◌⊎◌, inl, inr}
use Rattle.std.proofs.lemmas.List.{length-take-le, length-drop, take-append-drop}
use Rattle.std.specs.Int.{to_be_bytes, w64}
use Rattle.std.specs.Ordering.{nat_cmp, is_lt, is_gt, ordering_then}
use Rattle.std.specs.Cmp.{nat_cmp_is}
use Rattle.std.specs.declared.cmp.Ordering.{Ordering}
use Rattle.std.specs.declared.cmp.Ordering.TheVariants.{Less, Equal, Greater}
use Rattle.be_value.specs.Key.{key}
use Rattle.be_value.specs.Name.{has_nul}
use Rattle.be_value.specs.declared.values.Value.TheVariants.{Cstr}
use Rattle.be_query.specs.declared.tree.Cmp.{Cmp}
use Rattle.be_query.specs.declared.tree.Cmp.TheVariants.{Lt, Le, Gt, Ge}
use Rattle.be_volume.specs.Maps.{name_cmp}
use Rattle.be_volume.specs.Query.{is_true_of}
use Rattle.be_plan.proofs.Bounds.{not_true}

positive : (x : ℕ) → nat_eq x 0 ≡ false → 0 < x
positive zero h = cc
positive (suc x) h = omega arith

-- Without its first byte, a string without zero bytes still has none.
pub some_byte : (x : ℕ) (xs : List ℕ) → has_nul (x ∷ xs) ≡ false → (0 < x) × (has_nul xs ≡ false)
some_byte x xs h = by (nat_eq x 0) refl h
  where
    by : (b : Bool) → nat_eq x 0 ≡ b → (b || has_nul xs) ≡ false → (0 < x) × (has_nul xs ≡ false)
    by true e h = cc
    by false e h = (positive x e, h)

module _ (s : List ℕ) where
  not_below : (front rest text : List ℕ) → 0 < length rest → length text ≤ length front → is_lt (name_cmp text (front ++ rest)) ≡ false →
      is_lt (name_cmp (text ++ 0 ∷ s) (front ++ 1 ∷ [])) ≡ false
  not_below [] [] text some few h = absurd (omega arith)
  not_below [] (r ∷ rest) [] some few h = cc
  not_below [] (r ∷ rest) (c ∷ text) some few h = absurd (omega arith)
  not_below (x ∷ front) rest [] some few h = cc
  not_below (x ∷ front) rest (c ∷ text) some few h = by (nat_cmp c x) h (λ e. not_below front rest text some (omega arith) e)
    where
      by : (o : Ordering) → is_lt (ordering_then o (name_cmp text (front ++ rest))) ≡ false →
          (is_lt (name_cmp text (front ++ rest)) ≡ false → is_lt (name_cmp (text ++ 0 ∷ s) (front ++ 1 ∷ [])) ≡ false) →
          is_lt (ordering_then o (name_cmp (text ++ 0 ∷ s) (front ++ 1 ∷ []))) ≡ false
      by Less h more = cc
      by Equal h more = more h
      by Greater h more = refl

  not_above : (front rest text : List ℕ) → has_nul front ≡ false → length text ≤ length front → is_gt (name_cmp text (front ++ rest)) ≡ false →
      is_gt (name_cmp (text ++ 0 ∷ s) (front ++ 1 ∷ [])) ≡ false
  not_above [] rest [] clean few h = refl
  not_above [] rest (c ∷ text) clean few h = absurd (omega arith)
  not_above (x ∷ front) rest [] clean few h =
      let less : nat_cmp 0 x ≡ Less = sym (nat_cmp_is 0 x Less (some_byte x front clean).0) in
      ap (λ o. is_gt (ordering_then o (name_cmp s (front ++ 1 ∷ [])))) less
  not_above (x ∷ front) rest (c ∷ text) clean few h = by (nat_cmp c x) h (λ e. not_above front rest text (some_byte x front clean).1 (omega arith) e)
    where
      by : (o : Ordering) → is_gt (ordering_then o (name_cmp text (front ++ rest))) ≡ false →
          (is_gt (name_cmp text (front ++ rest)) ≡ false → is_gt (name_cmp (text ++ 0 ∷ s) (front ++ 1 ∷ [])) ≡ false) →
          is_gt (ordering_then o (name_cmp (text ++ 0 ∷ s) (front ++ 1 ∷ []))) ≡ false
      by Less h more = refl
      by Equal h more = more h
      by Greater h more = cc

not_lower : (op : Cmp) (o : Ordering) → (op ≡ Gt) ⊎ (op ≡ Ge) → is_true_of op o ≡ true → is_lt o ≡ false
not_lower op o is h = elim is [ inl e ↦ greater o (sym (ap (λ p. is_true_of p o) e) ∙ h) | inr e ↦ not_true _ (sym (ap (λ p. is_true_of p o) e) ∙ h) ]
  where
    greater : (o : Ordering) → is_gt o ≡ true → is_lt o ≡ false
    greater Less h = cc
    greater Equal h = cc
    greater Greater h = refl

not_higher : (op : Cmp) (o : Ordering) → (op ≡ Lt) ⊎ (op ≡ Le) → is_true_of op o ≡ true → is_gt o ≡ false
not_higher op o is h = elim is [ inl e ↦ less o (sym (ap (λ p. is_true_of p o) e) ∙ h) | inr e ↦ not_true _ (sym (ap (λ p. is_true_of p o) e) ∙ h) ]
  where
    less : (o : Ordering) → is_lt o ≡ true → is_gt o ≡ false
    less Less h = refl
    less Equal h = cc
    less Greater h = cc

-- The key for the string of a value, compared with the first 255 bytes of a longer string followed
-- by a byte 1.
module _ (words text : List ℕ) (n : ℕ) (long : 255 < length words) (short : length text ≤ 255) where
  few : length text ≤ length (take 255 words)
  few = omega (arith, length-take-le 255 words (omega arith))

  some : 0 < length (drop 255 words)
  some = omega (arith, length-drop 255 words)

  key_is : key (Cstr text) n ≡ text ++ 0 ∷ to_be_bytes w64 n
  key_is = append_assoc text (0 ∷ []) (to_be_bytes w64 n)

  pub long_from : (op : Cmp) → (op ≡ Gt) ⊎ (op ≡ Ge) → is_true_of op (name_cmp text words) ≡ true → is_lt (name_cmp (key (Cstr text) n) (take 255 words ++ 1 ∷ [])) ≡ false
  long_from op is h =
      ap (λ k. is_lt (name_cmp k (take 255 words ++ 1 ∷ []))) key_is
      ∙ not_below (to_be_bytes w64 n) (take 255 words) (drop 255 words) text some few
      (ap (λ w. is_lt (name_cmp text w)) (take-append-drop 255 words) ∙ not_lower op (name_cmp text words) is h)

  pub long_to : (op : Cmp) → (op ≡ Lt) ⊎ (op ≡ Le) → has_nul (take 255 words) ≡ false → is_true_of op (name_cmp text words) ≡ true →
      is_gt (name_cmp (key (Cstr text) n) (take 255 words ++ 1 ∷ [])) ≡ false
  long_to op is clean h =
      ap (λ k. is_gt (name_cmp k (take 255 words ++ 1 ∷ []))) key_is
      ∙ not_above (to_be_bytes w64 n) (take 255 words) (drop 255 words) text clean few
      (ap (λ w. is_gt (name_cmp text w)) (take-append-drop 255 words) ∙ not_higher op (name_cmp text words) is h)
