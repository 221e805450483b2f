-- Keys that are kept with pairs, and the lowest of them from some bytes on.
use Rattle.std.proofs.Common.{◌≡◌, ◌<◌, ◌≤◌, ◌^◌, ℕ, zero, suc, Bool, true, false, not, cond, List, [], ◌∷◌, length, take, IsTrue, refl, sym, ap, subst, ◌∙◌, arith, Some, None, if◌then◌else◌}
use Rattle.std.proofs.lemmas.Option.{same_Some}
use Rattle.std.specs.Prelude.{IfSome, OnOk, OnErr, Ok, Err, Result}
use Rattle.std.specs.Result.{is_err}
use Rattle.std.specs.BTreeSet.{BTreeSet, contains, IsKeyRangeOf}
use Rattle.std.specs.BTreeMap.{is_at}
use Rattle.std.specs.BTreeMap.Range.{is_from_start, IsFromStart, IsInRange}
use Rattle.std.specs.List.{list_any, slice_get}
use Rattle.std.specs.Option.{option_and_then}
use Rattle.std.specs.Ordering.{nat_cmp, is_eq, is_lt, is_gt, is_le, ordering_then, ordering_reverse, eq_by_cmp}
use Rattle.std.specs.Cmp.{nat_cmp_total, tied_itself}
use Rattle.std.specs.declared.cmp.Ordering.{Ordering}
use Rattle.std.specs.declared.cmp.Ordering.TheVariants.{Less, Equal, Greater}
use Rattle.std.specs.declared.ops.Bound.{Bound}
use Rattle.std.specs.declared.ops.Bound.TheVariants.{Included, Excluded, Unbounded}
use Rattle.std.specs.declared.option.Option.{Option}
use Rattle.std.specs.FinMap as fin
use Rattle.std.specs.FinMap.{FinMap, nat_cmp-IsAntisymmetric, same_map}
use Rattle.be_value.specs.Key.{key, value_key}
use Rattle.be_value.specs.Value.{kind_of, is_indexable}
use Rattle.be_value.specs.declared.values.Kind.{Kind}
use Rattle.be_value.specs.declared.values.Value.{Value}
use Rattle.be_value.proofs.KeyOrder.{same_node}
use Rattle.be_volume.specs.Keys.{IsKey, IsNextKey}
use Rattle.be_volume.specs.PairKeys.{IsKeyOf, AreKeysOf, IsNext, is_at_or_after, own_key}
use Rattle.be_volume.specs.Maps.{name_cmp}
use Rattle.be_volume.specs.Sound.{IsSound, IsPaired}
use Rattle.be_volume.specs.Volume.{State}
use Rattle.be_volume.specs.declared.maps.Index.{Index}
use Rattle.be_volume.proofs.MapLemmas.{names_total, exact_names}

-- a comparison with its sides exchanged
flipped : (a b : List ℕ) → is_lt (name_cmp a b) ≡ is_gt (name_cmp b a)
flipped a b = ap is_lt (names_total.antisymm a b) ∙ turned (name_cmp b a)
  where
    turned : (r : Ordering) → is_lt (ordering_reverse r) ≡ is_gt r
    turned Less = refl
    turned Equal = refl
    turned Greater = refl

not_below : (a b : List ℕ) → is_le (name_cmp a b) ≡ not (is_lt (name_cmp b a))
not_below a b = turned (name_cmp a b) ∙ ap not (sym (flipped b a))
  where
    turned : (r : Ordering) → is_le r ≡ not (is_gt r)
    turned Less = refl
    turned Equal = refl
    turned Greater = refl

-- at most n bytes compare with more than n bytes as with the first n of them, and are never equal
-- to them
record Cut (n : ℕ) (from k : List ℕ) : Type 0 where
  after : is_gt (name_cmp k from) ≡ is_gt (name_cmp k (take n from))
  at : not (is_lt (name_cmp k from)) ≡ is_gt (name_cmp k (take n from))

then_gt : (r a b : Ordering) → is_gt a ≡ is_gt b → is_gt (ordering_then r a) ≡ is_gt (ordering_then r b)
then_gt Less a b h = refl
then_gt Equal a b h = h
then_gt Greater a b h = refl

then_at : (r a b : Ordering) → not (is_lt a) ≡ is_gt b → not (is_lt (ordering_then r a)) ≡ is_gt (ordering_then r b)
then_at Less a b h = refl
then_at Equal a b h = h
then_at Greater a b h = refl

cut : (n : ℕ) (from k : List ℕ) → n < length from → length k ≤ n → Cut n from k
cut n [] k h g = absurd (omega arith)
cut zero (b ∷ from) [] h g = record { after = refl; at = refl }
cut zero (b ∷ from) (a ∷ k) h g = absurd (omega arith)
cut (suc n) (b ∷ from) [] h g = record { after = refl; at = refl }
cut (suc n) (b ∷ from) (a ∷ k) h g =
    let rest = cut n from k (omega arith) (omega arith) in
    record { after = then_gt (nat_cmp a b) _ _ rest.after; at = then_at (nat_cmp a b) _ _ rest.at }

-- where a range of keys begins
pub starts_at : (from k : List ℕ) → is_from_start name_cmp (Included from) k ≡ is_at_or_after from false k
starts_at from k = not_below from k

pub starts_after : (from k : List ℕ) → is_from_start name_cmp (Excluded from) k ≡ is_at_or_after from true k
starts_after from k = flipped from k

pub starts_long : (n : ℕ) (from : List ℕ) (after : Bool) (k : List ℕ) → n < length from → length k ≤ n →
    is_from_start name_cmp (Excluded (take n from)) k ≡ is_at_or_after from after k
starts_long n from true k h g = flipped (take n from) k ∙ sym (cut n from k h g).after
starts_long n from false k h g = flipped (take n from) k ∙ sym (cut n from k h g).at

inside : (b : Bound (List ℕ)) (k : List ℕ) → is_from_start name_cmp b k ≡ true → IsFromStart name_cmp b k
inside (Included a) k h = by (name_cmp a k) h
  where
    by : (r : Ordering) → is_le r ≡ true → is_gt r ≡ false
    by Less h = refl
    by Equal h = refl
    by Greater h = cc
inside (Excluded a) k h = by (name_cmp a k) h
  where
    by : (r : Ordering) → is_lt r ≡ true → r ≡ Less
    by Less h = refl
    by Equal h = cc
    by Greater h = cc
inside Unbounded k h = tt

is_inside : (b : Bound (List ℕ)) (k : List ℕ) → IsFromStart name_cmp b k → is_from_start name_cmp b k ≡ true
is_inside (Included a) k h = by (name_cmp a k) h
  where
    by : (r : Ordering) → is_gt r ≡ false → is_le r ≡ true
    by Less h = refl
    by Equal h = refl
    by Greater h = cc
is_inside (Excluded a) k h = ap is_lt h
is_inside Unbounded k h = refl

-- a range's first key is the next key
module _ (pairs : FinMap nat_cmp Value) (set : BTreeSet (List ℕ)) (kept : AreKeysOf pairs (contains name_cmp set)) (from : List ℕ) (after : Bool) (start : Bound (List ℕ))
    (starts : (k : List ℕ) → length k ≤ 264 → is_from_start name_cmp start k ≡ is_at_or_after from after k) where
  in_range : (k : List ℕ) → IsKeyOf pairs k → is_at_or_after from after k ≡ true → IsInRange name_cmp start Unbounded k
  in_range k h f = (inside start k (starts k (kept.short k (kept.each k h)) ∙ f), tt)

  pub first_is_next : (r : List (List ℕ)) → IsKeyRangeOf name_cmp start Unbounded set r → IsNext (IsKeyOf pairs) from after (slice_get r 0)
  first_is_next [] range = λ k h. by k h (is_at_or_after from after k) refl
    where
      by : (k : List ℕ) → IsKeyOf pairs k → (t : Bool) → is_at_or_after from after k ≡ t → t ≡ false
      by k h false e = refl
      by k h true e = let no : contains name_cmp set k ≡ false = range.5 refl k (in_range k h e) in let yes : contains name_cmp set k ≡ true = kept.each k h in cc
  first_is_next (k ∷ r) range =
      let there : contains name_cmp set k ≡ true = range.1.1 in (
        kept.only k there,
        sym (starts k (kept.short k there)) ∙ is_inside start k range.1.0.0,
        λ q h f. flipped q k ∙ range.2 q (in_range q h f) (kept.each q h),
      )

-- in a sound volume, an index's keys are those of its pairs
is_some_key : (v : Value) (n : ℕ) → IsTrue (is_indexable (kind_of v)) → own_key v n ≡ Some (key v n)
is_some_key v n h = ap (λ b. if b then Some (key v n) else None) h

key_is : (v : Value) (n : ℕ) (k : List ℕ) → own_key v n ≡ Some k → k ≡ key v n
key_is v n k h = by (is_indexable (kind_of v)) h
  where
    by : (b : Bool) → (if b then Some (key v n) else None) ≡ Some k → k ≡ key v n
    by true h = sym (same_Some _ _ h)
    by false h = cc

module _ (s : State) (sound : IsSound s) (name : List ℕ) (index : Index) (there : fin.get s.indices name ≡ Some index) where
  pub is_key : (k : List ℕ) → IsKeyOf index.pairs k → IsKey s name k
  is_key k h = record { index = index; node = h.node; value = h.value; there = there; paired = h.paired; is = key_is h.value h.node k h.is }

  pub is_key_of : (k : List ℕ) → IsKey s name k → IsKeyOf index.pairs k
  is_key_of k h =
      let got : fin.get index.pairs h.node ≡ Some h.value = ap (λ (i : Index). fin.get i.pairs h.node) (same_Some index h.index (sym there ∙ h.there)) ∙ h.paired in
      let p : IsPaired s name index.kind h.node h.value = sound.pairs name index h.node h.value there got in
      let I : Kind → Type 0 = λ k. IsTrue (is_indexable k) in
      record { node = h.node; value = h.value; paired = got; is = is_some_key h.value h.node (subst I (sym p.kind_is) (sound.kinds name index there)) ∙ ap Some (sym h.is) }

  pub next_is : (from : List ℕ) (after : Bool) (next : Option (List ℕ)) → IsNext (IsKeyOf index.pairs) from after next → IsNextKey s name from after next
  next_is from after None h = λ k i. h k (is_key_of k i)
  next_is from after (Some next) h = (is_key next h.0, h.1, λ k i f. h.2 k (is_key_of k i) f)

-- without an index there is no key
pub no_key : (s : State) (name : List ℕ) → fin.get s.indices name ≡ None → (k : List ℕ) → IsKey s name k → ⊥
no_key s name none k h = let no : None ≡ Some h.index = sym none ∙ h.there in cc

-- keys after a pair was removed or added
abbrev pub Loses : Option (List ℕ) → (List ℕ → Bool) → (List ℕ → Bool) → Type 0
Loses None old new = (q : List ℕ) → new q ≡ old q
Loses (Some k) old new = (q : List ℕ) → new q ≡ cond (eq_by_cmp name_cmp k q) false (old q)

abbrev pub Gains : Option (List ℕ) → (List ℕ → Bool) → (List ℕ → Bool) → Type 0
Gains None old new = (q : List ℕ) → new q ≡ old q
Gains (Some k) old new = (q : List ℕ) → new q ≡ cond (eq_by_cmp name_cmp k q) true (old q)

tied : (r : Ordering) → is_eq r ≡ true → r ≡ Equal
tied Less h = cc
tied Equal h = refl
tied Greater h = cc

own_tie : (k : List ℕ) → eq_by_cmp name_cmp k k ≡ true
own_tie k = ap is_eq (tied_itself names_total k)

-- a key belongs to one node
one_node : (v w : Value) (m n : ℕ) (k : List ℕ) → m < 2 ^ 64 → n < 2 ^ 64 → own_key v m ≡ Some k → own_key w n ≡ Some k → m ≡ n
one_node v w m n k h g e f = same_node (value_key v) (value_key w) m n h g (sym (key_is v m k e) ∙ key_is w n k f)

module _ (pairs : FinMap nat_cmp Value) (has : List ℕ → Bool) (kept : AreKeysOf pairs has) (node : ℕ) (fits : node < 2 ^ 64) where
  apart : (n : ℕ) → eq_by_cmp nat_cmp n node ≡ true → n ≡ node
  apart n e = nat_cmp-IsAntisymmetric n node (tied _ e)

  got_before : (n : ℕ) (v : Value) → fin.get (fin.remove pairs node) n ≡ Some v → (eq_by_cmp nat_cmp n node ≡ false) × (fin.get pairs n ≡ Some v)
  got_before n v h = by (eq_by_cmp nat_cmp n node) refl
    where
      by : (t : Bool) → eq_by_cmp nat_cmp n node ≡ t → (eq_by_cmp nat_cmp n node ≡ false) × (fin.get pairs n ≡ Some v)
      by true e = let none : None ≡ Some v = sym (fin.get-remove nat_cmp_total pairs node n ∙ ap (λ b. cond b None (fin.get pairs n)) e) ∙ h in cc
      by false e = (e, sym (fin.get-remove nat_cmp_total pairs node n ∙ ap (λ b. cond b None (fin.get pairs n)) e) ∙ h)

  still_got : (n : ℕ) (v : Value) → eq_by_cmp nat_cmp n node ≡ false → fin.get pairs n ≡ Some v → fin.get (fin.remove pairs node) n ≡ Some v
  still_got n v e h = fin.get-remove nat_cmp_total pairs node n ∙ ap (λ b. cond b None (fin.get pairs n)) e ∙ h

  not_tied : (n : ℕ) → eq_by_cmp nat_cmp n node ≡ false → n ≡ node → ⊥
  not_tied n e same = let yes : eq_by_cmp nat_cmp n node ≡ true = ap (λ m. eq_by_cmp nat_cmp m node) same ∙ ap is_eq (tied_itself nat_cmp_total node) in cc

  pub kept_without : (found : Option Value) → fin.get pairs node ≡ found → (new : List ℕ → Bool) →
      Loses (option_and_then (λ v. own_key v node) found) has new → AreKeysOf (fin.remove pairs node) new
  kept_without found g new loses = record {
    fits = λ n v h. kept.fits n v (got_before n v h).1;
    each = λ k h. each (found) g loses k h;
    only = λ k h. only found g loses k h;
    short = λ k h. kept.short k (was found loses k h);
  }
    where
      was : (found : Option Value) → Loses (option_and_then (λ v. own_key v node) found) has new → (k : List ℕ) → new k ≡ true → has k ≡ true
      was None l k h = sym (l k) ∙ h
      was (Some v) l k h = by (own_key v node) l
        where
          by : (o : Option (List ℕ)) → Loses o has new → has k ≡ true
          by None l = sym (l k) ∙ h
          by (Some j) l = at (eq_by_cmp name_cmp j k) (sym (l k) ∙ h)
            where
              at : (t : Bool) → cond t false (has k) ≡ true → has k ≡ true
              at true h = cc
              at false h = h

      each : (found : Option Value) → fin.get pairs node ≡ found → Loses (option_and_then (λ v. own_key v node) found) has new → (k : List ℕ) → IsKeyOf (fin.remove pairs node) k → new k ≡ true
      each found g l k h =
          let b = got_before h.node h.value h.paired in
          let old : has k ≡ true = kept.each k (record { node = h.node; value = h.value; paired = b.1; is = h.is }) in
          by found g l old
        where
          by : (found : Option Value) → fin.get pairs node ≡ found → Loses (option_and_then (λ v. own_key v node) found) has new → has k ≡ true → new k ≡ true
          by None g l old = l k ∙ old
          by (Some v) g l old = to (own_key v node) refl l
            where
              to : (o : Option (List ℕ)) → own_key v node ≡ o → Loses o has new → new k ≡ true
              to None e l = l k ∙ old
              to (Some j) e l = l k ∙ at (eq_by_cmp name_cmp j k) refl
                where
                  at : (t : Bool) → eq_by_cmp name_cmp j k ≡ t → cond t false (has k) ≡ true
                  at false f = old
                  at true f =
                      let b = got_before h.node h.value h.paired in
                      let same : h.node ≡ node = one_node h.value v h.node node k (kept.fits h.node h.value b.1) fits h.is (e ∙ ap Some (exact_names j k (tied _ f))) in
                      absurd (not_tied h.node b.0 same)

      only : (found : Option Value) → fin.get pairs node ≡ found → Loses (option_and_then (λ v. own_key v node) found) has new → (k : List ℕ) → new k ≡ true → IsKeyOf (fin.remove pairs node) k
      only found g l k h = at (kept.only k (was found l k h)) (eq_by_cmp nat_cmp (kept.only k (was found l k h)).node node) refl
        where
          gone : (v : Value) → own_key v node ≡ Some k → (found : Option Value) → found ≡ Some v → Loses (option_and_then (λ v. own_key v node) found) has new → ⊥
          gone v is None same l = cc
          gone v is (Some w) same l =
              let P : Option (List ℕ) → Type 0 = λ o. Loses o has new in
              let m : Loses (Some k) has new = subst P (ap (λ x. own_key x node) (same_Some w v same) ∙ is) l in
              let no : new k ≡ false = m k ∙ ap (λ b. cond b false (has k)) (own_tie k) in
              cc

          at : (o : IsKeyOf pairs k) (t : Bool) → eq_by_cmp nat_cmp o.node node ≡ t → IsKeyOf (fin.remove pairs node) k
          at o false e = record { node = o.node; value = o.value; paired = still_got o.node o.value e o.paired; is = o.is }
          at o true e =
              let same : o.node ≡ node = apart o.node e in
              absurd (gone o.value (ap (own_key o.value) (sym same) ∙ o.is) found (sym g ∙ ap (fin.get pairs) (sym same) ∙ o.paired) l)

  pub kept_with : (v : Value) → fin.get pairs node ≡ None → (new : List ℕ → Bool) → Gains (own_key v node) has new →
      ((k : List ℕ) → own_key v node ≡ Some k → length k ≤ 264) → AreKeysOf (fin.insert pairs node v) new
  kept_with v none new gains few = record {
    fits = λ n w h. bound n w h (eq_by_cmp nat_cmp n node) refl;
    each = λ k h. each k h (eq_by_cmp nat_cmp h.node node) refl;
    only = λ k h. only k h (own_key v node) refl gains;
    short = λ k h. low k h (own_key v node) refl gains;
  }
    where
      here : fin.get (fin.insert pairs node v) node ≡ Some v
      here = fin.get-insert nat_cmp_total pairs node v node ∙ ap (λ b. cond b (Some v) (fin.get pairs node)) (ap is_eq (tied_itself nat_cmp_total node))

      other : (n : ℕ) → eq_by_cmp nat_cmp n node ≡ false → fin.get (fin.insert pairs node v) n ≡ fin.get pairs n
      other n e = fin.get-insert nat_cmp_total pairs node v n ∙ ap (λ b. cond b (Some v) (fin.get pairs n)) e

      bound : (n : ℕ) (w : Value) → fin.get (fin.insert pairs node v) n ≡ Some w → (t : Bool) → eq_by_cmp nat_cmp n node ≡ t → n < 2 ^ 64
      bound n w h false e = kept.fits n w (sym (other n e) ∙ h)
      bound n w h true e = let F : ℕ → Type 0 = λ m. m < 2 ^ 64 in subst F (sym (apart n e)) fits

      stays : (k : List ℕ) → has k ≡ true → (o : Option (List ℕ)) → Gains o has new → new k ≡ true
      stays k h None g = g k ∙ h
      stays k h (Some j) g = g k ∙ at (eq_by_cmp name_cmp j k)
        where
          at : (t : Bool) → cond t true (has k) ≡ true
          at true = refl
          at false = h

      gained : (k : List ℕ) → (o : Option (List ℕ)) → o ≡ Some k → Gains o has new → new k ≡ true
      gained k None e g = cc
      gained k (Some j) e g = g k ∙ ap (λ b. cond b true (has k)) (ap (λ x. eq_by_cmp name_cmp x k) (same_Some j k e) ∙ own_tie k)

      each : (k : List ℕ) (h : IsKeyOf (fin.insert pairs node v) k) → (t : Bool) → eq_by_cmp nat_cmp h.node node ≡ t → new k ≡ true
      each k h false e = stays k (kept.each k (record { node = h.node; value = h.value; paired = sym (other h.node e) ∙ h.paired; is = h.is })) (own_key v node) gains
      each k h true e =
          let same : h.node ≡ node = apart h.node e in
          let values : v ≡ h.value = same_Some _ _ (sym here ∙ ap (fin.get (fin.insert pairs node v)) (sym same) ∙ h.paired) in
          gained k (own_key v node) (ap (λ w. own_key w node) values ∙ ap (own_key h.value) (sym same) ∙ h.is) gains

      before : (k : List ℕ) → has k ≡ true → IsKeyOf (fin.insert pairs node v) k
      before k h = at (kept.only k h) (eq_by_cmp nat_cmp (kept.only k h).node node) refl
        where
          at : (o : IsKeyOf pairs k) (t : Bool) → eq_by_cmp nat_cmp o.node node ≡ t → IsKeyOf (fin.insert pairs node v) k
          at o false e = record { node = o.node; value = o.value; paired = other o.node e ∙ o.paired; is = o.is }
          at o true e = let no : None ≡ Some o.value = sym none ∙ ap (fin.get pairs) (sym (apart o.node e)) ∙ o.paired in cc

      only : (k : List ℕ) → new k ≡ true → (o : Option (List ℕ)) → own_key v node ≡ o → Gains o has new → IsKeyOf (fin.insert pairs node v) k
      only k h None e g = before k (sym (g k) ∙ h)
      only k h (Some j) e g = at (eq_by_cmp name_cmp j k) refl
        where
          at : (t : Bool) → eq_by_cmp name_cmp j k ≡ t → IsKeyOf (fin.insert pairs node v) k
          at false f = before k (sym (g k ∙ ap (λ b. cond b true (has k)) f) ∙ h)
          at true f = record { node = node; value = v; paired = here; is = e ∙ ap Some (exact_names j k (tied _ f)) }

      low : (k : List ℕ) → new k ≡ true → (o : Option (List ℕ)) → own_key v node ≡ o → Gains o has new → length k ≤ 264
      low k h None e g = kept.short k (sym (g k) ∙ h)
      low k h (Some j) e g = at (eq_by_cmp name_cmp j k) refl
        where
          at : (t : Bool) → eq_by_cmp name_cmp j k ≡ t → length k ≤ 264
          at false f = kept.short k (sym (g k ∙ ap (λ b. cond b true (has k)) f) ∙ h)
          at true f = few k (e ∙ ap Some (exact_names j k (tied _ f)))

module _ (pairs : FinMap nat_cmp Value) (node : ℕ) (v : Value) where
  pub gone : fin.get (fin.remove pairs node) node ≡ None
  gone = fin.get-remove nat_cmp_total pairs node node ∙ ap (λ b. cond b None (fin.get pairs node)) (ap is_eq (tied_itself nat_cmp_total node))

  -- before a pair is put in, the old one may be removed
  pub put_again : fin.insert (fin.remove pairs node) node v ≡ fin.insert pairs node v
  put_again = same_map nat_cmp_total nat_cmp-IsAntisymmetric _ _ (λ q.
      fin.get-insert nat_cmp_total (fin.remove pairs node) node v q ∙ by q (eq_by_cmp nat_cmp q node) refl ∙ sym (fin.get-insert nat_cmp_total pairs node v q))
    where
      by : (q : ℕ) (t : Bool) → eq_by_cmp nat_cmp q node ≡ t → cond t (Some v) (fin.get (fin.remove pairs node) q) ≡ cond t (Some v) (fin.get pairs q)
      by q true e = refl
      by q false e = fin.get-remove nat_cmp_total pairs node q ∙ ap (λ b. cond b None (fin.get pairs q)) e

  -- a pair that was inserted for a node without one, and removed again
  pub taken_back : fin.get pairs node ≡ None → fin.remove (fin.insert pairs node v) node ≡ pairs
  taken_back none = same_map nat_cmp_total nat_cmp-IsAntisymmetric _ _ (λ q. fin.get-remove nat_cmp_total (fin.insert pairs node v) node q ∙ by q (eq_by_cmp nat_cmp q node) refl)
    where
      by : (q : ℕ) (t : Bool) → eq_by_cmp nat_cmp q node ≡ t → cond t None (fin.get (fin.insert pairs node v) q) ≡ fin.get pairs q
      by q true e = sym none ∙ ap (fin.get pairs) (sym (nat_cmp-IsAntisymmetric q node (tied _ e)))
      by q false e = fin.get-insert nat_cmp_total pairs node v q ∙ ap (λ b. cond b (Some v) (fin.get pairs q)) e

-- no pairs and no keys
pub kept_empty : (es : List (ℕ × Value)) (set : BTreeSet (List ℕ)) → es ≡ [] → set.keys ≡ [] → AreKeysOf (fin.from_entries {R = nat_cmp} es) (contains name_cmp set)
kept_empty es set none no_keys = record {
  fits = λ n v h. let no : None ≡ Some v = sym (empty n) ∙ h in cc;
  each = λ k h. let no : None ≡ Some h.value = sym (empty h.node) ∙ h.paired in cc;
  only = λ k h. let no : false ≡ true = sym (lacks k) ∙ h in cc;
  short = λ k h. let no : false ≡ true = sym (lacks k) ∙ h in cc;
}
  where
    empty : (n : ℕ) → fin.get (fin.from_entries {R = nat_cmp} es) n ≡ None
    empty n = ap (λ xs. fin.get (fin.from_entries {R = nat_cmp} xs) n) none ∙ fin.get-empty nat_cmp n

    lacks : (k : List ℕ) → contains name_cmp set k ≡ false
    lacks k = ap (λ ks. list_any (is_at (name_cmp k)) ks) no_keys

-- what a fact about an answer says
none_some : {A : Type 0} (x : A) → None ≡ Some x → ⊥
none_some x e = cc

pub of_some : {A : Type 0} (P : A → Type 0) (o : Option A) → IfSome o P → (x : A) → o ≡ Some x → P x
of_some P None h x e = absurd (none_some x e)
of_some P (Some y) h x e = subst P (same_Some y x e) h

no_truth : false ≡ true → ⊥
no_truth e = cc

no_falsehood : true ≡ false → ⊥
no_falsehood e = cc

pub of_err : {A E P : Type 0} (r : Result A E) → OnErr r P → is_err r ≡ true → P
of_err (Ok x) h e = absurd (no_truth e)
of_err (Err x) h e = h

pub of_ok : {A E P : Type 0} (r : Result A E) → OnOk r P → is_err r ≡ false → P
of_ok (Ok x) h e = h
of_ok (Err x) h e = absurd (no_falsehood e)
