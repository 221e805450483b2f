-- A volume's operations rebuild it.
use Rattle.std.proofs.Common.{◌≡◌, ◌<◌, ◌≤◌, ◌+◌, ◌-◌, ℕ, suc, zero, Bool, true, false, cond, not, ◌&&◌, ◌||◌, if◌then◌else◌, nat_lt, nat_eq, List, [], ◌∷◌, ◌++◌, length, refl, sym, ap, ◌∙◌, subst, arith, Some, None, is_some, is_ok, IsOk, unwrap_or}
use Rattle.std.proofs.lemmas.Bool.{and_from, and_right}
use Rattle.std.proofs.lemmas.Bool.Decides.{nat_tests}
use Rattle.std.proofs.lemmas.List.{length-map}
use Rattle.std.specs.List.{flat_map, range_with_len}
use Rattle.std.specs.Option.{option_and_then, option_map, option_or}
use Rattle.std.specs.Ordering.{nat_cmp, eq_by_cmp}
use Rattle.std.specs.declared.option.Option.{Option}
use Rattle.std.specs.FinMap as fin
use Rattle.std.specs.FinMap.{find}
use Rattle.be_value.specs.Value.{kind_of, code_of}
use Rattle.be_value.specs.declared.values.Kind.{Kind}
use Rattle.be_value.specs.declared.values.Value.{Value}
use Rattle.be_volume.specs.Ahead.{reached, state_after}
use Rattle.be_volume.specs.Indices.{same_kind, unpaired}
use Rattle.be_volume.specs.Maps.{name_cmp, Attributes, Nodes, attributes_of}
use Rattle.be_volume.specs.Reading.{attribute, index_kind, index_kinds}
use Rattle.be_volume.specs.Sound.{IsSound, IsPaired}
use Rattle.be_volume.specs.Volume.{State, empty, steps}
use Rattle.be_volume.specs.declared.maps.Index.{Index}
use Rattle.be_volume.specs.declared.ops.Done.TheVariants.{Node, Unit as Nothing}
use Rattle.be_volume.specs.declared.ops.Op.TheVariants.{New, Drop}
use Rattle.be_volume.proofs.FactLemmas.{get_changed}
use Rattle.be_volume.proofs.MapLemmas.{names_total, exact_names}
use Rattle.be_volume.proofs.StepLemmas.{made}
use Rattle.be_volume_state.specs.Rebuilding.{IsNumbered, held, held_ops, index_ops, is_held, number_ops, numbers_from, outside, pair_at, set_all, state_ops}
use Rattle.be_volume_state.proofs.Parts.{are_indexable, distinct_each, distinct_entries, distinct_where, find_each, find_where, len_where, parted}
use Rattle.be_volume_state.proofs.Observed.{attribute_away, attribute_here, attributes_here, by_number, drop_accepted, dropped_away, dropped_here, has_away, has_here, is_below, lost_away, lost_here, not_below, of_node, pair_set}
use Rattle.be_volume_state.proofs.Runs.{AreNew, Goes, IsMade, IsSet, Reaches, first, joined, makes, pair_after, sets, stays}
use Rattle.be_volume_state.proofs.Same.{same_volume}

below_next : (n : ℕ) → nat_lt n (n + 1) ≡ true
below_next n = is_below n (n + 1) (omega arith)

not_own : (n : ℕ) → nat_lt n n ≡ false
not_own n = not_below n n (omega arith)

-- a node that doesn't exist has no attributes
no_attribute : (s : State) (n : ℕ) (q : List ℕ) → fin.contains_key s.nodes n ≡ false → attribute s n q ≡ None
no_attribute s n q h = by (fin.get s.nodes n) h
  where
    by : (found : Option Attributes) → is_some found ≡ false → option_and_then (λ (a : Attributes). fin.get a q) found ≡ None
    by None e = refl
    by (Some a) e = cc

none_either_way : {A : Type 0} (b : Bool) (o : Option A) → o ≡ None → cond b o None ≡ None
none_either_way true o h = h
none_either_way false o h = refl

or_none : {A : Type 0} (o : Option A) → option_or o None ≡ o
or_none None = refl
or_none (Some x) = refl

-- there is no pair if there is no index
no_pair : (t : State) (q : List ℕ) (m : ℕ) → index_kind t q ≡ None → pair_at t q m ≡ None
no_pair t q m h = by (fin.get t.indices q) h
  where
    by : (found : Option Index) → option_map (λ (i : Index). i.kind) found ≡ None → option_and_then (λ (i : Index). fin.get i.pairs m) found ≡ None
    by None e = refl
    by (Some i) e = cc

no_index : (t : State) (q : List ℕ) → index_kind t q ≡ None → fin.get t.indices q ≡ None
no_index t q h = by (fin.get t.indices q) h
  where
    by : (found : Option Index) → option_map (λ (i : Index). i.kind) found ≡ None → found ≡ None
    by None e = refl
    by (Some i) e = cc

module _ (s : State) (sound : IsSound s) where
  -- a pair is an attribute of its node, and has the index's kind
  pub pair_reports : (q : List ℕ) (n : ℕ) (v : Value) → pair_at s q n ≡ Some v → (attribute s n q ≡ Some v) × (index_kind s q ≡ Some (kind_of v))
  pair_reports q n v h = by (fin.get s.indices q) refl h
    where
      by : (found : Option Index) → fin.get s.indices q ≡ found → option_and_then (λ (i : Index). fin.get i.pairs n) found ≡ Some v →
          (attribute s n q ≡ Some v) × (index_kind s q ≡ Some (kind_of v))
      by None there e = cc
      by (Some i) there e =
          let p : IsPaired s q i.kind n v = sound.pairs q i n v there e in
          (p.attribute_is, ap (option_map (λ (j : Index). j.kind)) there ∙ ap Some (sym p.kind_is))

  pair_needs_node : (q : List ℕ) (n : ℕ) → fin.contains_key s.nodes n ≡ false → pair_at s q n ≡ None
  pair_needs_node q n h = by (pair_at s q n) refl
    where
      by : (found : Option Value) → pair_at s q n ≡ found → found ≡ None
      by None e = refl
      by (Some v) e = let no : None ≡ Some v = sym (no_attribute s n q h) ∙ (pair_reports q n v e).0 in cc

-- a node's attributes in two parts
found_outside : (s : State) (n : ℕ) (q : List ℕ) → find name_cmp q (outside s n) ≡ cond (not (is_held s n q)) (attribute s n q) None
found_outside s n q = find_where (attributes_of s.nodes n) (λ name. not (is_held s n name)) q ∙ ap (λ o. cond (not (is_held s n q)) o None) (of_node s n q)

found_held : (s : State) (n : ℕ) (q : List ℕ) → find name_cmp q (held s n) ≡ cond (is_held s n q) (attribute s n q) None
found_held s n q = find_where (attributes_of s.nodes n) (is_held s n) q ∙ ap (λ o. cond (is_held s n q) o None) (of_node s n q)

both_parts : (s : State) → IsSound s → (n : ℕ) → length (outside s n) + length (held s n) ≤ 64
both_parts s sound n =
    let few : fin.len (attributes_of s.nodes n) ≤ 64 = sound.few_attributes n in
    let all : fin.len (attributes_of s.nodes n) ≡ length (fin.entries (attributes_of s.nodes n)) = fin.len-entries (attributes_of s.nodes n) in
    let sum : length (outside s n) + length (held s n) ≡ length (fin.entries (attributes_of s.nodes n)) = parted (is_held s n) (fin.entries (attributes_of s.nodes n)) in
    omega arith

-- What the numbers below the next one have created: their nodes, the attributes that no index has,
-- and no index.
record AtNumber (s t : State) : Type 0 where
  there : (m : ℕ) → fin.contains_key t.nodes m ≡ (nat_lt m t.next && fin.contains_key s.nodes m)
  attribute_is : (m : ℕ) (q : List ℕ) → attribute t m q ≡ cond (nat_lt m t.next && not (is_held s m q)) (attribute s m q) None
  none : (q : List ℕ) → index_kind t q ≡ None

record Onward (s t : State) (k : ℕ) (u : State) : Type 0 where
  next : u.next ≡ t.next + k
  at : AtNumber s u

module _ (s : State) (sound : IsSound s) (t : State) (at : AtNumber s t) where
  there_above : (m : ℕ) → eq_by_cmp nat_cmp m t.next ≡ false → nat_lt m (t.next + 1) ≡ nat_lt m t.next →
      fin.contains_key (made t New).nodes m ≡ (nat_lt m (t.next + 1) && fin.contains_key s.nodes m)
  there_above m e f = has_away t.nodes t.next fin.empty m e ∙ at.there m ∙ ap (λ b. b && fin.contains_key s.nodes m) (sym f)

  attribute_above : (m : ℕ) (q : List ℕ) → eq_by_cmp nat_cmp m t.next ≡ false → nat_lt m (t.next + 1) ≡ nat_lt m t.next →
      attribute (made t New) m q ≡ cond (nat_lt m (t.next + 1) && not (is_held s m q)) (attribute s m q) None
  attribute_above m q e f = attribute_away t.nodes t.next fin.empty m q e ∙ at.attribute_is m q ∙ ap (λ b. cond (b && not (is_held s m q)) (attribute s m q) None) (sym f)

  kept : fin.contains_key s.nodes t.next ≡ true → Reaches t (New ∷ set_all t.next (outside s t.next)) (Onward s t 1)
  kept h =
      let few : fin.len (attributes_of (made t New).nodes t.next) ≡ 0 = ap fin.len (attributes_here t.nodes t.next fin.empty) ∙ fin.len-empty name_cmp Value in
      let parts : length (outside s t.next) + length (held s t.next) ≤ 64 = both_parts s sound t.next in
      let r : Reaches (made t New) (set_all t.next (outside s t.next)) (IsSet (made t New) t.next (outside s t.next)) =
      sets (made t New) t.next (outside s t.next) (distinct_where (attributes_of s.nodes t.next) (λ name. not (is_held s t.next name))) (has_here t.nodes t.next fin.empty) (omega arith) in
      let There : ℕ → ℕ → Type 0 = λ k m. fin.contains_key r.u.nodes m ≡ (nat_lt m k && fin.contains_key s.nodes m) in
      let Has : ℕ → List ℕ → ℕ → Type 0 = λ k q m. attribute r.u m q ≡ cond (nat_lt m k && not (is_held s m q)) (attribute s m q) None in
      let up : t.next + 1 ≡ r.u.next = sym r.is.next in
      record {
        u = r.u;
        goes = first t (made t New) r.u New (Node t.next) (set_all t.next (outside s t.next)) refl r.goes;
        is = record {
          next = r.is.next;
          at = record {
            there = λ m. subst (λ k. There k m) up (by_number t.next m (There (t.next + 1))
                (r.is.there t.next ∙ has_here t.nodes t.next fin.empty ∙ sym (and_from _ _ (below_next t.next) h))
                (λ e f. r.is.there m ∙ there_above m e f));
            attribute_is = λ m q. subst (λ k. Has k q m) up (by_number t.next m (Has (t.next + 1) q)
                (r.is.here q ∙ ap (option_or (find name_cmp q (outside s t.next))) (attribute_here t.nodes t.next fin.empty q ∙ fin.get-empty name_cmp q)
                ∙ or_none (find name_cmp q (outside s t.next)) ∙ found_outside s t.next q
                ∙ sym (ap (λ b. cond (b && not (is_held s t.next q)) (attribute s t.next q) None) (below_next t.next)))
                (λ e f. r.is.away m q e ∙ attribute_above m q e f));
            none = λ q. r.is.kind_is q ∙ at.none q;
          };
        };
      }

  dropped : fin.contains_key s.nodes t.next ≡ false → Reaches t (New ∷ Drop t.next ∷ []) (Onward s t 1)
  dropped h =
      let u : State = made (made t New) (Drop t.next) in
      let nodes : Nodes = fin.insert t.nodes t.next fin.empty in
      let There : ℕ → Type 0 = λ m. fin.contains_key u.nodes m ≡ (nat_lt m (t.next + 1) && fin.contains_key s.nodes m) in
      let Has : List ℕ → ℕ → Type 0 = λ q m. attribute u m q ≡ cond (nat_lt m (t.next + 1) && not (is_held s m q)) (attribute s m q) None in
      record {
        u = u;
        goes = first t (made t New) u New (Node t.next) (Drop t.next ∷ []) refl (first (made t New) u u (Drop t.next) Nothing [] (drop_accepted (made t New) t.next (has_here t.nodes t.next fin.empty)) (stays u));
        is = record {
          next = refl;
          at = record {
            there = λ m. by_number t.next m There (dropped_here nodes t.next ∙ sym (and_right _ _ h)) (λ e f. dropped_away nodes t.next m e ∙ there_above m e f);
            attribute_is = λ m q. by_number t.next m (Has q) (lost_here nodes t.next q ∙ sym (none_either_way _ _ (no_attribute s t.next q h)))
                (λ e f. lost_away nodes t.next m q e ∙ attribute_above m q e f);
            none = λ q. ap (option_map (λ (i : Index). i.kind)) (get_changed names_total exact_names (λ i. unpaired i t.next) t.indices q
                ∙ ap (option_map (λ (i : Index). unpaired i t.next)) (no_index t q (at.none q)));
          };
        };
      }

  number : Reaches t (number_ops s t.next) (Onward s t 1)
  number = by (fin.contains_key s.nodes t.next) refl
    where
      by : (b : Bool) → fin.contains_key s.nodes t.next ≡ b → Reaches t (New ∷ (if b then set_all t.next (outside s t.next) else Drop t.next ∷ [])) (Onward s t 1)
      by true h = kept h
      by false h = dropped h

numbers : (s : State) → IsSound s → (t : State) → AtNumber s t → (k : ℕ) → Reaches t (flat_map (number_ops s) (range_with_len t.next k)) (Onward s t k)
numbers s sound t at zero = record { u = t; goes = stays t; is = record { next = omega arith; at = at } }
numbers s sound t at (suc k) =
    let a : Reaches t (number_ops s t.next) (Onward s t 1) = number s sound t at in
    let r : Reaches a.u (flat_map (number_ops s) (range_with_len a.u.next k)) (Onward s a.u k) = numbers s sound a.u a.is.at k in
    let on : a.u.next ≡ t.next + 1 = a.is.next in
    let far : r.u.next ≡ a.u.next + k = r.is.next in
    record {
      u = r.u;
      goes = joined t a.u r.u (number_ops s t.next) (flat_map (number_ops s) (range_with_len (t.next + 1) k)) a.goes
          (subst (λ x. Goes a.u (flat_map (number_ops s) (range_with_len x k)) r.u) on r.goes);
      is = record { next = omega arith; at = r.is.at };
    }

-- The volume once the numbers below n have been given the attributes that an index has.
record AtHeld (s : State) (n : ℕ) (t : State) : Type 0 where
  next : t.next ≡ s.next
  there : (m : ℕ) → fin.contains_key t.nodes m ≡ fin.contains_key s.nodes m
  attribute_is : (m : ℕ) (q : List ℕ) → attribute t m q ≡ cond (nat_lt m n || not (is_held s m q)) (attribute s m q) None
  kind_is : (q : List ℕ) → index_kind t q ≡ index_kind s q
  pair_is : (q : List ℕ) (m : ℕ) → pair_at t q m ≡ cond (nat_lt m n) (pair_at s q m) None

module _ (s : State) (sound : IsSound s) (numbered : IsNumbered s) (t : State) (at : AtNumber s t) (next : t.next ≡ s.next) where
  positive : (m : ℕ) → fin.contains_key s.nodes m ≡ true → 1 ≤ m
  positive zero h = let no : false ≡ true = sym numbered.no_zero ∙ h in cc
  positive (suc m) h = omega arith

  there_all : (m : ℕ) → (nat_lt m t.next && fin.contains_key s.nodes m) ≡ fin.contains_key s.nodes m
  there_all m = by (fin.contains_key s.nodes m) refl
    where
      by : (b : Bool) → fin.contains_key s.nodes m ≡ b → (nat_lt m t.next && b) ≡ b
      by true h = let lt : m < s.next = sound.nodes m h in and_from _ _ (is_below m t.next (omega arith)) refl
      by false h = and_right _ _ refl

  attributes_all : (m : ℕ) (q : List ℕ) → cond (nat_lt m t.next && not (is_held s m q)) (attribute s m q) None ≡ cond (nat_lt m 1 || not (is_held s m q)) (attribute s m q) None
  attributes_all m q = by (fin.contains_key s.nodes m) refl
    where
      by : (b : Bool) → fin.contains_key s.nodes m ≡ b → cond (nat_lt m t.next && not (is_held s m q)) (attribute s m q) None ≡ cond (nat_lt m 1 || not (is_held s m q)) (attribute s m q) None
      by true h =
          let lt : m < s.next = sound.nodes m h in
          ap (λ b. cond (b && not (is_held s m q)) (attribute s m q) None) (is_below m t.next (omega arith))
          ∙ sym (ap (λ b. cond (b || not (is_held s m q)) (attribute s m q) None) (not_below m 1 (positive m h)))
      by false h = none_either_way _ _ (no_attribute s m q h) ∙ sym (none_either_way _ _ (no_attribute s m q h))

  no_pairs_yet : (q : List ℕ) (m : ℕ) → None ≡ cond (nat_lt m 1) (pair_at s q m) None
  no_pairs_yet q m = by (fin.contains_key s.nodes m) refl
    where
      by : (b : Bool) → fin.contains_key s.nodes m ≡ b → None ≡ cond (nat_lt m 1) (pair_at s q m) None
      by true h = sym (ap (λ b. cond b (pair_at s q m) None) (not_below m 1 (positive m h)))
      by false h = sym (none_either_way _ _ (pair_needs_node s sound q m h))

  indices : Reaches t (index_ops s) (AtHeld s 1)
  indices =
      let none : t.indices ≡ fin.empty = fin.same_map names_total exact_names t.indices fin.empty (λ q. no_index t q (at.none q) ∙ sym (fin.get-empty name_cmp q)) in
      let zero_len : fin.len t.indices ≡ 0 = ap fin.len none ∙ fin.len-empty name_cmp Index in
      let long : length (index_kinds s) ≡ length (fin.entries s.indices) = length-map (fin.entries s.indices) (λ e. (e.0, e.1.kind)) in
      let all : fin.len s.indices ≡ length (fin.entries s.indices) = fin.len-entries s.indices in
      let few : fin.len s.indices ≤ 32 = sound.few_indices in
      let distinct = distinct_entries s.indices in
      let ix = are_indexable (fin.entries s.indices) distinct (λ q i f. sound.kinds q i (fin.get-entries s.indices q ∙ f)) in
      let new : AreNew t (index_kinds s) = λ q _. at.none q in
      let r : Reaches t (index_ops s) (IsMade t (index_kinds s)) =
      makes t (index_kinds s) (distinct_each (λ (i : Index). i.kind) (fin.entries s.indices) distinct) ix new (omega arith) (λ q m. no_pair t q m (at.none q)) in
      record {
        u = r.u;
        goes = r.goes;
        is = record {
          next = r.is.next ∙ next;
          there = λ m. ap (λ (ns : Nodes). fin.contains_key ns m) r.is.nodes ∙ at.there m ∙ there_all m;
          attribute_is = λ m q. ap (λ (ns : Nodes). option_and_then (λ (a : Attributes). fin.get a q) (fin.get ns m)) r.is.nodes ∙ at.attribute_is m q ∙ attributes_all m q;
          kind_is = λ q. r.is.kind_is q ∙ ap (option_or (find name_cmp q (index_kinds s))) (at.none q) ∙ or_none _
              ∙ find_each (λ (i : Index). i.kind) q (fin.entries s.indices) ∙ ap (option_map (λ (i : Index). i.kind)) (sym (fin.get-entries s.indices q));
          pair_is = λ q m. r.is.none q m ∙ no_pairs_yet q m;
        };
      }

two_parts : {A : Type 0} (b : Bool) (o : Option A) → option_or (cond b o None) (cond (not b) o None) ≡ o
two_parts true None = refl
two_parts true (Some x) = refl
two_parts false o = refl

same_number : (n : ℕ) → nat_eq n n ≡ true
same_number n = grind (arith, nat_tests)

own_kind : (k : Kind) → same_kind k k ≡ true
own_kind k = same_number (code_of k)

module _ (s : State) (sound : IsSound s) (n : ℕ) (t : State) (at : AtHeld s n t) where
  none_before : (q : List ℕ) → pair_at t q n ≡ None
  none_before q = at.pair_is q n ∙ ap (λ b. cond b (pair_at s q n) None) (not_own n)

  left_out : (q : List ℕ) → attribute t n q ≡ cond (not (is_held s n q)) (attribute s n q) None
  left_out q = at.attribute_is n q ∙ ap (λ b. cond (b || not (is_held s n q)) (attribute s n q) None) (not_own n)

  paired_now : (q : List ℕ) → pair_after (find name_cmp q (held s n)) (index_kind t q) (pair_at t q n) ≡ pair_at s q n
  paired_now q = ap (λ o. pair_after o (index_kind t q) (pair_at t q n)) (found_held s n q) ∙ by (pair_at s q n) refl
    where
      by : (found : Option Value) → pair_at s q n ≡ found → pair_after (cond (is_some found) (attribute s n q) None) (index_kind t q) (pair_at t q n) ≡ found
      by None h = none_before q
      by (Some v) h =
          let p = pair_reports s sound q n v h in
          ap (λ o. pair_after o (index_kind t q) (pair_at t q n)) p.0 ∙ ap (λ k. pair_set k v (pair_at t q n)) (at.kind_is q ∙ p.1)
          ∙ ap (λ b. if b then Some v else None) (own_kind (kind_of v))

  filled : fin.contains_key s.nodes n ≡ true → Reaches t (held_ops s n) (AtHeld s (n + 1))
  filled h =
      let own : fin.len (attributes_of t.nodes n) ≡ length (outside s n) =
      len_where (attributes_of s.nodes n) (λ name. not (is_held s n name)) (attributes_of t.nodes n)
      (λ q. of_node t n q ∙ left_out q ∙ ap (λ o. cond (not (is_held s n q)) o None) (sym (of_node s n q))) in
      let parts : length (outside s n) + length (held s n) ≤ 64 = both_parts s sound n in
      let r : Reaches t (held_ops s n) (IsSet t n (held s n)) = sets t n (held s n) (distinct_where (attributes_of s.nodes n) (is_held s n)) (at.there n ∙ h) (omega arith) in
      let Has : List ℕ → ℕ → Type 0 = λ q m. attribute r.u m q ≡ cond (nat_lt m (n + 1) || not (is_held s m q)) (attribute s m q) None in
      let Pair : List ℕ → ℕ → Type 0 = λ q m. pair_at r.u q m ≡ cond (nat_lt m (n + 1)) (pair_at s q m) None in
      record {
        u = r.u;
        goes = r.goes;
        is = record {
          next = r.is.next ∙ at.next;
          there = λ m. r.is.there m ∙ at.there m;
          attribute_is = λ m q. by_number n m (Has q)
              (r.is.here q ∙ ap (λ o. option_or o (attribute t n q)) (found_held s n q) ∙ ap (option_or (cond (is_held s n q) (attribute s n q) None)) (left_out q)
              ∙ two_parts (is_held s n q) (attribute s n q) ∙ sym (ap (λ b. cond (b || not (is_held s n q)) (attribute s n q) None) (below_next n)))
              (λ e f. r.is.away m q e ∙ at.attribute_is m q ∙ ap (λ b. cond (b || not (is_held s m q)) (attribute s m q) None) (sym f));
          kind_is = λ q. r.is.kind_is q ∙ at.kind_is q;
          pair_is = λ q m. by_number n m (Pair q)
              (r.is.pair_is q ∙ paired_now q ∙ sym (ap (λ b. cond b (pair_at s q n) None) (below_next n)))
              (λ e f. r.is.apart q m e ∙ at.pair_is q m ∙ ap (λ b. cond b (pair_at s q m) None) (sym f));
        };
      }

  no_entries : fin.contains_key s.nodes n ≡ false → attributes_of s.nodes n ≡ fin.empty
  no_entries h = by (fin.get s.nodes n) h
    where
      by : (found : Option Attributes) → is_some found ≡ false → unwrap_or found fin.empty ≡ fin.empty
      by None e = refl
      by (Some a) e = cc

  nothing : fin.contains_key s.nodes n ≡ false → Reaches t (held_ops s n) (AtHeld s (n + 1))
  nothing h =
      let none : held s n ≡ [] = empty_list (held s n) (omega (
        arith,
        parted (is_held s n) (fin.entries (attributes_of s.nodes n)),
        sym (fin.len-entries (attributes_of s.nodes n)) ∙ ap fin.len (no_entries h) ∙ fin.len-empty name_cmp Value,
      )) in
      let Has : List ℕ → ℕ → Type 0 = λ q m. attribute t m q ≡ cond (nat_lt m (n + 1) || not (is_held s m q)) (attribute s m q) None in
      let Pair : List ℕ → ℕ → Type 0 = λ q m. pair_at t q m ≡ cond (nat_lt m (n + 1)) (pair_at s q m) None in
      record {
        u = t;
        goes = subst (λ es. Goes t (set_all n es) t) (sym none) (stays t);
        is = record {
          next = at.next;
          there = at.there;
          attribute_is = λ m q. by_number n m (Has q)
              (no_attribute t n q (at.there n ∙ h) ∙ sym (none_either_way _ _ (no_attribute s n q h)))
              (λ e f. at.attribute_is m q ∙ ap (λ b. cond (b || not (is_held s m q)) (attribute s m q) None) (sym f));
          kind_is = at.kind_is;
          pair_is = λ q m. by_number n m (Pair q)
              (none_before q ∙ sym (none_either_way _ _ (pair_needs_node s sound q n h)))
              (λ e f. at.pair_is q m ∙ ap (λ b. cond b (pair_at s q m) None) (sym f));
        };
      }
    where
      empty_list : {A : Type 0} (xs : List A) → length xs ≡ 0 → xs ≡ []
      empty_list [] e = refl
      empty_list (x ∷ xs) e = absurd (omega arith)

  holding : Reaches t (held_ops s n) (AtHeld s (n + 1))
  holding = by (fin.contains_key s.nodes n) refl
    where
      by : (b : Bool) → fin.contains_key s.nodes n ≡ b → Reaches t (held_ops s n) (AtHeld s (n + 1))
      by true h = filled h
      by false h = nothing h

holdings : (s : State) → IsSound s → (n : ℕ) (t : State) → AtHeld s n t → (k : ℕ) → Reaches t (flat_map (held_ops s) (range_with_len n k)) (AtHeld s (n + k))
holdings s sound n t at zero = let e : n ≡ n + 0 = omega arith in record { u = t; goes = stays t; is = subst (λ m. AtHeld s m t) e at }
holdings s sound n t at (suc k) =
    let a : Reaches t (held_ops s n) (AtHeld s (n + 1)) = holding s sound n t at in
    let r : Reaches a.u (flat_map (held_ops s) (range_with_len (n + 1) k)) (AtHeld s ((n + 1) + k)) = holdings s sound (n + 1) a.u a.is k in
    let e : (n + 1) + k ≡ n + suc k = omega arith in
    record {
      u = r.u;
      goes = joined t a.u r.u (held_ops s n) (flat_map (held_ops s) (range_with_len (n + 1) k)) a.goes r.goes;
      is = subst (λ m. AtHeld s m r.u) e r.is;
    }

module _ (s : State) (sound : IsSound s) (numbered : IsNumbered s) where
  finished : (u : State) → AtHeld s s.next u → u ≡ s
  finished u at = same_volume u s at.next at.there (λ m q. at.attribute_is m q ∙ attributes m q (fin.contains_key s.nodes m) refl) at.kind_is
      (λ q m. at.pair_is q m ∙ pairs q m (fin.contains_key s.nodes m) refl)
    where
      attributes : (m : ℕ) (q : List ℕ) (b : Bool) → fin.contains_key s.nodes m ≡ b → cond (nat_lt m s.next || not (is_held s m q)) (attribute s m q) None ≡ attribute s m q
      attributes m q true h = ap (λ b. cond (b || not (is_held s m q)) (attribute s m q) None) (is_below m s.next (sound.nodes m h))
      attributes m q false h = none_either_way _ _ (no_attribute s m q h) ∙ sym (no_attribute s m q h)

      pairs : (q : List ℕ) (m : ℕ) (b : Bool) → fin.contains_key s.nodes m ≡ b → cond (nat_lt m s.next) (pair_at s q m) None ≡ pair_at s q m
      pairs q m true h = ap (λ b. cond b (pair_at s q m) None) (is_below m s.next (sound.nodes m h))
      pairs q m false h = none_either_way _ _ (pair_needs_node s sound q m h) ∙ sym (pair_needs_node s sound q m h)

  begun : AtNumber s empty
  begun = record {
    there = λ m. ap is_some (fin.get-empty nat_cmp m) ∙ first_there m;
    attribute_is = λ m q. ap (option_and_then (λ (a : Attributes). fin.get a q)) (fin.get-empty nat_cmp m) ∙ first_has m q;
    none = λ q. ap (option_map (λ (i : Index). i.kind)) (fin.get-empty name_cmp q);
  }
    where
      first_there : (m : ℕ) → false ≡ (nat_lt m 1 && fin.contains_key s.nodes m)
      first_there zero = sym (and_right (nat_lt 0 1) (fin.contains_key s.nodes 0) numbered.no_zero)
      first_there (suc m) = sym (ap (λ b. b && fin.contains_key s.nodes (suc m)) (not_below (suc m) 1 (omega arith)))

      first_has : (m : ℕ) (q : List ℕ) → None ≡ cond (nat_lt m 1 && not (is_held s m q)) (attribute s m q) None
      first_has zero q = sym (none_either_way (nat_lt 0 1 && not (is_held s 0 q)) (attribute s 0 q) (no_attribute s 0 q numbered.no_zero))
      first_has (suc m) q = sym (ap (λ b. cond (b && not (is_held s (suc m) q)) (attribute s (suc m) q) None) (not_below (suc m) 1 (omega arith)))

  rebuilt : Goes empty (state_ops s) s
  rebuilt =
      let begins : 1 ≤ s.next = numbered.begins in
      let a : Reaches empty (flat_map (number_ops s) (numbers_from s 1)) (Onward s empty (s.next - 1)) = numbers s sound empty begun (s.next - 1) in
      let on : a.u.next ≡ 1 + (s.next - 1) = a.is.next in
      let on_to : a.u.next ≡ s.next = omega arith in
      let b : Reaches a.u (index_ops s) (AtHeld s 1) = indices s sound numbered a.u a.is.at on_to in
      let d : Reaches b.u (flat_map (held_ops s) (numbers_from s 1)) (AtHeld s (1 + (s.next - 1))) = holdings s sound 1 b.u b.is (s.next - 1) in
      let whole : 1 + (s.next - 1) ≡ s.next = omega arith in
      let last : AtHeld s s.next d.u = subst (λ m. AtHeld s m d.u) whole d.is in
      subst (Goes empty (state_ops s)) (finished d.u last)
      (joined empty a.u d.u (flat_map (number_ops s) (numbers_from s 1)) (index_ops s ++ flat_map (held_ops s) (numbers_from s 1)) a.goes
      (joined a.u b.u d.u (index_ops s) (flat_map (held_ops s) (numbers_from s 1)) b.goes d.goes))

  pub is_accepted : IsOk (steps empty (state_ops s))
  is_accepted = ap is_ok (rebuilt.is [])

  pub is_same : state_after empty (state_ops s) ≡ s
  is_same = ap (reached empty) (rebuilt.is [])
