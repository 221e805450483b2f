-- If a range of an index decides a query, a walk over it in order finds the first nodes of the
-- answer.
use Rattle.std.proofs.Common.{◌≡◌, ◌⊎◌, ◌<◌, ◌+◌, ◌^◌, ℕ, zero, suc, Bool, true, false, cond, List, [], ◌∷◌, ◌++◌, refl, sym, ap, ◌∙◌, subst, arith, Some, None, inl, inr, take, length, filter, IsTrue, if◌then◌else◌}
use Rattle.std.specs.List.{Contains, flat_map}
use Rattle.std.specs.Option.{option_map, option_map_or}
use Rattle.std.proofs.lemmas.Option.{same_Some}
use Rattle.std.specs.Ordering.{eq_by_cmp}
use Rattle.std.specs.FinMap as fin
use Rattle.std.specs.FinMap.Entries.{find, is_sorted-where_key}
use Rattle.std.specs.declared.option.Option.{Option}
use Rattle.std.specs.declared.cmp.Ordering.{Ordering}
use Rattle.std.specs.declared.cmp.Ordering.TheVariants.{Less}
use Rattle.std.specs.declared.result.Result.TheVariants.{Ok, Err}
use Rattle.be_value.specs.Key.{key}
use Rattle.be_value.specs.Value.{is_indexable, kind_of}
use Rattle.be_value.specs.declared.values.Kind.{Kind}
use Rattle.be_value.specs.declared.values.Value.{Value}
use Rattle.be_query.specs.Grammar.{Formula, Leaf, And, Or, comparisons}
use Rattle.be_value.specs.declared.refusals.Refusal.TheVariants.{NotCovered}
use Rattle.be_volume.specs.Keys.{IsKey}
use Rattle.be_volume.specs.Query.{holds, sat, scan, sees, seen_in}
use Rattle.be_volume.specs.Reading.{attribute, index_kind}
use Rattle.be_volume.specs.Sound.{IsSound, IsPaired}
use Rattle.be_volume.specs.Volume.{State}
use Rattle.be_volume.specs.declared.maps.Index.{Index}
use Rattle.be_plan.specs.Narrow.{Allows, IsPair, Within}
use Rattle.be_plan.specs.Prepared.{Decides}
use Rattle.be_plan.specs.Walk.{AreAllOn}
use Rattle.be_plan.proofs.Answering.{has_attribute}
use Rattle.be_plan.proofs.Seen.{key_node, left_key}
use Rattle.be_plan.proofs.Rising.{contains_of_is_in, from_filter, in_by_place, in_filter}
use Rattle.be_plan.proofs.Sides.{named_rests}
use Rattle.be_plan.proofs.Ways.{and_first, and_second}
use Rattle.be_order.specs.Ordered.{after, in_order, is_after, key_cmp, keyed}
use Rattle.be_order.specs.Walks.{AreFirst, IsEntry, IsHeld}
use Rattle.be_order.proofs.KeyLists.{found_after, is_itself, is_same}
use Rattle.be_order.proofs.PageKeys.{entry}
use Rattle.be_order.proofs.Fronts.{first_are, contained_at, at_contained, sorted_keys}

-- If comparisons on one name are true, they allow the value that they see.
allowed : (s : State) (f : Formula) (name : List ℕ) (n : ℕ) (value : Value) (pick at : ℕ) → AreAllOn f name → sat s f n ≡ true → sees s n name ≡ Some value → Allows pick at f name value
allowed s (Leaf own op literal) name n value pick at on h seen = λ _. sym (ap (λ (o : Option Value). option_map_or (λ v. holds op v literal) o false) (ap (sees s n) on ∙ seen)) ∙ h
allowed s (And a b) name n value pick at on h seen = (
  allowed s a name n value pick at on.0 (and_first (sat s a n) (sat s b n) h) seen,
  allowed s b name n value pick (at + comparisons a) on.1 (and_second (sat s a n) (sat s b n) h) seen,
)
allowed s (Or a b) name n value pick at on h seen = absurd on

-- The value of a node in an index is its attribute, whose kind is indexable.
pub held_value : (s : State) → IsSound s → (by : List ℕ) (n : ℕ) → IsHeld s by n → (value : Value) × (attribute s n by ≡ Some value) × (sees s n by ≡ Some value) × IsTrue (is_indexable (kind_of value))
held_value s sound by n held =
    let h = held.1 in
    let p : IsPaired s by h.index.kind h.node h.value = sound.pairs by h.index h.node h.value h.there h.paired in
    let A : ℕ → Type 0 = λ m. attribute s m by ≡ Some h.value in
    let V : ℕ → Type 0 = λ m. sees s m by ≡ Some h.value in
    let Q : Kind → Type 0 = λ k. IsTrue (is_indexable k) in (
      h.value,
      subst A held.2 p.attribute_is,
      subst V held.2 (ap (λ i. seen_in i (attribute s h.node by) h.node) h.there ∙ h.paired),
      subst Q (sym p.kind_is) (sound.kinds by h.index h.there),
    )

module _ (s : State) (sound : IsSound s) (by : List ℕ) (kind : Kind) (is : index_kind s by ≡ Some kind) where
  -- The key of the value seen for the node.
  pub key_of_seen : (n : ℕ) (value : Value) → sees s n by ≡ Some value → (h : IsKey s by (key value n)) × (h.node ≡ n) × IsPair kind value n
  key_of_seen n value seen = at (fin.get s.indices by) refl is seen
    where
      at : (found : Option Index) → fin.get s.indices by ≡ found → option_map (λ (i : Index). i.kind) found ≡ Some kind → seen_in found (attribute s n by) n ≡ Some value →
          (h : IsKey s by (key value n)) × (h.node ≡ n) × IsPair kind value n
      at None there e t = cc
      at (Some index) there e t =
          let p : IsPaired s by index.kind n value = sound.pairs by index n value there t in
          let kinds : index.kind ≡ kind = same_Some index.kind kind e in (
            record { index = index; node = n; value = value; there = there; paired = t; is = refl },
            refl,
            record { is_value = p.is_value; kind_is = p.kind_is ∙ kinds; node_fits = p.node_fits },
          )

  -- The value seen for the node of a key.
  pub seen_of_key : (k : List ℕ) (h : IsKey s by k) → (sees s h.node by ≡ Some h.value) × (h.node < 2 ^ 64)
  seen_of_key k h =
      let p : IsPaired s by h.index.kind h.node h.value = sound.pairs by h.index h.node h.value h.there h.paired in
      (ap (λ i. seen_in i (attribute s h.node by) h.node) h.there ∙ h.paired, p.node_fits)

  module _ (descending : Bool) where
    abbrev pub R : List ℕ → List ℕ → Ordering
    R = key_cmp descending

    abbrev pub entries_of : List ℕ → List (List ℕ × ℕ)
    entries_of nodes = flat_map (keyed s by) nodes

    abbrev pub IsOneOf : List ℕ → List ℕ → ℕ → Type 0
    IsOneOf nodes q n = (value : Value) × Contains nodes n × (sees s n by ≡ Some value) × (q ≡ key value n)

    one_later : (m : ℕ) (nodes q : List ℕ) (n : ℕ) → IsOneOf nodes q n → IsOneOf (m ∷ nodes) q n
    one_later m nodes q n f = (f.0, (suc f.1.0, omega (arith, f.1.1), f.1.2), f.2, f.3)

    one_here : (m : ℕ) (nodes q : List ℕ) (n : ℕ) (value : Value) → sees s m by ≡ Some value → (b : Bool) → eq_by_cmp R q (key value m) ≡ b →
        cond b (Some m) (find R q (entries_of nodes)) ≡ Some n → (find R q (entries_of nodes) ≡ Some n → IsOneOf nodes q n) → IsOneOf (m ∷ nodes) q n
    one_here m nodes q n value seen true e h more =
        let same : m ≡ n = same_Some m n h in
        let P : ℕ → Type 0 = λ x. sees s x by ≡ Some value in
        (value, (0, omega arith, same), subst P same seen, is_same descending q (key value m) e ∙ ap (key value) same)
    one_here m nodes q n value seen false e h more = one_later m nodes q n (more h)

    one_at : (m : ℕ) (nodes q : List ℕ) (n : ℕ) (seen : Option Value) → sees s m by ≡ seen → find R q (option_map_or (λ value. entry m (key value m)) seen [] ++ entries_of nodes) ≡ Some n →
        (find R q (entries_of nodes) ≡ Some n → IsOneOf nodes q n) → IsOneOf (m ∷ nodes) q n
    one_at m nodes q n None e h more = one_later m nodes q n (more h)
    one_at m nodes q n (Some value) e h more = one_here m nodes q n value e (eq_by_cmp R q (key value m)) refl h more

    -- Whatever is found among the keys of the nodes is the key of one of them.
    pub found_is : (nodes q : List ℕ) (n : ℕ) → find R q (entries_of nodes) ≡ Some n → IsOneOf nodes q n
    found_is [] q n h = cc
    found_is (m ∷ nodes) q n h = one_at m nodes q n (sees s m by) refl h (λ g. found_is nodes q n g)

    -- Every one of them is found.
    module _ (n : ℕ) (value : Value) (seen : sees s n by ≡ Some value) where
      key_here : (m : ℕ) (w : Value) → sees s m by ≡ Some w → m ≡ n → eq_by_cmp R (key value n) (key w m) ≡ true
      key_here m w there same =
          let P : ℕ → Type 0 = λ x. sees s x by ≡ Some w in
          let values : w ≡ value = same_Some w value (sym (subst P same there) ∙ seen) in
          let keys : key w m ≡ key value n = ap (λ v. key v m) values ∙ ap (key value) same in
          ap (eq_by_cmp R (key value n)) keys ∙ is_itself descending (key value n)

      found_by : (m : ℕ) (nodes : List ℕ) (w : Value) → sees s m by ≡ Some w → (b : Bool) → eq_by_cmp R (key value n) (key w m) ≡ b → ((m ≡ n) ⊎ (find R (key value n) (entries_of nodes) ≡ Some n)) →
          cond b (Some m) (find R (key value n) (entries_of nodes)) ≡ Some n
      found_by m nodes w there true e h =
          let keys : key value n ≡ key w m = is_same descending (key value n) (key w m) e in
          let same : n ≡ m = key_node value w n m (key_of_seen n value seen).2.node_fits (key_of_seen m w there).2.node_fits keys in
          ap (λ x. Some x) (sym same)
      found_by m nodes w there false e (inl same) = let yes = key_here m w there same in cc
      found_by m nodes w there false e (inr is) = is

      found_seen : (m : ℕ) (nodes : List ℕ) (o : Option Value) → sees s m by ≡ o → ((m ≡ n) ⊎ (find R (key value n) (entries_of nodes) ≡ Some n)) →
          find R (key value n) (option_map_or (λ v. entry m (key v m)) o [] ++ entries_of nodes) ≡ Some n
      found_seen m nodes None e (inl same) = let P : ℕ → Type 0 = λ x. sees s x by ≡ None in let none = subst P same e in cc
      found_seen m nodes None e (inr is) = is
      found_seen m nodes (Some w) e h = found_by m nodes w e (eq_by_cmp R (key value n) (key w m)) refl h

      pub is_found : (nodes : List ℕ) → Contains nodes n → find R (key value n) (entries_of nodes) ≡ Some n
      is_found [] (k, below, at) = absurd (omega arith)
      is_found (m ∷ nodes) (zero, below, at) = found_seen m nodes (sees s m by) refl (inl at)
      is_found (m ∷ nodes) (suc k, below, at) = found_seen m nodes (sees s m by) refl (inr (is_found nodes (k, omega arith, at)))

module _ (s : State) (sound : IsSound s) (f : Formula) (by : List ℕ) (kind : Kind) (is : index_kind s by ≡ Some kind) (on : AreAllOn f by) (low : List ℕ) (high : Option (List ℕ)) (decides : Decides f kind low high) where
  -- The nodes of the scan.
  abbrev pub scanned : List ℕ
  scanned = filter (sat s f) (fin.keys s.nodes)

  pub scan_is : scan s f ≡ Ok scanned
  scan_is = ap (λ b. if b then Ok (filter (sat s f) (fin.keys s.nodes)) else Err NotCovered) (named_rests s f by (Some kind) on (sym is))

  sat_scanned : (n : ℕ) → Contains scanned n → sat s f n ≡ true
  sat_scanned n h = (from_filter (sat s f) (fin.keys s.nodes) n (in_by_place scanned n h)).1

  in_scan : (n : ℕ) (value : Value) → attribute s n by ≡ Some value → sat s f n ≡ true → Contains scanned n
  in_scan n value there h = contains_of_is_in scanned n (in_filter (sat s f) (fin.keys s.nodes) n (sym (fin.contains_key-keys s.nodes n) ∙ has_attribute s n by value there) h)

  module _ (descending : Bool) (cursor : Option (List ℕ)) where
    -- The whole answer after the cursor.
    abbrev rest : List (List ℕ × ℕ)
    rest = after descending cursor (in_order s by descending scanned)

    module _ (most : ℕ) (es : List (List ℕ × ℕ)) (firsts : AreFirst (IsEntry s by low high) descending cursor most es) where
      among : (q : List ℕ) (n : ℕ) → find (key_cmp descending) q es ≡ Some n → find (key_cmp descending) q rest ≡ Some n
      among q n h =
          let one = firsts.only q n (contained_at descending q n es h) in
          let k = one.0.is_key in
          let node : k.node ≡ n = one.0.node_is in
          let S : ℕ → Type 0 = λ m. sat s f m ≡ true in
          let holds_n : sat s f n ≡ true = subst S node (left_key s sound by q k kind is f low high None (decides.leaves by on) one.0.within) in
          let p : IsPaired s by k.index.kind k.node k.value = sound.pairs by k.index k.node k.value k.there k.paired in
          let A : ℕ → Type 0 = λ m. attribute s m by ≡ Some k.value in
          let V : ℕ → Type 0 = λ m. sees s m by ≡ Some k.value in
          let there : Contains scanned n = in_scan n k.value (subst A node p.attribute_is) holds_n in
          let seen : sees s n by ≡ Some k.value = subst V node (seen_of_key s sound by kind is q k).0 in
          let key_is : q ≡ key k.value n = k.is ∙ ap (key k.value) node in
          let found : find (key_cmp descending) q (flat_map (keyed s by) scanned) ≡ Some n =
          ap (λ l. find (key_cmp descending) l (flat_map (keyed s by) scanned)) key_is ∙ is_found s sound by kind is descending n k.value seen scanned there in
          found_after descending cursor (flat_map (keyed s by) scanned) q ∙ ap (λ b. cond b (find (key_cmp descending) q (flat_map (keyed s by) scanned)) None) one.1 ∙ found

      reaches : (q : List ℕ) (n : ℕ) → find (key_cmp descending) q rest ≡ Some n →
          (find (key_cmp descending) q es ≡ Some n) ⊎ ((length es ≡ most) × ((x : List ℕ) (k : ℕ) → find (key_cmp descending) x es ≡ Some k → key_cmp descending x q ≡ Less))
      reaches q n h = step (is_after descending cursor q) refl (sym (found_after descending cursor (flat_map (keyed s by) scanned) q) ∙ h)
        where
          step : (b : Bool) → is_after descending cursor q ≡ b → cond b (find (key_cmp descending) q (flat_map (keyed s by) scanned)) None ≡ Some n →
              (find (key_cmp descending) q es ≡ Some n) ⊎ ((length es ≡ most) × ((x : List ℕ) (k : ℕ) → find (key_cmp descending) x es ≡ Some k → key_cmp descending x q ≡ Less))
          step false e g = cc
          step true e g =
              let one = found_is s sound by kind is descending scanned q n g in
              let value = one.0 in
              let k = key_of_seen s sound by kind is n value one.2 in
              let w : Within low high (key value n) = decides.keeps by on value n k.2 (allowed s f by n value 0 0 on (sat_scanned n one.1) one.2) in
              let E : List ℕ → Type 0 = λ l. IsEntry s by low high l n in
              let there : IsEntry s by low high q n = subst E (sym one.3) (record { is_key = k.0; within = w; node_is = k.1 }) in
              elim (firsts.all q n there e) [
                | inl i ↦ inl (at_contained descending q n es (sorted_keys descending es firsts.rising) i)
                | inr full ↦ inr (full.0, λ x m i. full.1 x m (contained_at descending x m es i))
              ]

      pub walked_are : es ≡ take most rest
      walked_are = first_are descending most es rest (sorted_keys descending es firsts.rising)
          (is_sorted-where_key (key_cmp descending) (is_after descending cursor) _ (fin.entries_sorted (fin.from_entries {R = key_cmp descending} (flat_map (keyed s by) scanned))))
          among reaches firsts.few
