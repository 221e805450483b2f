-- An index in its order, and those of its nodes that satisfy a query.
use Rattle.std.proofs.Common.{◌≡◌, ◌⊎◌, ◌<◌, ◌+◌, ℕ, zero, suc, Bool, true, false, cond, List, [], ◌∷◌, ◌++◌, ◌&&◌, not, refl, sym, ap, ◌∙◌, subst, arith, Some, None, inl, inr, take, drop, length, filter, length-append, append-nil, append_assoc, nat_lt, min, if◌then◌else◌}
use Rattle.std.specs.Prelude.{T}
use Rattle.std.specs.List.{Contains, flat_map}
use Rattle.std.specs.Option.{option_map}
use Rattle.std.specs.Result.{result_map_both}
use Rattle.std.proofs.Math.ListN.{drop_of_length-le}
use Rattle.std.proofs.lemmas.Bool.{cases_lt, lt-ltb}
use Rattle.std.proofs.lemmas.List.{drop_all, length-take-le, take-append-drop, take-append-le, take_all}
use Rattle.std.proofs.lemmas.List.Elements.{Contains-append_left, Contains-append_right, filter-append}
use Rattle.std.specs.FinMap as fin
use Rattle.std.specs.FinMap.Entries.{find, is_sorted, is_sorted-where_key}
use Rattle.std.specs.declared.option.Option.{Option}
use Rattle.std.specs.declared.cmp.Ordering.TheVariants.{Less}
use Rattle.std.specs.declared.result.Result.TheVariants.{Ok, Err}
use Rattle.be_value.specs.Key.{key}
use Rattle.be_value.specs.declared.refusals.Refusal.TheVariants.{NoSuchIndex, NotCovered}
use Rattle.be_value.specs.declared.values.Kind.{Kind}
use Rattle.be_value.specs.declared.values.Value.{Value}
use Rattle.be_query.specs.Grammar.{Formula}
use Rattle.be_plan.specs.declared.keytests.KeyTest.{KeyTest}
use Rattle.be_volume.specs.Query.{covered, sat, scan, sees}
use Rattle.be_volume.specs.Reading.{index_kind}
use Rattle.be_volume.specs.Sound.{IsSound, IsPaired}
use Rattle.be_volume.specs.Volume.{State}
use Rattle.be_plan.specs.Bounding.{Bounding}
use Rattle.be_plan.specs.Narrow.{IsPair, Within, is_above}
use Rattle.be_volume.specs.Maps.{name_cmp}
use Rattle.std.specs.Ordering.{is_lt}
use Rattle.be_plan.proofs.Answering.{has_attribute}
use Rattle.be_plan.proofs.Rising.{contains_of_is_in}
use Rattle.be_order.specs.Asked.{HasFront, IsPart, IsTestFor, index_after, is_within, true_after}
use Rattle.be_order.specs.Ordered.{after, cursor_at, in_order, is_after, key_cmp, keyed, keys_of, nodes_of, page, page_of, page_with}
use Rattle.be_order.specs.Walks.{AreFirst, AreHeld, HasWalked, IsEntry, IsPassing}
use Rattle.be_order.proofs.Cursors.{after_part}
use Rattle.be_order.proofs.Filters.{from_filter, in_filter, nodes_filter, sorted_filter}
use Rattle.be_order.proofs.Fronts.{at_contained, contained_at, first_are, sorted_keys}
use Rattle.be_order.proofs.KeyLists.{found_after}
use Rattle.be_order.proofs.PageKeys.{cursor_last, mapped_contains}
use Rattle.be_order.proofs.Walked.{IsOneOf, found_is, is_found, key_of_seen, seen_of_key}
use Rattle.be_order.proofs.WalkedPages.{Ended, contains_front, ended, has_by_kind, keys_append, length_take, nodes_append, nodes_length, nodes_take}

abbrev Entries : Type 0
Entries = List (List ℕ × ℕ)

both_false : (a b : Bool) → a ≡ false → b ≡ false → (not a && not b) ≡ true
both_false false false e f = refl
both_false false true e f = cc
both_false true b e f = cc

first_false : (a b : Bool) → (not a && not b) ≡ true → a ≡ false
first_false false b e = refl
first_false true b e = cc

second_false : (a b : Bool) → (not a && not b) ≡ true → b ≡ false
second_false a false e = refl
second_false false true e = cc
second_false true true e = cc

-- The two ways to state that a key is in a range agree.
lies_within : (low : List ℕ) (high : Option (List ℕ)) (k : List ℕ) → Within low high k → is_within low high k ≡ true
lies_within low high k w = both_false (is_lt (name_cmp k low)) (is_above high k) w.from_low w.to_high

within_range : (low : List ℕ) (high : Option (List ℕ)) (k : List ℕ) → is_within low high k ≡ true → Within low high k
within_range low high k e = record {
  from_low = first_false (is_lt (name_cmp k low)) (is_above high k) e;
  to_high = second_false (is_lt (name_cmp k low)) (is_above high k) e;
}

-- Every node that a walk found is in the index.
pub walked_held : (s : State) (by low : List ℕ) (high : Option (List ℕ)) (descending : Bool) (cursor : Option (List ℕ)) (most : ℕ) (before after_walk : List ℕ) →
    HasWalked (IsEntry s by low high) descending cursor most before after_walk → before ≡ [] → AreHeld s by after_walk
walked_held s by low high descending cursor most before after_walk walked empty = λ n h.
    let e = mapped_contains (λ (e : List ℕ × ℕ). e.1) walked.entries n (subst (λ (l : List ℕ). Contains l n) (walked.added ∙ ap (λ l. l ++ nodes_of walked.entries) empty) h) in
    let one = walked.first.only e.0.0 e.0.1 e.1 in
    (e.0.0, one.0.is_key, one.0.node_is ∙ e.2)

pub passing_held : (s : State) (by low : List ℕ) (high : Option (List ℕ)) (descending : Bool) (cursor : Option (List ℕ)) (test : KeyTest) (most : ℕ) (got : List ℕ) →
    HasWalked (IsPassing s by low high test) descending cursor most [] got → AreHeld s by got
passing_held s by low high descending cursor test most got walked = λ n h.
    let e = mapped_contains (λ (e : List ℕ × ℕ). e.1) walked.entries n (subst (λ (l : List ℕ). Contains l n) walked.added h) in
    let one = walked.first.only e.0.0 e.0.1 e.1 in
    (e.0.0, one.0.0.is_key, one.0.0.node_is ∙ e.2)

module _ (s : State) (sound : IsSound s) (by : List ℕ) (kind : Kind) (is : index_kind s by ≡ Some kind) (descending : Bool) where
  abbrev nodes_all : List ℕ
  nodes_all = fin.keys s.nodes

  abbrev rest_of : Option (List ℕ) → List ℕ → Entries
  rest_of cursor nodes = after descending cursor (in_order s by descending nodes)

  -- A node in the index is a node of the volume.
  in_nodes : (n : ℕ) (value : Value) → sees s n by ≡ Some value → Contains nodes_all n
  in_nodes n value seen =
      let k = key_of_seen s sound by kind is n value seen in
      let h = k.0 in
      let p : IsPaired s by h.index.kind h.node h.value = sound.pairs by h.index h.node h.value h.there h.paired in
      subst (Contains nodes_all) k.1 (contains_of_is_in nodes_all h.node (sym (fin.contains_key-keys s.nodes h.node) ∙ has_attribute s h.node by h.value p.attribute_is))

  pub sorted_rest : (cursor : Option (List ℕ)) (nodes : List ℕ) → T (is_sorted (key_cmp descending) (rest_of cursor nodes))
  sorted_rest cursor nodes = is_sorted-where_key (key_cmp descending) (is_after descending cursor) _ (fin.entries_sorted (fin.from_entries {R = key_cmp descending} (flat_map (keyed s by) nodes)))

  -- Whatever is found in the rest is the key of one of the nodes, and comes after the cursor.
  pub there_is : (cursor : Option (List ℕ)) (nodes q : List ℕ) (n : ℕ) → find (key_cmp descending) q (rest_of cursor nodes) ≡ Some n →
      (is_after descending cursor q ≡ true) × IsOneOf s sound by kind is descending nodes q n
  there_is cursor nodes q n h = step (is_after descending cursor q) refl (sym (found_after descending cursor (flat_map (keyed s by) nodes) q) ∙ h)
    where
      step : (b : Bool) → is_after descending cursor q ≡ b → cond b (find (key_cmp descending) q (flat_map (keyed s by) nodes)) None ≡ Some n → (is_after descending cursor q ≡ true) × IsOneOf s sound by kind is descending nodes q n
      step false e g = cc
      step true e g = (e, found_is s sound by kind is descending nodes q n g)

  pub is_there : (cursor : Option (List ℕ)) (nodes q : List ℕ) (n : ℕ) → is_after descending cursor q ≡ true → IsOneOf s sound by kind is descending nodes q n →
      find (key_cmp descending) q (rest_of cursor nodes) ≡ Some n
  is_there cursor nodes q n e one =
      found_after descending cursor (flat_map (keyed s by) nodes) q
      ∙ ap (λ b. cond b (find (key_cmp descending) q (flat_map (keyed s by) nodes)) None) e
      ∙ ap (λ l. find (key_cmp descending) l (flat_map (keyed s by) nodes)) one.3
      ∙ is_found s sound by kind is descending n one.0 one.2 nodes one.1

  -- The cursor after some entries of the index is the key of the last node.
  module _ (cursor last : Option (List ℕ)) (front : Entries) (are : (e : List ℕ × ℕ) → Contains front e → IsOneOf s sound by kind is descending nodes_all e.0 e.1) (found : List ℕ) (found_is_front : found ≡ nodes_of front)
      (stays : length found ≡ 0 → last ≡ cursor)
      (moves : (n : ℕ) (first : List ℕ) → found ≡ first ++ n ∷ [] → last ≡ option_map (λ value. key value n) (sees s n by)) where
    pub cursor_left : cursor_at cursor (keys_of front) ≡ last
    cursor_left = at (ended front)
      where
        at : Ended front → cursor_at cursor (keys_of front) ≡ last
        at (inl none) = ap (λ l. cursor_at cursor (keys_of l)) none ∙ sym (stays (ap length found_is_front ∙ ap (λ l. length (nodes_of l)) none))
        at (inr some) =
            let init = some.0 in
            let e = some.1 in
            let there : Contains front e = subst (λ l. Contains l e) (sym some.2) (Contains-append_right init (e ∷ []) e (0, omega arith, refl)) in
            let one = are e there in
            let ends : found ≡ nodes_of init ++ e.1 ∷ [] = found_is_front ∙ ap nodes_of some.2 ∙ nodes_append init (e ∷ []) in
            ap (λ l. cursor_at cursor (keys_of l)) some.2 ∙ ap (cursor_at cursor) (keys_append init (e ∷ [])) ∙ cursor_last cursor (keys_of init) e.0
            ∙ ap (λ l. Some l) one.3 ∙ sym (ap (option_map (λ value. key value e.1)) one.2) ∙ sym (moves e.1 (nodes_of init) ends)

  -- An entry of the answer is an entry of the index.
  of_answer : (cursor : Option (List ℕ)) (p : ℕ → Bool) (e : List ℕ × ℕ) → Contains (rest_of cursor (filter p nodes_all)) e → IsOneOf s sound by kind is descending nodes_all e.0 e.1
  of_answer cursor p e h =
      let one = (there_is cursor (filter p nodes_all) e.0 e.1 (at_contained descending e.0 e.1 (rest_of cursor (filter p nodes_all)) (sorted_rest cursor (filter p nodes_all)) h)).1 in
      (one.0, (from_filter p nodes_all e.1 one.1).0, one.2, one.3)

  module _ (low : List ℕ) (high : Option (List ℕ)) where
    abbrev in_range : List ℕ × ℕ → Bool
    in_range e = is_within low high e.0

    abbrev held : Entries
    held = filter in_range (in_order s by descending nodes_all)

    abbrev ahead_of : Option (List ℕ) → Entries
    ahead_of cursor = index_after s by low high descending cursor

    sorted_ahead : (cursor : Option (List ℕ)) → T (is_sorted (key_cmp descending) (ahead_of cursor))
    sorted_ahead cursor = is_sorted-where_key (key_cmp descending) (is_after descending cursor) held
        (sorted_filter descending in_range (in_order s by descending nodes_all) (fin.entries_sorted (fin.from_entries {R = key_cmp descending} (flat_map (keyed s by) nodes_all))))

    -- The entries of the range after the cursor are exactly the pairs of the index there.
    held_is : (cursor : Option (List ℕ)) (e : List ℕ × ℕ) → Contains (ahead_of cursor) e →
        (is_after descending cursor e.0 ≡ true) × (is_within low high e.0 ≡ true) × IsOneOf s sound by kind is descending nodes_all e.0 e.1
    held_is cursor e h =
        let Passes : List ℕ × ℕ → Bool = λ x. is_after descending cursor x.0 in
        let later = from_filter Passes held e h in
        let within = from_filter in_range (in_order s by descending nodes_all) e later.0 in
        let there = in_filter Passes (in_order s by descending nodes_all) e within.0 later.1 in
        (later.1, within.1, (there_is cursor nodes_all e.0 e.1 (at_contained descending e.0 e.1 (rest_of cursor nodes_all) (sorted_rest cursor nodes_all) there)).1)

    is_held : (cursor : Option (List ℕ)) (q : List ℕ) (n : ℕ) → is_after descending cursor q ≡ true → is_within low high q ≡ true → IsOneOf s sound by kind is descending nodes_all q n → Contains (ahead_of cursor) (q, n)
    is_held cursor q n e w one =
        let Passes : List ℕ × ℕ → Bool = λ x. is_after descending cursor x.0 in
        let there = contained_at descending q n (rest_of cursor nodes_all) (is_there cursor nodes_all q n e one) in
        let all = from_filter Passes (in_order s by descending nodes_all) (q, n) there in
        in_filter Passes held (q, n) (in_filter in_range (in_order s by descending nodes_all) (q, n) all.0 w) e

    -- The two ways to state that an entry of the range comes after the cursor agree.
    entry_held : (cursor : Option (List ℕ)) (q : List ℕ) (n : ℕ) → IsEntry s by low high q n → is_after descending cursor q ≡ true → Contains (ahead_of cursor) (q, n)
    entry_held cursor q n e after =
        let k = e.is_key in
        let V : ℕ → Type 0 = λ m. sees s m by ≡ Some k.value in
        let seen : sees s n by ≡ Some k.value = subst V e.node_is (seen_of_key s sound by kind is q k).0 in
        is_held cursor q n after (lies_within low high q e.within) (k.value, in_nodes n k.value seen, seen, k.is ∙ ap (key k.value) e.node_is)

    held_entry : (cursor : Option (List ℕ)) (q : List ℕ) (n : ℕ) → Contains (ahead_of cursor) (q, n) → IsEntry s by low high q n × (is_after descending cursor q ≡ true)
    held_entry cursor q n h =
        let held_one = held_is cursor (q, n) h in
        let one = held_one.2 in
        let k = key_of_seen s sound by kind is n one.0 one.2 in
        let E : List ℕ → Type 0 = λ l. IsEntry s by low high l n in
        (subst E (sym one.3) (record { is_key = k.0; within = subst (Within low high) one.3 (within_range low high q held_one.1); node_is = k.1 }), held_one.0)

    -- A walk over the range finds the first entries.
    module _ (cursor : Option (List ℕ)) (most : ℕ) (es : Entries) (firsts : AreFirst (IsEntry s by low high) descending cursor most es) where
      among : (q : List ℕ) (n : ℕ) → find (key_cmp descending) q es ≡ Some n → find (key_cmp descending) q (ahead_of cursor) ≡ Some n
      among q n h =
          let one = firsts.only q n (contained_at descending q n es h) in
          at_contained descending q n (ahead_of cursor) (sorted_ahead cursor) (entry_held cursor q n one.0 one.1)

      reaches : (q : List ℕ) (n : ℕ) → find (key_cmp descending) q (ahead_of cursor) ≡ Some n →
          (find (key_cmp descending) q es ≡ Some n) ⊎ ((length es ≡ most) × ((x : List ℕ) (k : ℕ) → find (key_cmp descending) x es ≡ Some k → key_cmp descending x q ≡ Less))
      reaches q n h =
          let there = held_entry cursor q n (contained_at descending q n (ahead_of cursor) h) in
          elim (firsts.all q n there.0 there.1) [
            | inl i ↦ inl (at_contained descending q n es (sorted_keys descending es firsts.rising) i)
            | inr full ↦ inr (full.0, λ x m i. full.1 x m (contained_at descending x m es i))
          ]

      pub walked_index : es ≡ take most (ahead_of cursor)
      walked_index = first_are descending most es (ahead_of cursor) (sorted_keys descending es firsts.rising) (sorted_ahead cursor) among reaches firsts.few

    -- A walk that tests keys finds the first nodes that satisfy the remaining condition.
    module _ (test : KeyTest) (left : Formula) (is_for : IsTestFor s by test left) (cursor : Option (List ℕ)) (most : ℕ) (got : List ℕ)
        (walked : HasWalked (IsPassing s by low high test) descending cursor (suc most) [] got) where
      abbrev is_true : List ℕ × ℕ → Bool
      is_true e = sat s left e.1

      abbrev passed : Entries
      passed = filter is_true (ahead_of cursor)

      sorted_passed : T (is_sorted (key_cmp descending) passed)
      sorted_passed = sorted_filter descending is_true (ahead_of cursor) (sorted_ahead cursor)

      tested_among : (q : List ℕ) (n : ℕ) → find (key_cmp descending) q walked.entries ≡ Some n → find (key_cmp descending) q passed ≡ Some n
      tested_among q n h =
          let one = walked.first.only q n (contained_at descending q n walked.entries h) in
          at_contained descending q n passed sorted_passed (in_filter is_true (ahead_of cursor) (q, n) (entry_held cursor q n one.0.0 one.1) (sym (is_for n) ∙ one.0.1))

      tested_reaches : (q : List ℕ) (n : ℕ) → find (key_cmp descending) q passed ≡ Some n →
          (find (key_cmp descending) q walked.entries ≡ Some n) ⊎ ((length walked.entries ≡ suc most) × ((x : List ℕ) (k : ℕ) → find (key_cmp descending) x walked.entries ≡ Some k → key_cmp descending x q ≡ Less))
      tested_reaches q n h =
          let kept = from_filter is_true (ahead_of cursor) (q, n) (contained_at descending q n passed h) in
          let there = held_entry cursor q n kept.0 in
          elim (walked.first.all q n (there.0, is_for n ∙ kept.1) there.1) [
            | inl i ↦ inl (at_contained descending q n walked.entries (sorted_keys descending walked.entries walked.first.rising) i)
            | inr full ↦ inr (full.0, λ x m i. full.1 x m (contained_at descending x m walked.entries i))
          ]

      abbrev all_true : List ℕ
      all_true = true_after s left by low high descending cursor

      got_is : got ≡ take (suc most) all_true
      got_is =
          let front : walked.entries ≡ take (suc most) passed =
          first_are descending (suc most) walked.entries passed (sorted_keys descending walked.entries walked.first.rising) sorted_passed tested_among tested_reaches walked.first.few in
          walked.added ∙ ap nodes_of front ∙ nodes_take (suc most) passed ∙ ap (take (suc most)) (nodes_filter (sat s left) (ahead_of cursor))

      pub tested_front : HasFront most all_true got
      tested_front = record {
        rest = drop (suc most) all_true;
        parts = sym (ap (λ l. l ++ drop (suc most) all_true) got_is ∙ take-append-drop (suc most) all_true);
        enough = elim (cases_lt most (length all_true)) [
          | inl longer ↦ let full : length got ≡ suc most = ap length got_is ∙ length-take-le (suc most) all_true (omega (arith, longer)) in inr (omega (arith, full))
          | inr short ↦ inl (drop_all (suc most) all_true (omega (arith, short)))
        ];
      }

    -- Every node of a front is in the index.
    pub front_held : (f : Formula) (cursor : Option (List ℕ)) (most : ℕ) (got : List ℕ) → HasFront most (true_after s f by low high descending cursor) got → AreHeld s by got
    front_held f cursor most got has = λ n h.
        let there : Contains (true_after s f by low high descending cursor) n = subst (λ (l : List ℕ). Contains l n) (sym has.parts) (Contains-append_left got has.rest n h) in
        let e = mapped_contains (λ (e : List ℕ × ℕ). e.1) (ahead_of cursor) n (from_filter (sat s f) (nodes_of (ahead_of cursor)) n there).0 in
        let one = (held_is cursor e.0 e.1).2 in
        let k = key_of_seen s sound by kind is e.0.1 one.0 one.2 in
        (key one.0 e.0.1, k.0, k.1 ∙ e.2)

    -- The entries of the range whose nodes satisfy the remaining condition are the whole answer.
    module _ (f left : Formula) (bounding : Bounding f by kind low high (Some left)) (cursor : Option (List ℕ)) where
      abbrev passes : List ℕ × ℕ → Bool
      passes e = sat s left e.1

      abbrev whole : Entries
      whole = filter passes (ahead_of cursor)

      abbrev answer : Entries
      answer = rest_of cursor (filter (sat s f) nodes_all)

      sorted_whole : T (is_sorted (key_cmp descending) whole)
      sorted_whole = sorted_filter descending passes (ahead_of cursor) (sorted_ahead cursor)

      pair_of : (n : ℕ) (value : Value) → sees s n by ≡ Some value → IsPair kind value n
      pair_of n value seen = (key_of_seen s sound by kind is n value seen).2

      to_answer : (q : List ℕ) (n : ℕ) → find (key_cmp descending) q whole ≡ Some n → find (key_cmp descending) q answer ≡ Some n
      to_answer q n h =
          let kept = from_filter passes (ahead_of cursor) (q, n) (contained_at descending q n whole h) in
          let one = held_is cursor (q, n) kept.0 in
          let value = one.2.0 in
          let within : Within low high (key value n) = subst (Within low high) one.2.3 (within_range low high q one.1) in
          let true_of : sat s f n ≡ true = bounding.leaves s value n (pair_of n value one.2.2) within one.2.2 ∙ kept.1 in
          is_there cursor (filter (sat s f) nodes_all) q n one.0 (value, in_filter (sat s f) nodes_all n one.2.1 true_of, one.2.2, one.2.3)

      to_whole : (q : List ℕ) (n : ℕ) → find (key_cmp descending) q answer ≡ Some n → find (key_cmp descending) q whole ≡ Some n
      to_whole q n h =
          let one = there_is cursor (filter (sat s f) nodes_all) q n h in
          let value = one.1.0 in
          let both = from_filter (sat s f) nodes_all n one.1.1 in
          let pair = pair_of n value one.1.2 in
          let within : Within low high (key value n) = bounding.keeps s value n pair one.1.2 both.1 in
          let true_of : sat s left n ≡ true = sym (bounding.leaves s value n pair within one.1.2) ∙ both.1 in
          let there = is_held cursor q n one.0 (lies_within low high q (subst (Within low high) (sym one.1.3) within)) (value, both.0, one.1.2, one.1.3) in
          at_contained descending q n whole sorted_whole (in_filter passes (ahead_of cursor) (q, n) there true_of)

      whole_is : whole ≡ answer
      whole_is =
          let most = length whole + length answer in
          first_are descending most whole answer sorted_whole (sorted_rest cursor (filter (sat s f) nodes_all)) to_answer (λ q n h. inl (to_whole q n h)) (omega arith)
          ∙ take_all most answer (omega arith)

      pub answer_nodes : nodes_of answer ≡ true_after s left by low high descending cursor
      answer_nodes = ap nodes_of (sym whole_is) ∙ nodes_filter (sat s left) (ahead_of cursor)

    -- A part of the range that has been walked.
    module _ (cursor next : Option (List ℕ)) (count : ℕ) (before after_walk found : List ℕ) (walked : HasWalked (IsEntry s by low high) descending cursor count before after_walk) (empty : before ≡ [])
        (kept : found ≡ take count after_walk) (stays : length found ≡ 0 → next ≡ cursor)
        (moves : (n : ℕ) (front : List ℕ) → found ≡ front ++ n ∷ [] → next ≡ option_map (λ value. key value n) (sees s n by)) (more : Bool) (less : more ≡ false → length after_walk < count) where
      abbrev ahead : Entries
      ahead = ahead_of cursor

      part : walked.entries ≡ take count ahead
      part = walked_index cursor count walked.entries walked.first

      all : after_walk ≡ nodes_of (take count ahead)
      all = walked.added ∙ ap (λ l. l ++ nodes_of walked.entries) empty ∙ ap nodes_of part

      taken_twice : (n : ℕ) (es : Entries) → take n (take n es) ≡ take n es
      taken_twice zero es = refl
      taken_twice (suc n) [] = refl
      taken_twice (suc n) (e ∷ es) = ap (λ l. e ∷ l) (taken_twice n es)

      found_part : found ≡ nodes_of (take count ahead)
      found_part = kept ∙ ap (take count) all ∙ sym (nodes_take count (take count ahead)) ∙ ap nodes_of (taken_twice count ahead)

      pub is_part : IsPart s by low high descending count cursor next found more
      is_part = record {
        nodes_are = found_part;
        rest_is = ap (λ c. after descending c held)
            (sym (cursor_left cursor next (take count ahead) (λ e h. (held_is cursor e (contains_front count ahead e h)).2) found found_part stays moves))
            ∙ after_part descending count cursor held (sorted_ahead cursor);
        ended = λ e.
            let count_is : length after_walk ≡ min count (length ahead) = ap length all ∙ nodes_length (take count ahead) ∙ length_take count ahead in
            drop_of_length-le ahead (omega (arith, less e, count_is));
      }

    -- A page from the first nodes that satisfy the query.
    module _ (f left : Formula) (bounding : Bounding f by kind low high (Some left)) (covers : covered s f ≡ true) (cursor last : Option (List ℕ)) (most : ℕ) (got found : List ℕ) (has : HasFront most (true_after s left by low high descending cursor) got) (kept : found ≡ take most got)
        (stays : length found ≡ 0 → last ≡ cursor)
        (moves : (n : ℕ) (front : List ℕ) → found ≡ front ++ n ∷ [] → last ≡ option_map (λ value. key value n) (sees s n by)) (more : Bool) (more_is : more ≡ nat_lt most (length got)) where
      abbrev nodes_true : List ℕ
      nodes_true = filter (sat s f) nodes_all

      abbrev rest : Entries
      rest = rest_of cursor nodes_true

      taken : take most (true_after s left by low high descending cursor) ≡ take most got
      taken = elim has.enough [
        | inl none ↦ ap (take most) (has.parts ∙ ap (λ l. got ++ l) none ∙ append-nil got)
        | inr full ↦ ap (take most) has.parts ∙ take-append-le most got has.rest (omega (arith, full))
      ]

      counted : nat_lt most (length (true_after s left by low high descending cursor)) ≡ nat_lt most (length got)
      counted = elim has.enough [
        | inl none ↦ ap (λ l. nat_lt most (length l)) (has.parts ∙ ap (λ l. got ++ l) none ∙ append-nil got)
        | inr full ↦
            let longer : length (true_after s left by low high descending cursor) ≡ length got + length has.rest = ap length has.parts ∙ length-append got has.rest in
            lt-ltb most (length (true_after s left by low high descending cursor)) (omega (arith, full, longer)) ∙ sym (lt-ltb most (length got) full)
      ]

      front_nodes : found ≡ nodes_of (take most rest)
      front_nodes = kept ∙ sym taken ∙ ap (take most) (sym (answer_nodes f left bounding cursor)) ∙ sym (nodes_take most rest)

      pub asked_page : page s f by descending cursor most ≡ Ok (page_with found last more)
      asked_page =
          let whole_page : page_of cursor most rest ≡ page_with found last more =
          let n : nodes_of (take most rest) ≡ found = sym front_nodes in
          let m : nat_lt most (length rest) ≡ more = ap (nat_lt most) (sym (nodes_length rest)) ∙ ap (λ l. nat_lt most (length l)) (answer_nodes f left bounding cursor) ∙ counted ∙ sym more_is in
          let c : cursor_at cursor (keys_of (take most rest)) ≡ last = cursor_left cursor last (take most rest) (λ e h. of_answer cursor (sat s f) e (contains_front most rest e h)) found front_nodes stays moves in
          λ i. record { nodes = n i; more = m i; cursor = c i } in
          ap (λ b. result_map_both (λ l. page_of cursor most (after descending cursor l)) (λ e. e)
          (if b then result_map_both (in_order s by descending) (λ e. e) (scan s f) else Err NoSuchIndex)) (has_by_kind s by kind is)
          ∙ ap (λ b. result_map_both (λ l. page_of cursor most (after descending cursor l)) (λ e. e)
          (result_map_both (in_order s by descending) (λ e. e) (if b then Ok nodes_true else Err NotCovered))) covers
          ∙ ap (λ p. Ok p) whole_page

-- The nodes that a part adds.
module _ (s : State) (f : Formula) (by low : List ℕ) (high : Option (List ℕ)) (descending : Bool) (count : ℕ) (cursor next : Option (List ℕ)) (nodes : List ℕ) (more : Bool) (part : IsPart s by low high descending count cursor next nodes more) where
  pub stepped : true_after s f by low high descending cursor ≡ filter (sat s f) nodes ++ true_after s f by low high descending next
  stepped =
      let ahead = index_after s by low high descending cursor in
      ap (λ l. filter (sat s f) (nodes_of l)) (sym (take-append-drop count ahead))
      ∙ ap (filter (sat s f)) (nodes_append (take count ahead) (drop count ahead))
      ∙ filter-append (sat s f) (nodes_of (take count ahead)) (nodes_of (drop count ahead))
      ∙ ap (λ l. filter (sat s f) l ++ filter (sat s f) (nodes_of (drop count ahead))) (sym part.nodes_are)
      ∙ ap (λ l. filter (sat s f) nodes ++ filter (sat s f) (nodes_of l)) (sym part.rest_is)

  pub none_left : more ≡ false → true_after s f by low high descending next ≡ []
  none_left e = ap (λ l. filter (sat s f) (nodes_of l)) (part.rest_is ∙ part.ended e)

-- One part after another.
pub joined : (all before rest piece later found : List ℕ) → all ≡ before ++ rest → rest ≡ piece ++ later → found ≡ before ++ piece → all ≡ found ++ later
joined all before rest piece later found whole split more =
    whole ∙ ap (λ l. before ++ l) split ∙ sym (append_assoc before piece later) ∙ ap (λ l. l ++ later) (sym more)
