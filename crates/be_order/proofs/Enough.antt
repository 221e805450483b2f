-- Enough nodes of an answer, from a walk over the index of one name.
use Rattle.std.proofs.Common.{◌≡◌, ◌+◌, ℕ, zero, suc, Bool, true, false, ◌&&◌, List, [], ◌∷◌, refl, sym, ap, ◌∙◌, subst, arith, Some, None, take, length, filter, not, if◌then◌else◌}
use Rattle.std.specs.Prelude.{T}
use Rattle.std.proofs.lemmas.Cmp.{eq_by_cmp_equiv, nat_cmp_total}
use Rattle.std.proofs.lemmas.List.Filters.{length-filter_both}
use Rattle.std.proofs.lemmas.Map.Made.{length-from_same_keys}
use Rattle.std.specs.Cmp.{both_ways}
use Rattle.std.specs.FinMap as fin
use Rattle.std.specs.FinMap.Entries.{below_all, is_sorted}
use Rattle.std.specs.List.{Contains, IsDistinct}
use Rattle.std.specs.Result.{result_map_both}
use Rattle.std.specs.declared.option.Option.{Option}
use Rattle.std.specs.declared.result.Result.TheVariants.{Ok, Err}
use Rattle.be_value.specs.Key.{key}
use Rattle.be_value.specs.declared.refusals.Refusal.TheVariants.{NoSuchIndex, NotCovered}
use Rattle.be_value.specs.declared.values.Kind.{Kind}
use Rattle.be_query.specs.Grammar.{Formula}
use Rattle.be_volume.specs.Query.{covered, has_index, sat, scan, sees}
use Rattle.be_volume.specs.Reading.{index_kind}
use Rattle.be_volume.specs.Sound.{IsSound}
use Rattle.be_volume.specs.Volume.{State}
use Rattle.be_plan.proofs.Answering.{true_there}
use Rattle.be_plan.proofs.Rising.{contains_of_is_in, from_filter, in_filter, is_in, rises_filter, rises_keys}
use Rattle.be_order.specs.Firsts.{AreSome, IsAnyOf}
use Rattle.be_order.specs.Ordered.{Page, after, in_order, key_cmp, nodes_of, page, page_of, page_with}
use Rattle.be_order.specs.Walks.{HasAllWithin, HasWalked, IsEntry}
use Rattle.be_order.proofs.Anys.{Keyed, nodes_once, places_apart, rises_once, same_node}
use Rattle.be_order.proofs.Filters as filters
use Rattle.be_order.proofs.Fronts.{at_contained, sorted_keys}
use Rattle.be_order.proofs.IndexParts.{sorted_rest, there_is}
use Rattle.be_order.proofs.PageKeys.{mapped_contains}
use Rattle.be_order.proofs.Walked.{seen_of_key}
use Rattle.be_order.proofs.WalkedPages.{contains_front}

abbrev Entries : Type 0
Entries = List (List ℕ × ℕ)

first : (a b : Bool) → T (a && b) → T a
first true b p = tt
first false b p = p

second : (a b : Bool) → T (a && b) → T b
second true b p = p
second false b p = absurd p

both : (a b : Bool) → T a → T b → T (a && b)
both true b p q = q
both false b p q = p

below_take : (n : ℕ) (k : List ℕ) (es : Entries) → T (below_all (key_cmp false) k es) → T (below_all (key_cmp false) k (take n es))
below_take zero k es h = tt
below_take (suc n) k [] h = h
below_take (suc n) k (e ∷ es) h = both _ _ (first _ _ h) (below_take n k es (second _ _ h))

sorted_take : (n : ℕ) (es : Entries) → T (is_sorted (key_cmp false) es) → T (is_sorted (key_cmp false) (take n es))
sorted_take zero es h = tt
sorted_take (suc n) [] h = h
sorted_take (suc n) (e ∷ es) h = both _ _ (below_take n e.0 es (first _ _ h)) (sorted_take n es (second _ _ h))

module _ (s : State) (sound : IsSound s) (by : List ℕ) (kind : Kind) (is : index_kind s by ≡ Some kind) (f : Formula) (most : ℕ) where
  keyed_entry : (low : List ℕ) (high : Option (List ℕ)) (k : List ℕ) (n : ℕ) → IsEntry s by low high k n → Keyed s by false k n
  keyed_entry low high k n e =
      let h = e.is_key in
      let V : ℕ → Type 0 = λ m. sees s m by ≡ Some h.value in
      (h.value, subst V e.node_is (seen_of_key s sound by kind is k h).0, h.is ∙ ap (key h.value) e.node_is)

  -- The nodes of the first keys of a range all of whose nodes satisfy the formula.
  pub some_walked : (low : List ℕ) (high : Option (List ℕ)) (found : List ℕ) → HasAllWithin s f by low high → HasWalked (IsEntry s by low high) false None most [] found →
      length found ≡ most → AreSome s f most found
  some_walked low high found all walked count =
      let es = walked.entries in
      let firsts = walked.first in
      let P : ℕ → Type 0 = λ m. sat s f m ≡ true in
      let only : (n : ℕ) → Contains (nodes_of es) n → sat s f n ≡ true = λ n h.
      let e = mapped_contains (λ (e : List ℕ × ℕ). e.1) es n h in
      let one = (firsts.only e.0.0 e.0.1 e.1).0 in
      subst P (one.node_is ∙ e.2) (all e.0.0 one.is_key one.within) in
      let once : IsDistinct same_node (nodes_of es) = nodes_once s by false es (sorted_keys false es firsts.rising) (λ k n h. keyed_entry low high k n (firsts.only k n h).0) in
      record {
        only = λ n h. only n (subst (λ (l : List ℕ). Contains l n) walked.added h);
        once = subst (IsDistinct same_node) (sym walked.added) once;
        count = count;
      }

  abbrev nodes : List ℕ
  nodes = filter (sat s f) (fin.keys s.nodes)

  abbrev rest : Entries
  rest = after false None (in_order s by false nodes)

  keyed_rest : (k : List ℕ) (n : ℕ) → Contains rest (k, n) → Keyed s by false k n × Contains nodes n
  keyed_rest k n h =
      let one = there_is s sound by kind is false None nodes k n (at_contained false k n rest (sorted_rest s sound by kind is false None nodes) h) in
      ((one.1.0, one.1.2, one.1.3), one.1.1)

  page_nodes : (found : List ℕ) (next : Option (List ℕ)) (more : Bool) → page s f by false None most ≡ Ok (page_with found next more) → nodes_of (take most rest) ≡ found
  page_nodes found next more e = at (has_index s by) (covered s f) e
    where
      at : (b c : Bool) → result_map_both (λ es. page_of None most (after false None es)) (λ e. e)
          (if b then result_map_both (in_order s by false) (λ e. e) (if c then Ok nodes else Err NotCovered) else Err NoSuchIndex) ≡ Ok (page_with found next more) → nodes_of (take most rest) ≡ found
      at false c e = cc
      at true false e = cc
      at true true e = let same : page_of None most rest ≡ page_with found next more = cc in ap (λ (p : Page). p.nodes) same

  -- The nodes on a full page.
  pub some_paged : (found : List ℕ) (next : Option (List ℕ)) (more : Bool) → page s f by false None most ≡ Ok (page_with found next more) → length found ≡ most → AreSome s f most found
  some_paged found next more e count =
      let front = take most rest in
      let only : (n : ℕ) → Contains (nodes_of front) n → sat s f n ≡ true = λ n h.
      let e = mapped_contains (λ (e : List ℕ × ℕ). e.1) front n h in
      let there : Contains nodes n = subst (Contains nodes) e.2 (keyed_rest e.0.0 e.0.1 (contains_front most rest e.0 e.1)).1 in
      (filters.from_filter (sat s f) (fin.keys s.nodes) n there).1 in
      let once : IsDistinct same_node (nodes_of front) = nodes_once s by false front (sorted_take most rest (sorted_rest s sound by kind is false None nodes))
      (λ k n h. (keyed_rest k n (contains_front most rest (k, n) h)).0) in
      let are = page_nodes found next more e in
      record {
        only = λ n h. only n (subst (λ (l : List ℕ). Contains l n) (sym are) h);
        once = subst (IsDistinct same_node) are once;
        count = count;
      }

-- Enough nodes that satisfy a formula are any nodes of its answer.
pub some_any : (s : State) → IsSound s → (f : Formula) (most : ℕ) (found : List ℕ) → covered s f ≡ true → AreSome s f most found → IsAnyOf (scan s f) most found
some_any s sound f most found rests some =
    let all : List ℕ = filter (sat s f) (fin.keys s.nodes) in
    let inside : (n : ℕ) → Contains found n → is_in n all ≡ true = λ n h.
    in_filter (sat s f) (fin.keys s.nodes) n (sym (fin.contains_key-keys s.nodes n) ∙ true_there s sound f n (some.only n h)) (some.only n h) in
    let p : ℕ → Bool = λ n. is_in n found in
    let kept : List ℕ = filter p all in
    let as_many : length kept ≡ length found = length-from_same_keys (eq_by_cmp_equiv nat_cmp_total) kept found (rises_once kept (rises_filter p all (rises_filter (sat s f) (fin.keys s.nodes) (rises_keys s.nodes))))
    some.once (λ n. both_ways _ _ (λ h. (from_filter p all n h).1) (λ h. in_filter p all n (inside n (contains_of_is_in found n h)) h)) in
    let others : ℕ = length (filter (λ n. not (p n)) all) in
    let parts : length kept + others ≡ length all = length-filter_both p (λ n. not (p n)) (λ n. refl) all in
    record {
      all = all;
      is = ap (λ b. if b then Ok all else Err NotCovered) rests;
      among = λ n h. contains_of_is_in all n (inside n h);
      once = places_apart found some.once;
      count = omega (arith, some.count, as_many, parts);
    }
