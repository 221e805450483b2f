-- A page from the first entries that a walk found.
use Rattle.std.proofs.Common.{◌≡◌, ◌⊎◌, ℕ, zero, suc, Bool, true, List, [], ◌∷◌, ◌++◌, refl, sym, ap, ◌∙◌, subst, arith, Some, None, inl, inr, is_some, take, length, nat_lt, min, if◌then◌else◌}
use Rattle.std.specs.List.{Contains}
use Rattle.std.specs.Option.{option_map}
use Rattle.std.specs.Result.{result_map_both}
use Rattle.std.proofs.lemmas.Bool.{ltb-true, lt-ltb}
use Rattle.std.proofs.lemmas.List.Elements.{Contains-append_right}
use Rattle.std.specs.Cmp.{both_ways}
use Rattle.std.specs.FinMap as fin
use Rattle.std.specs.declared.option.Option.{Option}
use Rattle.std.specs.declared.result.Result.TheVariants.{Ok, Err}
use Rattle.be_value.specs.Key.{key}
use Rattle.be_value.specs.declared.refusals.Refusal.TheVariants.{NoSuchIndex}
use Rattle.be_value.specs.declared.values.Kind.{Kind}
use Rattle.be_query.specs.Grammar.{Formula}
use Rattle.be_volume.specs.Query.{has_index, scan, sees}
use Rattle.be_volume.specs.Reading.{index_kind}
use Rattle.be_volume.specs.Sound.{IsSound}
use Rattle.be_volume.specs.Volume.{State}
use Rattle.be_volume.specs.declared.maps.Index.{Index}
use Rattle.be_plan.specs.Prepared.{Decides}
use Rattle.be_plan.specs.Walk.{AreAllOn}
use Rattle.be_order.specs.Ordered.{after, cursor_at, in_order, keys_of, nodes_of, page, page_of, page_with}
use Rattle.be_order.specs.Walks.{AreFirst, IsEntry}
use Rattle.be_order.proofs.PageKeys.{cursor_last}
use Rattle.be_order.proofs.Walked.{scan_is, scanned, seen_of_key, walked_are}

pub nodes_take : (n : ℕ) (es : List (List ℕ × ℕ)) → nodes_of (take n es) ≡ take n (nodes_of es)
nodes_take zero es = refl
nodes_take (suc n) [] = refl
nodes_take (suc n) (e ∷ es) = ap (λ l. e.1 ∷ l) (nodes_take n es)

pub nodes_append : (xs ys : List (List ℕ × ℕ)) → nodes_of (xs ++ ys) ≡ nodes_of xs ++ nodes_of ys
nodes_append [] ys = refl
nodes_append (x ∷ xs) ys = ap (λ l. x.1 ∷ l) (nodes_append xs ys)

pub keys_append : (xs ys : List (List ℕ × ℕ)) → keys_of (xs ++ ys) ≡ keys_of xs ++ keys_of ys
keys_append [] ys = refl
keys_append (x ∷ xs) ys = ap (λ l. x.0 ∷ l) (keys_append xs ys)

pub nodes_length : (es : List (List ℕ × ℕ)) → length (nodes_of es) ≡ length es
nodes_length [] = refl
nodes_length (e ∷ es) = ap suc (nodes_length es)

take_fewer : (n : ℕ) (es : List (List ℕ × ℕ)) → take n (take (suc n) es) ≡ take n es
take_fewer zero es = refl
take_fewer (suc n) [] = refl
take_fewer (suc n) (e ∷ es) = ap (λ l. e ∷ l) (take_fewer n es)

pub length_take : (n : ℕ) (es : List (List ℕ × ℕ)) → length (take n es) ≡ min n (length es)
length_take zero es = omega arith
length_take (suc n) [] = omega arith
length_take (suc n) (e ∷ es) = omega (arith, length_take n es)

pub contains_front : (n : ℕ) (es : List (List ℕ × ℕ)) (e : List ℕ × ℕ) → Contains (take n es) e → Contains es e
contains_front zero es e h = absurd (omega (arith, h.1))
contains_front (suc n) [] e h = h
contains_front (suc n) (x ∷ es) e (zero, below, is) = (0, omega arith, is)
contains_front (suc n) (x ∷ es) e (suc i, below, is) =
    let later : Contains es e = contains_front n es e (i, omega arith, is) in
    (suc later.0, omega (arith, later.1), later.2)

-- A list is either empty or ends with an entry.
abbrev pub Ended : List (List ℕ × ℕ) → Type 0
Ended es = (es ≡ []) ⊎ ((init : List (List ℕ × ℕ)) × (e : List ℕ × ℕ) × (es ≡ init ++ e ∷ []))

pub ended : (es : List (List ℕ × ℕ)) → Ended es
ended [] = inl refl
ended (x ∷ es) = by (ended es)
  where
    by : Ended es → Ended (x ∷ es)
    by (inl none) = inr ([], x, ap (λ l. x ∷ l) none)
    by (inr some) = inr (x ∷ some.0, some.1, ap (λ l. x ∷ l) some.2)

pub has_by_kind : (s : State) (by : List ℕ) (kind : Kind) → index_kind s by ≡ Some kind → has_index s by ≡ true
has_by_kind s by kind is = at (fin.get s.indices by) is
  where
    at : (found : Option Index) → option_map (λ (i : Index). i.kind) found ≡ Some kind → is_some found ≡ true
    at None e = cc
    at (Some index) e = refl

module _ (s : State) (sound : IsSound s) (f : Formula) (by : List ℕ) (kind : Kind) (is : index_kind s by ≡ Some kind) (on : AreAllOn f by) (low : List ℕ) (high : Option (List ℕ)) (decides : Decides f kind low high)
    (descending : Bool) (cursor : Option (List ℕ)) (most : ℕ) (es : List (List ℕ × ℕ)) (firsts : AreFirst (IsEntry s by low high) descending cursor (suc most) es) (found : List ℕ) (last : Option (List ℕ)) (more : Bool)
    (found_is : found ≡ take most (nodes_of es)) (stays : length found ≡ 0 → last ≡ cursor)
    (moves : (n : ℕ) (front : List ℕ) → found ≡ front ++ n ∷ [] → last ≡ option_map (λ value. key value n) (sees s n by))
    (more_is : more ≡ nat_lt most (length (nodes_of es))) where
  abbrev rest : List (List ℕ × ℕ)
  rest = after descending cursor (in_order s by descending (scanned s sound f by kind is on low high decides))

  abbrev front : List (List ℕ × ℕ)
  front = take most es

  walked : es ≡ take (suc most) rest
  walked = walked_are s sound f by kind is on low high decides descending cursor (suc most) es firsts

  front_is : front ≡ take most rest
  front_is = ap (take most) walked ∙ take_fewer most rest

  nodes_are : nodes_of front ≡ found
  nodes_are = nodes_take most es ∙ sym found_is

  more_there : nat_lt most (length rest) ≡ more
  more_there =
      let count : length (nodes_of es) ≡ min (suc most) (length rest) = nodes_length es ∙ ap length walked ∙ length_take (suc most) rest in
      both_ways _ _
      (λ h. lt-ltb most (length (nodes_of es)) (omega (arith, count, ltb-true most (length rest) h)))
      (λ h. lt-ltb most (length rest) (omega (arith, count, ltb-true most (length (nodes_of es)) h)))
      ∙ sym more_is

  cursor_left : cursor_at cursor (keys_of front) ≡ last
  cursor_left = at (ended front)
    where
      at : Ended front → cursor_at cursor (keys_of front) ≡ last
      at (inl none) = ap (λ l. cursor_at cursor (keys_of l)) none ∙ sym (stays (ap length (sym nodes_are) ∙ ap (λ l. length (nodes_of l)) none))
      at (inr some) =
          let init = some.0 in
          let e = some.1 in
          let there : Contains front e = subst (λ l. Contains l e) (sym some.2) (Contains-append_right init (e ∷ []) e (0, omega arith, refl)) in
          let one = firsts.only e.0 e.1 (contains_front most es e there) in
          let k = one.0.is_key in
          let V : ℕ → Type 0 = λ m. sees s m by ≡ Some k.value in
          let seen : sees s e.1 by ≡ Some k.value = subst V one.0.node_is (seen_of_key s sound by kind is e.0 k).0 in
          let key_is : e.0 ≡ key k.value e.1 = k.is ∙ ap (key k.value) one.0.node_is in
          let ends : found ≡ nodes_of init ++ e.1 ∷ [] = sym nodes_are ∙ ap nodes_of some.2 ∙ nodes_append init (e ∷ []) in
          ap (λ l. cursor_at cursor (keys_of l)) some.2 ∙ ap (cursor_at cursor) (keys_append init (e ∷ [])) ∙ cursor_last cursor (keys_of init) e.0
          ∙ ap (λ l. Some l) key_is ∙ sym (ap (option_map (λ value. key value e.1)) seen) ∙ sym (moves e.1 (nodes_of init) ends)

  pub walked_page : page s f by descending cursor most ≡ Ok (page_with found last more)
  walked_page =
      let whole : page_of cursor most rest ≡ page_with found last more =
      let n : nodes_of (take most rest) ≡ found = ap nodes_of (sym front_is) ∙ nodes_are in
      let c : cursor_at cursor (keys_of (take most rest)) ≡ last = ap (λ l. cursor_at cursor (keys_of l)) (sym front_is) ∙ cursor_left in
      λ i. record { nodes = n i; more = more_there i; cursor = c i } in
      ap (λ b. result_map_both (λ l. page_of cursor most (after descending cursor l)) (λ e. e)
      (if b then result_map_both (in_order s by descending) (λ e. e) (scan s f) else Err NoSuchIndex)) (has_by_kind s by kind is)
      ∙ ap (λ r. result_map_both (λ l. page_of cursor most (after descending cursor l)) (λ e. e) (result_map_both (in_order s by descending) (λ e. e) r))
      (scan_is s sound f by kind is on low high decides)
      ∙ ap (λ p. Ok p) whole
