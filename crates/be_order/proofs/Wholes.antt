-- Successive pages form the whole list.
use Rattle.std.proofs.Common.{◌≡◌, ◌≢◌, ◌<◌, ◌≤◌, ◌-◌, ℕ, zero, suc, Bool, true, false, List, [], ◌∷◌, ◌++◌, refl, sym, ap, ◌∙◌, subst, arith, Some, None, take, drop, length, nat_lt, append-nil, if◌then◌else◌}
use Rattle.std.specs.Prelude.{T, slice_index}
use Rattle.std.specs.List.{Contains, flat_map}
use Rattle.std.specs.Result.{result_map_both}
use Rattle.std.proofs.lemmas.Bool.{le-ltb, ltb-false, ltb-true}
use Rattle.std.proofs.lemmas.List.{length-drop, take-append-drop, take_all}
use Rattle.std.specs.FinMap as fin
use Rattle.std.specs.FinMap.Entries.{is_sorted, is_sorted-where_key}
use Rattle.std.specs.declared.option.Option.{Option}
use Rattle.std.specs.declared.result.Result.{Result}
use Rattle.std.specs.declared.result.Result.TheVariants.{Ok, Err}
use Rattle.be_value.specs.declared.refusals.Refusal.{Refusal}
use Rattle.be_value.specs.declared.refusals.Refusal.TheVariants.{NoSuchIndex}
use Rattle.be_value.specs.declared.values.Kind.{Kind}
use Rattle.be_query.specs.Grammar.{Formula}
use Rattle.be_volume.specs.Query.{has_index, scan}
use Rattle.be_volume.specs.Reading.{index_kind}
use Rattle.be_volume.specs.Sound.{IsSound}
use Rattle.be_volume.specs.Volume.{State}
use Rattle.be_order.specs.Ordered.{Page, after, in_order, is_after, key_cmp, keyed, nodes_of, ordered, page, page_of}
use Rattle.be_order.specs.Pages.{ArePages, nodes_in}
use Rattle.be_order.proofs.Anys.{nodes_once, places_apart}
use Rattle.be_order.proofs.Cursors.{after_part}
use Rattle.be_order.proofs.Fronts.{at_contained}
use Rattle.be_order.proofs.IndexParts.{there_is}
use Rattle.be_order.proofs.WalkedPages.{nodes_append}

abbrev Entries : Type 0
Entries = List (List ℕ × ℕ)

-- The value that a call returned, or a default if it returned an error.
abbrev got : {X : Type 0} → Result X Refusal → X → X
got (Ok x) otherwise = x
got (Err e) otherwise = otherwise

same_Ok : {X : Type 0} (r : Result X Refusal) (x y : X) → r ≡ Ok x → r ≡ Ok y → x ≡ y
same_Ok r x y p q = ap (λ a. got a x) (sym p ∙ q)

-- Without a cursor, everything comes after it.
all_ahead : (descending : Bool) (es : Entries) → after descending None es ≡ es
all_ahead descending [] = refl
all_ahead descending (e ∷ es) = ap (λ l. e ∷ l) (all_ahead descending es)

module _ (s : State) (f : Formula) (by : List ℕ) (descending : Bool) (list : Entries) (is : ordered s f by descending ≡ Ok list) where
  -- The list is made from some nodes.
  made : (nodes : List ℕ) × (in_order s by descending nodes ≡ list)
  made = at (has_index s by) (scan s f) is
    where
      at : (b : Bool) (r : Result (List ℕ) Refusal) → (if b then result_map_both (in_order s by descending) (λ e. e) r else Err NoSuchIndex) ≡ Ok list → (nodes : List ℕ) × (in_order s by descending nodes ≡ list)
      at true (Ok nodes) e = (nodes, same_Ok (Ok (in_order s by descending nodes)) _ _ refl e)
      at true (Err x) e = cc
      at false r e = cc

  sorted : T (is_sorted (key_cmp descending) list)
  sorted = subst (λ (l : Entries). T (is_sorted (key_cmp descending) l)) made.1 (fin.entries_sorted (fin.from_entries {R = key_cmp descending} (flat_map (keyed s by) made.0)))

  -- No node occurs twice.
  pub list_once : IsSound s → (kind : Kind) → index_kind s by ≡ Some kind → (i j : ℕ) → i < j → j < length (nodes_of list) → slice_index (nodes_of list) i ≢ slice_index (nodes_of list) j
  list_once sound kind there = places_apart (nodes_of list) (nodes_once s by descending list sorted (λ k n h.
      let ahead : after descending None (in_order s by descending made.0) ≡ list = all_ahead descending (in_order s by descending made.0) ∙ made.1 in
      let up = subst (λ (l : Entries). T (is_sorted (key_cmp descending) l)) (sym ahead) sorted in
      let one = there_is s sound by kind there descending None made.0 k n (at_contained descending k n (after descending None (in_order s by descending made.0)) up (subst (λ (l : Entries). Contains l (k, n)) (sym ahead) h)) in
      (one.1.0, one.1.2, one.1.3)))

  module _ (most : ℕ) where
    abbrev ahead : Option (List ℕ) → Entries
    ahead cursor = after descending cursor list

    abbrev next : Option (List ℕ) → Page
    next cursor = page_of cursor most (ahead cursor)

    page_is : (cursor : Option (List ℕ)) → page s f by descending cursor most ≡ Ok (next cursor)
    page_is cursor = ap (λ (r : Result Entries Refusal). result_map_both (λ es. page_of cursor most (after descending cursor es)) (λ e. e) r) is

    goes_on : (cursor : Option (List ℕ)) → ahead (next cursor).cursor ≡ drop most (ahead cursor)
    goes_on cursor = after_part descending most cursor list (is_sorted-where_key (key_cmp descending) (is_after descending cursor) list sorted)

    pub nodes_are : (pages : List Page) (cursor : Option (List ℕ)) → ArePages s f by descending most cursor pages → nodes_in pages ≡ nodes_of (ahead cursor)
    nodes_are [] cursor are = absurd are
    nodes_are (p ∷ ps) cursor are = at p.more refl (λ c h. nodes_are ps c h)
      where
        one : next cursor ≡ p
        one = same_Ok (page s f by descending cursor most) _ _ (page_is cursor) are.0

        at : (b : Bool) → p.more ≡ b → ((c : Option (List ℕ)) → ArePages s f by descending most c ps → nodes_in ps ≡ nodes_of (ahead c)) →
            p.nodes ++ nodes_in ps ≡ nodes_of (ahead cursor)
        at true e rest =
            ap (λ l. p.nodes ++ l) (rest p.cursor (are.1 e) ∙ ap (λ (q : Page). nodes_of (ahead q.cursor)) (sym one) ∙ ap nodes_of (goes_on cursor))
            ∙ ap (λ (q : Page). q.nodes ++ nodes_of (drop most (ahead cursor))) (sym one)
            ∙ sym (nodes_append (take most (ahead cursor)) (drop most (ahead cursor)))
            ∙ ap nodes_of (take-append-drop most (ahead cursor))
        at false e rest =
            let few : length (ahead cursor) ≤ most = ltb-false most (length (ahead cursor)) (ap (λ (q : Page). q.more) one ∙ e) in
            ap (λ l. p.nodes ++ nodes_in l) (are.2 e)
            ∙ append-nil p.nodes
            ∙ ap (λ (q : Page). q.nodes) (sym one)
            ∙ ap nodes_of (take_all most (ahead cursor) few)

    pub whole_is : (pages : List Page) → ArePages s f by descending most None pages → nodes_in pages ≡ nodes_of list
    whole_is pages are = nodes_are pages None are ∙ ap nodes_of (all_ahead descending list)

    one_page : (cursor : Option (List ℕ)) → nat_lt most (length (ahead cursor)) ≡ false → (pages : List Page) × ArePages s f by descending most cursor pages
    one_page cursor e = (next cursor ∷ [], (page_is cursor, λ t. let no : true ≡ false = sym t ∙ e in cc, λ _. refl))

    -- One page more than there are nodes is enough.
    pub pages_end : 0 < most → (n : ℕ) (cursor : Option (List ℕ)) → length (ahead cursor) ≤ n → (pages : List Page) × ArePages s f by descending most cursor pages
    pages_end some zero cursor few = one_page cursor (le-ltb most (length (ahead cursor)) (omega (arith, few)))
    pages_end some (suc n) cursor few = at (nat_lt most (length (ahead cursor))) refl (λ c h. pages_end some n c h)
      where
        at : (b : Bool) → nat_lt most (length (ahead cursor)) ≡ b → ((c : Option (List ℕ)) → length (ahead c) ≤ n → (pages : List Page) × ArePages s f by descending most c pages) →
            (pages : List Page) × ArePages s f by descending most cursor pages
        at false e later = one_page cursor e
        at true e later =
            let left : length (ahead (next cursor).cursor) ≡ length (ahead cursor) - most = ap length (goes_on cursor) ∙ length-drop most (ahead cursor) in
            let more = ltb-true most (length (ahead cursor)) e in
            let rest = later (next cursor).cursor (omega (arith, left, more, some, few)) in
            (next cursor ∷ rest.0, (page_is cursor, λ _. rest.1, λ t. let no : true ≡ false = sym e ∙ t in cc))
