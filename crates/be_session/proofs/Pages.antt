-- The cursor of a page is either at a key, which is at least as long as a node, or unchanged.
use Rattle.std.proofs.Common.{◌≡◌, ◌≤◌, ℕ, zero, suc, Bool, true, false, cond, List, [], ◌∷◌, ◌++◌, refl, sym, ap, ◌∙◌, subst, arith, Ok, Err, IfErr, Some, None, is_some, take, length, length-append}
use Rattle.std.specs.List.{Contains, AllByRecursion, flat_map}
use Rattle.std.specs.Option.{option_map_or}
use Rattle.std.specs.Result.{result_map_both}
use Rattle.std.specs.FinMap as fin
use Rattle.std.specs.FinMap.Entries.{is_some-find}
use Rattle.std.specs.Int.{to_be_bytes, w64}
use Rattle.std.specs.declared.option.Option.{Option}
use Rattle.std.specs.declared.result.Result.{Result}
use Rattle.be_query.specs.Grammar.{Formula}
use Rattle.be_value.specs.Key.{key, value_key}
use Rattle.be_value.specs.declared.refusals.Refusal.{Refusal}
use Rattle.be_value.specs.declared.refusals.Refusal.TheVariants.{NoSuchIndex}
use Rattle.be_value.specs.declared.values.Value.{Value}
use Rattle.be_volume.specs.Query.{has_index, scan, sees}
use Rattle.be_volume.specs.Volume.{State}
use Rattle.be_order.specs.Ordered.{after, cursor_at, in_order, is_after, key_cmp, keyed, keys_of, nodes_of, page, page_of, Page}
use Rattle.be_order.proofs.KeyLists.{contained_is_in, is_in_contained, is_key_in, key_total}
use Rattle.be_session.specs.Cursors.{IsLong}
use Rattle.be_session.specs.Sitting.{IsUnread}
use Rattle.be_session.specs.declared.faults.Fault.{Fault}

abbrev Entries : Type 0
Entries = List (List ℕ × ℕ)

abbrev AreLong : Entries → Type 0
AreLong = AllByRecursion (λ (e : List ℕ × ℕ). 8 ≤ length e.0)

long_append : (xs ys : Entries) → AreLong xs → AreLong ys → AreLong (xs ++ ys)
long_append [] ys h g = g
long_append (x ∷ xs) ys h g = (h.0, long_append xs ys h.1 g)

key_long : (value : Value) (node : ℕ) → 8 ≤ length (key value node)
key_long value node = omega (arith, length-append (value_key value) (to_be_bytes w64 node))

long_keyed : (s : State) (by : List ℕ) (nodes : List ℕ) → AreLong (flat_map (keyed s by) nodes)
long_keyed s by [] = tt
long_keyed s by (node ∷ nodes) = long_append (keyed s by node) (flat_map (keyed s by) nodes) (at (sees s node by)) (long_keyed s by nodes)
  where
    at : (seen : Option Value) → AreLong (option_map_or (λ value. (key value node, node) ∷ []) seen [])
    at None = tt
    at (Some value) = (key_long value node, tt)

contained_long : (es : Entries) → AreLong es → (k : List ℕ) → Contains (keys_of es) k → 8 ≤ length k
contained_long [] h k (i, below, is) = absurd (omega (arith, below))
contained_long (e ∷ es) h k (zero, below, is) = subst (λ l. 8 ≤ length l) is h.0
contained_long (e ∷ es) h k (suc i, below, is) = contained_long es h.1 k (i, omega (arith, below), is)

long_contained : (es : Entries) → ((k : List ℕ) → Contains (keys_of es) k → 8 ≤ length k) → AreLong es
long_contained [] h = tt
long_contained (e ∷ es) h = (h e.0 (0, omega arith, refl), long_contained es (λ k g. h k (suc g.0, omega (arith, g.1), g.2)))

-- Sorting adds no keys.
module _ (descending : Bool) (es : Entries) where
  abbrev ordered_entries : Entries
  ordered_entries = fin.entries (fin.from_entries {R = key_cmp descending} es)

  had : (k : List ℕ) → is_key_in descending k (keys_of ordered_entries) ≡ is_key_in descending k (keys_of es)
  had k = sym (is_some-find (key_cmp descending) k ordered_entries)
      ∙ ap is_some (sym (fin.get-entries (fin.from_entries {R = key_cmp descending} es) k) ∙ fin.get-from_entries (key_total descending) es k)
      ∙ is_some-find (key_cmp descending) k es

  long_ordered : AreLong es → AreLong ordered_entries
  long_ordered h = long_contained ordered_entries (λ k g. contained_long es h k
      (contained_is_in descending (keys_of es) k (sym (had k) ∙ is_in_contained descending (keys_of ordered_entries) k g)))

long_after : (descending : Bool) (cursor : Option (List ℕ)) (es : Entries) → AreLong es → AreLong (after descending cursor es)
long_after descending cursor [] h = tt
long_after descending cursor (e ∷ es) h = by (is_after descending cursor e.0) (long_after descending cursor es h.1)
  where
    by : (b : Bool) → AreLong (after descending cursor es) → AreLong (cond b (e ∷ after descending cursor es) (after descending cursor es))
    by true rest = (h.0, rest)
    by false rest = rest

long_take : (most : ℕ) (es : Entries) → AreLong es → AreLong (take most es)
long_take zero es h = tt
long_take (suc most) [] h = tt
long_take (suc most) (e ∷ es) h = (h.0, long_take most es h.1)

long_cursor : (cursor : Option (List ℕ)) (es : Entries) → IsLong cursor → AreLong es → IsLong (cursor_at cursor (keys_of es))
long_cursor cursor [] c h = c
long_cursor cursor (e ∷ es) c h = long_cursor (Some e.0) es h.0 h.1

-- The previous position of a cursor that is at no key now.
none_before : (cursor : Option (List ℕ)) (ks : List (List ℕ)) → cursor_at cursor ks ≡ None → cursor ≡ None
none_before cursor [] e = e
none_before cursor (k ∷ ks) e = absurd (some (none_before (Some k) ks e))
  where
    some : Some k ≡ None → ⊥
    some e = cc

-- The cursor is unchanged if no node was found.
stays_without : (cursor : Option (List ℕ)) (es : Entries) → nodes_of es ≡ [] → cursor_at cursor (keys_of es) ≡ cursor
stays_without cursor [] e = refl
stays_without cursor (x ∷ es) e = cc

abbrev ok_or : {A : Type 0} → A → Result A Refusal → A
ok_or d (Ok a) = a
ok_or d (Err e) = d

module _ (s : State) (f : Formula) (by : List ℕ) (descending : Bool) (cursor : Option (List ℕ)) (most : ℕ) (p : Page) where
  abbrev entries_left : List ℕ → Entries
  entries_left nodes = take most (after descending cursor (in_order s by descending nodes))

  abbrev made : List ℕ → Page
  made nodes = page_of cursor most (after descending cursor (in_order s by descending nodes))

  -- A page consists of some nodes.
  of_nodes : page s f by descending cursor most ≡ Ok p → (nodes : List ℕ) × (made nodes ≡ p)
  of_nodes e = at (has_index s by) (scan s f) e
    where
      at : (b : Bool) (answer : Result (List ℕ) Refusal) →
          result_map_both (λ es. page_of cursor most (after descending cursor es)) (λ x. x)
          (cond b (result_map_both (in_order s by descending) (λ x. x) answer) (Err NoSuchIndex)) ≡ Ok p → (nodes : List ℕ) × (made nodes ≡ p)
      at false answer g = cc
      at true (Err why) g = cc
      at true (Ok nodes) g = (nodes, ap (ok_or p) g)

  module _ (e : page s f by descending cursor most ≡ Ok p) where
    abbrev nodes : List ℕ
    nodes = (of_nodes e).0

    abbrev is_made : made nodes ≡ p
    is_made = (of_nodes e).1

    pub page_long : IsLong cursor → IsLong p.cursor
    page_long long = subst IsLong (ap (λ (q : Page). q.cursor) is_made)
        (long_cursor cursor (entries_left nodes) long (long_take most _ (long_after descending cursor _ (long_ordered descending _ (long_keyed s by nodes)))))

    pub page_none : p.cursor ≡ None → cursor ≡ None
    page_none none = none_before cursor (keys_of (entries_left nodes)) (ap (λ (q : Page). q.cursor) is_made ∙ none)

    pub page_stays : p.nodes ≡ [] → p.cursor ≡ cursor
    page_stays empty = sym (ap (λ (q : Page). q.cursor) is_made)
        ∙ stays_without cursor (entries_left nodes) (ap (λ (q : Page). q.nodes) is_made ∙ empty)

-- A reason that holds at a pin.
pub unread_at : {X : Type 0} (why : Fault → Type 0) (pin : Option ℕ) (n : ℕ) → pin ≡ Some n → (answer : Result X Fault) → IfErr answer why → IfErr answer (λ e. IsUnread pin (why e) e)
unread_at why pin n is (Ok x) h = tt
unread_at why pin n is (Err e) h = subst (λ p. IsUnread p (why e) e) (sym is) h
