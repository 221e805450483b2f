-- The position of a page's last node gives the cursor that the page leaves.
use Rattle.std.proofs.Common.{◌≡◌, ◌≢◌, ◌∙◌, ◌-◌, ℕ, suc, Bool, true, false, List, [], ◌∷◌, Option, Some, None, refl, sym, ap, subst, arith, length, take, if◌then◌else◌}
use Rattle.std.specs.Prelude.{Result, Ok, Err, slice_get}
use Rattle.std.specs.FinMap as fin
use Rattle.std.specs.List.{Contains}
use Rattle.std.specs.Option.{option_and_then, option_map}
use Rattle.std.specs.Result.{result_map_both}
use Rattle.be_value.specs.Key.{key}
use Rattle.be_value.specs.declared.refusals.Refusal.{Refusal}
use Rattle.be_value.specs.declared.refusals.Refusal.TheVariants.{NoSuchIndex}
use Rattle.be_value.specs.declared.values.Kind.{Kind}
use Rattle.be_value.specs.declared.values.Value.{Value}
use Rattle.be_query.specs.Grammar.{Formula}
use Rattle.be_volume.specs.Query.{has_index, scan, seen_in, sees}
use Rattle.be_volume.specs.Reading.{attribute, index_kind}
use Rattle.be_volume.specs.Sound.{IsSound}
use Rattle.be_volume.specs.Volume.{State}
use Rattle.be_volume.specs.declared.maps.Index.{Index}
use Rattle.be_order.specs.Ordered.{Page, after, cursor_at, in_order, keys_of, nodes_of, page, page_of}
use Rattle.be_order.proofs.Fronts.{at_contained}
use Rattle.be_order.proofs.IndexParts.{sorted_rest, there_is}
use Rattle.be_order.proofs.WalkedPages.{contains_front}
use Rattle.be_script_language.specs.Page.{key_at}
use Rattle.be_script_runner.specs.Pages.{last_pair}

abbrev Entries : Type 0
Entries = List (List ℕ × ℕ)

abbrev page_or : Page → Result Page Refusal → Page
page_or p (Ok q) = q
page_or p (Err e) = p

-- the attribute of a node that has a pair in an index
seen_attribute : (s : State) → IsSound s → (by : List ℕ) (n : ℕ) (value : Value) → sees s n by ≡ Some value → attribute s n by ≡ Some value
seen_attribute s sound by n value seen = at (fin.get s.indices by) refl seen
  where
    at : (found : Option Index) → fin.get s.indices by ≡ found → seen_in found (attribute s n by) n ≡ Some value → attribute s n by ≡ Some value
    at None there t = t
    at (Some index) there t = (sound.pairs by index n value there t).attribute_is

first_of : (x : ℕ) (xs : List ℕ) (i : ℕ) → i ≡ 0 → slice_get (x ∷ xs) i ≡ Some x
first_of x xs i e = ap (slice_get (x ∷ xs)) e

later_of : (x y : ℕ) (ys : List ℕ) → slice_get (x ∷ y ∷ ys) (length (x ∷ y ∷ ys) - 1) ≡ slice_get (y ∷ ys) (length (y ∷ ys) - 1)
later_of x y ys = let e : length (x ∷ y ∷ ys) - 1 ≡ suc (length (y ∷ ys) - 1) = omega arith in ap (slice_get (x ∷ y ∷ ys)) e

module _ (s : State) (by : List ℕ) where
  -- the entry's key is the key of its node's attribute
  abbrev IsSeen : List ℕ × ℕ → Type 0
  IsSeen e = (value : Value) × (attribute s e.1 by ≡ Some value) × (e.0 ≡ key value e.1)

  abbrev key_of_last : Option ℕ → Option (List ℕ)
  key_of_last last = option_map key_at (option_and_then (λ node. option_map (λ value. (value, node)) (attribute s node by)) last)

  key_seen : (e : List ℕ × ℕ) → IsSeen e → key_of_last (Some e.1) ≡ Some e.0
  key_seen e h = ap (λ (o : Option Value). option_map key_at (option_map (λ value. (value, e.1)) o)) h.1 ∙ ap (λ (k : List ℕ). Some k) (sym h.2)

  -- the last of several entries
  last_key : (e : List ℕ × ℕ) (es : Entries) → ((d : List ℕ × ℕ) → Contains (e ∷ es) d → IsSeen d) → option_map key_at (last_pair s by (nodes_of (e ∷ es))) ≡ cursor_at (Some e.0) (keys_of es)
  last_key e [] all = ap key_of_last (first_of e.1 [] (length (e.1 ∷ []) - 1) (omega arith)) ∙ key_seen e (all e (0, omega arith, refl))
  last_key e (d ∷ es) all =
      ap key_of_last (later_of e.1 d.1 (nodes_of es)) ∙ last_key d es (λ x h. all x (suc h.0, omega (arith, h.1), h.2))

  cursor_of_last : (cursor : Option (List ℕ)) (es : Entries) → ((d : List ℕ × ℕ) → Contains es d → IsSeen d) → nodes_of es ≢ [] →
      option_map key_at (last_pair s by (nodes_of es)) ≡ cursor_at cursor (keys_of es)
  cursor_of_last cursor [] all some = absurd (some refl)
  cursor_of_last cursor (e ∷ es) all some = last_key e es all

module _ (s : State) (sound : IsSound s) (by : List ℕ) (kind : Kind) (is : index_kind s by ≡ Some kind) (descending : Bool) (cursor : Option (List ℕ)) (most : ℕ) where
  abbrev rest : List ℕ → Entries
  rest nodes = after descending cursor (in_order s by descending nodes)

  abbrev IsAtCursor : Page → Type 0
  IsAtCursor p = p.nodes ≢ [] → option_map key_at (last_pair s by p.nodes) ≡ p.cursor

  each_seen : (nodes : List ℕ) (e : List ℕ × ℕ) → Contains (take most (rest nodes)) e → IsSeen s by e
  each_seen nodes e h =
      let up = sorted_rest s sound by kind is descending cursor nodes in
      let one = there_is s sound by kind is descending cursor nodes e.0 e.1 (at_contained descending e.0 e.1 (rest nodes) up (contains_front most (rest nodes) e h)) in
      (one.1.0, seen_attribute s sound by e.1 one.1.0 one.1.2, one.1.3)

  at_cursor : (p : Page) (b : Bool) (r : Result (List ℕ) Refusal) →
      result_map_both (λ es. page_of cursor most (after descending cursor es)) (λ e. e) (if b then result_map_both (in_order s by descending) (λ e. e) r else Err NoSuchIndex) ≡ Ok p → IsAtCursor p
  at_cursor p true (Ok nodes) e = subst IsAtCursor (ap (page_or p) e) (cursor_of_last s by cursor (take most (rest nodes)) (each_seen nodes))
  at_cursor p true (Err x) e = cc
  at_cursor p false r e = cc

pub position_is : (s : State) (f : Formula) (by : List ℕ) (kind : Kind) (descending : Bool) (cursor : Option (List ℕ)) (most : ℕ) (p : Page) → IsSound s → index_kind s by ≡ Some kind →
    page s f by descending cursor most ≡ Ok p → p.nodes ≢ [] → option_map key_at (last_pair s by p.nodes) ≡ p.cursor
position_is s f by kind descending cursor most p sound is h = at_cursor s sound by kind is descending cursor most p (has_index s by) (scan s f) h
