-- How far a walk over the attributes of a node has progressed.
use Rattle.std.proofs.Common.{◌≡◌, ℕ, zero, suc, ◌+◌, ◌<◌, ◌≤◌, ◌^◌, Bool, true, false, cond, List, [], ◌∷◌, ◌++◌, length, map, take, drop, get_or, Some, None, inl, inr, ap, sym, subst, ◌∙◌, refl, arith, T, ◌&&◌, is_some}
use Rattle.std.specs.Int.{to_be_bytes, w64}
use Rattle.std.specs.List.{slice_get}
use Rattle.std.specs.Option.{IfSome, option_map}
use Rattle.std.specs.Ordering.{is_eq, is_lt, ordering_reverse}
use Rattle.std.specs.Cmp.{tied_itself}
use Rattle.std.specs.declared.cmp.Ordering.{Ordering}
use Rattle.std.specs.declared.cmp.Ordering.TheVariants.{Less, Equal, Greater}
use Rattle.std.specs.declared.option.Option.{Option}
use Rattle.std.specs.FinMap as fin
use Rattle.std.specs.FinMap.{is_sorted}
use Rattle.std.specs.FinMap.Entries.{find, below_all}
use Rattle.std.proofs.lemmas.List.{take_more}
use Rattle.std.proofs.lemmas.Bool.{cases_lt}
use Rattle.be_value.specs.declared.values.Value.{Value}
use Rattle.be_value.specs.declared.values.Value.TheVariants.{Rawt}
use Rattle.be_value.specs.Key.{IsValue}
use Rattle.be_pages.specs.declared.room.PageState.{PageState}
use Rattle.be_tree_reading.specs.Cursor.{IsCursor}
use Rattle.be_tree_reading.specs.declared.cursor.Cursor.{Cursor}
use Rattle.be_tree_reading.specs.Pair.{Pair}
use Rattle.be_tree_reading.specs.Key.{IsRising}
use Rattle.be_tree_reading.specs.Range.{pairs_from}
use Rattle.be_volume.specs.Maps.{name_cmp, Nodes, attributes_of}
use Rattle.be_volume.specs.Sound.{IsName}
use Rattle.be_volume.proofs.MapLemmas.{names_total}
use Rattle.be_paged_reading.specs.Catalog.{IsCatalog}
use Rattle.be_paged_reading.specs.Reading.{AreValid, front_of_node, attribute_pair, attribute_pairs}
use Rattle.be_paged_reading.proofs.CatalogPairs.Segments.{segment, value_there}

-- Either nothing is left, or something is.
pub at_end : {A : Type 0} (xs : List A) (i : ℕ) → i ≤ length xs → slice_get (drop i xs) 0 ≡ None → i ≡ length xs
at_end [] zero le none = refl
at_end [] (suc i) le none = absurd (omega (arith, le))
at_end (x ∷ xs) zero le none = absurd (clash none)
  where
    clash : Some x ≡ None → ⊥
    clash e = cc
at_end (x ∷ xs) (suc i) le none = ap suc (at_end xs i (omega (arith, le)) none)

pub not_end : {A : Type 0} (xs : List A) (i : ℕ) (x : A) → slice_get (drop i xs) 0 ≡ Some x → i < length xs
not_end [] zero x some = absurd (clash some)
  where
    clash : None ≡ Some x → ⊥
    clash e = cc
not_end [] (suc i) x some = absurd (clash some)
  where
    clash : None ≡ Some x → ⊥
    clash e = cc
not_end (y ∷ xs) zero x some = omega arith
not_end (y ∷ xs) (suc i) x some = omega (arith, not_end xs i x some)

-- If the test for the next item is false, nothing is left.
pub none_left : {A : Type 0} (xs : List A) (i : ℕ) → i ≤ length xs → is_some (slice_get (drop i xs) 0) ≡ false → i ≡ length xs
none_left [] zero le none = refl
none_left [] (suc i) le none = absurd (omega (arith, le))
none_left (x ∷ xs) zero le none = absurd (clash none)
  where
    clash : true ≡ false → ⊥
    clash e = cc
none_left (x ∷ xs) (suc i) le none = ap suc (none_left xs i (omega (arith, le)) none)

pub one_left : {A : Type 0} (xs : List A) (i : ℕ) → is_some (slice_get (drop i xs) 0) ≡ true → i < length xs
one_left [] zero some = absurd (clash some)
  where
    clash : false ≡ true → ⊥
    clash e = cc
one_left [] (suc i) some = absurd (clash some)
  where
    clash : false ≡ true → ⊥
    clash e = cc
one_left (x ∷ xs) zero some = omega arith
one_left (x ∷ xs) (suc i) some = omega (arith, one_left xs i some)

later : {A : Type 0} (xs : List A) (i : ℕ) → drop 1 (drop i xs) ≡ drop (suc i) xs
later [] zero = refl
later [] (suc i) = refl
later (x ∷ xs) zero = refl
later (x ∷ xs) (suc i) = later xs i

pub drop_next : {A : Type 0} (xs : List A) (i : ℕ) → drop 1 (drop i xs) ≡ drop (i + 1) xs
drop_next xs i =
    let e : suc i ≡ i + 1 = omega arith in
    later xs i ∙ ap (λ (n : ℕ). drop n xs) e

pub more_left : {A : Type 0} (xs : List A) (i : ℕ) → 0 < length (drop i xs) → i < length xs
more_left [] zero h = h
more_left [] (suc i) h = absurd (omega (arith, h))
more_left (x ∷ xs) zero h = omega arith
more_left (x ∷ xs) (suc i) h = omega (arith, more_left xs i h)

take_all : {A : Type 0} (xs : List A) → take (length xs) xs ≡ xs
take_all [] = refl
take_all (x ∷ xs) = ap (λ ys. x ∷ ys) (take_all xs)

mapped_get : {A B : Type 0} (f : A → B) (xs : List A) (i : ℕ) (d : A) → i < length xs → slice_get (drop i (map f xs)) 0 ≡ Some (f (get_or xs i d))
mapped_get f [] i d lt = absurd (omega (arith, lt))
mapped_get f (x ∷ xs) zero d lt = refl
mapped_get f (x ∷ xs) (suc i) d lt = mapped_get f xs i d (omega (arith, lt))

mapped_none : {A B : Type 0} (f : A → B) (xs : List A) (i : ℕ) → length xs ≤ i → slice_get (drop i (map f xs)) 0 ≡ None
mapped_none f [] zero le = refl
mapped_none f [] (suc i) le = refl
mapped_none f (x ∷ xs) zero le = absurd (omega (arith, le))
mapped_none f (x ∷ xs) (suc i) le = mapped_none f xs i (omega (arith, le))

get_at : {A : Type 0} (xs : List A) (i : ℕ) (d : A) → i < length xs → slice_get (drop i xs) 0 ≡ Some (get_or xs i d)
get_at [] i d lt = absurd (omega (arith, lt))
get_at (x ∷ xs) zero d lt = refl
get_at (x ∷ xs) (suc i) d lt = get_at xs i d (omega (arith, lt))

get_past : {A : Type 0} (xs : List A) (i : ℕ) → length xs ≤ i → slice_get (drop i xs) 0 ≡ None
get_past [] zero le = refl
get_past [] (suc i) le = refl
get_past (x ∷ xs) zero le = absurd (omega (arith, le))
get_past (x ∷ xs) (suc i) le = get_past xs i (omega (arith, le))

mapped_length : {A B : Type 0} (f : A → B) (xs : List A) → length (map f xs) ≡ length xs
mapped_length f [] = refl
mapped_length f (x ∷ xs) = ap suc (mapped_length f xs)

abbrev Entries : Type 0
Entries = List (List ℕ × Value)

second : (a b : Bool) → T (a && b) → T b
second true b p = p
second false b p = absurd p

first : (a b : Bool) → T (a && b) → T a
first true b p = tt
first false b p = absurd p

less : (o : Ordering) → T (is_lt o) → o ≡ Less
less Less p = refl
less Equal p = absurd p
less Greater p = absurd p

below : (name : List ℕ) (es : Entries) (i : ℕ) (d : List ℕ × Value) → T (below_all name_cmp name es) → i < length es → name_cmp name (get_or es i d).0 ≡ Less
below name [] i d h lt = absurd (omega (arith, lt))
below name (e ∷ es) zero d h lt = less _ (first _ _ h)
below name (e ∷ es) (suc i) d h lt = below name es i d (second _ _ h) (omega (arith, lt))

-- Every entry is found by its name.
found_at : (es : Entries) (i : ℕ) (d : List ℕ × Value) → T (is_sorted name_cmp es) → i < length es → find name_cmp (get_or es i d).0 es ≡ Some (get_or es i d).1
found_at [] i d h lt = absurd (omega (arith, lt))
found_at (e ∷ es) zero d h lt = ap (λ o. cond (is_eq o) (Some e.1) (find name_cmp e.0 es)) (tied_itself names_total e.0)
found_at (e ∷ es) (suc i) d h lt =
    let over : name_cmp (get_or es i d).0 e.0 ≡ Greater = names_total.antisymm (get_or es i d).0 e.0 ∙ ap ordering_reverse (below e.0 es i d (first _ _ h) (omega (arith, lt))) in
    ap (λ o. cond (is_eq o) (Some e.1) (find name_cmp (get_or es i d).0 es)) over ∙ found_at es i d (second _ _ h) (omega (arith, lt))

module _ (xs : List Pair) (nodes : Nodes) (node : ℕ) (fits : node < 2 ^ 64) (rising : IsRising xs) (catalog : IsCatalog xs nodes) (valid : AreValid nodes) where
  abbrev es : Entries
  es = fin.entries (attributes_of nodes node)

  pub walked : front_of_node node (pairs_from xs (to_be_bytes w64 node) true) ≡ attribute_pairs node (attributes_of nodes node)
  walked = segment xs nodes node fits rising catalog valid

  pub counted : length (front_of_node node (pairs_from xs (to_be_bytes w64 node) true)) ≡ length (fin.entries (attributes_of nodes node))
  counted = ap length walked ∙ mapped_length (attribute_pair node) (fin.entries (attributes_of nodes node))

  pub entry_valid : (i : ℕ) (d : List ℕ × Value) → i < length (fin.entries (attributes_of nodes node)) → IsName (get_or (fin.entries (attributes_of nodes node)) i d).0 × IsValue (get_or (fin.entries (attributes_of nodes node)) i d).1
  entry_valid i d lt =
      valid node _ _ (sym (value_there nodes node (get_or (fin.entries (attributes_of nodes node)) i d).0) ∙ fin.get-entries (attributes_of nodes node) _ ∙ found_at (fin.entries (attributes_of nodes node)) i d (fin.entries_sorted (attributes_of nodes node)) lt)

  -- After i entries, a walk reads entry i.
  pub next_is : (i : ℕ) (r : Option (List ℕ × Value)) (now : List Pair) → now ≡ drop i (front_of_node node (pairs_from xs (to_be_bytes w64 node) true))
      → ((name : List ℕ) (value : Value) → IsName name → IsValue value → slice_get now 0 ≡ Some (attribute_pair node (name, value)) → r ≡ Some (name, value)) → (slice_get now 0 ≡ None → r ≡ None)
      → r ≡ slice_get (drop i (fin.entries (attributes_of nodes node))) 0
  next_is i r now lies reads ends = elim (cases_lt i (length (fin.entries (attributes_of nodes node)))) [
    | inl lt ↦
        let e = get_or (fin.entries (attributes_of nodes node)) i d in
        let valid = entry_valid i d lt in
        reads e.0 e.1 valid.0 valid.1 (at ∙ mapped_get (attribute_pair node) (fin.entries (attributes_of nodes node)) i d lt) ∙ sym (get_at (fin.entries (attributes_of nodes node)) i d lt)
    | inr past ↦ ends (at ∙ mapped_none (attribute_pair node) (fin.entries (attributes_of nodes node)) i past) ∙ sym (get_past (fin.entries (attributes_of nodes node)) i past)
  ]
    where
      d : List ℕ × Value
      d = ([], Rawt [])

      at : slice_get now 0 ≡ slice_get (drop i (map (attribute_pair node) (fin.entries (attributes_of nodes node)))) 0
      at = ap (λ ys. slice_get ys 0) lies ∙ ap (λ ys. slice_get (drop i ys) 0) walked

  -- The first name that a walk reads is the first of all names.
  pub first_name : (r : Option (List ℕ)) (now : List Pair) → now ≡ front_of_node node (pairs_from xs (to_be_bytes w64 node) true)
      → ((name : List ℕ) (value : Value) → IsName name → slice_get now 0 ≡ Some (attribute_pair node (name, value)) → r ≡ Some name) → (slice_get now 0 ≡ None → r ≡ None)
      → r ≡ option_map (λ (e : List ℕ × Value). e.0) (slice_get (fin.entries (attributes_of nodes node)) 0)
  first_name r now lies reads ends = elim (cases_lt 0 (length (fin.entries (attributes_of nodes node)))) [
    | inl lt ↦
        let e = get_or (fin.entries (attributes_of nodes node)) 0 d in
        let valid = entry_valid 0 d lt in
        reads e.0 e.1 valid.0 (at ∙ mapped_get (attribute_pair node) (fin.entries (attributes_of nodes node)) 0 d lt)
        ∙ sym (ap (option_map (λ (x : List ℕ × Value). x.0)) (get_at (fin.entries (attributes_of nodes node)) 0 d lt))
    | inr past ↦ ends (at ∙ mapped_none (attribute_pair node) (fin.entries (attributes_of nodes node)) 0 past)
        ∙ sym (ap (option_map (λ (x : List ℕ × Value). x.0)) (get_past (fin.entries (attributes_of nodes node)) 0 past))
  ]
    where
      d : List ℕ × Value
      d = ([], Rawt [])

      at : slice_get now 0 ≡ slice_get (drop 0 (map (attribute_pair node) (fin.entries (attributes_of nodes node)))) 0
      at = ap (λ ys. slice_get ys 0) lies ∙ ap (λ ys. slice_get ys 0) walked

-- A walk that has ended has listed everything.
pub all_listed : {A : Type 0} (es list : List A) (i : ℕ) → list ≡ take i es → i ≤ length es → None ≡ slice_get (drop i es) 0 → list ≡ es
all_listed es list i listed le none = listed ∙ ap (λ (n : ℕ). take n es) (at_end es i le (sym none)) ∙ take_all es

pub all_passed : {A : Type 0} (es list : List A) (i : ℕ) → list ≡ take i es → i ≡ length es → list ≡ es
all_passed es list i listed e = listed ∙ ap (λ (n : ℕ). take n es) e ∙ take_all es

-- The list has one more item.
pub one_listed : {A : Type 0} (es list : List A) (i : ℕ) (x : A) → list ≡ take i es → Some x ≡ slice_get (drop i es) 0 → list ++ x ∷ [] ≡ take (i + 1) es
one_listed {A} es list i x listed some =
    let lt = not_end es i x (sym some) in
    ap (λ ys. ys ++ x ∷ []) listed ∙ ap (λ y. take i es ++ y ∷ []) (same x (get_or es i x) (some ∙ get_at es i x lt)) ∙ sym (take_more es i x lt)
  where
    same : (a b : A) → Some a ≡ Some b → a ≡ b
    same a b e = cc

-- The cursor is still valid after pages were only read.
pub cursor_since : (s t : ℕ → PageState) (v w : ℕ → ℕ → ℕ) (cursor : Cursor) → t ≡ s → w ≡ v → IsCursor s v cursor → IsCursor t w cursor
cursor_since s t v w cursor page_state words h =
    subst (λ (u : ℕ → PageState). IsCursor u w cursor) (sym page_state) (subst (λ (x : ℕ → ℕ → ℕ). IsCursor s x cursor) (sym words) h)

-- What always holds also holds for a result.
pub always : {A P : Type 0} (r : Option A) → P → IfSome r (λ _. P)
always None p = tt
always (Some x) p = p

pub some_same : (a b : Pair) → Some a ≡ Some b → a ≡ b
some_same a b e = cc

pub none_some : {A : Type 0} (x : Pair) → None ≡ Some x → A
none_some x e = cc
