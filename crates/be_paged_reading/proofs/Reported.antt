-- What is written for nodes and names, cell by cell, and where a walk over the names finds them.
use Rattle.std.proofs.Common.{◌≡◌, ◌≢◌, ℕ, zero, suc, ◌+◌, ◌-◌, ◌≤◌, ◌<◌, ◌^◌, Bool, true, false, cond, List, [], ◌∷◌, ◌++◌, drop, take, length, map, Some, None, Ok, Err, unwrap_or, is_some, ap, sym, subst, ◌∙◌, refl, inl, inr, arith, get_or}
use Rattle.std.specs.FinMap as fin
use Rattle.std.specs.Int.{to_be_bytes, w64}
use Rattle.std.specs.List.{slice_get}
use borrow.Rule.Slice.PartMut.{post_of, put_mid}
use Rattle.std.specs.Prelude.{All}
use Rattle.std.specs.Option.{option_and_then, option_map, option_map_or, IfSome, IfNone}
use Rattle.std.specs.Ordering.{is_eq, is_ge, is_gt}
use Rattle.std.specs.Cmp.{tied_itself}
use Rattle.std.specs.declared.cmp.Ordering.{Ordering}
use Rattle.std.specs.declared.cmp.Ordering.TheVariants.{Less, Equal, Greater}
use Rattle.std.specs.declared.option.Option.{Option}
use Rattle.std.specs.declared.result.Result.{Result}
use Rattle.std.proofs.lemmas.List.{append-nil, append_assoc, length-append, length-drop, length-take, map-append, nil_from_length, take_all, take_more}
use Rattle.std.proofs.Math.ListN.{drop_of_length-le}
use Rattle.std.proofs.Math.Seq.{take-append_seam, take-append-add}
use Rattle.be_pages.specs.declared.room.PageState.{PageState}
use Rattle.be_tree_reading.specs.Cursor.{remaining}
use Rattle.be_tree_reading.specs.Key.{payload_at, key_cmp, IsRising}
use Rattle.be_tree_reading.specs.Pair.{Pair}
use Rattle.be_tree_reading.specs.Page.{IsReadableAt, item_at}
use Rattle.be_tree_reading.specs.Range.{is_from, pairs_from}
use Rattle.be_tree_reading.specs.Tree.{IsTree, pairs}
use Rattle.be_tree_reading.specs.declared.cursor.Cursor.{Cursor}
use Rattle.be_tree_reading.proofs.Order.{key_cmp_flip_less, key_total, key_same, payload_at_above, AllAbove_from, AllAbove_trans}
use Rattle.be_tree_reading.proofs.Ranges.{from_less, next_from}
use Rattle.be_value.specs.Key.{IsValue}
use Rattle.be_value.specs.declared.refusals.Refusal.{Refusal}
use Rattle.be_value.specs.declared.values.Value.{Value}
use Rattle.be_value.specs.declared.values.Value.TheVariants.{Cstr, Long, Llng, Mims, Rawt, Ulng, Ullg}
use Rattle.be_volume.specs.Maps.{Nodes, Attributes}
use Rattle.be_paged_reading.specs.Catalog.{IsCatalog, catalog_key, payload_of, stored, value_at}
use Rattle.be_paged_reading.specs.Cells.{AreReported, HasPayload, IsAmong, StartsElsewhere, WalksIn, all_data, cell_of, cells_from, data_in, data_of, found_at, found_in, name_in, over, why_none}
use Rattle.be_paged_reading.specs.Place.{IsFoundAt, IsPlaceOf}
use Rattle.be_paged_reading.specs.Reading.{AreValid}
use Rattle.be_paged_reading.specs.declared.cells.Cell.{Cell}
use Rattle.be_paged_reading.specs.declared.cells.Filled.{Filled}
use Rattle.be_paged_reading.specs.declared.cells.HeldName.{HeldName}
use Rattle.be_paged_reading.proofs.CatalogPairs.Places.{first_lies, found_since}
use Rattle.be_paged_reading.proofs.CatalogPairs.Segments.{all_from, payload_from, rising_from}
use Rattle.be_paged_reading.proofs.CatalogPairs.Validity.{named}

abbrev pub Found : Type 0
Found = Result Value Refusal

-- The bytes of one more result.
pub data_more : (xs : List Found) (x : Found) → all_data (xs ++ x ∷ []) ≡ all_data xs ++ data_in x
data_more [] x = append-nil (data_in x)
data_more (y ∷ ys) x = ap (λ (l : List ℕ). data_in y ++ l) (data_more ys x) ∙ sym (append_assoc (data_in y) (all_data ys) (data_in x))

pub cells_more : (at : ℕ) (xs : List Found) (x : Found) → cells_from at (xs ++ x ∷ []) ≡ cells_from at xs ++ cell_of (at + length (all_data xs)) x ∷ []
cells_more at [] x = ap (λ (n : ℕ). cell_of n x ∷ []) (omega arith)
cells_more at (y ∷ ys) x =
    ap (λ (l : List Cell). cell_of at y ∷ l) (cells_more (at + length (data_in y)) ys x)
    ∙ ap (λ (n : ℕ). cell_of at y ∷ (cells_from (at + length (data_in y)) ys ++ cell_of n x ∷ [])) (omega (arith, length-append (data_in y) (all_data ys)))

pub cells_length : (at : ℕ) (xs : List Found) → length (cells_from at xs) ≡ length xs
cells_length at [] = refl
cells_length at (x ∷ xs) = ap suc (cells_length (at + length (data_in x)) xs)

-- The first pair that a cursor passes is in the tree.
module _ (v : ℕ → ℕ → ℕ) (root : ℕ) where
  pub among_lies : (cursor : Cursor) (x : Pair) → IsAmong v root cursor → slice_get (remaining v cursor) 0 ≡ Some x → payload_at (pairs v root) x.key ≡ Some x.payload
  among_lies cursor x (inl empty) first = absurd (let e = subst (λ (xs : List Pair). slice_get xs 0 ≡ Some x) empty first in cc)
  among_lies cursor x (inr h) first = first_lies (pairs v root) h.0 h.1 (remaining v cursor) x h.2 first

  -- After passing it, the cursor is still among the pairs.
  pub among_next : (before after : Cursor) → IsRising (pairs v root) → remaining v after ≡ drop 1 (remaining v before) → IsAmong v root before → IsAmong v root after
  among_next before after rising rest (inl empty) = inl (rest ∙ ap (λ (xs : List Pair). drop 1 xs) empty)
  among_next before after rising rest (inr h) = by (remaining v before) refl
    where
      by : (xs : List Pair) → remaining v before ≡ xs → IsAmong v root after
      by [] is = inl (rest ∙ ap (λ (xs : List Pair). drop 1 xs) is)
      by (x ∷ xs) is = inr (x.key, true, rest ∙ ap (λ (ys : List Pair). drop 1 ys) is ∙ sym (next_from (pairs v root) h.0 h.1 x xs rising (sym h.2 ∙ is)))

-- How a key compares if it is another one.
less_of : (o : Ordering) → is_eq o ≡ false → is_gt o ≡ false → o ≡ Less
less_of Less other low = refl
less_of Equal other low = absurd (let e = other in cc)
less_of Greater other low = absurd (let e = low in cc)

greater_of : (o : Ordering) → is_gt o ≡ true → o ≡ Greater
greater_of Less high = absurd (let e = high in cc)
greater_of Equal high = absurd (let e = high in cc)
greater_of Greater high = refl

first_same : (a b : Pair) → Some a ≡ Some b → a ≡ b
first_same a b e = cc

-- What the pairs ahead of a cursor that has stepped over a pair say about a key.
module _ (v : ℕ → ℕ → ℕ) (root : ℕ) (key : List ℕ) (rising : IsRising (pairs v root)) where
  -- If the pair has a lower key, the key is still ahead, or it isn't in the tree.
  pub still_ahead : (before after : Cursor) (x : Pair) → remaining v after ≡ drop 1 (remaining v before) → IsAmong v root before → slice_get (remaining v before) 0 ≡ Some x
      → is_eq (key_cmp x.key key) ≡ false → is_gt (key_cmp x.key key) ≡ false → payload_at (remaining v after) key ≡ payload_at (pairs v root) key
  still_ahead before after x rest (inl empty) first other low = absurd (let e = subst (λ (xs : List Pair). slice_get xs 0 ≡ Some x) empty first in cc)
  still_ahead before after x rest (inr h) first other low = by (remaining v before) refl first
    where
      by : (xs : List Pair) → remaining v before ≡ xs → slice_get xs 0 ≡ Some x → payload_at (remaining v after) key ≡ payload_at (pairs v root) key
      by [] is first = absurd (let e = first in cc)
      by (y ∷ ys) is first =
          let same : y ≡ x = first_same y x first in
          let lower : key_cmp y.key key ≡ Less = ap (λ (z : Pair). key_cmp z.key key) same ∙ less_of (key_cmp x.key key) other low in
          let next : remaining v after ≡ pairs_from (pairs v root) y.key true = rest ∙ ap (λ (zs : List Pair). drop 1 zs) is ∙ sym (next_from (pairs v root) h.0 h.1 y ys rising (sym h.2 ∙ is)) in
          ap (λ (zs : List Pair). payload_at zs key) next
          ∙ payload_from y.key key true (pairs v root)
          ∙ ap (λ (b : Bool). cond b (payload_at (pairs v root) key) None) (ap is_gt (key_cmp_flip_less y.key key lower))

  -- If the pair has a higher key, the key isn't ahead.
  pub not_ahead : (cursor : Cursor) (x : Pair) → IsAmong v root cursor → slice_get (remaining v cursor) 0 ≡ Some x → is_gt (key_cmp x.key key) ≡ true → payload_at (remaining v cursor) key ≡ None
  not_ahead cursor x (inl empty) first high = ap (λ (xs : List Pair). payload_at xs key) empty
  not_ahead cursor x (inr h) first high = by (remaining v cursor) refl first
    where
      by : (xs : List Pair) → remaining v cursor ≡ xs → slice_get xs 0 ≡ Some x → payload_at (remaining v cursor) key ≡ None
      by [] is first = absurd (let e = first in cc)
      by (y ∷ ys) is first =
          let higher : key_cmp y.key key ≡ Greater = ap (λ (z : Pair). key_cmp z.key key) (first_same y x first) ∙ greater_of (key_cmp x.key key) high in
          ap (λ (zs : List Pair). payload_at zs key) is
          ∙ payload_at_above key (y ∷ ys) (AllAbove_from key y ys (subst IsRising (sym h.2 ∙ is) (rising_from h.0 h.1 (pairs v root) rising)) higher)

-- If the cursor has stepped over a lower key, the answer at a higher key or at the end is that there
-- is no such key.
abbrev pub IsBeyond : (v : ℕ → ℕ → ℕ) (root : ℕ) (key : List ℕ) → Cursor → Option (Option (ℕ × ℕ)) → Type 0
IsBeyond v root key cursor beyond = IfSome beyond (λ found. (found ≡ None) × (payload_at (remaining v cursor) key ≡ payload_at (pairs v root) key))

pub beyond_since : (s t : ℕ → PageState) (v w : ℕ → ℕ → ℕ) (root : ℕ) (key : List ℕ) (cursor : Cursor) (beyond : Option (Option (ℕ × ℕ))) → t ≡ s → w ≡ v → IsBeyond v root key cursor beyond
    → payload_at (remaining v cursor) key ≡ None → IfSome beyond (IsFoundAt t w root key)
beyond_since s t v w root key cursor None page_state words answer absent = tt
beyond_since s t v w root key cursor (Some found) page_state words answer absent =
    found_since s t v w root key found page_state words (subst (IsFoundAt s v root key) (sym answer.0) (sym answer.1 ∙ absent))

-- The first pair of the list has another key.
pub elsewhere : (key : List ℕ) (xs : List Pair) (x : Pair) → slice_get xs 0 ≡ Some x → is_eq (key_cmp x.key key) ≡ false → StartsElsewhere key xs
elsewhere key [] x first other = tt
elsewhere key (y ∷ ys) x first other = λ same. absurd (untied (ap (λ (k : List ℕ). is_eq (key_cmp k key)) same ∙ ap is_eq (tied_itself key_total key)) (ap (λ (z : Pair). is_eq (key_cmp z.key key)) (first_same y x first) ∙ other))
  where
    untied : {b : Bool} → b ≡ true → b ≡ false → ⊥
    untied e f = cc

-- If the pairs from a key on begin with another key, the key isn't there.
pub absent_from : (xs : List Pair) (key : List ℕ) → IsRising xs → StartsElsewhere key (pairs_from xs key false) → payload_at xs key ≡ None
absent_from xs key rising other = sym marked ∙ none (pairs_from xs key false) refl other
  where
    never : {A : Type 0} {b : Bool} → b ≡ true → b ≡ false → A
    never e f = absurd (let g = sym e ∙ f in cc)

    marked : payload_at (pairs_from xs key false) key ≡ payload_at xs key
    marked = payload_from key key false xs ∙ ap (λ (b : Bool). cond b (payload_at xs key) None) (ap is_ge (tied_itself key_total key))

    none : (now : List Pair) → now ≡ pairs_from xs key false → StartsElsewhere key now → payload_at now key ≡ None
    none [] is far = refl
    none (y ∷ ys) is far = payload_at_above key (y ∷ ys) (greater, AllAbove_trans y.key key ys greater rises.0)
      where
        rises : IsRising (y ∷ ys)
        rises = subst IsRising (sym is) (rising_from key false xs rising)

        from : is_from key false y.key ≡ true
        from = (subst (λ (zs : List Pair). All (λ (z : Pair). Unit {0} × (is_from key false z.key ≡ true)) zs) (sym is) (all_from (λ (z : Pair). Unit {0}) key false xs (λ i d lt. tt)) zero y (omega arith)).1

        greater : key_cmp y.key key ≡ Greater
        greater = by (key_cmp y.key key) refl
          where
            by : (o : Ordering) → key_cmp y.key key ≡ o → o ≡ Greater
            by Less t = never from (from_less key false y.key t)
            by Equal t = absurd (far (key_same y.key key (ap is_eq t)))
            by Greater t = refl

-- The payload at the key for a node and a name is that of the node's value.
stored_named : (nodes : Nodes) (node : ℕ) (name : List ℕ) → 0 < length name → stored nodes node name ≡ option_map payload_of (value_at nodes node name)
stored_named nodes node [] some = absurd (omega (arith, some))
stored_named nodes node (c ∷ name) some = refl

module _ (items : List Pair) (nodes : Nodes) (node : ℕ) (name key : List ℕ) (catalog : IsCatalog items nodes) (fits : node < 2 ^ 64) (some : 0 < length name) (is : key ≡ catalog_key node name) where
  lies : payload_at items key ≡ option_map payload_of (value_at nodes node name)
  lies = ap (payload_at items) is ∙ catalog.each node name fits ∙ stored_named nodes node name some

  pub value_none : payload_at items key ≡ None → value_at nodes node name ≡ None
  value_none none = by (value_at nodes node name) (sym none ∙ lies)
    where
      by : (v : Option Value) → None ≡ option_map payload_of v → v ≡ None
      by None e = refl
      by (Some v) e = cc

  pub value_some : (payload : List ℕ) → AreValid nodes → payload_at items key ≡ Some payload → (v : Value) × (value_at nodes node name ≡ Some v) × IsValue v × (payload ≡ payload_of v)
  value_some payload valid there = by (value_at nodes node name) refl (sym there ∙ lies)
    where
      by : (v : Option Value) → value_at nodes node name ≡ v → Some payload ≡ option_map payload_of v → (v : Value) × (value_at nodes node name ≡ Some v) × IsValue v × (payload ≡ payload_of v)
      by None same e = absurd (let f = e in cc)
      by (Some v) same e = (v, same, (valid node name v same).1, ap (λ o. unwrap_or o []) e)

-- No attribute has an empty name.
pub value_unnamed : (nodes : Nodes) (node : ℕ) (name : List ℕ) → AreValid nodes → length name ≡ 0 → value_at nodes node name ≡ None
value_unnamed nodes node name valid empty = by (value_at nodes node name) refl
  where
    by : (v : Option Value) → value_at nodes node name ≡ v → v ≡ None
    by None same = refl
    by (Some v) same = absurd (named name (valid node name v same).0.0 (nil_from_length name empty))

-- A node with an attribute exists.
pub value_there : (nodes : Nodes) (node : ℕ) (name : List ℕ) (v : Value) → value_at nodes node name ≡ Some v → fin.contains_key nodes node ≡ true
value_there nodes node name v = by (fin.get nodes node)
  where
    by : (a : Option Attributes) → option_and_then (λ (attributes : Attributes). fin.get attributes name) a ≡ Some v → is_some a ≡ true
    by None e = cc
    by (Some a) e = refl

pub found_some : (nodes : Nodes) (node : ℕ) (name : List ℕ) (v : Value) → value_at nodes node name ≡ Some v → found_at nodes node name ≡ Ok v
found_some nodes node name v e = ap (λ (o : Option Value). option_map_or (λ (value : Value). Ok value) o (Err (why_none (fin.contains_key nodes node)))) e

pub found_none : (nodes : Nodes) (node : ℕ) (name : List ℕ) (there : Bool) → value_at nodes node name ≡ None → there ≡ fin.contains_key nodes node → found_at nodes node name ≡ Err (why_none there)
found_none nodes node name there e known =
    ap (λ (o : Option Value). option_map_or (λ (value : Value). Ok value) o (Err (why_none (fin.contains_key nodes node)))) e ∙ ap (λ (b : Bool). Err (why_none b)) (sym known)

-- The bytes of a string are those of its payload after the first byte.
pub data_past : (v : Value) (n : ℕ) → length (data_of v) ≡ n → n ≢ 0 → drop 1 (payload_of v) ≡ data_of v
data_past (Cstr t) n e some = refl
data_past (Long k) n e some = absurd (some (sym e))
data_past (Llng k) n e some = absurd (some (sym e))
data_past (Mims t) n e some = refl
data_past (Rawt t) n e some = refl
data_past (Ulng k) n e some = absurd (some (sym e))
data_past (Ullg k) n e some = absurd (some (sym e))

-- One more cell and its bytes are written after the others.
pub reported_more : (xs : List Found) (x : Found) (cell : Cell) (content : List ℕ) (cp cs ds : List Cell) (bp bs es : List ℕ) (f g : Filled)
    → ((before all : List Cell) → length before ≡ f.cells → cs ≡ over before all → ds ≡ over (before ++ cell ∷ []) all)
    → ((before all : List ℕ) → length before ≡ f.bytes → bs ≡ over before all → es ≡ over (before ++ content) all)
    → g.cells ≡ f.cells + 1 → g.bytes ≡ f.bytes + length content → cell ≡ cell_of f.bytes x → content ≡ data_in x → AreReported xs cp cs bp bs f → AreReported (xs ++ x ∷ []) cp ds bp es g
reported_more xs x cell content cp cs ds bp bs es f g put_cell put_bytes g_cells g_bytes is_cell is_content reported = record {
  cells_are = put_cell (cells_from 0 xs) cp (cells_length 0 xs ∙ sym reported.cell_count) reported.cells_are
      ∙ ap (λ (l : List Cell). over l cp) (ap (λ (c : Cell). cells_from 0 xs ++ c ∷ []) (is_cell ∙ ap (λ (n : ℕ). cell_of n x) (omega (arith, reported.byte_count))) ∙ sym (cells_more 0 xs x));
  bytes_are = put_bytes (all_data xs) bp (sym reported.byte_count) reported.bytes_are ∙ ap (λ (l : List ℕ). over l bp) (ap (λ (d : List ℕ). all_data xs ++ d) is_content ∙ sym (data_more xs x));
  cell_count = omega (arith, g_cells, reported.cell_count, length-append xs (x ∷ []));
  byte_count = omega (arith, g_bytes, reported.byte_count, ap length (data_more xs x), length-append (all_data xs) (data_in x), ap length is_content);
}

-- The results for one more node and all names.
pub found_more : (nodes : Nodes) (ns : List ℕ) (n : ℕ) (names : List (List ℕ)) → found_in nodes (ns ++ n ∷ []) names ≡ found_in nodes ns names ++ map (found_at nodes n) names
found_more nodes [] n names = append-nil (map (found_at nodes n) names)
found_more nodes (m ∷ ns) n names =
    ap (λ (l : List Found). map (found_at nodes m) names ++ l) (found_more nodes ns n names) ∙ sym (append_assoc (map (found_at nodes m) names) (found_in nodes ns names) (map (found_at nodes n) names))

-- A write doesn't change the number of places.
over_length : {T : Type 0} (xs all : List T) → length (over xs all) ≡ length all
over_length xs all = omega (arith, length-append (take (length all) xs) (drop (length xs) all), length-take (length all) xs, length-drop (length xs) all)

-- Only the first of the items fit.
pub over_cut : {T : Type 0} (before all items some places : List T) (at : ℕ) → length before ≡ at → places ≡ over before all → at < length places → length places - at < length items
    → some ≡ take (length places - at) items → put_mid at (length places - at) places some ≡ over (before ++ items) all
over_cut before all items some places at len is inside more cut =
    let n = length all in
    let room = length places - at in
    let size : length places ≡ n = ap length is ∙ over_length before all in
    let short : length before ≤ n = omega (arith, len, inside, size) in
    let whole : places ≡ before ++ drop (length before) all = is ∙ ap (λ l. l ++ drop (length before) all) (take_all n before short) in
    let front : take at places ≡ before =
    ap (take at) whole ∙ ap (λ (k : ℕ). take k (before ++ drop (length before) all)) (sym len) ∙ take-append_seam before (drop (length before) all) in
    let rest : post_of at room places ≡ [] = drop_of_length-le (drop at places) (omega (arith, inside, length-drop at places)) in
    let past : drop (length (before ++ items)) all ≡ [] = drop_of_length-le all (omega (arith, length-append before items, len, size, inside, more)) in
    let sum : length before + room ≡ n = omega (arith, len, size, inside) in
    ap (λ l. l ++ (some ++ post_of at room places)) front
    ∙ ap (λ l. before ++ (l ++ post_of at room places)) cut
    ∙ ap (λ l. before ++ (take room items ++ l)) rest
    ∙ ap (λ l. before ++ l) (append-nil (take room items))
    ∙ sym (take-append-add before items room)
    ∙ ap (λ (k : ℕ). take k (before ++ items)) sum
    ∙ sym (append-nil (take n (before ++ items)))
    ∙ ap (λ l. take n (before ++ items) ++ l) (sym past)

take_none : {T : Type 0} (n : ℕ) → ◌≡◌ {A = List T} (take n []) []
take_none zero = refl
take_none (suc n) = refl

-- Writing nothing changes nothing.
pub over_none : {T : Type 0} (places : List T) → places ≡ over [] places
over_none places = ap (λ l. l ++ places) (sym (take_none (length places)))

-- An attribute that the walk visits is in the tree.
pub place_met : (s t : ℕ → PageState) (v w : ℕ → ℕ → ℕ) (root : ℕ) (key : List ℕ) (cursor : Cursor) (found : ℕ × ℕ) → t ≡ s → w ≡ v → IsAmong v root cursor → IsReadableAt s v found.0 found.1
    → slice_get (remaining v cursor) 0 ≡ Some (item_at (v found.0) found.1) → (item_at (v found.0) found.1).key ≡ key → IsPlaceOf t w root key found.0 found.1
place_met s t v w root key cursor found page_state words among item first same =
    found_since s t v w root key (Some found) page_state words (record {
      item = item;
      there = ap (payload_at (pairs v root)) (sym same) ∙ among_lies v root cursor (item_at (v found.0) found.1) among first;
    })

-- What a step finds immediately after a descent to the key.
pub place_sought : (s t : ℕ → PageState) (v w : ℕ → ℕ → ℕ) (root : ℕ) (key : List ℕ) (cursor : Cursor) (found : Option (ℕ × ℕ)) → t ≡ s → w ≡ v → IsRising (pairs v root)
    → remaining v cursor ≡ pairs_from (pairs v root) key false → IfSome found (λ at. IsReadableAt s v at.0 at.1) → IfSome found (λ at. slice_get (remaining v cursor) 0 ≡ Some (item_at (v at.0) at.1))
    → IfSome found (λ at. (item_at (v at.0) at.1).key ≡ key) → IfNone found (StartsElsewhere key (remaining v cursor)) → IsFoundAt t w root key found
place_sought s t v w root key cursor None page_state words rising rest item first same none =
    found_since s t v w root key None page_state words (absent_from (pairs v root) key rising (subst (StartsElsewhere key) rest none))
place_sought s t v w root key cursor (Some at) page_state words rising rest item first same none =
    place_met s t v w root key cursor at page_state words (inr (key, false, rest)) item first same

-- The payload at the location where the key was found is that of the node's value.
pub payload_had : (s : ℕ → PageState) (v w : ℕ → ℕ → ℕ) (root : ℕ) (nodes : Nodes) (node : ℕ) (name key : List ℕ) (found : Option (ℕ × ℕ)) → IsCatalog (pairs v root) nodes → node < 2 ^ 64 → 0 < length name
    → key ≡ catalog_key node name → AreValid nodes → w ≡ v → IsFoundAt s w root key found → IfSome found (λ at. HasPayload nodes node name (item_at (w at.0) at.1).payload)
payload_had s v w root nodes node name key None catalog fits some is valid words found = tt
payload_had s v w root nodes node name key (Some at) catalog fits some is valid words found =
    let there = subst (λ (x : ℕ → ℕ → ℕ). payload_at (pairs x root) key ≡ Some (item_at (w at.0) at.1).payload) words found.there in
    let has = value_some (pairs v root) nodes node name key catalog fits some is (item_at (w at.0) at.1).payload valid there in
    record { value = has.0; there = has.1; is_value = has.2; is = has.3 }

pub value_missing : (s : ℕ → PageState) (v w : ℕ → ℕ → ℕ) (root : ℕ) (nodes : Nodes) (node : ℕ) (name key : List ℕ) (found : Option (ℕ × ℕ)) → IsCatalog (pairs v root) nodes → node < 2 ^ 64 → 0 < length name
    → key ≡ catalog_key node name → w ≡ v → IsFoundAt s w root key found → IfNone found (value_at nodes node name ≡ None)
value_missing s v w root nodes node name key None catalog fits some is words found =
    value_none (pairs v root) nodes node name key catalog fits some is (subst (λ (x : ℕ → ℕ → ℕ). payload_at (pairs x root) key ≡ None) words found)
value_missing s v w root nodes node name key (Some at) catalog fits some is words found = tt

pub key_length : (node : ℕ) (name key : List ℕ) → key ≡ catalog_key node name → length key ≡ 8 + length name
key_length node name key is = ap length is ∙ length-append (to_be_bytes w64 node) name

pub item_of_place : (s : ℕ → PageState) (w : ℕ → ℕ → ℕ) (root : ℕ) (key : List ℕ) (found : Option (ℕ × ℕ)) → IsFoundAt s w root key found → IfSome found (λ at. IsReadableAt s w at.0 at.1)
item_of_place s w root key None found = tt
item_of_place s w root key (Some at) found = found.item

pub same_cell : (a b : Cell) → Some a ≡ Some b → a ≡ b
same_cell a b e = cc

-- One more name.
pub row_more : (f : List ℕ → Found) (names : List HeldName) (i : ℕ) (d : HeldName) (found : List Found) → i < length names
    → (found ++ map f (map name_in (take i names))) ++ f (name_in (get_or names i d)) ∷ [] ≡ found ++ map f (map name_in (take (i + 1) names))
row_more f names i d found lt =
    append_assoc found (map f (map name_in (take i names))) (f (name_in (get_or names i d)) ∷ [])
    ∙ ap (λ (l : List Found). found ++ l) (sym (ap (λ (ns : List HeldName). map f (map name_in ns)) (take_more names i d lt)
    ∙ ap (λ (l : List (List ℕ)). map f l) (map-append name_in (take i names) (get_or names i d ∷ []))
    ∙ map-append f (map name_in (take i names)) (name_in (get_or names i d) ∷ [])))

-- One more node.
pub table_more : (nodes : Nodes) (ns : List ℕ) (i d : ℕ) (names : List (List ℕ)) → i < length ns
    → found_in nodes (take i ns) names ++ map (found_at nodes (get_or ns i d)) names ≡ found_in nodes (take (i + 1) ns) names
table_more nodes ns i d names lt = sym (ap (λ (l : List ℕ). found_in nodes l names) (take_more ns i d lt) ∙ found_more nodes (take i ns) (get_or ns i d) names)

-- What is written for a node is also written for an equal one.
pub reported_of : (nodes : Nodes) (m n : ℕ) (name : List ℕ) (xs : List Found) (cp cs : List Cell) (bp bs : List ℕ) (f : Filled) → m ≡ n → AreReported (xs ++ found_at nodes m name ∷ []) cp cs bp bs f
    → AreReported (xs ++ found_at nodes n name ∷ []) cp cs bp bs f
reported_of nodes m n name xs cp cs bp bs f same reported = subst (λ (k : ℕ). AreReported (xs ++ found_at nodes k name ∷ []) cp cs bp bs f) same reported

-- The tree is unchanged after pages were only read.
pub tree_since : (s t : ℕ → PageState) (v w : ℕ → ℕ → ℕ) (root : ℕ) → t ≡ s → w ≡ v → IsTree s v root → IsTree t w root
tree_since s t v w root page_state words h = subst (λ (u : ℕ → PageState). IsTree u w root) (sym page_state) (subst (λ (x : ℕ → ℕ → ℕ). IsTree s x root) (sym words) h)

-- The cursor can still continue in the tree after pages were only read.
pub walks_since : (s t : ℕ → PageState) (v w : ℕ → ℕ → ℕ) (root : ℕ) (cursor : Cursor) → t ≡ s → w ≡ v → WalksIn s v root cursor → WalksIn t w root cursor
walks_since s t v w root cursor page_state words h =
    subst (λ (u : ℕ → PageState). WalksIn u w root cursor) (sym page_state) (subst (λ (x : ℕ → ℕ → ℕ). WalksIn s x root cursor) (sym words) h)
