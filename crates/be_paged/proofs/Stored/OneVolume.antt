-- A page encodes only one volume: its pairs determine the nodes, the attributes and the indices,
-- which make up the whole volume.
use Rattle.std.proofs.Common.{◌≡◌, ℕ, ◌<◌, ◌≤◌, ◌^◌, List, [], ◌∷◌, drop, cond, true, false, Some, None, unwrap_or, is_some, refl, sym, ap, subst, ◌∙◌, inl, inr, arith, IsTrue}
use Rattle.std.proofs.lemmas.Bool.{cases_lt}
use Rattle.std.proofs.lemmas.Nat.{from_be_bytes-to_be_bytes_4, from_be_bytes-to_be_bytes_8}
use Rattle.std.proofs.Math.Facts.{to_z-of_z, Fits-of_z}
use Rattle.std.specs.Int.{to_be_bytes, from_be_bytes, cast_unsigned, cast_signed, w32, w64}
use Rattle.std.specs.Int.RustNames.{FitsSigned}
use Rattle.std.specs.Cmp.{nat_cmp_total}
use Rattle.std.specs.Ordering.{eq_by_cmp}
use Rattle.std.specs.Option.{option_map, option_and_then}
use Rattle.std.specs.declared.option.Option.{Option}
use Rattle.std.specs.FinMap as fin
use Rattle.std.specs.FinMap.{FinMap, nat_cmp-IsAntisymmetric, same_map, get-entries}
use Rattle.std.specs.FinMap.Entries.{find}
use Rattle.std.specs.Ordering.{nat_cmp}
use lib.IntN.{ℤ}
use Rattle.be_value.specs.Key.{IsValue, key}
use Rattle.be_value.specs.Value.{kind_of, is_indexable}
use Rattle.be_value.specs.declared.values.Kind.{Kind}
use Rattle.be_value.specs.declared.values.Value.{Value}
use Rattle.be_value.specs.declared.values.Value.TheVariants.{Cstr, Long, Llng, Mims, Rawt, Ulng, Ullg}
use Rattle.be_value.proofs.KeyPairs.{one_pair_of}
use Rattle.be_pages.specs.declared.room.PageState.{PageState}
use Rattle.be_tree_reading.specs.Pair.{Pair}
use Rattle.be_volume.specs.Maps.{Nodes, Attributes, name_cmp}
use Rattle.be_volume.specs.Indices.{Indices}
use Rattle.be_volume.specs.Sound.{IsSound}
use Rattle.be_volume.specs.Volume.{State}
use Rattle.be_volume.specs.declared.maps.Index.{Index}
use Rattle.be_paged_reading.specs.Entry.{Entry}
use Rattle.be_paged_reading.specs.Catalog.{payload_of, value_at, stored, IsCatalog, IsPairOf, IsIndexOf}
use Rattle.be_paged_reading.specs.Reading.{AreValid}
use Rattle.be_paged_reading.specs.Version.{AreEntriesOf, IsVersion}
use Rattle.be_paged_reading.proofs.CatalogPairs.FactValues.{node_there}
use Rattle.be_paged_reading.proofs.CatalogPairs.Finding.{found_pair}
use Rattle.be_paged_reading.proofs.IndexEntries.Indexing.{names_exact, names_total}
use Rattle.be_paged_reading.proofs.CatalogPairs.Segments.{no_nameless}
use Rattle.be_paged_reading.proofs.CatalogPairs.Validity.{values_valid}

-- bytes determine the number that they encode
word32 : (a b : ℕ) → a < 2 ^ 32 → b < 2 ^ 32 → to_be_bytes w32 a ≡ to_be_bytes w32 b → a ≡ b
word32 a b p q e = sym (from_be_bytes-to_be_bytes_4 a p) ∙ ap (from_be_bytes w32) e ∙ from_be_bytes-to_be_bytes_4 b q

word64 : (a b : ℕ) → a < 2 ^ 64 → b < 2 ^ 64 → to_be_bytes w64 a ≡ to_be_bytes w64 b → a ≡ b
word64 a b p q e = sym (from_be_bytes-to_be_bytes_8 a p) ∙ ap (from_be_bytes w64) e ∙ from_be_bytes-to_be_bytes_8 b q

signed32 : (a b : ℤ) → FitsSigned w32 a → FitsSigned w32 b → to_be_bytes w32 (cast_unsigned w32 a) ≡ to_be_bytes w32 (cast_unsigned w32 b) → a ≡ b
signed32 a b p q e = sym (to_z-of_z p) ∙ ap (cast_signed w32) (word32 (cast_unsigned w32 a) (cast_unsigned w32 b) (Fits-of_z p).fits (Fits-of_z q).fits e) ∙ to_z-of_z q

signed64 : (a b : ℤ) → FitsSigned w64 a → FitsSigned w64 b → to_be_bytes w64 (cast_unsigned w64 a) ≡ to_be_bytes w64 (cast_unsigned w64 b) → a ≡ b
signed64 a b p q e = sym (to_z-of_z p) ∙ ap (cast_signed w64) (word64 (cast_unsigned w64 a) (cast_unsigned w64 b) (Fits-of_z p).fits (Fits-of_z q).fits e) ∙ to_z-of_z q

-- a payload belongs to only one value
same_payload : (v w : Value) → IsValue v → IsValue w → payload_of v ≡ payload_of w → v ≡ w
same_payload (Cstr a) (Cstr b) p q e = ap Cstr (ap (drop 1) e)
same_payload (Long a) (Long b) p q e = ap Long (signed32 a b p q (ap (drop 1) e))
same_payload (Llng a) (Llng b) p q e = ap Llng (signed64 a b p q (ap (drop 1) e))
same_payload (Mims a) (Mims b) p q e = ap Mims (ap (drop 1) e)
same_payload (Rawt a) (Rawt b) p q e = ap Rawt (ap (drop 1) e)
same_payload (Ulng a) (Ulng b) p q e = ap Ulng (word32 a b p q (ap (drop 1) e))
same_payload (Ullg a) (Ullg b) p q e = ap Ullg (word64 a b p q (ap (drop 1) e))
same_payload (Cstr a) w p q e = cc
same_payload (Long a) w p q e = cc
same_payload (Llng a) w p q e = cc
same_payload (Mims a) w p q e = cc
same_payload (Rawt a) w p q e = cc
same_payload (Ulng a) w p q e = cc
same_payload (Ullg a) w p q e = cc

one_value : (x y : Option Value) → ((v : Value) → x ≡ Some v → IsValue v) → ((v : Value) → y ≡ Some v → IsValue v) → option_map payload_of x ≡ option_map payload_of y → x ≡ y
one_value None None p q e = refl
one_value None (Some b) p q e = cc
one_value (Some a) None p q e = cc
one_value (Some a) (Some b) p q e = ap Some (same_payload a b (p a refl) (q b refl) (ap (λ o. unwrap_or o []) e))

-- nodes with the same pairs have the same attributes
one_attribute : (a b : Nodes) (node : ℕ) → AreValid a → AreValid b → ((name : List ℕ) → stored a node name ≡ stored b node name) → (name : List ℕ) → value_at a node name ≡ value_at b node name
one_attribute a b node p q same [] = no_nameless a node p ∙ sym (no_nameless b node q)
one_attribute a b node p q same (c ∷ name) =
    one_value (value_at a node (c ∷ name)) (value_at b node (c ∷ name)) (λ v e. (p node (c ∷ name) v e).1) (λ v e. (q node (c ∷ name) v e).1) (same (c ∷ name))

one_node : (x y : Option Attributes) → is_some x ≡ is_some y
    → ((name : List ℕ) → option_and_then (λ (a : Attributes). fin.get a name) x ≡ option_and_then (λ (a : Attributes). fin.get a name) y) → x ≡ y
one_node None None e same = refl
one_node None (Some b) e same = cc
one_node (Some a) None e same = cc
one_node (Some a) (Some b) e same = ap Some (same_map names_total names_exact a b same)

no_node : (s : State) (node : ℕ) → IsSound s → s.next < 2 ^ 64 → 2 ^ 64 ≤ node → fin.get s.nodes node ≡ None
no_node s node sound small past = by (fin.get s.nodes node) refl
  where
    by : (a : Option Attributes) → fin.get s.nodes node ≡ a → a ≡ None
    by None e = refl
    by (Some a) e = absurd (omega (arith, sound.nodes node (ap is_some e), small, past))

one_catalog : (items : List Pair) (s t : State) → IsCatalog items s.nodes → IsCatalog items t.nodes → IsSound s → IsSound t → s.next < 2 ^ 64 → t.next < 2 ^ 64 → s.nodes ≡ t.nodes
one_catalog items s t g h p q small_s small_t =
    same_map nat_cmp_total nat_cmp-IsAntisymmetric s.nodes t.nodes (λ node. elim (cases_lt node (2 ^ 64)) [
      | inl lt ↦
          one_node (fin.get s.nodes node) (fin.get t.nodes node)
          (sym (node_there items s.nodes node (to_be_bytes w64 node) g lt refl) ∙ node_there items t.nodes node (to_be_bytes w64 node) h lt refl)
          (one_attribute s.nodes t.nodes node (values_valid s p) (values_valid t q) (λ name. sym (g.each node name lt) ∙ h.each node name lt))
      | inr past ↦ no_node s node p small_s past ∙ sym (no_node t node q small_t past)
    ])

-- what is known about the keys of an index
record IsKeyed (index : Index) : Type 0 where
  indexable : IsTrue (is_indexable index.kind)
  valid : (n : ℕ) (v : Value) → fin.get index.pairs n ≡ Some v → IsValue v
  fits : (n : ℕ) (v : Value) → fin.get index.pairs n ≡ Some v → n < 2 ^ 64
  kind : (n : ℕ) (v : Value) → fin.get index.pairs n ≡ Some v → kind_of v ≡ index.kind

keyed : (s : State) → IsSound s → (name : List ℕ) (index : Index) → fin.get s.indices name ≡ Some index → IsKeyed index
keyed s sound name index at = record {
  indexable = sound.kinds name index at;
  valid = λ n v e. (sound.pairs name index n v at e).is_value;
  fits = λ n v e. (sound.pairs name index n v at e).node_fits;
  kind = λ n v e. (sound.pairs name index n v at e).kind_is;
}

-- two indices of one kind have the same keys
record AreOne (i j : Index) : Type 0 where
  kind : i.kind ≡ j.kind
  items : List Pair
  one : IsIndexOf items i
  other : IsIndexOf items j

pair_moves : (i j : Index) → IsKeyed i → IsKeyed j → AreOne i j → (n : ℕ) (v : Value) → fin.get i.pairs n ≡ Some v → fin.get j.pairs n ≡ Some v
pair_moves i j p q same n v at =
    let found = found_pair (IsPairOf j) (key v n) same.items same.other.only (ap is_some (same.one.each n v at)) in
    let its = found.1 in
    let is = one_pair_of v its.value n its.node (p.valid n v at) (q.valid its.node its.value its.there) (p.fits n v at) (q.fits its.node its.value its.there)
    (subst (λ (k : Kind). IsTrue (is_indexable k)) (sym (p.kind n v at)) p.indexable)
    (p.kind n v at ∙ same.kind ∙ sym (q.kind its.node its.value its.there)) (sym found.2 ∙ its.is) in
    ap (fin.get j.pairs) is.1 ∙ its.there ∙ ap Some (sym is.0)

turned : {i j : Index} → AreOne i j → AreOne j i
turned same = record { kind = sym same.kind; items = same.items; one = same.other; other = same.one }

same_option : {A : Type 0} (x y : Option A) → ((v : A) → x ≡ Some v → y ≡ Some v) → ((v : A) → y ≡ Some v → x ≡ Some v) → x ≡ y
same_option None None f g = refl
same_option None (Some b) f g = g b refl
same_option (Some a) y f g = sym (f a refl)

same_index : {a b : Kind} {m n : FinMap nat_cmp Value} → a ≡ b → m ≡ n → ◌≡◌ {A = Index} (record { kind = a; pairs = m }) (record { kind = b; pairs = n })
same_index p q = cc

one_index : (i j : Index) → IsKeyed i → IsKeyed j → AreOne i j → i ≡ j
one_index i j p q same =
    same_index same.kind (same_map nat_cmp_total nat_cmp-IsAntisymmetric i.pairs j.pairs
    (λ n. same_option (fin.get i.pairs n) (fin.get j.pairs n) (pair_moves i j p q same n) (pair_moves j i q p (turned same) n)))

abbrev Alike : Option Index → Option Index → Type 0
Alike None None = Unit {0}
Alike None (Some j) = ⊥
Alike (Some i) None = ⊥
Alike (Some i) (Some j) = AreOne i j

found_alike : (w : ℕ → ℕ → ℕ) (es : List Entry) (is js : List (List ℕ × Index)) (name : List ℕ) → AreEntriesOf w es is → AreEntriesOf w es js → Alike (find name_cmp name is) (find name_cmp name js)
found_alike w [] [] [] name g h = tt
found_alike w [] [] (j ∷ js) name g h = absurd h
found_alike w [] (i ∷ is) js name g h = absurd g
found_alike w (e ∷ es) [] js name g h = absurd g
found_alike w (e ∷ es) (i ∷ is) [] name g h = absurd h
found_alike w (e ∷ es) (i ∷ is) (j ∷ js) name g h =
    let rest = found_alike w es is js name g.1 h.1 in
    let this : AreOne i.1 j.1 = record { kind = sym g.0.kind_is ∙ h.0.kind_is; items = _; one = g.0.keys; other = h.0.keys } in
    subst (λ (n : List ℕ). Alike (cond (eq_by_cmp name_cmp name i.0) (Some i.1) (find name_cmp name is)) (cond (eq_by_cmp name_cmp name n) (Some j.1) (find name_cmp name js))) (sym g.0.name_is ∙ h.0.name_is)
    (elim (eq_by_cmp name_cmp name i.0) as (λ b. Alike (cond b (Some i.1) (find name_cmp name is)) (cond b (Some j.1) (find name_cmp name js))) [ true ↦ this | false ↦ rest ])

one_found : (x y : Option Index) → ((i : Index) → x ≡ Some i → IsKeyed i) → ((j : Index) → y ≡ Some j → IsKeyed j) → Alike x y → x ≡ y
one_found None None p q same = refl
one_found None (Some j) p q same = absurd same
one_found (Some i) None p q same = absurd same
one_found (Some i) (Some j) p q same = ap Some (one_index i j (p i refl) (q j refl) same)

one_list : (w : ℕ → ℕ → ℕ) (es : List Entry) (s t : State) → AreEntriesOf w es (fin.entries s.indices) → AreEntriesOf w es (fin.entries t.indices) → IsSound s → IsSound t → s.indices ≡ t.indices
one_list w es s t g h p q =
    same_map names_total names_exact s.indices t.indices (λ name.
    one_found (fin.get s.indices name) (fin.get t.indices name) (keyed s p name) (keyed t q name)
    (subst (λ x. Alike x (fin.get t.indices name)) (sym (get-entries s.indices name))
    (subst (Alike (find name_cmp name (fin.entries s.indices))) (sym (get-entries t.indices name)) (found_alike w es (fin.entries s.indices) (fin.entries t.indices) name g h))))

same_state : {a b : ℕ} {m n : Nodes} {i j : Indices} → a ≡ b → m ≡ n → i ≡ j → ◌≡◌ {A = State} (record { next = a; nodes = m; indices = i }) (record { next = b; nodes = n; indices = j })
same_state p q r = cc

pub one_volume : (s t : ℕ → PageState) (words : ℕ → ℕ → ℕ) (page : ℕ) (a b : State) → IsVersion s words page a → IsVersion t words page b → a ≡ b
one_volume s t words page a b g h =
    same_state (sym g.encodes.next ∙ h.encodes.next)
    (one_catalog _ a b g.encodes.catalog h.encodes.catalog g.sound h.sound (omega (arith, g.in_hand.fits, g.encodes.next)) (omega (arith, h.in_hand.fits, h.encodes.next)))
    (one_list words _ a b g.encodes.indices h.encodes.indices g.sound h.sound)
