-- Whether a key of the catalog begins with a node, which its first word determines.
use Rattle.std.proofs.Common.{◌≡◌, ℕ, zero, suc, ◌+◌, ◌<◌, ◌≤◌, ◌^◌, Bool, true, false, List, ◌∷◌, ◌++◌, length, map, take, drop, get_or, ap, sym, ◌∙◌, refl, arith, drop-cons, eq-eqb, length-append}
use Rattle.std.specs.Prelude.{nat_eq}
use Rattle.std.specs.Int.{from_be_bytes, to_be_bytes, w64}
use Rattle.std.specs.List.{range_with_len}
use Rattle.std.proofs.lemmas.List.{take-append-drop}
use Rattle.std.proofs.lemmas.Map.Views.{exact_unsigned_eq}
use Rattle.std.proofs.lemmas.Nat.{from_be_bytes-to_be_bytes_8}
use Rattle.be_tree_reading.specs.Page.{item_at, key_len}
use Rattle.be_tree_reading.proofs.Bytes.Words.{first_bytes, item_key_length}
use Rattle.be_paged_reading.specs.Catalog.{catalog_key}
use Rattle.be_paged_reading.specs.Reading.{is_of}
use Rattle.be_paged_reading.proofs.CatalogPairs.Segments.{of_node, is_node}

part_of : (bs : List ℕ) (a r : ℕ) → a + r ≤ length bs → take r (drop a bs) ≡ map (λ k. get_or bs k 0) (range_with_len a r)
part_of bs a zero le = refl
part_of bs a (suc r) le =
    let e : suc a ≡ a + 1 = omega arith in
    ap (take (suc r)) (drop-cons bs a 0 (omega (arith, le))) ∙ ap (λ ys. get_or bs a 0 ∷ ys) (ap (λ n. take r (drop n bs)) e ∙ part_of bs (a + 1) r (omega (arith, le)))

module _ (words : ℕ → ℕ) (at node : ℕ) where
  pub begins : 8 ≤ key_len words at → (item_at words at).key ≡ catalog_key (words (at + 1)) (drop 8 (item_at words at).key)
  begins long =
      let k = (item_at words at).key in
      sym (take-append-drop 8 k) ∙ ap (λ bs. bs ++ drop 8 k) (part_of k 0 8 (omega (arith, item_key_length words at, long)) ∙ sym (first_bytes words at long))

  same_number : words (at + 1) < 2 ^ 64 → node < 2 ^ 64 → to_be_bytes w64 (words (at + 1)) ≡ to_be_bytes w64 node → words (at + 1) ≡ node
  same_number lx ln e = sym (from_be_bytes-to_be_bytes_8 (words (at + 1)) lx) ∙ ap (from_be_bytes w64) e ∙ from_be_bytes-to_be_bytes_8 node ln

  -- A short key begins with no node.
  pub short_key : key_len words at < 8 → false ≡ is_of node (item_at words at).key
  short_key short = by (is_of node (item_at words at).key) refl
    where
      by : (b : Bool) → is_of node (item_at words at).key ≡ b → false ≡ b
      by true e = absurd (omega (arith, short, item_key_length words at, ap length (is_node node (item_at words at).key e), length-append (to_be_bytes w64 node) (drop 8 (item_at words at).key)))
      by false e = refl

  pub same_node : 8 ≤ key_len words at → words (at + 1) ≡ node → is_of node (item_at words at).key ≡ true
  same_node long e =
      let rest = drop 8 (item_at words at).key in
      ap (is_of node) (begins long ∙ ap (λ n. catalog_key n rest) e) ∙ of_node node rest

  pub other_node : 8 ≤ key_len words at → words (at + 1) < 2 ^ 64 → node < 2 ^ 64 → (words (at + 1) ≡ node → ⊥) → is_of node (item_at words at).key ≡ false
  other_node long lx ln ne = by (is_of node (item_at words at).key) refl
    where
      by : (b : Bool) → is_of node (item_at words at).key ≡ b → b ≡ false
      by true e = absurd (ne (same_number lx ln (ap (take 8) (sym (begins long) ∙ is_node node (item_at words at).key e))))
      by false e = refl

  -- For a long key, the first word determines it.
  pub word_reports : (x : ℕ) → x ≡ words (at + 1) → x < 2 ^ 64 → node < 2 ^ 64 → 8 ≤ key_len words at → nat_eq x node ≡ is_of node (item_at words at).key
  word_reports x is lx ln long = by (nat_eq x node) refl
    where
      clash : false ≡ true → ⊥
      clash e = cc

      by : (b : Bool) → nat_eq x node ≡ b → nat_eq x node ≡ is_of node (item_at words at).key
      by true e = e ∙ sym (same_node long (sym is ∙ exact_unsigned_eq x node e))
      by false e = e ∙ sym (other_node long (omega (arith, is, lx)) ln (λ same. clash (sym e ∙ eq-eqb x node (is ∙ same))))
