-- The contents of a version page determine the words that it uses.
use Rattle.std.proofs.Common.{◌≡◌, ℕ, zero, suc, ◌+◌, ◌-◌, ◌*◌, ◌/◌, ◌%◌, ◌<◌, ◌≤◌, List, [], length, map, get_or, slice_index, inl, inr, ap, sym, ◌∙◌, refl, arith}
use Rattle.std.specs.Int.{to_be_bytes, from_be_bytes, w64}
use Rattle.std.specs.List.{flat_map, range_with_len}
use Rattle.std.proofs.lemmas.Nat.{from_be_bytes-to_be_bytes_8}
use Rattle.std.proofs.lemmas.List.{length-take-le}
use Rattle.std.proofs.lemmas.List.FromFn.{get_or-map-range_with_len, length-map-range_with_len}
use Rattle.std.proofs.lemmas.Bool.{cases_lt}
use Rattle.be_value.specs.Coded.{place}
use Rattle.be_value.specs.declared.values.Kind.{Kind}
use Rattle.be_value.specs.declared.values.Kind.TheVariants as kinds
use Rattle.be_tree_reading.specs.Page.{bytes_at, words_for}
use Rattle.be_tree_reading.proofs.Codec.{flat_map_length}
use Rattle.be_paged_reading.specs.Entry.{Entry, HaveText}
use Rattle.be_paged_reading.specs.Page.{Contents, contents_of, entry_at, kind_numbered, entry_place, IsEntry, IsVersionPage}

pub length_reported : (words : ℕ → ℕ) (at n : ℕ) → length (bytes_at words at n) ≡ n
length_reported words at n = length-take-le n (flat_map (to_be_bytes w64) (map (λ i. words (at + i)) (range_with_len 0 (words_for n)))) (omega (arith, flat_map_length (λ i. words (at + i)) (words_for n)))

number_back : (n : ℕ) → 1 ≤ n → n ≤ 7 → place (kind_numbered n) + 1 ≡ n
number_back zero lo hi = absurd (omega (arith, lo))
number_back (suc zero) lo hi = refl
number_back (suc (suc zero)) lo hi = refl
number_back (suc (suc (suc zero))) lo hi = refl
number_back (suc (suc (suc (suc zero)))) lo hi = refl
number_back (suc (suc (suc (suc (suc zero))))) lo hi = refl
number_back (suc (suc (suc (suc (suc (suc zero)))))) lo hi = refl
number_back (suc (suc (suc (suc (suc (suc (suc zero))))))) lo hi = refl
number_back (suc (suc (suc (suc (suc (suc (suc (suc n)))))))) lo hi = absurd (omega (arith, hi))

pub name_len : (v : ℕ → ℕ) (at : ℕ) → length (entry_at v at).name ≡ v at
unfolding entry_at
name_len v at = length_reported v (at + 1) (v at)

kind_in : (v : ℕ → ℕ) (at : ℕ) → (entry_at v at).kind ≡ kind_numbered (v (at + 9))
unfolding entry_at
kind_in v at = refl

root_in : (v : ℕ → ℕ) (at : ℕ) → (entry_at v at).root ≡ v (at + 10)
unfolding entry_at
root_in v at = refl

text_word : (v w : ℕ → ℕ) (a b : List ℕ) (j : ℕ) → j < 8 → a ≡ b → HaveText v a → HaveText w b → v j ≡ w j
text_word v w a b j lt same p q =
    sym (from_be_bytes-to_be_bytes_8 (v j) (p.small j lt))
    ∙ ap (from_be_bytes w64) (p.bytes j lt ∙ ap (λ (text : List ℕ). map (λ k. slice_index text k) (range_with_len (8 * j) 8)) same ∙ sym (q.bytes j lt))
    ∙ from_be_bytes-to_be_bytes_8 (w j) (q.small j lt)

-- The eleven words of an index.
entry_words : (v w : ℕ → ℕ) (at : ℕ) → IsEntry v at → IsEntry w at → entry_at v at ≡ entry_at w at → (r : ℕ) → r < 11 → v (at + r) ≡ w (at + r)
entry_words v w at p q e zero lt =
    let z : at + 0 ≡ at = omega arith in
    ap v z ∙ sym (name_len v at) ∙ ap (λ (d : Entry). length d.name) e ∙ name_len w at ∙ ap w (sym z)
entry_words v w at p q e (suc j) lt = elim (cases_lt j 8) [
  | inl small ↦
      let z : at + suc j ≡ at + 1 + j = omega arith in
      ap v z ∙ text_word (λ i. v (at + 1 + i)) (λ i. w (at + 1 + i)) (entry_at v at).name (entry_at w at).name j small (ap (λ (d : Entry). d.name) e) p.text q.text ∙ ap w (sym z)
  | inr more ↦ elim (cases_lt j 9) [
    | inl eighth ↦
        let z : at + suc j ≡ at + 9 = omega (arith, more, eighth) in
        let same = ap (λ (k : Kind). place k + 1) (sym (kind_in v at) ∙ ap (λ (d : Entry). d.kind) e ∙ kind_in w at) in
        ap v z ∙ sym (number_back (v (at + 9)) p.kind.0 p.kind.1) ∙ same ∙ number_back (w (at + 9)) q.kind.0 q.kind.1 ∙ ap w (sym z)
    | inr ninth ↦
        let z : at + suc j ≡ at + 10 = omega (arith, ninth, lt) in
        ap v z ∙ sym (root_in v at) ∙ ap (λ (d : Entry). d.root) e ∙ root_in w at ∙ ap w (sym z)
  ]
]

pub one_encoding : (v w : ℕ → ℕ) → IsVersionPage v → IsVersionPage w → contents_of v ≡ contents_of w → (i : ℕ) → i < 4 + 11 * v 1 → v i ≡ w i
one_encoding v w p q e i lt = elim (cases_lt i 4) [
  | inl low ↦ head i low
  | inr high ↦
      let k : ℕ = (i - 4) / 11 in
      let r : ℕ = (i - 4) % 11 in
      let z : i ≡ entry_place k + r = omega (arith, high) in
      let in_range : k < v 1 = omega (arith, high, lt) in
      let other : k < w 1 = omega (arith, in_range, count) in
      let rest : r < 11 = omega arith in
      ap v z ∙ entry_words v w (entry_place k) (p.each k in_range) (q.each k other) (same k in_range other) r rest ∙ ap w (sym z)
]
  where
    entries : map (λ i. entry_at v (entry_place i)) (range_with_len 0 (v 1)) ≡ map (λ i. entry_at w (entry_place i)) (range_with_len 0 (w 1))
    entries = ap (λ (c : Contents). c.entries) e

    count : v 1 ≡ w 1
    count = sym (length-map-range_with_len (λ i. entry_at v (entry_place i)) 0 (v 1)) ∙ ap length entries ∙ length-map-range_with_len (λ i. entry_at w (entry_place i)) 0 (w 1)

    nowhere : Entry
    nowhere = record { name = []; kind = kinds.Cstr; root = 0 }

    same : (k : ℕ) → k < v 1 → k < w 1 → entry_at v (entry_place k) ≡ entry_at w (entry_place k)
    same k lt other =
        let z : 0 + k ≡ k = omega arith in
        sym (get_or-map-range_with_len (λ i. entry_at v (entry_place i)) 0 (v 1) k k nowhere lt z) ∙ ap (λ (es : List Entry). get_or es k nowhere) entries
        ∙ get_or-map-range_with_len (λ i. entry_at w (entry_place i)) 0 (w 1) k k nowhere other z

    head : (j : ℕ) → j < 4 → v j ≡ w j
    head zero lt = p.tag ∙ sym q.tag
    head (suc zero) lt = count
    head (suc (suc zero)) lt = ap (λ (c : Contents). c.next) e
    head (suc (suc (suc zero))) lt = ap (λ (c : Contents). c.catalog) e
    head (suc (suc (suc (suc j)))) lt = absurd (omega (arith, lt))
