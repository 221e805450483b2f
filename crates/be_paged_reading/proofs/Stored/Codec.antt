-- The words of an index on a version page, and what they encode.
use Rattle.std.proofs.Common.{◌≡◌, ℕ, zero, suc, ◌+◌, ◌*◌, ◌<◌, ◌≤◌, ◌^◌, List, [], ◌∷◌, length, map, take, slice_index, ap, sym, subst, ◌∙◌, arith, Ok}
use Rattle.std.proofs.lemmas.Bool.Decides.{nat_tests}
use Rattle.be_value.specs.Name.{name_from}
use Rattle.std.specs.Int.{to_be_bytes, w64}
use Rattle.std.specs.List.{flat_map, range_with_len}
use Rattle.be_value.specs.declared.values.Kind.{Kind}
use Rattle.be_tree_reading.specs.Page.{bytes_at, words_for}
use Rattle.be_tree_reading.proofs.Codec.{map_same, bytes_at_stored}
use Rattle.be_paged_reading.specs.Entry.{Entry, HaveText}
use Rattle.be_volume.specs.Sound.{IsName}
use Rattle.be_paged_reading.specs.Page.{Contents, entry_at, kind_numbered, IsEntry}

bytes_agree : (v w : ℕ → ℕ) (at n : ℕ) → ((j : ℕ) → at ≤ j → j < at + words_for n → w j ≡ v j) → bytes_at w at n ≡ bytes_at v at n
bytes_agree v w at n same =
    ap (λ ws. take n (flat_map (to_be_bytes w64) ws)) (map_same (λ i. w (at + i)) (λ i. v (at + i)) 0 (words_for n) (λ k ge lt. same (at + k) (omega arith) (omega arith)))

pub same_entry : {a b : List ℕ} {k l : Kind} {r s : ℕ} → a ≡ b → k ≡ l → r ≡ s → ◌≡◌ {A = Entry} (record { name = a; kind = k; root = r }) (record { name = b; kind = l; root = s })
same_entry p q r = cc

pub entry_at_same : (v w : ℕ → ℕ) (at : ℕ) → v at ≤ 63 → ((j : ℕ) → at ≤ j → j < at + 11 → w j ≡ v j) → entry_at w at ≡ entry_at v at
unfolding entry_at
entry_at_same v w at short same =
    let len : w at ≡ v at = same at (omega arith) (omega arith) in
    same_entry (ap (bytes_at w (at + 1)) len ∙ bytes_agree v w (at + 1) (v at) (λ j ge lt. same j (omega arith) (omega arith)))
    (ap kind_numbered (same (at + 9) (omega arith) (omega arith))) (same (at + 10) (omega arith) (omega arith))

pub name_short : (name : List ℕ) → name_from name ≡ Ok name → length name ≤ 63
name_short name e = grind (arith, nat_tests)

pub same_contents : {m n a b : ℕ} {xs ys : List Entry} → m ≡ n → a ≡ b → xs ≡ ys → ◌≡◌ {A = Contents} (record { next = m; catalog = a; entries = xs }) (record { next = n; catalog = b; entries = ys })
same_contents p q r = cc

-- A word contains the eight bytes of the string that begin at a position.
abbrev HasBytes : List ℕ → ℕ → ℕ → Type 0
HasBytes text from word = (word < 2 ^ 64) × (to_be_bytes w64 word ≡ map (λ k. slice_index text k) (range_with_len from 8))

-- Eight words that were made from a string contain it.
pub have_text : (text : List ℕ) (a b c d e f g h : ℕ) → HasBytes text 0 a → HasBytes text 8 b → HasBytes text 16 c → HasBytes text 24 d
    → HasBytes text 32 e → HasBytes text 40 f → HasBytes text 48 g → HasBytes text 56 h → HaveText (slice_index (a ∷ b ∷ c ∷ d ∷ e ∷ f ∷ g ∷ h ∷ [])) text
have_text text a b c d e f g h p0 p1 p2 p3 p4 p5 p6 p7 = record { small = λ j lt. (each j lt).0; bytes = λ j lt. (each j lt).1 }
  where
    each : (j : ℕ) → j < 8 → HasBytes text (8 * j) (slice_index (a ∷ b ∷ c ∷ d ∷ e ∷ f ∷ g ∷ h ∷ []) j)
    each zero lt = p0
    each (suc zero) lt = p1
    each (suc (suc zero)) lt = p2
    each (suc (suc (suc zero))) lt = p3
    each (suc (suc (suc (suc zero)))) lt = p4
    each (suc (suc (suc (suc (suc zero))))) lt = p5
    each (suc (suc (suc (suc (suc (suc zero)))))) lt = p6
    each (suc (suc (suc (suc (suc (suc (suc zero))))))) lt = p7
    each (suc (suc (suc (suc (suc (suc (suc (suc j)))))))) lt = absurd (omega (arith, lt))

-- Eight words that contain a string encode it.
pub text_reported : (words : ℕ → ℕ) (text : List ℕ) → length text ≤ 63 → HaveText words text → bytes_at words 0 (length text) ≡ text
text_reported words text short have =
    bytes_at_stored words 0 text at
  where
    at : (j : ℕ) → j < words_for (length text) → to_be_bytes w64 (words (0 + j)) ≡ map (λ k. slice_index text k) (range_with_len (8 * j) 8)
    at j lt =
        let e : 0 + j ≡ j = omega arith in
        ap (λ (i : ℕ). to_be_bytes w64 (words i)) e ∙ have.bytes j (omega (arith, lt, short))

-- The same words at another offset encode the same string.
pub bytes_moved : (v w : ℕ → ℕ) (a b n : ℕ) → n ≤ 63 → ((j : ℕ) → j < 8 → w (b + j) ≡ v (a + j)) → bytes_at w b n ≡ bytes_at v a n
bytes_moved v w a b n le same =
    ap (λ ws. take n (flat_map (to_be_bytes w64) ws)) (map_same (λ i. w (b + i)) (λ i. v (a + i)) 0 (words_for n) (λ k ge lt. same k (omega (arith, lt, le))))

pub text_moved : (v w : ℕ → ℕ) (text : List ℕ) → ((j : ℕ) → j < 8 → w j ≡ v j) → HaveText v text → HaveText w text
text_moved v w text same have = record {
  small = λ j lt. subst (λ (n : ℕ). n < 2 ^ 64) (sym (same j lt)) (have.small j lt);
  bytes = λ j lt. ap (to_be_bytes w64) (same j lt) ∙ have.bytes j lt;
}

-- The words of a loaded index encode the same name as those of the page.
pub name_moved : (v ws : ℕ → ℕ) (at len : ℕ) → len ≤ 63 → len ≡ v at → ((j : ℕ) → j < 8 → ws j ≡ v (at + 1 + j)) → bytes_at ws 0 len ≡ (entry_at v at).name
unfolding entry_at
name_moved v ws at len short is reported = bytes_moved v ws (at + 1) 0 len short moved ∙ ap (bytes_at v (at + 1)) is
  where
    moved : (j : ℕ) → j < 8 → ws (0 + j) ≡ v (at + 1 + j)
    moved j lt =
        let e : 0 + j ≡ j = omega arith in
        ap ws e ∙ reported j lt

pub entry_is : (v : ℕ → ℕ) (at : ℕ) (e : Entry) → e.name ≡ (entry_at v at).name → e.kind ≡ kind_numbered (v (at + 9)) → e.root ≡ v (at + 10) → e ≡ entry_at v at
unfolding entry_at
entry_is v at e name kind root = same_entry name kind root

pub is_entry_same : (v w : ℕ → ℕ) (at : ℕ) → ((j : ℕ) → at ≤ j → j < at + 11 → w j ≡ v j) → IsEntry v at → IsEntry w at
is_entry_same v w at same is =
    let e = entry_at_same v w at is.short same in
    record {
      short = subst (λ (n : ℕ). n ≤ 63) (sym (same at (omega arith) (omega arith))) is.short;
      named = subst (λ (d : Entry). IsName d.name) (sym e) is.named;
      text = subst (λ (d : Entry). HaveText (λ j. w (at + 1 + j)) d.name) (sym e) (text_moved (λ j. v (at + 1 + j)) (λ j. w (at + 1 + j)) (entry_at v at).name (λ j lt. same (at + 1 + j) (omega arith) (omega (arith, lt))) is.text);
      kind = subst (λ (n : ℕ). (1 ≤ n) × (n ≤ 7)) (sym (same (at + 9) (omega arith) (omega arith))) is.kind;
    }
