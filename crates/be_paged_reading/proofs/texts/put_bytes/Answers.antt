use Rattle.std.proofs.Common.{◌≡◌, ℕ, zero, suc, List, [], ◌∷◌, ◌+◌, ◌*◌, ◌≤◌, ◌++◌, ◌∙◌, ap, sym, refl, map, take, arith}
use Rattle.std.specs.Int.{to_be_bytes, w64}
use Rattle.std.specs.List.{flat_map, range_with_len}
use Rattle.be_tree_reading.specs.Page.{words_for}
use Rattle.be_tree_reading.proofs.Codec.{flat_map_more}
use Rattle.be_paged_reading.proofs.texts.put_bytes.Goals as goal

take_take : (k n : ℕ) (xs : List ℕ) → k ≤ n → take k (take n xs) ≡ take k xs
take_take zero n xs le = refl
take_take (suc k) zero xs le = absurd (omega (arith, le))
take_take (suc k) (suc n) [] le = refl
take_take (suc k) (suc n) (x ∷ xs) le = ap (λ ys. x ∷ ys) (take_take k n xs (omega (arith, le)))

pub loop-i-preserved : goal.loop-i-preserved
loop-i-preserved g c =
    let word_at = λ (k : ℕ). g.L.Look.words c.args.look.now c.args.page (c.args.at + k) in
    let so_far = flat_map (to_be_bytes w64) (map word_at (range_with_len 0 c.loop-i.i)) in
    let i = c.loop-i.invariant in
    let word : c.word-word.result ≡ word_at c.loop-i.i = c.word-word.ensures.value ∙ ap (λ (h : ℕ → ℕ → ℕ). h c.args.page (c.args.at + c.loop-i.i)) i.unchanged.words in
    let further : 8 * (c.loop-i.i + 1) ≡ 8 * c.loop-i.i + 8 = omega arith in
    record {
      bytes = ap (λ (n : ℕ). take n c.put_word.new.room) further
          ∙ c.put_word.ensures
          ∙ ap (λ (xs : List ℕ). xs ++ to_be_bytes w64 c.word-word.result) i.bytes
          ∙ ap (λ (n : ℕ). so_far ++ to_be_bytes w64 n) word
          ∙ sym (flat_map_more (to_be_bytes w64) word_at c.loop-i.i);
      unchanged = record {
        kept = c.word-word.ensures.kept ∙ i.unchanged.kept;
        page_state = c.word-word.ensures.page_state ∙ i.unchanged.page_state;
        words = c.word-word.ensures.words ∙ i.unchanged.words;
      };
    }

pub returns-clause-bytes : goal.returns-clause-bytes
returns-clause-bytes g c =
    let bytes = λ (i : ℕ). flat_map (to_be_bytes w64) (map (λ (k : ℕ). g.L.Look.words c.args.look.now c.args.page (c.args.at + k)) (range_with_len 0 i)) in
    let end : c.loop-i.i ≡ words_for c.args.n = omega (arith, c.loop-i-test.false, c.loop-i.auto.i-end) in
    sym (take_take c.args.n (8 * c.loop-i.i) c.loop-i.room (omega (arith, end)))
    ∙ ap (take c.args.n) (c.loop-i.invariant.bytes ∙ ap bytes end)
