use Rattle.std.proofs.Common.{◌≡◌, ℕ, List, ◌+◌, ◌++◌, ◌∙◌, ap, sym, length, map, take, drop, arith}
use Rattle.std.specs.Int.{to_be_bytes, w64}
use Rattle.std.specs.List.{flat_map, range_with_len}
use Rattle.std.proofs.lemmas.List.{drop-append-le, drop-take}
use Rattle.be_tree_reading.specs.Page.{words_for}
use Rattle.be_tree_reading.proofs.Codec.{flat_map_more, flat_map_length}
use Rattle.be_tree_reading.proofs.page.fill_bytes.Goals as goal

pub loop-i-preserved : goal.loop-i-preserved
loop-i-preserved g c =
    let word_at = λ (k : ℕ). g.L.Look.words c.args.look.now c.args.page (c.args.at + k) in
    let so_far = flat_map (to_be_bytes w64) (map word_at (range_with_len 0 c.loop-i.i)) in
    let skip = c.args.skip in
    let i = c.loop-i.invariant in
    let same = ap (λ (h : ℕ → ℕ → ℕ). h c.args.page (c.args.at + c.loop-i.i)) i.unchanged.words in
    let read = c.to_be_bytes-word.ensures ∙ ap (to_be_bytes w64) (c.word-in-loop-i.ensures.value ∙ same) in
    let reach = flat_map_length word_at c.loop-i.i in
    record {
      bytes = c.extend-in-loop-i.ensures.items
          ∙ ap (λ (x : List ℕ). x ++ c.to_be_bytes-word.result) i.bytes
          ∙ ap (λ (x : List ℕ). drop skip so_far ++ x) read
          ∙ sym (drop-append-le skip so_far (to_be_bytes w64 (word_at c.loop-i.i)) (omega (arith, reach, c.requires.skips, c.loop-i.auto.i)))
          ∙ ap (drop skip) (sym (flat_map_more (to_be_bytes w64) word_at c.loop-i.i));
      len = omega (arith, c.extend-in-loop-i.ensures.len, i.len, ap length c.to_be_bytes-word.ensures);
      unchanged = record {
        kept = c.word-in-loop-i.ensures.kept ∙ i.unchanged.kept;
        page_state = c.word-in-loop-i.ensures.page_state ∙ i.unchanged.page_state;
        words = c.word-in-loop-i.ensures.words ∙ i.unchanged.words;
      };
    }

pub returns-clause-bytes : goal.returns-clause-bytes
returns-clause-bytes g c =
    let word_at = λ (k : ℕ). g.L.Look.words c.args.look.now c.args.page (c.args.at + k) in
    let bytes = λ (i : ℕ). flat_map (to_be_bytes w64) (map word_at (range_with_len 0 i)) in
    let end : c.loop-i.i ≡ words_for (c.args.skip + c.args.n) = omega (arith, c.loop-i-test.false, c.loop-i.auto.i, c.loop-i.auto.i-end, c.if-n-eq0.false) in
    c.truncate.ensures.items
    ∙ ap (take c.args.n) (c.loop-i.invariant.bytes ∙ ap (λ (i : ℕ). drop c.args.skip (bytes i)) end)
    ∙ sym (drop-take c.args.skip c.args.n (bytes (words_for (c.args.skip + c.args.n))))
