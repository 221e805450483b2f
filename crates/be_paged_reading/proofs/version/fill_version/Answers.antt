use Rattle.std.proofs.Common.{ℕ, ◌++◌, ◌∷◌, [], ◌∙◌, ap, sym, subst, map, arith}
use Rattle.std.specs.List.{range_with_len}
use Rattle.std.proofs.lemmas.List.FromFn.{map-range_with_len_more}
use Rattle.be_paged_reading.specs.Page.{entry_at, entry_place, IsEntry}
use Rattle.be_paged_reading.proofs.version.fill_version.Goals as goal

pub loop-i-preserved : goal.loop-i-preserved
loop-i-preserved g c =
    let entry_of = λ (k : ℕ). entry_at (g.L.Look.words c.args.look.now c.args.page) (entry_place k) in
    let same = ap (λ (h : ℕ → ℕ → ℕ). entry_at (h c.args.page) (entry_place c.loop-i.i)) c.loop-i.invariant.unchanged.words in
    record {
      entries = c.push.ensures.items
          ∙ ap (λ xs. xs ++ c.load.result ∷ []) c.loop-i.invariant.entries
          ∙ ap (λ x. map entry_of (range_with_len 0 c.loop-i.i) ++ x ∷ []) (c.load.ensures.entry ∙ same)
          ∙ sym (map-range_with_len_more entry_of 0 c.loop-i.i c.loop-i.i (omega arith));
      len = omega arith;
      next = c.loop-i.invariant.next;
      catalog = c.loop-i.invariant.catalog;
      unchanged = record {
        kept = c.load.ensures.unchanged.kept ∙ c.loop-i.invariant.unchanged.kept;
        page_state = c.load.ensures.unchanged.page_state ∙ c.loop-i.invariant.unchanged.page_state;
        words = c.load.ensures.unchanged.words ∙ c.loop-i.invariant.unchanged.words;
      };
    }

pub load-requires-clause-entry : goal.load-requires-clause-entry
load-requires-clause-entry g c =
    subst (λ (h : ℕ → ℕ → ℕ). IsEntry (h c.args.page) (entry_place c.loop-i.i)) (sym c.loop-i.invariant.unchanged.words)
    (c.requires.page.each c.loop-i.i (omega (arith, c.loop-i-test.true, ap (λ (h : ℕ → ℕ → ℕ). h c.args.page 1) c.word-next.ensures.words)))
