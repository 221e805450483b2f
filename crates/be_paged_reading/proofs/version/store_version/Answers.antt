use Rattle.std.proofs.Common.{List, ◌≡◌, ℕ, ◌<◌, ◌∙◌, ap, sym, subst, inl, inr, get_or, [], arith}
use Rattle.std.proofs.lemmas.List.{get_or_default}
use Rattle.std.proofs.lemmas.List.FromFn.{fill_by_all}
use Rattle.std.proofs.lemmas.Bool.{cases_lt}
use Rattle.be_value.specs.declared.values.Kind.TheVariants as kinds
use Rattle.be_paged_reading.specs.Entry.{Entry}
use Rattle.be_paged_reading.specs.Page.{entry_at, entry_place, IsEntry}
use Rattle.be_paged_reading.proofs.Stored.Codec.{entry_at_same, is_entry_same, same_contents}
use Rattle.be_paged_reading.proofs.version.store_version.Goals as goal

pub loop-i-preserved : goal.loop-i-preserved
loop-i-preserved g c =
    let v = g.R.Look.words c.loop-i.room c.args.page in
    let w = g.R.Look.words c.store.new.room c.args.page in
    let only = c.store.ensures.only in
    let i = c.loop-i.i in
    let this = λ (d : Entry). c.store.ensures.stored ∙ (c.index-deref-i.is ∙ ap (λ (xs : List Entry). get_or xs i c.index-deref-i.result) c.deref.ensures.0 ∙ get_or_default c.args.version.now.entries.items i _ d (omega (arith, c.loop-i-test.true))) in
    let same = λ (k : ℕ) (below : k < i). entry_at_same v w (entry_place k) (c.loop-i.invariant.each k below).short (λ j ge up. only.before j (omega arith)) in
    record {
      tag = only.before 0 (omega arith) ∙ c.loop-i.invariant.tag;
      count = only.before 1 (omega arith) ∙ c.loop-i.invariant.count;
      next = only.before 2 (omega arith) ∙ c.loop-i.invariant.next;
      catalog = only.before 3 (omega arith) ∙ c.loop-i.invariant.catalog;
      stored = λ k d lt. elim (cases_lt k i) [
        | inl below ↦ same k below ∙ c.loop-i.invariant.stored k d below
        | inr above ↦
            let e : i ≡ k = omega arith in
            subst (λ n. entry_at w (entry_place n) ≡ get_or c.args.version.now.entries.items n d) e (this d)
      ];
      each = λ k lt. elim (cases_lt k i) [
        | inl below ↦ is_entry_same v w (entry_place k) (λ j ge up. only.before j (omega arith)) (c.loop-i.invariant.each k below)
        | inr above ↦
            let e : i ≡ k = omega arith in
            subst (λ n. IsEntry w (entry_place n)) e c.store.ensures.entry
      ];
      page_state = λ q. only.page_state q ∙ c.loop-i.invariant.page_state q;
      others = λ q ne. only.others q ne ∙ c.loop-i.invariant.others q ne;
      kept = only.kept ∙ c.loop-i.invariant.kept;
    }

pub returns-clause-contents : goal.returns-clause-contents
returns-clause-contents g c =
    let w = g.R.Look.words c.loop-i.room c.args.page in
    let d : Entry = record { name = []; kind = kinds.Cstr; root = 0 } in
    same_contents c.loop-i.invariant.next c.loop-i.invariant.catalog
    (sym (fill_by_all (λ (k : ℕ). entry_at w (entry_place k)) c.args.version.now.entries.items (w 1) d (sym c.loop-i.invariant.count) (λ k lt. sym (c.loop-i.invariant.stored k d (omega (arith, c.loop-i.invariant.count, c.loop-i-test.false))))))

pub returns-clause-page : goal.returns-clause-page
returns-clause-page g c =
    let w = g.R.Look.words c.loop-i.room c.args.page in
    let d : Entry = record { name = []; kind = kinds.Cstr; root = 0 } in
    record {
      tag = c.loop-i.invariant.tag;
      few = omega (arith, c.loop-i.invariant.count);
      fits = omega (arith, c.loop-i.invariant.next);
      each = λ i lt. c.loop-i.invariant.each i (omega (arith, c.loop-i.invariant.count, c.loop-i-test.false, lt));
    }
