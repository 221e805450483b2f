use Rattle.std.proofs.Common.{◌∙◌, sym, arith}
use Rattle.std.specs.declared.cmp.Ordering.TheVariants.{Less, Equal, Greater}
use Rattle.be_paged_reading.proofs.IndexEntries.Indexing.{names_exact, below_next, entry_compared}
use Rattle.be_paged_reading.proofs.entries.search.Goals as goal

pub loop-i-init : goal.loop-i-init
loop-i-init c = λ j d lt. absurd (omega (arith, lt))

pub returns-in-Equal-clause-found : goal.returns-in-Equal-clause-found
returns-in-Equal-clause-found c = record {
  in_range = c.loop-i-test.true;
  below = c.loop-i.invariant;
  here = λ d. names_exact _ _ (entry_compared c.args.entries.now c.loop-i.i c.index-entries-i.result c.args.name.now Equal c.index-entries-i.is (sym c.compare.ensures ∙ c.in-Equal.is) c.loop-i-test.true d);
}

pub returns-in-Greater-clause-absent : goal.returns-in-Greater-clause-absent
returns-in-Greater-clause-absent c = record {
  in_range = omega (arith, c.loop-i-test.true);
  below = c.loop-i.invariant;
  above = λ d lt. entry_compared c.args.entries.now c.loop-i.i c.index-entries-i.result c.args.name.now Greater c.index-entries-i.is (sym c.compare.ensures ∙ c.in-Greater.is) c.loop-i-test.true d;
}

pub loop-i-preserved : goal.loop-i-preserved
loop-i-preserved c = below_next c.args.entries.now c.args.name.now c.loop-i.i c.loop-i.invariant
    (λ d. entry_compared c.args.entries.now c.loop-i.i c.index-entries-i.result c.args.name.now Less c.index-entries-i.is (sym c.compare.ensures ∙ c.in-Less.is) c.loop-i-test.true d)

pub returns-clause-absent : goal.returns-clause-absent
returns-clause-absent c = record {
  in_range = omega arith;
  below = λ j d lt. c.loop-i.invariant j d (omega (arith, lt, c.loop-i-test.false));
  above = λ d lt. absurd (omega (arith, lt));
}
