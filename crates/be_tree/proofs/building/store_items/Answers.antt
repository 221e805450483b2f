use Rattle.std.proofs.Common.{◌≡◌, ◌+◌, ◌<◌, ◌∙◌, get_or, length, subst, inl, inr, arith}
use Rattle.std.proofs.lemmas.Bool.{cases_lt}
use Rattle.std.proofs.lemmas.List.{get_or_default}
use Rattle.be_tree_reading.specs.Page.{item_at, item_place}
use Rattle.be_tree.specs.Splicing.{IsStored}
use Rattle.be_tree.proofs.Splices.{only_then, there}
use Rattle.be_tree.proofs.building.store_items.Goals as goal

pub loop-i-preserved : goal.loop-i-preserved
loop-i-preserved g c =
    let i = c.loop-i.i in
    let lt : i < length c.args.items.now = omega (arith, c.loop-i-test.true) in
    let here = item_place i in
    let only = c.loop-i.invariant.only in
    record {
      stored = λ k d less. elim (cases_lt k i) [
        | inl below ↦
            let was = c.loop-i.invariant.stored k d below in
            let still = there g.R.Look.kept g.R.Look.page_state g.R.Look.words c.args.page here (here + 42) c.loop-i.room c.store_item.new.room c.store_item.ensures.only
            c.args.page (item_place k) (λ e. inr (omega (arith, below))) was.1 in
            (still.0 ∙ was.0, still.1)
        | inr past ↦
            let e : i ≡ k = omega (arith, past, less) in
            let is : c.index-items-i.result ≡ get_or c.args.items.now i d = c.index-items-i.is ∙ get_or_default c.args.items.now i _ d lt in
            subst (λ n. IsStored (g.R.Look.words c.store_item.new.room c.args.page) n (get_or c.args.items.now n d)) e
            (subst (λ x. item_at (g.R.Look.words c.store_item.new.room c.args.page) here ≡ x) is c.store_item.ensures.stored.0, c.store_item.ensures.stored.1)
      ];
      only = only_then g.R.Look.kept g.R.Look.page_state g.R.Look.words c.args.page (item_place 0) here c.args.room.now c.loop-i.room only
          here (here + 42) (item_place 0) (item_place (i + 1)) c.store_item.new.room c.store_item.ensures.only (omega arith) (omega arith) (omega arith) (omega arith);
    }

pub returns-clause-items : goal.returns-clause-items
returns-clause-items g c = λ k d lt. c.loop-i.invariant.stored k d (omega (arith, lt, c.loop-i-test.false))
