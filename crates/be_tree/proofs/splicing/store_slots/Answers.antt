use Rattle.std.proofs.Common.{◌≡◌, ◌+◌, ◌<◌, ◌∙◌, ap, get_or, length, subst, inl, inr, arith}
use Rattle.std.proofs.lemmas.Bool.{cases_lt}
use Rattle.std.proofs.lemmas.List.{get_or_default}
use Rattle.be_tree.specs.declared.slot.Slot.{Slot}
use Rattle.be_tree_reading.specs.Page.{item_place}
use Rattle.be_tree.specs.Slot.{pair_of}
use Rattle.be_tree.specs.Splicing.{IsStored}
use Rattle.be_tree.proofs.Splices.{off_pair, off_ready, only_then, there}
use Rattle.be_tree.proofs.splicing.store_slots.Goals as goal

pub store_slot-requires-clause-ready : goal.store_slot-requires-clause-ready
store_slot-requires-clause-ready g c =
    off_ready c.args.page (g.R.Look.page_state c.args.room.now) (g.R.Look.page_state c.loop-i.room) (g.R.Look.words c.args.room.now) (g.R.Look.words c.loop-i.room)
    (λ q ne. c.loop-i.invariant.only.page_state q) c.loop-i.invariant.only.others _ (c.requires.off c.loop-i.i _ (omega (arith, c.loop-i-test.true))) (c.requires.ready c.loop-i.i _ (omega (arith, c.loop-i-test.true)))

pub store_slot-requires-clause-off : goal.store_slot-requires-clause-off
store_slot-requires-clause-off g c = c.requires.off c.loop-i.i _ (omega (arith, c.loop-i-test.true))

pub loop-i-preserved : goal.loop-i-preserved
loop-i-preserved g c =
    let i = c.loop-i.i in
    let lt : i < length c.args.slots.now = omega (arith, c.loop-i-test.true) in
    let here = item_place (c.args.at + i) in
    let old = g.R.Look.words c.args.room.now in
    let only = c.loop-i.invariant.only in
    let this = λ (d : Slot). c.store_slot.ensures.stored.0
    ∙ off_pair c.args.page (g.R.Look.page_state c.args.room.now) (g.R.Look.page_state c.loop-i.room) old (g.R.Look.words c.loop-i.room) (λ q ne. only.page_state q) only.others c.args.pair.now _ (c.requires.off i _ lt)
    ∙ ap (pair_of old c.args.pair.now) (get_or_default c.args.slots.now i _ d lt) in
    record {
      stored = λ k d less. elim (cases_lt k i) [
        | inl below ↦
            let was = c.loop-i.invariant.stored k d below in
            let still = there g.R.Look.kept g.R.Look.page_state g.R.Look.words c.args.page here (here + 42) c.loop-i.room c.store_slot.new.room c.store_slot.ensures.only
            c.args.page (item_place (c.args.at + k)) (λ e. inr (omega (arith, below))) was.1 in
            (still.0 ∙ was.0, still.1)
        | inr past ↦
            let e : i ≡ k = omega (arith, past, less) in
            subst (λ n. IsStored (g.R.Look.words c.store_slot.new.room c.args.page) (c.args.at + n) (pair_of old c.args.pair.now (get_or c.args.slots.now n d))) e
            (this d, c.store_slot.ensures.stored.1)
      ];
      only = only_then g.R.Look.kept g.R.Look.page_state g.R.Look.words c.args.page (item_place c.args.at) here c.args.room.now c.loop-i.room only
          here (here + 42) (item_place c.args.at) (item_place (c.args.at + (i + 1))) c.store_slot.new.room c.store_slot.ensures.only (omega arith) (omega arith) (omega arith) (omega arith);
    }

pub returns-clause-items : goal.returns-clause-items
returns-clause-items g c = λ k d lt. c.loop-i.invariant.stored k d (omega (arith, lt, c.loop-i-test.false))
