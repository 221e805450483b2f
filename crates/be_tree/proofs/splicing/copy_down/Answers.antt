use Rattle.std.proofs.Common.{◌≡◌, ◌+◌, ◌∙◌, ap, subst, inl, inr, arith}
use Rattle.std.proofs.lemmas.Bool.{cases_lt}
use Rattle.be_pages.specs.Pages.{is_readable}
use Rattle.be_tree_reading.specs.Page.{item_place}
use Rattle.be_tree.specs.Splicing.{IsCopy}
use Rattle.be_tree.proofs.Splices.{only_then, there}
use Rattle.be_tree.proofs.splicing.copy_down.Goals as goal

pub copy_item-requires-clause-source : goal.copy_item-requires-clause-source
copy_item-requires-clause-source g c = (
  ap is_readable (c.loop-i.invariant.only.page_state c.args.from) ∙ c.requires.readable,
  (
    omega (arith, c.requires.in_page.1, c.loop-i-test.true),
    (there g.R.Look.kept g.R.Look.page_state g.R.Look.words c.args.page (item_place c.args.at) (item_place (c.args.at + c.loop-i.i)) c.args.room.now c.loop-i.room c.loop-i.invariant.only
        c.args.from (item_place (c.args.first + c.loop-i.i)) (λ e. inl (omega (arith, c.requires.down e))) (c.requires.items c.loop-i.i (omega (arith, c.loop-i-test.true)))).1,
  ),
)

pub loop-i-preserved : goal.loop-i-preserved
loop-i-preserved g c =
    let i = c.loop-i.i in
    let here = item_place (c.args.at + i) in
    let source = there g.R.Look.kept g.R.Look.page_state g.R.Look.words c.args.page (item_place c.args.at) here c.args.room.now c.loop-i.room c.loop-i.invariant.only
    c.args.from (item_place (c.args.first + i)) (λ e. inl (omega (arith, c.requires.down e))) (c.requires.items i (omega (arith, c.loop-i-test.true))) in
    record {
      copied = λ k lt. elim (cases_lt k i) [
        | inl below ↦
            let was = c.loop-i.invariant.copied k below in
            let still = there g.R.Look.kept g.R.Look.page_state g.R.Look.words c.args.page here (here + 42) c.loop-i.room c.copy_item.new.room c.copy_item.ensures.only
            c.args.page (item_place (c.args.at + k)) (λ e. inr (omega (arith, below))) was.1 in
            (still.0 ∙ was.0, still.1)
        | inr past ↦
            let e : i ≡ k = omega (arith, past, lt) in
            subst (λ n. IsCopy (g.R.Look.words c.args.room.now c.args.from) (g.R.Look.words c.copy_item.new.room c.args.page) (c.args.first + n) (c.args.at + n)) e
            (c.copy_item.ensures.stored.0 ∙ source.0, c.copy_item.ensures.stored.1)
      ];
      only = only_then g.R.Look.kept g.R.Look.page_state g.R.Look.words c.args.page (item_place c.args.at) here c.args.room.now c.loop-i.room c.loop-i.invariant.only
          here (here + 42) (item_place c.args.at) (item_place (c.args.at + (i + 1))) c.copy_item.new.room c.copy_item.ensures.only (omega arith) (omega arith) (omega arith) (omega arith);
    }
