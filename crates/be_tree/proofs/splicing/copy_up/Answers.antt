use Rattle.std.proofs.Common.{◌≡◌, ◌+◌, ◌-◌, ◌∙◌, ap, subst, inl, inr, arith}
use Rattle.std.proofs.lemmas.Bool.{cases_lt}
use Rattle.be_pages.specs.Pages.{is_readable}
use Rattle.be_tree_reading.specs.Page.{item_place}
use Rattle.be_tree.specs.Splicing.{IsCopy}
use Rattle.be_tree.proofs.Splices.{only_then, there}
use Rattle.be_tree.proofs.splicing.copy_up.Goals as goal

pub copy_item-requires-clause-source : goal.copy_item-requires-clause-source
copy_item-requires-clause-source g c = (
  ap is_readable (c.loop-i.invariant.only.page_state c.args.page ∙ c.requires.filled),
  (
    omega (arith, c.requires.in_page, c.requires.up, c.loop-i-test.true),
    (there g.R.Look.kept g.R.Look.page_state g.R.Look.words c.args.page (item_place (c.args.at + (c.args.count - c.loop-i.i))) (item_place (c.args.at + c.args.count)) c.args.room.now c.loop-i.room c.loop-i.invariant.only
        c.args.page (item_place (c.args.first + (c.args.count - 1 - c.loop-i.i))) (λ e. inr (omega (arith, c.requires.up, c.loop-i-test.true)))
        (c.requires.items (c.args.count - 1 - c.loop-i.i) (omega (arith, c.loop-i-test.true)))).1,
  ),
)

pub loop-i-preserved : goal.loop-i-preserved
loop-i-preserved g c =
    let i = c.loop-i.i in
    let count = c.args.count in
    let j = count - 1 - i in
    let lt = c.loop-i-test.true in
    let page = c.args.page in
    let here = item_place (c.args.at + j) in
    let hi = item_place (c.args.at + count) in
    let source = there g.R.Look.kept g.R.Look.page_state g.R.Look.words page (item_place (c.args.at + (count - i))) hi c.args.room.now c.loop-i.room c.loop-i.invariant.only
    page (item_place (c.args.first + j)) (λ e. inr (omega (arith, c.requires.up, lt))) (c.requires.items j (omega (arith, lt))) in
    record {
      copied = λ k ge less. elim (cases_lt j k) [
        | inl above ↦
            let was = c.loop-i.invariant.copied k (omega (arith, above, lt)) less in
            let still = there g.R.Look.kept g.R.Look.page_state g.R.Look.words page here (here + 42) c.loop-i.room c.copy_item.new.room c.copy_item.ensures.only
            page (item_place (c.args.at + k)) (λ e. inl (omega (arith, above))) was.1 in
            (still.0 ∙ was.0, still.1)
        | inr not ↦
            let e : j ≡ k = omega (arith, not, ge, less, lt) in
            subst (λ n. IsCopy (g.R.Look.words c.args.room.now page) (g.R.Look.words c.copy_item.new.room page) (c.args.first + n) (c.args.at + n)) e
            (c.copy_item.ensures.stored.0 ∙ source.0, c.copy_item.ensures.stored.1)
      ];
      only = only_then g.R.Look.kept g.R.Look.page_state g.R.Look.words page (item_place (c.args.at + (count - i))) hi c.args.room.now c.loop-i.room c.loop-i.invariant.only
          here (here + 42) (item_place (c.args.at + (count - (i + 1)))) hi c.copy_item.new.room c.copy_item.ensures.only (omega (arith, lt)) (omega (arith, lt)) (omega arith) (omega (arith, lt));
    }
