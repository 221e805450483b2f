use Rattle.std.proofs.Common.{◌∙◌, sym, ap, arith, false, drop}
use Rattle.std.proofs.lemmas.List.{append-nil}
use Rattle.be_tree_reading.specs.Page.{item_at, items_of}
use Rattle.be_tree_reading.proofs.Items.{item_get, items_count}
use Rattle.be_tree_reading.proofs.Searching.{equal_takes, gap_rest}
use Rattle.be_tree_reading.proofs.numbers.first_from.Goals as goal

pub returns-in-Ok-clause-from : goal.returns-in-Ok-clause-from
returns-in-Ok-clause-from g c =
    let words = g.L.Look.words c.args.look.now c.args.page in
    let of = c.in-Ok.ensures.found in
    let item = item_at words c.in-Ok.at in
    record {
      number = of.number;
      is_place = of.is_place;
      in_range = omega (arith, of.in_range);
      parts = sym (append-nil (drop of.number (items_of words))
          ∙ equal_takes (items_of words) c.requires.leaf.below.rising c.args.low.now of.number item (item_get words of.number item of.in_range ∙ ap (item_at words) (sym of.is_place))
          (omega (arith, of.in_range, items_count words)) of.same);
    }

pub returns-in-Err-clause-from : goal.returns-in-Err-clause-from
returns-in-Err-clause-from g c =
    let words = g.L.Look.words c.args.look.now c.args.page in
    let of = c.in-Err.ensures.absent in
    record {
      number = of.number;
      is_place = of.is_place;
      in_range = omega (arith, of.is_gap.in_range, items_count words);
      parts = sym (append-nil (drop of.number (items_of words))
          ∙ gap_rest (items_of words) c.requires.leaf.below.rising c.args.low.now false of.number (item_at words 2) of.is_gap c.requires.leaf.node.enough);
    }
