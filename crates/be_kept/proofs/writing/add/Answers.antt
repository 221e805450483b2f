use Rattle.std.proofs.Common.{rules, arith, ◌≡◌, ◌∷◌, [], ◌++◌, ◌+◌, length, take, ap, sym, ◌∙◌}
use Rattle.std.proofs.lemmas.List.{length-take-le}
use Rattle.sqlite_trees.specs.Tree.{Trees, put_row, with_tree}
use Rattle.sqlite_trees.specs.View.{View}
use Rattle.be_kept.proofs.Rows.{put_written, rewritten, take_next, written_one}
use Rattle.be_kept.specs.Rows.{after, entry_row, entry_rows, entry_tree, written}
use Rattle.be_kept.proofs.writing.add.Goals as goal

pub loop-entry-preserved : goal.loop-entry-preserved
loop-entry-preserved g c = (
  omega (arith, c.loop-entry.invariant.0),
  λ clean.
      let old = g.S.Store.view c.args.store.now in
      let mid = g.S.Store.view c.loop-entry.store in
      let new = g.S.Store.view c.put.new.self in
      let number = c.args.number in
      let done = take c.loop-entry.entry-index c.args.entries.now in
      let was = c.loop-entry.invariant.1 (omega (arith, c.put.ensures.quiet.clean)) in
      let put = c.in_ok-put.ensures.ok clean in
      let ends = c.requires.ends (omega (arith, c.put.ensures.quiet.clean, c.loop-entry.invariant.2.clean)) in
      let e = c.entry-item.result in
      let all : take (c.loop-entry.entry-index + 1) c.args.entries.now ≡ done ++ e ∷ [] =
      take_next c.args.entries.now c.loop-entry.entry-index e c.loop-entry-test.true c.entry-item.is in
      let count : length done ≡ c.loop-entry.entry-index = length-take-le _ c.args.entries.now (omega (arith, c.loop-entry-test.true)) in
      let row : c.fill.new.row ≡ entry_row (number + length done + 1) (written_one e) =
      rw (count, sym c.loop-entry.invariant.0) (search rules) in
      let trees : with_tree (after number (written done) old.trees) entry_tree (put_row c.fill.new.row (old.trees entry_tree ++ entry_rows number (written done)))
      ≡ after number (written (take (c.loop-entry.entry-index + 1) c.args.entries.now)) old.trees =
      rewritten old.trees _ _
      ∙ ap (with_tree old.trees entry_tree) (ap (λ r. put_row r (old.trees entry_tree ++ entry_rows number (written done))) row
      ∙ put_written number done e (old.trees entry_tree) ends
      ∙ ap (λ es. old.trees entry_tree ++ entry_rows number (written es)) (sym all)) in
      record {
        sound = ap (λ (v : View). v.is_broken) put.is ∙ was.sound;
        is = put.is ∙ ap (λ (m : View). record m { trees = with_tree m.trees entry_tree (put_row c.fill.new.row (m.trees entry_tree)); cursors = new.cursors }) was.is
            ∙ ap (λ (t : Trees). record old { trees = t; cursors = new.cursors }) trees;
      },
  search rules,
  search rules,
)
