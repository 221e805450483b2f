use Rattle.std.proofs.Common.{◌≡◌, ◌≤◌, ◌++◌, ◌+◌, length, Some, IsSome}
use Rattle.sqlite_trees.specs.View.{IsClean, doubt}
use Rattle.be_kept.specs.Reading.{OnlyReads}
use Rattle.be_kept.specs.Rows.{entry_rows, entry_tree, written}
use Rattle.be_kept.proofs.reading.read_entries.Given as goal

abbrev pub invariant-rows : goal.invariant-rows
invariant-rows g l =
    (l.next ≡ l.fn.number + 1 + length l.entries.items)
    × IsSome ((g.S.Store.view l.store).cursors 0)
    × (IsClean (g.S.Store.view l.store) → (left : _) × ((g.S.Store.view l.store).cursors 0 ≡ Some left)
    × ((g.S.Store.view l.fn.store).trees entry_tree ≡ entry_rows l.fn.number (written l.entries.items) ++ left))
    × (IsClean (g.S.Store.view l.store) → OnlyReads (g.S.Store.view l.fn.store) (g.S.Store.view l.store))
    × (doubt (g.S.Store.view l.fn.store).is_clean ≤ doubt (g.S.Store.view l.store).is_clean)
