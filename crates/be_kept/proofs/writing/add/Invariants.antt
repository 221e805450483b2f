use Rattle.std.proofs.Common.{◌≡◌, ◌+◌, take}
use Rattle.sqlite_trees.specs.View.{IsClean, IsQuiet, KeepsSchema}
use Rattle.be_kept.specs.Rows.{written}
use Rattle.be_kept.specs.Writing.{Adds}
use Rattle.be_kept.proofs.writing.add.Given as goal

abbrev pub invariant-loop-entry : goal.invariant-loop-entry
invariant-loop-entry g l =
    let old = g.S.Store.view l.fn.store in
    (l.last ≡ l.fn.number + l.entry-index)
    × (IsClean (g.S.Store.view l.store) → Adds old (g.S.Store.view l.store) l.fn.number (written (take l.entry-index l.entries)))
    × IsQuiet g.S.Store.view g.S.Store.faults g.S.Store.recovers g.S.Store.is_shielded l.fn.store l.store
    × KeepsSchema old (g.S.Store.view l.store)
