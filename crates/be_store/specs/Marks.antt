-- What a live query remembers about its last refresh.
use Rattle.std.specs.Prelude.{◌≡◌, ◌≤◌, ℕ, false, List, length, take, IfSome}
use Rattle.std.specs.declared.option.Option.{Option}
use Rattle.be_journal.specs.Journal.{replay_from}
use Rattle.be_query.specs.Grammar.{Formula}
use Rattle.be_table.specs.Place.{Opened}
use Rattle.be_table.specs.Rule.{entries}
use Rattle.be_store.specs.Live.{IsAnswer}
use Rattle.be_store.specs.declared.marks.Mark.{Mark}

-- The store in which the query was refreshed.
abbrev pub opened_of : Mark → Opened
opened_of mark = record { id = mark.witness.table; limits = mark.setting.value }

-- The list is the answer after the first n entries of the journal, where n is the mark's number,
-- and the mark's witness has seen these entries.
abbrev pub IsMarkOf : Formula → List ℕ → Mark → Type 0
IsMarkOf f list mark = (mark.witness.blank ≡ false) × (mark.number ≤ length mark.witness.seen)
    × IsAnswer (replay_from mark.setting.value.volume
    (take mark.number (entries mark.witness.seen))) f list

-- If there is a mark, it is a mark of this query and list.
abbrev pub IsMarked : Formula → List ℕ → Option Mark → Type 0
IsMarked f list mark = IfSome mark (IsMarkOf f list)
