-- What holds for every open write.
use Rattle.std.specs.Prelude.{◌≡◌, ◌+◌, ◌*◌, ◌<◌, true, false, [], ◌∷◌, None, length}
use Rattle.be_table.specs.declared.writing.Writing.TheInside.{Inside}
use Rattle.be_table.specs.Place.{Work}
use Rattle.be_table.specs.Rule.{alone, pass_of, entries, page_at, writer_state_places}
use Rattle.be_table.specs.Rule.{LeftAreRetired}
use Rattle.be_table.specs.Seats.{pin_of}
use Rattle.be_table.specs.Steps.{IsPass}
use Rattle.be_table.specs.Working.{HasWorked}

abbrev pub work_of : Inside → Work
work_of w = record {
  table = w.table.now;
  knows = pass_of w.base.me.0;
  reserved = w.reserved;
  left = w.writer_state.left;
}

-- The seat belongs to the table and carries its slot. The writer state matches what the pass has
-- seen. Until it publishes, the pass has only scanned, filled and returned pages.
pub record IsOpen (w : Inside) : Type 0 where
  pub table_is : w.base.table_id ≡ w.table.now.id
  pub me_is : w.base.me ≡ (alone (pass_of w.base.me.0), (0, None) ∷ [])
  pub number_is : (pass_of w.base.me.0).number ≡ w.marks.number
  pub limits_are : (pass_of w.base.me.0).limits ≡ w.table.now.limits
  pub small : w.marks.number < 64
  pub writes : (pass_of w.base.me.0).writes ≡ true
  pub journal : w.writer_state.journal.entries ≡ entries (pass_of w.base.me.0).seen
  pub page : w.writer_state.page ≡ page_at (pass_of w.base.me.0).seen
      (length (pass_of w.base.me.0).seen)
  pub places : (writer_state_places w.writer_state) ≡ (pass_of w.base.me.0).places
  pub count : length (writer_state_places w.writer_state) ≡ w.table.now.limits.pages
  pub size : length (pass_of w.base.me.0).words ≡ 528 + 512 * w.table.now.limits.pages
  pub turn : (pass_of w.base.me.0).scanned ≡ 0
  pub pin : w.marks.pin ≡ pin_of (pass_of w.base.me.0).phase (pass_of w.base.me.0).seen
  pub pass : IsPass (pass_of w.base.me.0)
  pub limit : w.writer_state.journal.limit ≡ w.table.now.limits.commits
  pub left : LeftAreRetired w.writer_state
  pub room : 0 < w.reserved → (w.writer_state.journal.reserved ≡ w.reserved)
      × (length (pass_of w.base.me.0).seen < w.table.now.limits.commits)
  pub worked : (pass_of w.base.me.0).published ≡ false
      → HasWorked (pass_of w.base.me.0).limits (pass_of w.base.me.0).number
      (pass_of w.base.me.0).history
