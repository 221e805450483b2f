-- What holds for each pinned reader.
use Rattle.std.specs.Prelude.{◌≡◌, ◌<◌, []}
use Rattle.be_table.specs.declared.pinned.PinnedLook.TheInside.{Inside}
use Rattle.be_table.specs.Place.{Pin}
use Rattle.be_table.specs.Rule.{alone, pass_of}
use Rattle.be_table.specs.Seats.{IsReported, pin_of}

abbrev pub reader_of : Inside → Pin
reader_of p = record { table = p.table.now; knows = pass_of p.base.me.0 }

-- the seat belongs to the table and holds nothing from the slot, and the marks are those of its
-- pass
pub record IsReader (p : Inside) : Type 0 where
  pub table_is : p.base.table_id ≡ p.table.now.id
  pub me_is : p.base.me ≡ (alone (pass_of p.base.me.0), [])
  pub limits_are : (pass_of p.base.me.0).limits ≡ p.table.now.limits
  pub small : p.marks.number < 64
  pub reported : IsReported (pass_of p.base.me.0) p.marks.number p.marks.seen
  pub pin : p.marks.pin ≡ pin_of (pass_of p.base.me.0).phase (pass_of p.base.me.0).seen
