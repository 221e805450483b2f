-- What the contracts of this crate cite of other crates' definitions.
pub use Rattle.be_core.specs.Machine.{bit, has}
pub use Rattle.be_core.specs.declared.event.Phase.TheVariants.{Pinned}
pub use Rattle.be_journal.specs.Journal.{Agrees, Grows, IsLegalFrom, extended}
pub use Rattle.be_journal.specs.Journal.{replay_from, with_room}
pub use Rattle.be_journal.specs.Text.{lines_from}
pub use Rattle.be_journal.specs.declared.entries.Entry.{Entry}
pub use Rattle.be_paged_reading.specs.Page.{reach}
pub use Rattle.be_paged_reading.specs.Version.{IsVersion}
pub use Rattle.be_pages.specs.PagePool.{places}
pub use Rattle.be_pages.specs.Pages.{is_kept, is_readable, times}
pub use Rattle.be_pages.specs.Place.{given_place, is_held_page, is_in_hand, is_retired, place_of}
pub use Rattle.be_pages.specs.Place.{published_place, retired_at, swept_place, undone_place}
pub use Rattle.be_pages.specs.Refusal.{IsFullOf}
pub use Rattle.be_pages.specs.declared.room.PageState.TheVariants.{Filled as Full, Taken}
pub use Rattle.be_tree.specs.Counting.{in_hand}
pub use Rattle.be_value.specs.Refusal.{Answers}
pub use Rattle.be_value.specs.declared.refusals.Refusal.TheVariants.{OutOfMemory}
pub use Rattle.be_volume.specs.Ahead.{state_after}
pub use Rattle.be_volume.specs.Items.{items}
pub use Rattle.be_volume.specs.Sound.{IsOperation}
pub use Rattle.be_volume.specs.Volume.{State, empty}
pub use Rattle.be_volume_state.specs.Rebuilding.{IsNumbered}
