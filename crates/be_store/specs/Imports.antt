-- What the contracts of this crate cite of other crates' definitions.
pub use Rattle.std.specs.List.Sorted.{IsStrictlyIncreasing}
pub use Rattle.std.specs.Option.{option_map}
pub use Rattle.be_journal.specs.Journal.{Agrees, IsLegalFrom, by_pass}
pub use Rattle.be_journal.specs.declared.entries.Entry.{Entry, Entry as AnyEntry}
pub use Rattle.be_order.specs.Firsts.{IsAnyOf, from_number}
pub use Rattle.be_order.specs.Ordered.{cursor_bytes, page, page_with}
pub use Rattle.be_paged.specs.Changes.{Applies, IsRefusedList}
pub use Rattle.be_paged.specs.Stops.{TakesFew}
pub use Rattle.be_paged_reading.specs.Cells.{IsReadInto, ReportsColumns, name_in}
pub use Rattle.be_paged_reading.specs.Nodes.{nodes_from}
pub use Rattle.be_paged_reading.specs.Version.{IsVersion}
pub use Rattle.be_plan.specs.Cover.{chosen, covers}
pub use Rattle.be_plan.specs.Explain.{are_places}
pub use Rattle.be_query.specs.View.{formula}
pub use Rattle.be_table.specs.History.{AreOfPasses, StartsWith}
pub use Rattle.be_table.specs.Place.{Opened, Work}
pub use Rattle.be_table.specs.Reading.{open_of, page_state_among, page_state_in_work}
pub use Rattle.be_table.specs.Reading.{pinned_page_state, word_of_page, words_of}
pub use Rattle.be_table.specs.Rule.{IsPossible, IsWithin, entries, newcomer, one_step_on}
pub use Rattle.be_table.specs.Setting.{Setting, begins_empty, begins_with, pages_below}
pub use Rattle.be_table.specs.Seats.{pinned_number}
pub use Rattle.be_table.specs.Steps.{Has, IsPass, KeepsSeen, entry_by, longer, met, unpins}
pub use Rattle.be_table.specs.Steps.{with_history}
pub use Rattle.be_table.specs.Trace.{HasTrace, upto_lock}
pub use Rattle.be_table.specs.Versions.{CanEncodeEach, EncodesVolume}
pub use Rattle.be_table.specs.Works.{AllAt, AreNew, FoundHeld, IsFull, IsOpenRefused, IsSeatOf}
pub use Rattle.be_table.specs.Works.{IsLargeRefused, IsWitnessOf, Moves, TakesLock, knows_of}
pub use Rattle.be_table.specs.declared.limits.Limits.{Limits}
pub use Rattle.be_table.specs.declared.pass.Commit.{Commit}
pub use Rattle.be_table.specs.declared.pass.Knowledge.{Knowledge}
pub use Rattle.be_value.specs.Refusal.{Answers}
pub use Rattle.be_value.specs.declared.refusals.Refusal.{Refusal}
pub use Rattle.be_value.specs.declared.refusals.Refusal.TheVariants.{Full, NotCovered, OutOfMemory}
pub use Rattle.be_volume.specs.Ahead.{state_after}
pub use Rattle.be_volume.specs.Query.{covered, has_index, sat, scan}
pub use Rattle.be_volume.specs.Reading.{attribute, attributes_at, index_kind, index_kinds}
pub use Rattle.be_volume.specs.Volume.{State, empty, steps}
pub use Rattle.be_volume.specs.declared.ops.Done.{Done}
pub use Rattle.be_volume.specs.declared.ops.Op.{Op}
pub use Rattle.be_volume_state.specs.Places.{given, left}
pub use Rattle.be_volume_state.specs.Rebuilding.{IsNumbered, is_held, state_ops}
pub use Rattle.be_ways.specs.Ways.{IsWay}
