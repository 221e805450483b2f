-- What the contracts of this crate cite of other crates' definitions.
pub use Rattle.std.specs.Int.{cast_signed, w32, w64}
pub use Rattle.std.specs.Int.RustNames.{FitsSigned}
pub use Rattle.be_change.specs.Ending.{Begins, IsNotBegun}
pub use Rattle.be_journal.specs.Journal.{IsLegalFrom}
pub use Rattle.be_order.specs.Firsts.{IsAnyOf, from_number}
pub use Rattle.be_order.specs.Ordered.{cursor_bytes, page, page_with}
pub use Rattle.be_paged_building.specs.Given.{with_next}
pub use Rattle.be_paged_reading.specs.Cells.{IsReadInto, ReportsColumns, name_in}
pub use Rattle.be_paged_reading.specs.Nodes.{nodes_from}
pub use Rattle.be_plan.specs.Cover.{chosen}
pub use Rattle.be_plan.specs.Explain.{are_places}
pub use Rattle.be_query.specs.Grammar.{Formula, IsTextOf}
pub use Rattle.be_query.specs.Printing.{or_text}
pub use Rattle.be_query.specs.Rpn.{item_of}
pub use Rattle.be_store.specs.Conditional.{AcceptsAt}
pub use Rattle.be_store.specs.History.{Accepts, IsUnreported, Learns, LocksAndUnlocks}
pub use Rattle.be_store.specs.History.{LocksAtMostOnce, Pins, Unpins, entries_from, text_seen}
pub use Rattle.be_store.specs.Live.{IsLiveOf, coded_opened}
pub use Rattle.be_store.specs.Passes.{HasRead, IsPassOf, IsPinnedTo, volume_pinned}
pub use Rattle.be_store.specs.Statuses.{ReportsStatus}
pub use Rattle.be_table.specs.History.{StartsWith}
pub use Rattle.be_table.specs.Place.{Opened}
pub use Rattle.be_table.specs.Rule.{IsPossible, entries, newcomer, one_step_on}
pub use Rattle.be_table.specs.Seats.{pinned_number}
pub use Rattle.be_table.specs.Setting.{begins_empty, coded_setting}
pub use Rattle.be_table.specs.Steps.{Has, IsPass}
pub use Rattle.be_table.specs.Works.{AllAt, AreNew, FoundHeld, IsLargeRefused, IsWitnessOf}
pub use Rattle.be_table.specs.Works.{knows_of}
pub use Rattle.be_value.specs.Name.{name_from}
pub use Rattle.be_value.specs.Refusal.{Answers}
pub use Rattle.be_value.specs.Value.{code_of}
pub use Rattle.be_value.specs.declared.refusals.Refusal.{Refusal as AnyRefusal}
pub use Rattle.be_value.specs.declared.refusals.Refusal.TheVariants.{NoSuchIndex, OutOfMemory}
pub use Rattle.be_value.specs.declared.values.Kind.{Kind as AnyKind}
pub use Rattle.be_volume.specs.Query.{scan}
pub use Rattle.be_volume.specs.Reading.{attribute, attributes_at, index_kind, index_kinds}
pub use Rattle.be_volume.specs.Volume.{State}
pub use Rattle.be_volume_state.specs.Rebuilding.{is_held, state_ops}
