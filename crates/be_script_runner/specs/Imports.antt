-- What the contracts of this crate cite of other crates' definitions.
pub use Rattle.std.specs.Io.{ReadsAtMost}
pub use Rattle.std.specs.Io.KnownBytes.{Appends, ReadConsumes}
pub use Rattle.std.specs.List.{list_any}
pub use Rattle.std.specs.Option.{option_map}
pub use Rattle.std.specs.String.{string_bytes}
pub use Rattle.std.specs.declared.option.Option.{Option}
pub use Rattle.be_journal.specs.Journal.{IsLegal, IsLegalFrom, by_pass, replay}
pub use Rattle.be_journal.specs.Text.{result_text}
pub use Rattle.be_journal.specs.declared.entries.Entry.{Entry as AnyEntry}
pub use Rattle.be_journal_text.specs.Dump.{cut_lines, dump, state_dump}
pub use Rattle.be_journal_text.specs.History.{CanBeJournal, CanBeOp}
pub use Rattle.be_order.specs.Ordered.{Page, cursor_bytes, page}
pub use Rattle.be_plan.specs.Cover.{chosen}
pub use Rattle.be_plan.specs.Explain.{are_places}
pub use Rattle.be_query.specs.Grammar.{Formula}
pub use Rattle.be_script_language.specs.Page.{key_at, page_found}
pub use Rattle.be_script_language.specs.Reply.{Reply}
pub use Rattle.be_script_language.specs.Request.{Request, lines_of}
pub use Rattle.be_script_language.specs.View.{reply_of, request_of}
pub use Rattle.be_store.specs.History.{IsLastReason}
pub use Rattle.be_store.specs.Live.{LiveQuery}
pub use Rattle.be_store.specs.Passes.{HasRead, IsPassOf, IsPinnedTo, volume_pinned}
pub use Rattle.be_table.specs.Place.{Opened}
pub use Rattle.be_table.specs.Rule.{AreBad, IsWithin, entries}
pub use Rattle.be_table.specs.Setting.{begins_empty}
pub use Rattle.be_table.specs.Versions.{CanEncodeEach}
pub use Rattle.be_table.specs.Works.{AreNew}
pub use Rattle.be_table.specs.declared.limits.Limits.{Limits}
pub use Rattle.be_table.specs.declared.pass.Knowledge.{Knowledge}
pub use Rattle.be_value.specs.Refusal.{Answers}
pub use Rattle.be_value.specs.declared.refusals.Refusal.{Refusal as AnyRefusal}
pub use Rattle.be_value.specs.declared.refusals.Refusal.TheVariants.{OutOfMemory}
pub use Rattle.be_value.specs.declared.values.Kind.{Kind}
pub use Rattle.be_volume.specs.Query.{has_index, scan}
pub use Rattle.be_volume.specs.Reading.{attribute, attributes_at, index_kind, index_kinds}
pub use Rattle.be_volume.specs.Sound.{IsSound}
pub use Rattle.be_volume.specs.Volume.{State}
pub use Rattle.be_volume.specs.declared.ops.Op.{Op as AnyOp}
pub use Rattle.be_volume_state.specs.Places.{left}
pub use Rattle.be_volume_state.specs.Rebuilding.{state_ops}
