-- What the contracts of this crate cite of other crates' definitions.
pub use Rattle.std.specs.Int.{cast_unsigned, from_be_bytes, to_be_bytes, w32, w64}
pub use Rattle.std.specs.Int.RustNames.{FitsSigned}
pub use Rattle.std.specs.List.{list_any, range_with_len}
pub use Rattle.std.specs.List.Sorted.{IsStrictlyIncreasing}
pub use Rattle.std.specs.Option.{option_copied, option_map, option_or}
pub use Rattle.std.specs.declared.result.Result.{Result as AnyResult}
pub use Rattle.be_pages.specs.Pages.{IsUnchanged, OnlyWrites, SetsStateAt, is_readable, is_taken}
pub use Rattle.be_pages.specs.declared.room.PageState.{PageState as AnyPageState}
pub use Rattle.be_pages.specs.declared.room.PageState.TheVariants.{Filled}
pub use Rattle.be_plan.specs.KeyTests.{reads_texts}
pub use Rattle.be_plan.specs.Sources.{StillAnswers}
pub use Rattle.be_plan.specs.Texts.{text_in}
pub use Rattle.be_plan.specs.Walk.{AreAllOn, HasNodes, HasOnly, Keeps}
pub use Rattle.be_query.specs.Grammar.{Leaf}
pub use Rattle.be_query.specs.View.{literal, literal as literal_of}
pub use Rattle.be_tree_reading.specs.Cursor.{IsCursor, remaining}
pub use Rattle.be_tree_reading.specs.Key.{payload_at}
pub use Rattle.be_tree_reading.specs.Page.{IsItem, IsReadableAt, bytes_at, item_at, items_of}
pub use Rattle.be_tree_reading.specs.Page.{words_for}
pub use Rattle.be_tree_reading.specs.Pair.{Pair}
pub use Rattle.be_tree_reading.specs.Range.{HasFirst, is_past, pairs_from}
pub use Rattle.be_tree_reading.specs.Tree.{IsTree, IsTreeAt, pairs}
pub use Rattle.be_tree_reading.specs.Walk.{IsLeaf, IsWalk, StaysFalse, ahead, end_of_way, is_on_way}
pub use Rattle.be_tree_reading.specs.Walk.{items_ahead}
pub use Rattle.be_tree_reading.specs.Way.{walk_of}
pub use Rattle.be_tree_reading.specs.Words.{IsFirstOf}
pub use Rattle.be_value.specs.Key.{IsValue}
pub use Rattle.be_value.specs.Name.{name_from, text_from}
pub use Rattle.be_value.specs.Refusal.{Answers}
pub use Rattle.be_value.specs.Value.{code_of, kind_of}
pub use Rattle.be_value.specs.declared.refusals.Refusal.{Refusal as AnyRefusal}
pub use Rattle.be_value.specs.declared.refusals.Refusal.TheVariants.{NoNode, OutOfMemory}
pub use Rattle.be_value.specs.declared.values.Kind.TheVariants.{Cstr}
pub use Rattle.be_value.specs.declared.values.Value.{Value as AnyValue}
pub use Rattle.be_volume.specs.Keys.{IsKey}
pub use Rattle.be_volume.specs.Maps.{Nodes as AllNodes, attributes_of, name_cmp}
pub use Rattle.be_volume.specs.Query.{holds, holds_of_number, holds_of_text, literal_number, sat}
pub use Rattle.be_volume.specs.Query.{scan}
pub use Rattle.be_volume.specs.Reading.{attribute, attributes_at, index_kinds}
pub use Rattle.be_volume.specs.Sound.{IsName, IsSound}
pub use Rattle.be_volume.specs.Volume.{State}
pub use Rattle.be_volume_state.specs.Rebuilding.{is_held}
