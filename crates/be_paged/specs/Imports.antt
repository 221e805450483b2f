-- What the contracts of this crate cite of other crates' definitions.
pub use Rattle.std.specs.Option.{option_copied}
pub use Rattle.std.specs.Result.{result_err}
pub use Rattle.be_paged_reading.specs.Catalog.{IsIndexOf}
pub use Rattle.be_paged_reading.specs.Facts.{AnswersFor}
pub use Rattle.be_paged_reading.specs.Page.{IsNamedAt, IsVersionPage, contents, contents_of, reach}
pub use Rattle.be_paged_reading.specs.Place.{IsAsked, IsKnownIn}
pub use Rattle.be_paged_reading.specs.Version.{Encodes, IsInHand, IsVersion}
pub use Rattle.be_pages.specs.Pages.{IsUnchanged, KeepsStart, Swaps, after_keep, is_kept}
pub use Rattle.be_pages.specs.Refusal.{IsFullOf}
pub use Rattle.be_pages.specs.declared.room.PageState.{PageState, PageState as AnyPageState}
pub use Rattle.be_pages.specs.declared.room.PageState.TheVariants.{Filled}
pub use Rattle.be_tree.specs.Counting.{TakesFewer, most_taken, one_of}
pub use Rattle.be_tree_reading.specs.Forest.{IsUndone, IsWriteStart}
pub use Rattle.be_tree_reading.specs.Key.{payload_at}
pub use Rattle.be_tree_reading.specs.Tree.{BecomesTree, IsTree, level_of_root, pages, pairs}
pub use Rattle.be_value.specs.Key.{IsValue, key}
pub use Rattle.be_value.specs.Value.{is_indexable, kind_of as kind_in}
pub use Rattle.be_value.specs.declared.values.Value.{Value as AnyValue}
pub use Rattle.be_volume.specs.Indices.{with_pair}
pub use Rattle.be_volume.specs.Items.{items}
pub use Rattle.be_volume.specs.Reading.{attribute}
pub use Rattle.be_volume.specs.Sound.{IsName, IsSound}
pub use Rattle.be_volume.specs.Volume.{State, empty, step, steps}
pub use Rattle.be_volume.specs.declared.maps.Index.{Index as AnyIndex}
