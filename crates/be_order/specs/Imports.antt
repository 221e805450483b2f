-- What the contracts of this crate cite of other crates' definitions.
pub use Rattle.std.specs.List.{Contains}
pub use Rattle.std.specs.List.Sorted.{IsStrictlySortedBy}
pub use Rattle.std.specs.Option.{option_copied, option_map}
pub use Rattle.std.specs.declared.option.Option.{Option}
pub use Rattle.be_plan.specs.Bounding.{Bounding}
pub use Rattle.be_plan.specs.Prepared.{Decides}
pub use Rattle.be_plan.specs.Sources.{StillAnswers}
pub use Rattle.be_plan.specs.Walk.{AreAllOn}
pub use Rattle.be_query.specs.Grammar.{Formula, comparisons}
pub use Rattle.be_query.specs.View.{formula}
pub use Rattle.be_value.specs.Key.{key as key_bytes}
pub use Rattle.be_value.specs.Refusal.{Answers}
pub use Rattle.be_value.specs.declared.refusals.Refusal.TheVariants.{OutOfMemory}
pub use Rattle.be_value.specs.declared.values.Kind.{Kind, Kind as AnyKind}
pub use Rattle.be_volume.specs.Query.{covered, sat, scan, sees}
pub use Rattle.be_volume.specs.Reading.{index_kind}
pub use Rattle.be_volume.specs.Sound.{IsSound}
pub use Rattle.be_volume.specs.Volume.{State}
