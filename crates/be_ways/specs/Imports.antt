-- What the contracts of this crate cite of other crates' definitions.
pub use Rattle.std.specs.Option.{option_copied, option_map}
pub use Rattle.be_value.specs.declared.refusals.Refusal.TheVariants.{OutOfMemory}
pub use Rattle.be_volume.specs.Query.{scan}
pub use Rattle.be_volume.specs.Volume.{State}
