-- What the contracts of this crate cite of other crates' definitions.
pub use Rattle.be_store.specs.History.{Accepts, Learns, Pins, Unpins}
pub use Rattle.be_store.specs.Passes.{HasRead, IsPassOf, IsPinnedTo, volume_pinned}
pub use Rattle.be_table.specs.Seats.{pinned_number}
pub use Rattle.be_table.specs.Steps.{IsPass}
pub use Rattle.be_table.specs.declared.pass.Knowledge.{Knowledge}
pub use Rattle.be_value.specs.Value.{kind_of}
pub use Rattle.be_value.specs.declared.refusals.Refusal.TheVariants.{OutOfMemory}
pub use Rattle.be_volume.specs.Ahead.{next_after, state_after}
pub use Rattle.be_volume.specs.Reading.{attribute, index_kind, index_kinds}
pub use Rattle.be_volume.specs.Volume.{State, steps}
pub use Rattle.be_volume.specs.declared.ops.Done.{Done}
pub use Rattle.be_volume.specs.declared.ops.Done.TheVariants.{Node}
pub use Rattle.be_volume.specs.declared.ops.Op.{Op}
