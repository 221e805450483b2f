-- What the contracts of this crate cite of other crates' definitions.
pub use Rattle.std.specs.Option.{option_copied}
pub use Rattle.std.specs.Ordering.{is_ge}
pub use Rattle.be_order.specs.Ordered.{cursor_bytes}
pub use Rattle.be_paged_reading.specs.Version.{HasVersion, IsVersion}
pub use Rattle.be_pages.specs.declared.room.PageState.{PageState as AnyPageState}
pub use Rattle.be_volume.specs.Maps.{name_cmp}
pub use Rattle.be_volume.specs.Volume.{State}
