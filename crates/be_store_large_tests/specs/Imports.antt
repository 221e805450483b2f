-- What the contracts of this crate cite of other crates' definitions.
pub use Rattle.be_store.specs.Passes.{IsPassOf}
pub use Rattle.be_store.specs.Seats.{pinned_number}
