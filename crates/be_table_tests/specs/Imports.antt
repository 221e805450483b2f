-- What the contracts of this crate cite of other crates' definitions.
pub use Rattle.be_core.specs.declared.event.Phase.TheVariants.{Pinned}
pub use Rattle.be_paged.specs.Changes.{Applies}
pub use Rattle.be_paged_reading.specs.Version.{IsVersion}
pub use Rattle.be_table.specs.Place.{Opened}
pub use Rattle.be_table.specs.Reading.{open_of, page_state_among, page_state_in_work, word_of_page}
pub use Rattle.be_table.specs.Reading.{words_of}
pub use Rattle.be_table.specs.Works.{AreNew, IsSeatOf, TakesLock}
pub use Rattle.be_table.specs.declared.pass.Knowledge.{Knowledge}
pub use Rattle.be_table.specs.Setting.{begins_empty, coded_setting}
pub use Rattle.be_volume.specs.Volume.{State}
