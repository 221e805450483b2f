-- What holds of the fields of a builder.
use Rattle.std.specs.Prelude.{◌≡◌, None, length}
use Rattle.be_paged_building.specs.Building.{Builds, pages_held}
use Rattle.be_paged_building.specs.declared.building.VolumeBuilder.{VolumeBuilder}
use Rattle.be_store_building.specs.FirstPages.{state_in}
use Rattle.be_store_building.specs.declared.builder.StoreBuilder.TheInside.{Inside}
use Rattle.be_store_building.specs.declared.first_pages.FirstPages.{FirstPages}
use Rattle.be_table.specs.Reading.{word_of_page}
use Rattle.be_table.specs.Setting.{IsPossible}
use Rattle.be_tree.specs.Counting.{HasInHand}
use Rattle.be_volume_state.specs.Rebuilding.{IsNumbered}

-- The volume that was given is built in these pages, and no other page is taken.
pub record IsWhole (pages : FirstPages) (volume : VolumeBuilder) : Type 0 where
  pub builds : Builds (state_in pages.states.items) (word_of_page pages.words.items) volume
      volume.volume.value
  pub hand : HasInHand (state_in pages.states.items)
      (pages_held (word_of_page pages.words.items) volume)

pub record IsBuilding (b : Inside) : Type 0 where
  pub limits : IsPossible b.limits
  pub pages : length b.pages.states.items ≡ b.limits.pages
  pub numbered : IsNumbered b.volume.volume.value
  pub whole : b.failed ≡ None → IsWhole b.pages b.volume
