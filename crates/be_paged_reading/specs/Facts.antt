-- What a loaded version says about a volume.
use Rattle.std.specs.Prelude.{◌≡◌, ℕ, IfSome}
use Rattle.std.specs.Option.{option_map}
use Rattle.std.specs.FinMap as map
use Rattle.std.specs.declared.option.Option.{Option}
use Rattle.be_pages.specs.declared.room.PageState.{PageState}
use Rattle.be_volume.specs.Maps.{Nodes}
use Rattle.be_volume.specs.Sound.{IsSound}
use Rattle.be_volume.specs.Volume.{State}
use Rattle.be_paged_reading.specs.Page.{Contents}
use Rattle.be_paged_reading.specs.Place.{IsAsked}
use Rattle.be_paged_reading.specs.declared.asked.Asked.{Asked}
use Rattle.be_paged_reading.specs.Version.{IsInHand, Encodes}

-- The loaded contents encode this volume, and the volume is sound.
pub record AnswersFor (page_state : ℕ → PageState) (words : ℕ → ℕ → ℕ) (c : Contents)
    (volume : State) : Type 0 where
  pub in_hand : IsInHand page_state words c
  pub encodes : Encodes words c volume
  pub sound : IsSound volume

-- The number of attributes of a node, if the node exists.
abbrev pub count_of : Nodes → ℕ → Option ℕ
count_of nodes node = option_map (λ attributes. map.len attributes) (map.get nodes node)

-- What is remembered about the last node is true.
abbrev pub IsCounted : Option (ℕ × Option ℕ) → State → Type 0
IsCounted counted volume = IfSome counted (λ last. last.1 ≡ count_of volume.nodes last.0)

-- A reader of the contents, with what it remembers.
pub record FactsOf (page_state : ℕ → PageState) (words : ℕ → ℕ → ℕ) (c : Contents)
    (counted : Option (ℕ × Option ℕ)) (asked : Option Asked) (volume : State) : Type 0 where
  pub reported : AnswersFor page_state words c volume
  pub counted_is : IsCounted counted volume
  pub asked_is : IsAsked page_state words c.catalog asked
