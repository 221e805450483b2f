-- The volume that a version of the table encodes.
use Rattle.std.specs.Prelude.{◌≡◌, ℕ, suc, ◌<◌, Bool, true, false, nat_lt, if◌then◌else◌, List}
use Rattle.std.specs.Prelude.{length, take, IsTrue}
use Rattle.be_core.specs.Machine.{has, bit}
use Rattle.be_pages.specs.declared.room.PageState.{PageState}
use Rattle.be_pages.specs.declared.room.PageState.TheVariants.{Free as Nowhere, Old}
use Rattle.be_pages.specs.Pages.{times}
use Rattle.be_paged_reading.specs.Page.{reach}
use Rattle.be_paged_reading.specs.Version.{IsVersion}
use Rattle.be_journal.specs.Journal.{replay_from}
use Rattle.be_journal.specs.declared.entries.Entry.{Entry}
use Rattle.be_volume.specs.Volume.{State}

-- the state of a page when a write begins: a page of the current version, or any other page
abbrev pub at_start : Bool → PageState
at_start true = Old
at_start false = Nowhere

-- the words of pages with 512 words each, and 0 at any later place
abbrev pub in_pages : (ℕ → ℕ → ℕ) → ℕ → ℕ → ℕ
in_pages words q i = if nat_lt i 512 then words q i else 0

-- The version with these pages and words encodes the volume from its version page, and its pages
-- are exactly those reached from there.
pub record EncodesVolume (pages : List ℕ) (words : ℕ → ℕ → ℕ) (page : ℕ) (volume : State) : Type 0
  where
    pub version : IsVersion (λ q. at_start (has pages q)) words page volume
    pub exact : (q : ℕ) → times q (reach words page) ≡ bit (has pages q)

-- `pages` pages can encode the volume: some of them do so with some words, 512 per page.
pub record CanEncode (pages : ℕ) (volume : State) : Type 0 where
  pub used : List ℕ
  pub words : ℕ → ℕ → ℕ
  pub page : ℕ
  pub encoded : EncodesVolume used (in_pages words) page volume
  pub inside : (p : ℕ) → IsTrue (has used p) → p < pages

-- `pages` pages can encode the volume after each entry of a journal that begins with this volume
unfoldable pub CanEncodeEach : ℕ → State → List Entry → Type 0
CanEncodeEach pages volume journal = (n : ℕ) → n < length journal
    → CanEncode pages (replay_from volume (take (suc n) journal))
