-- The volume that a version page encodes.
use Rattle.std.specs.Prelude.{◌≡◌, ℕ, ◌^◌, ◌<◌, ◌≤◌, List, [], ◌∷◌, length, All, IsTrue}
use Rattle.std.specs.FinMap as map
use Rattle.be_pages.specs.declared.room.PageState.{PageState}
use Rattle.be_pages.specs.Pages.{is_kept, times}
use Rattle.be_tree_reading.specs.Tree.{pairs}
use Rattle.be_tree_reading.specs.Forest.{pages_of, AreTrees}
use Rattle.be_volume.specs.Sound.{IsName, IsSound}
use Rattle.be_volume.specs.Volume.{State}
use Rattle.be_volume.specs.declared.maps.Index.{Index}
use Rattle.be_paged_reading.specs.Entry.{Entry}
use Rattle.be_paged_reading.specs.Page.{Contents, contents_of, IsVersionPage, roots}
use Rattle.be_paged_reading.specs.Catalog.{IsCatalog, IsIndexOf}

-- The entry encodes this index, and has this name.
pub record IsEntryOf (words : ℕ → ℕ → ℕ) (entry : Entry) (name : List ℕ) (index : Index) : Type 0
  where
    pub name_is : entry.name ≡ name
    pub kind_is : entry.kind ≡ index.kind
    pub keys : IsIndexOf (pairs words entry.root) index

-- Every entry encodes the index at the same position in the list.
abbrev pub AreEntriesOf : (words : ℕ → ℕ → ℕ) → List Entry → List (List ℕ × Index) → Type 0
AreEntriesOf words [] [] = Unit {0}
AreEntriesOf words [] (i ∷ is) = ⊥
AreEntriesOf words (e ∷ es) [] = ⊥
AreEntriesOf words (e ∷ es) (i ∷ is) = IsEntryOf words e i.0 i.1 × AreEntriesOf words es is

-- The contents encode the volume: its next node number, its nodes with their attributes, and its
-- indices in ascending order of their names.
pub record Encodes (words : ℕ → ℕ → ℕ) (c : Contents) (volume : State) : Type 0 where
  pub next : c.next ≡ volume.next
  pub catalog : IsCatalog (pairs words c.catalog) volume.nodes
  pub indices : AreEntriesOf words c.entries (map.entries volume.indices)

-- The trees of the contents are well formed and share no pages.
pub record IsInHand (page_state : ℕ → PageState) (words : ℕ → ℕ → ℕ) (c : Contents) : Type 0 where
  pub fits : c.next < 2 ^ 64
  pub few : length c.entries ≤ 32
  pub named : All (λ e. IsName e.name) c.entries
  pub trees : AreTrees page_state words (roots c)

-- The page is a version page that is in use and isn't part of its own trees, and its contents
-- encode this volume.
pub record IsVersion (page_state : ℕ → PageState) (words : ℕ → ℕ → ℕ) (page : ℕ) (volume : State) :
    Type 0 where
  pub in_use : IsTrue (is_kept (page_state page))
  pub is_page : IsVersionPage (words page)
  pub apart : times page (pages_of words (roots (contents_of (words page)))) ≡ 0
  pub in_hand : IsInHand page_state words (contents_of (words page))
  pub encodes : Encodes words (contents_of (words page)) volume
  pub sound : IsSound volume

-- The page is a version of some volume.
abbrev pub HasVersion : {S : Type 0} → (S → ℕ → PageState) → (S → ℕ → ℕ → ℕ) → S → (page : ℕ)
    → Type 0
HasVersion page_state_of words_of now page = (volume : State)
    × IsVersion (page_state_of now) (words_of now) page volume
