-- What is known about the location of an attribute in the catalog tree.
use Rattle.std.specs.Prelude.{◌≡◌, ℕ, List, Some, None, IfSome}
use Rattle.std.specs.declared.option.Option.{Option}
use Rattle.std.specs.declared.option.Option.TheVariants as options
use Rattle.be_pages.specs.declared.room.PageState.{PageState}
use Rattle.be_tree_reading.specs.Key.{payload_at}
use Rattle.be_tree_reading.specs.Page.{IsReadableAt, item_at}
use Rattle.be_tree_reading.specs.Tree.{pairs}
use Rattle.be_paged_reading.specs.Catalog.{catalog_key}
use Rattle.be_paged_reading.specs.declared.asked.Asked.{Asked}
use Rattle.be_paged_reading.specs.declared.version.Version.{Version}

-- There is an item at this offset of the page, and its payload is the one that the tree has for the
-- key.
pub record IsPlaceOf (page_state : ℕ → PageState) (words : ℕ → ℕ → ℕ) (root : ℕ) (key : List ℕ)
    (page at : ℕ) : Type 0 where
  pub item : IsReadableAt page_state words page at
  pub there : payload_at (pairs words root) key ≡ Some (item_at (words page) at).payload

-- The result of looking up the key: the page and offset of its item, or that the tree doesn't
-- contain the key.
abbrev pub IsFoundAt : (page_state : ℕ → PageState) (words : ℕ → ℕ → ℕ) (root : ℕ) (key : List ℕ)
    → Option (ℕ × ℕ) → Type 0
IsFoundAt page_state words root key options.None = payload_at (pairs words root) key ≡ None
IsFoundAt page_state words root key (options.Some place) = IsPlaceOf page_state words root key
    place.0 place.1

-- If anything is known about a node's attribute, it is what looking it up would find.
abbrev pub IsKnownOf : (page_state : ℕ → PageState) (words : ℕ → ℕ → ℕ) (root node : ℕ)
    (name : List ℕ) → Option (Option (ℕ × ℕ)) → Type 0
IsKnownOf page_state words root node name known = IfSome known
    (IsFoundAt page_state words root (catalog_key node name))

-- If anything is known about a node's attribute in the catalog of a loaded version, it is what
-- looking it up would find.
abbrev pub IsKnownIn : {S : Type 0} → (page_state_of : S → ℕ → PageState)
    → (words_of : S → ℕ → ℕ → ℕ) → S → Version → (node : ℕ) (name : List ℕ)
    → Option (Option (ℕ × ℕ)) → Type 0
IsKnownIn page_state_of words_of now version node name known =
    IsKnownOf (page_state_of now) (words_of now) version.catalog node name known

-- If an attribute that was looked up is remembered, the result is what looking it up would find.
abbrev pub IsAsked : (page_state : ℕ → PageState) (words : ℕ → ℕ → ℕ) (root : ℕ) → Option Asked
    → Type 0
IsAsked page_state words root asked = IfSome asked
    (λ a. IsFoundAt page_state words root (catalog_key a.node a.name) a.place)
