-- A version page: the next node number, the root of the catalog, and the indices with their roots.
use Rattle.std.specs.Prelude.{◌≡◌, ℕ, ◌+◌, ◌-◌, ◌*◌, ◌^◌, ◌<◌, ◌≤◌, List, ◌∷◌, map, length}
use Rattle.std.specs.Prelude.{slice_index_or}
use Rattle.std.specs.List.{range_with_len}
use Rattle.std.specs.declared.cmp.Ordering.TheVariants.{Less, Greater}
use Rattle.be_value.specs.Coded.{kind_at}
use Rattle.be_value.specs.declared.values.Kind.{Kind}
use Rattle.be_volume.specs.Maps.{name_cmp}
use Rattle.be_volume.specs.Sound.{IsName}
use Rattle.be_tree_reading.specs.Page.{bytes_at}
use Rattle.be_tree_reading.specs.Forest.{pages_of}
use Rattle.be_paged_reading.specs.Entry.{Entry, HaveText}
use Rattle.be_paged_reading.specs.declared.version.Version.{Version}

-- The kind that has this number on pages, from 1 to 7.
abbrev pub kind_numbered : ℕ → Kind
kind_numbered n = kind_at (n - 1)

-- The contents of a version page.
pub record Contents : Type 0 where
  pub next : ℕ
  pub catalog : ℕ
  pub entries : List Entry

-- The contents of a loaded version.
abbrev pub contents : Version → Contents
contents version = record {
  next = version.next;
  catalog = version.catalog;
  entries = version.entries.items;
}

-- The offset of the eleven words for index i.
abbrev pub entry_place : ℕ → ℕ
entry_place i = 4 + 11 * i

-- The index in the eleven words at an offset: the length of the name, the bytes of the name in
-- eight words, the number of the kind, and the root.
unfoldable pub entry_at : (words : ℕ → ℕ) (at : ℕ) → Entry
entry_at words at = record {
  name = bytes_at words (at + 1) (words at);
  kind = kind_numbered (words (at + 9));
  root = words (at + 10);
}

abbrev pub contents_of : (words : ℕ → ℕ) → Contents
contents_of words = record {
  next = words 2;
  catalog = words 3;
  entries = map (λ i. entry_at words (entry_place i)) (range_with_len 0 (words 1));
}

-- These eleven words encode an index.
pub record IsEntry (words : ℕ → ℕ) (at : ℕ) : Type 0 where
  pub short : words at ≤ 63
  pub named : IsName (entry_at words at).name
  pub text : HaveText (λ j. words (at + 1 + j)) (entry_at words at).name
  pub kind : (1 ≤ words (at + 9)) × (words (at + 9) ≤ 7)

-- The words encode a version page.
pub record IsVersionPage (words : ℕ → ℕ) : Type 0 where
  pub tag : words 0 ≡ 255
  pub few : words 1 ≤ 32
  pub fits : words 2 < 2 ^ 64
  pub each : (i : ℕ) → i < words 1 → IsEntry words (entry_place i)

-- All roots: that of the catalog, followed by those of the indices.
abbrev pub roots : Contents → List ℕ
roots c = c.catalog ∷ map (λ e. e.root) c.entries

-- The pages of a version: its own page and those of its trees.
abbrev pub reach : (words : ℕ → ℕ → ℕ) (page : ℕ) → List ℕ
reach words page = page ∷ pages_of words (roots (contents_of (words page)))

-- The entry at position i has this name, and all entries before it have lower names.
pub record IsNamedAt (entries : List Entry) (name : List ℕ) (i : ℕ) : Type 0 where
  pub in_range : i < length entries
  pub below : (j : ℕ) (d : Entry) → j < i → name_cmp (slice_index_or entries j d).name name ≡ Less
  pub here : (d : Entry) → (slice_index_or entries i d).name ≡ name

-- All entries before position i have lower names, and the entry at this position, if there is one,
-- has a higher name.
pub record IsGapAt (entries : List Entry) (name : List ℕ) (i : ℕ) : Type 0 where
  pub in_range : i ≤ length entries
  pub below : (j : ℕ) (d : Entry) → j < i → name_cmp (slice_index_or entries j d).name name ≡ Less
  pub above : (d : Entry) → i < length entries → name_cmp (slice_index_or entries i d).name name
      ≡ Greater
