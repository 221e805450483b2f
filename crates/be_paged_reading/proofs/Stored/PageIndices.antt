-- Indices on their version page.
use Rattle.std.proofs.Common.{◌≡◌, ℕ, ◌+◌, ◌<◌, ◌≤◌, List, length, get_or, ap, sym, subst, ◌∙◌, inl, inr, zero-add, arith}
use Rattle.std.proofs.lemmas.Bool.{cases_lt}
use Rattle.std.proofs.lemmas.List.FromFn.{get_or-map-range_with_len, length-map-range_with_len}
use Rattle.std.specs.declared.cmp.Ordering.{Ordering}
use Rattle.std.specs.declared.option.Option.{Option}
use Rattle.std.specs.declared.option.Option.TheVariants.{Some, None}
use Rattle.std.specs.declared.cmp.Ordering.TheVariants.{Less, Equal, Greater}
use Rattle.be_pages.specs.declared.room.PageState.{PageState}
use Rattle.be_tree_reading.specs.declared.cursor.Cursor.{Cursor}
use Rattle.be_volume.specs.Maps.{name_cmp}
use Rattle.be_volume.specs.Volume.{State}
use Rattle.be_paged_reading.specs.Entry.{Entry}
use Rattle.be_paged_reading.specs.Page.{contents_of, entry_at, entry_place, IsGapAt, IsNamedAt}
use Rattle.be_paged_reading.specs.Source.{IsFound, IsIndexOf, IsKnown, SourceOf}
use Rattle.be_paged_reading.specs.declared.on_page.FoundIndex.{FoundIndex}
use Rattle.be_paged_reading.proofs.IndexEntries.Indexing.{NamesRise, flip, names_exact, names_total}

-- The names of the indices before this position are lower than this name.
abbrev pub AreBelow : (words : ℕ → ℕ) → List ℕ → ℕ → Type 0
AreBelow words name i = (j : ℕ) (d : Entry) → j < i → name_cmp (get_or (contents_of words).entries j d).name name ≡ Less

-- The names of the indices from this position on are higher than this name.
abbrev pub AreAbove : (words : ℕ → ℕ) → List ℕ → ℕ → Type 0
AreAbove words name i = (j : ℕ) (d : Entry) → i ≤ j → j < words 1 → name_cmp (get_or (contents_of words).entries j d).name name ≡ Greater

module _ (words : ℕ → ℕ) (name : List ℕ) where
  pub how_many : length (contents_of words).entries ≡ words 1
  how_many = length-map-range_with_len (λ k. entry_at words (entry_place k)) 0 (words 1)

  pub at_place : (i : ℕ) (d : Entry) → i < words 1 → get_or (contents_of words).entries i d ≡ entry_at words (entry_place i)
  at_place i d lt = get_or-map-range_with_len (λ k. entry_at words (entry_place k)) 0 (words 1) i i d lt (zero-add i)

  compared : (i : ℕ) (r : Ordering) → i < words 1 → name_cmp (entry_at words (entry_place i)).name name ≡ r → (d : Entry) → name_cmp (get_or (contents_of words).entries i d).name name ≡ r
  compared i r lt e d = ap (λ (x : Entry). name_cmp x.name name) (at_place i d lt) ∙ e

  -- Since the names are in ascending order, one comparison decides about all indices on that side.
  module _ (rise : NamesRise (contents_of words).entries) (i : ℕ) (lt : i < words 1) where
    rises : (j k : ℕ) (d : Entry) → j < k → k < words 1 → name_cmp (get_or (contents_of words).entries j d).name (get_or (contents_of words).entries k d).name ≡ Less
    rises j k d less within = rise j k d less (omega (arith, within, how_many))

    pub below_through : name_cmp (entry_at words (entry_place i)).name name ≡ Less → AreBelow words name (i + 1)
    below_through e j d within = elim (cases_lt j i) [
      | inl less ↦ names_total.trans (get_or (contents_of words).entries j d).name (get_or (contents_of words).entries i d).name name (rises j i d less lt) (compared i Less lt e d)
      | inr above ↦
          let same : i ≡ j = omega (arith, above, within) in
          subst (λ k. name_cmp (get_or (contents_of words).entries k d).name name ≡ Less) same (compared i Less lt e d)
    ]

    pub above_from : name_cmp (entry_at words (entry_place i)).name name ≡ Greater → AreAbove words name i
    above_from e j d from within = elim (cases_lt i j) [
      | inl less ↦
          let mine = (get_or (contents_of words).entries i d).name in
          let other = (get_or (contents_of words).entries j d).name in
          flip name other Less (names_total.trans name mine other (flip mine name Greater (compared i Greater lt e d)) (rises i j d less within))
      | inr below ↦
          let same : i ≡ j = omega (arith, below, from) in
          subst (λ k. name_cmp (get_or (contents_of words).entries k d).name name ≡ Greater) same (compared i Greater lt e d)
    ]

    pub named_here : name_cmp (entry_at words (entry_place i)).name name ≡ Equal → IsNamedAt (contents_of words).entries name i
    named_here e = record {
      in_range = omega (arith, lt, how_many);
      below = λ j d less. subst (λ n. name_cmp (get_or (contents_of words).entries j d).name n ≡ Less) (names_exact _ _ (compared i Equal lt e d)) (rises j i d less lt);
      here = λ d. names_exact _ _ (compared i Equal lt e d);
    }

  pub gap_here : (low high : ℕ) → low ≤ words 1 → high ≤ low → AreBelow words name low → AreAbove words name high → IsGapAt (contents_of words).entries name low
  gap_here low high le past below above = record {
    in_range = omega (arith, le, how_many);
    below = below;
    above = λ d within. above low d past (omega (arith, within, how_many));
  }

-- The state of an index reader after pages were only read, with what it now remembers.
pub source_since : (s t : ℕ → PageState) (v w : ℕ → ℕ → ℕ) (page : ℕ) (was known : Option FoundIndex) (cursor : Cursor) (place last_page last_at : ℕ) (volume : State) → t ≡ s → w ≡ v →
    IsKnown (contents_of (w page)).entries known → SourceOf s v page was cursor place last_page last_at volume → SourceOf t w page known cursor place last_page last_at volume
source_since s t v w page was known cursor place last_page last_at volume page_state words is h =
    let now = subst (λ (u : ℕ → PageState). SourceOf u w page was cursor place last_page last_at volume) (sym page_state) (subst (λ (x : ℕ → ℕ → ℕ). SourceOf s x page was cursor place last_page last_at volume) (sym words) h) in
    record { version = now.version; known_is = is; beyond = now.beyond }

-- What is remembered about an index.
pub of_known : (entries : List Entry) (known : Option FoundIndex) (index : FoundIndex) → known ≡ Some index → IsKnown entries known → IsIndexOf entries index
of_known entries known index is h = subst (IsKnown entries) is h

-- An index that was found can be remembered.
pub found_known : (entries : List Entry) (name : List ℕ) (found : Option FoundIndex) → IsFound entries name found → IsKnown entries found
found_known entries name None h = tt
found_known entries name (Some index) h = record { in_range = h.named.in_range; kind = h.kind; root = h.root }
