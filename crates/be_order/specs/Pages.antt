-- Successive pages of one snapshot.
use Rattle.std.specs.Prelude.{◌≡◌, ℕ, Bool, true, false, List, [], ◌∷◌, Ok, flat_map}
use Rattle.std.specs.declared.option.Option.{Option}
use Rattle.be_query.specs.Grammar.{Formula}
use Rattle.be_volume.specs.Volume.{State}
use Rattle.be_order.specs.Ordered.{Page, page}

-- The nodes of all pages, in order.
abbrev pub nodes_in : List Page → List ℕ
nodes_in pages = flat_map (λ p. p.nodes) pages

-- The first page starts after this cursor, and every other page after the cursor that the previous
-- page left. Every page except the last reports that more nodes follow.
abbrev pub ArePages : State → Formula → List ℕ → Bool → ℕ → Option (List ℕ) → List Page → Type 0
ArePages s f by descending most cursor [] = ⊥
ArePages s f by descending most cursor (p ∷ ps) = (page s f by descending cursor most ≡ Ok p)
    × (p.more ≡ true → ArePages s f by descending most p.cursor ps) × (p.more ≡ false → ps ≡ [])
