-- A peer that shows control characters as codes.
use Rattle.std.specs.Prelude.{◌≡◌, ◌⊎◌, Bool, true, ℕ, List, [], ◌∷◌, ◌++◌, map}
use Rattle.be_script_runner.specs.Run.{IsFrontOf}
use Rattle.be_shell.specs.Conversation.{Event, hears, ends, says, flushes, fails, Happens}
use Rattle.be_shell.specs.Escape.{shown}

-- The pieces, concatenated.
abbrev pub joined : List (List ℕ) → List ℕ
joined [] = []
joined (piece ∷ pieces) = piece ++ joined pieces

-- These bytes are written, in one piece or in several.
abbrev pub SaysAll : {P : Type 0} → (P → Event → P → Type 0) → P → List ℕ → P → Type 0
SaysAll does p bytes q = (pieces : List (List ℕ)) × Happens does p (map says pieces) q
    × (joined pieces ≡ bytes)

-- What an event at a screen means for the underlying peer. The text is written as it is shown,
-- either completely or, if a write fails, in part.
abbrev pub shows : {P : Type 0} → (P → Event → P → Type 0) → P → Bool → Event → P → Bool → Type 0
shows does p torn (hears line) q torn' = does p (hears line) q × (torn' ≡ torn)
shows does p torn ends q torn' = does p ends q × (torn' ≡ torn)
shows does p torn (says bytes) q torn' =
    (SaysAll does p (shown bytes) q × (torn' ≡ torn))
    ⊎ ((front : List ℕ) × IsFrontOf (shown bytes) front × SaysAll does p front q
    × (torn' ≡ true))
shows does p torn flushes q torn' = does p flushes q × (torn' ≡ torn)
shows does p torn fails q torn' = does p fails q × (torn' ≡ torn)
