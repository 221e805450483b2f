-- What a pass's moves show about its calls: every accepted write, every pin and every unpin.
use Rattle.std.specs.Prelude.{◌==◌, if◌then◌else◌, ℕ, List, [], ◌∷◌, ◌++◌}
use Rattle.be_table.specs.declared.pass.Move.{Move}
use Rattle.be_table.specs.declared.pass.Move.TheVariants as move
use Rattle.be_store.specs.SmallMachine.{Step, Apply, Learn, Pin, Unpin, Read}
use Rattle.be_store.specs.Views.{volume}

pub data Shown : Type 0 where
  Wrote : Shown
  Pinned : Shown
  Unpinned : Shown

-- What one move shows about the pass k.
abbrev pub shown : ℕ → Move → List Shown
shown k (move.Look j) = []
shown k (move.Announce j) = []
shown k (move.LookAgain j) = if j == k then Pinned ∷ [] else []
shown k (move.Unpin j) = if j == k then Unpinned ∷ [] else []
shown k (move.Lock j) = []
shown k (move.Scan j i) = []
shown k (move.Fill j p i word) = []
shown k (move.Publish j page given) = if j == k then Wrote ∷ [] else []
shown k (move.Unlock j) = []
shown k (move.Return j p) = []

-- What these moves show about the pass k, in order.
abbrev pub shown_by : ℕ → List Move → List Shown
shown_by k [] = []
shown_by k (m ∷ ms) = shown k m ++ shown_by k ms

-- What a step shows.
abbrev pub shown_of : Step volume → List Shown
shown_of (Apply e n) = Wrote ∷ []
shown_of (Learn log) = []
shown_of (Pin n) = Pinned ∷ []
shown_of Unpin = Unpinned ∷ []
shown_of (Read q r) = []

abbrev pub shown_in : List (Step volume) → List Shown
shown_in [] = []
shown_in (s ∷ steps) = shown_of s ++ shown_in steps
