-- How a pass serves a script: what it knows after each line, and the calls that led there.
use Rattle.std.specs.Prelude.{◌≡◌, ℕ, List, [], ◌∷◌, ◌++◌}
use Rattle.be_store.specs.Calls.{Calls}
use Rattle.be_store.specs.Passes.{IsPassOf}
use Rattle.be_store.specs.SmallMachine.{Step}
use Rattle.be_store.specs.Views.{volume}
use Rattle.be_table.specs.Place.{Opened, SeatFacts}
use Rattle.be_table.specs.declared.pass.Knowledge.{Knowledge}
use Rattle.be_script_language.specs.Request.{lines_of}
use Rattle.be_script_runner.specs.Output.{Answered, Session, opening}
use Rattle.be_script_runner.specs.Served.{known}

-- calls of a pass lead from what it knew to what it knows now
abbrev pub LeadTo : Knowledge → Knowledge → Type 0
LeadTo a c = (steps : List (Step volume)) × Calls a steps c

-- the pass belongs to the store, and calls led from what it knew at first to what it knows
abbrev pub IsLedFrom : SeatFacts → Opened → SeatFacts → Type 0
IsLedFrom first store pass = IsPassOf store pass × LeadTo first.knows pass.knows

-- A pass that knows `a` before and `c` after gives this reply to a line: calls led from `a` to `c`,
-- and the line is answered from the store that the pass then shows.
pub record IsAnsweredBy (a : Knowledge) (s : Session) (line : List ℕ) (c : Knowledge)
    (after : Session) (reply : List ℕ) : Type 0 where
  pub calls : LeadTo a c
  pub answered : Answered s line after reply
  pub shows : after.store ≡ known c

-- `IsAnsweredBy` for several lines in order; the pass knows `z` at the end
abbrev pub AreAnsweredBy : Knowledge → Session → List (List ℕ) → Knowledge → Session → List ℕ
    → Type 0
AreAnsweredBy a s [] z last out = (z ≡ a) × (last ≡ s) × (out ≡ [])
AreAnsweredBy a s (line ∷ lines) z last out =
    (c : Knowledge) × (after : Session) × (reply : List ℕ) × (rest : List ℕ)
    × IsAnsweredBy a s line c after reply × AreAnsweredBy c after lines z last rest
    × (out ≡ reply ++ rest)

-- The script gets these replies, line by line, from a pass that knew `a` at first and knows `z` at
-- the end.
pub record IsServedBy (a : Knowledge) (script : List ℕ) (z : Knowledge) (out : List ℕ) : Type 0
  where
    pub last : Session
    pub lines : AreAnsweredBy a (opening (known a)) (lines_of script) z last out
    pub shows : last.store ≡ known z

-- The text contains the replies to all of a script's lines except those that are left. The pass
-- knew `a` at first and knows `c` now, and `s` is the session after the answered lines.
pub record HasAnswered (a : Knowledge) (script : List ℕ) (c : Knowledge) (s : Session)
    (left out : List ℕ) : Type 0 where
  pub lines : List (List ℕ)
  pub is : lines_of script ≡ lines ++ lines_of left
  pub output : AreAnsweredBy a (opening (known a)) lines c s out
  pub shows : s.store ≡ known c
