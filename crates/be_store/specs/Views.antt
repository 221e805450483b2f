-- The volume as the object of the small machine, and what a pass knows as one of the machine's
-- views.
use Rattle.std.specs.Prelude.{◌≡◌, ◌≢◌, ℕ, ◌<◌, All, AllPairs, List, map}
use Rattle.std.specs.declared.option.Option.{Option}
use Rattle.std.specs.declared.result.Result.{Result}
use Rattle.be_journal.specs.declared.entries.Entry.{Entry}
use Rattle.be_journal.specs.Journal.{Agrees}
use Rattle.be_table.specs.declared.pass.Knowledge.{Knowledge}
use Rattle.be_table.specs.History.{AreOfPasses}
use Rattle.be_table.specs.Rule.{entries}
use Rattle.be_table.specs.Seats.{pinned_number}
use Rattle.be_table.specs.Steps.{Has, KeepsSeen}
use Rattle.be_value.specs.declared.refusals.Refusal.{Refusal}
use Rattle.be_value.specs.declared.values.Kind.{Kind}
use Rattle.be_value.specs.declared.values.Value.{Value}
use Rattle.be_volume.specs.Ahead.{state_after}
use Rattle.be_volume.specs.Volume.{State}
use Rattle.be_store.specs.SmallMachine.{Object, PassView, Step, Leads}

-- What a read returns: nodes or the reason why there are none, one attribute of a node, all its
-- attributes, the indices, or a number. Anything else that a call returns, such as the cursor of a
-- page, is stated in its contract.
pub data Answer : Type 0 where
  Nodes : Result (List ℕ) Refusal → Answer
  Attribute : Option Value → Answer
  Attributes : Result (List (List ℕ × Value)) Refusal → Answer
  Indices : List (List ℕ × Kind) → Answer
  Number : ℕ → Answer

-- The volume as an object. It accepts an entry if the outcomes are those of its operations. A
-- question is any function of the volume, such as the scan of a query. A Read therefore says
-- something only where its question is written down, as in example_history.
abbrev pub volume : Object
volume = record {
  State = State;
  Entry = Entry;
  Question = State → Answer;
  Answer = Answer;
  by = λ e. e.by;
  Accepts = Agrees;
  after = λ s e. state_after s e.ops;
  answer = λ ask s. ask s;
}

-- What a pass knows, without its pages, words and moves.
abbrev pub view_of : Knowledge → PassView volume
view_of a = record {
  number = a.number;
  first = a.limits.volume;
  seen = entries a.seen;
  mine = a.mine;
  pin = pinned_number a.phase;
}

-- A call of a pass that knew a before and knows c afterwards is this step.
abbrev pub IsStep : Knowledge → Step volume → Knowledge → Type 0
IsStep a s c = Leads volume (view_of a) s (view_of c)

-- What holds when a store that began with this volume and has this many passes was closed with
-- these passes, whose numbers differ.
-- `open` numbers the passes, and each keeps its number. `close` requires all passes of the store,
-- and ensures the rest about these passes and the journal.
pub record IsClosed (start : State) (count : ℕ) (log : List Entry) (passes : List Knowledge) :
    Type 0 where
  pub first : All (λ (a : Knowledge). a.limits.volume ≡ start) passes
  pub apart : AllPairs ◌≢◌ (map (λ (a : Knowledge). a.number) passes)
  pub all : (k : ℕ) → k < count → Has passes k
  pub by : AreOfPasses count log
  pub keeps : KeepsSeen log passes
