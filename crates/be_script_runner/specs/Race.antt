-- What a race returns and writes: its passes after serving the scripts, and the text.
use Rattle.std.specs.Prelude.{◌≡◌, ◌⊎◌, ℕ, ◌+◌, ◌<◌, List, [], ◌∷◌, ◌++◌, None, false, length, map}
use Rattle.std.specs.Prelude.{Vec, slice_index_or, take, codes}
use Rattle.std.specs.Fmt.{decimal}
use Rattle.std.specs.Global.{Global}
use Rattle.std.specs.Io.KnownBytes.{Keeps}
use Rattle.std.specs.declared.option.Option.{Option}
use Rattle.be_volume.specs.Volume.{empty}
use Rattle.be_journal.specs.Journal.{IsLegal, by_pass}
use Rattle.be_journal.specs.Text.{result_text}
use Rattle.be_journal.specs.declared.entries.Entry.{Entry}
use Rattle.be_table.specs.History.{AreOfPasses, StartsWith}
use Rattle.be_table.specs.Place.{Opened, SeatFacts}
use Rattle.be_table.specs.Rule.{entries, newcomer}
use Rattle.be_table.specs.Setting.{Setting, begins_empty}
use Rattle.be_table.specs.Steps.{KeepsSeen}
use Rattle.be_table.specs.Versions.{CanEncodeEach}
use Rattle.be_table.specs.Works.{knows_of}
use Rattle.be_table.specs.declared.limits.Limits.{Limits as StoreLimits}
use Rattle.be_table.specs.declared.pass.Knowledge.{Knowledge}
use Rattle.be_store.specs.Passes.{IsPassOf}
use Rattle.be_script_runner.specs.Gates.{AreAllReported}
use Rattle.be_script_runner.specs.Output.{IsOutputTo}
use Rattle.be_script_runner.specs.Lines.{IsServedBy}
use Rattle.be_script_runner.specs.Order.{AreInOneOrder, AreServedBy}
use Rattle.be_script_runner.specs.Own.{IsPartOf, operations, write_ops}
use Rattle.be_script_runner.specs.Run.{Wrote}
use Rattle.be_script_runner.specs.Served.{known}
use Rattle.be_script_runner.specs.Store.{Store}
use Rattle.be_script_runner.specs.declared.faults.RunFault.{RunFault}
use Rattle.be_script_runner.specs.declared.faults.RunFault.TheVariants.{Limits, Read, TooLong}
use Rattle.be_script_runner.specs.declared.faults.RunFault.TheVariants.{Write, Memory}

-- pass k of the store, which has seen and written nothing
abbrev pub IsNew : Opened → ℕ → SeatFacts → Type 0
IsNew store k pass = (pass.blank ≡ false) × (pass.table ≡ store.id)
    × (pass.knows ≡ newcomer store.limits (k + 1) k)

-- a store with no writes yet, as pass k sees it
abbrev pub start_of : Setting → ℕ → Store
start_of setting k = record {
  journal = [];
  volume = setting.volume;
  limit = setting.commits;
  passes = setting.passes;
  pass = k;
  pin = None;
}

-- The pass has number k, and its own writes are some of those that the script requests, in their
-- order.
pub record HasServed (store : Opened) (k : ℕ) (script : List ℕ) (p : SeatFacts) : Type 0 where
  pub pass : IsPassOf store p
  pub number : p.knows.number ≡ k
  pub own : IsPartOf (operations p.knows.mine) (write_ops script)

-- one pass for each script, with passes numbered from k
abbrev pub HaveServed : Opened → ℕ → List (List ℕ) → List SeatFacts → Type 0
HaveServed store k [] [] = Unit {0}
HaveServed store k [] (pass ∷ passes) = ⊥
HaveServed store k (script ∷ scripts) [] = ⊥
HaveServed store k (script ∷ scripts) (pass ∷ passes) = HasServed store k script pass
    × HaveServed store (k + 1) scripts passes

-- What pass k knows after its script got this text. The pass's own writes are its entries among
-- those that it has seen, and some of those that the script requests, in their order. The text is
-- an output of the script that leaves what the pass has seen. For each line, calls of the pass led
-- from the store that it showed before to the store that answered the line.
pub record IsOutcome (setting : Setting) (k : ℕ) (script : List ℕ) (a : Knowledge)
    (text : List ℕ) : Type 0 where
  pub mine : by_pass k (entries a.seen) ≡ a.mine
  pub own : IsPartOf (operations a.mine) (write_ops script)
  pub output : IsOutputTo (start_of setting k) script (known a) text
  pub served : IsServedBy (newcomer setting (k + 1) k) script a text

-- Script k got this text from the store that has this journal. The text is an output of the script
-- on a store that begins like this and in which the other passes may write. The journal begins
-- with what the script's pass saw at the end, and that beginning contains all of this pass's
-- entries.
pub record IsReplied (setting : Setting) (journal : List Entry) (k : ℕ) (script text : List ℕ) :
    Type 0 where
  pub last : Store
  pub output : IsOutputTo (start_of setting k) script last text
  pub seen : StartsWith journal last.journal
  pub own : by_pass k journal ≡ by_pass k last.journal

-- these are the replies to each script, with scripts numbered from k
abbrev pub HaveReplied : Setting → List Entry → ℕ → List (List ℕ) → List (List ℕ) → Type 0
HaveReplied setting journal k [] [] = Unit {0}
HaveReplied setting journal k [] (text ∷ texts) = ⊥
HaveReplied setting journal k (script ∷ scripts) [] = ⊥
HaveReplied setting journal k (script ∷ scripts) (text ∷ texts) = IsReplied setting journal k script
    text × HaveReplied setting journal (k + 1) scripts texts

-- The replies come from the store with these passes, for every journal that contains what they have
-- seen and written.
abbrev pub AreRepliesOf : Setting → ℕ → List (List ℕ) → List SeatFacts → List (List ℕ) → Type 0
AreRepliesOf setting k scripts passes texts = (journal : List Entry)
    → KeepsSeen journal (map knows_of passes) → HaveReplied setting journal k scripts texts

-- each script was served by a pass of the store, and these are the replies
abbrev pub AreServed : Opened → List (List ℕ) → List SeatFacts → List (List ℕ) → Type 0
AreServed store scripts passes texts = HaveServed store 0 scripts passes
    × AreRepliesOf store.limits 0 scripts passes texts
    × AreServedBy store.limits 0 scripts (map knows_of passes) texts

-- the bytes of each of these texts
abbrev pub bytes_of : List (Vec ℕ Global) → List (List ℕ)
bytes_of texts = map (λ (text : Vec ℕ Global). text.items) texts

-- `AreServed`, and the gate was called for each line of each script
abbrev pub AreServedThrough : Opened → (ℕ → ℕ → Type 0) → (ℕ → ℕ → Type 0) → List (List ℕ)
    → List SeatFacts → List (List ℕ) → Type 0
AreServedThrough store begun ended scripts passes texts = AreServed store scripts passes texts
    × AreAllReported begun ended scripts

-- a pass's line and its replies
abbrev pub pass_line : ℕ → List ℕ
pass_line k = codes "pass " ++ (decimal k ++ codes "\n")

abbrev pub replies_text : ℕ → List (List ℕ) → List ℕ
replies_text k [] = []
replies_text k (text ∷ texts) = (pass_line k ++ text) ++ replies_text (k + 1) texts

-- the text consists of the lines and whole replies of the first passes
abbrev pub AreFirstTexts : List (List ℕ) → List ℕ → Type 0
AreFirstTexts replies out = (k : ℕ) × (out ≡ replies_text 0 (take k replies))

-- What a race writes: the replies to its scripts, and a legal journal of the store that gave them.
-- Each entry was written by one of the scripts. A script's operations are some of those that its
-- lines request, in their order. After each entry, the volume fits into the number of pages that
-- the limits allow. For each script, the record contains what its pass knew after each line, and
-- the calls that led there. The calls of all passes are in one order.
pub record IsRace (limits : StoreLimits) (scripts : List (List ℕ)) (out : List ℕ) : Type 0 where
  pub replies : List (List ℕ)
  pub journal : List Entry
  pub is : out ≡ replies_text 0 replies ++ result_text journal
  pub replied : HaveReplied (begins_empty limits) journal 0 scripts replies
  pub legal : IsLegal journal
  pub by : AreOfPasses (length scripts) journal
  pub own : (k : ℕ) → k < length scripts
      → IsPartOf (operations (by_pass k journal)) (write_ops (slice_index_or scripts k []))
  pub volumes : CanEncodeEach limits.pages empty journal
  pub passes : List Knowledge
  pub served : AreServedBy (begins_empty limits) 0 scripts passes replies
  pub order : AreInOneOrder (begins_empty limits) journal passes

-- the text is a prefix of what a race of these scripts writes
abbrev pub IsRaceInPart : StoreLimits → List (List ℕ) → List ℕ → Type 0
IsRaceInPart limits scripts front = (rest : List ℕ) × IsRace limits scripts (front ++ rest)

-- the text is empty, or consists of the lines and whole replies of the first passes in a race of
-- these scripts
abbrev pub AreFirstPasses : StoreLimits → List (List ℕ) → List ℕ → Type 0
AreFirstPasses limits scripts out = (out ≡ [])
    ⊎ ((whole : List ℕ) × (race : IsRace limits scripts whole) × AreFirstTexts race.replies out)

-- What an error leaves. If a limit or a script's length is invalid, nothing was written. If a write
-- failed, a prefix of what a race writes was written. If memory ran out, nothing was written, or
-- only whole replies of the first passes.
abbrev pub RaceLeaves : StoreLimits → List (List ℕ) → RunFault → Option (List ℕ) → Option (List ℕ)
    → Type 0
RaceLeaves limits scripts Limits old new = Keeps old new
RaceLeaves limits scripts Read old new = ⊥
RaceLeaves limits scripts TooLong old new = Keeps old new
RaceLeaves limits scripts Write old new = Wrote old new (IsRaceInPart limits scripts)
RaceLeaves limits scripts Memory old new = Wrote old new (AreFirstPasses limits scripts)
