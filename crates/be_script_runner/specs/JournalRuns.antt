-- The output of a run that also writes its journal, and the replies to a journal's script.
use Rattle.std.specs.Prelude.{◌≡◌, ◌⊎◌, ℕ, ◌+◌, ◌<◌, ◌≤◌, ◌^◌, List, [], ◌∷◌, ◌++◌, flat_map}
use Rattle.std.specs.Prelude.{length, map, nat_lt, if◌then◌else◌, IfSome, None}
use Rattle.std.specs.Io.KnownBytes.{Keeps}
use Rattle.std.specs.declared.option.Option.{Option}
use Rattle.be_journal_text.specs.Dump.{by_only_pass}
use Rattle.be_journal.specs.Journal.{IsLegal, replay}
use Rattle.be_journal.specs.Text.{result_text}
use Rattle.be_journal.specs.declared.entries.Entry.{Entry}
use Rattle.be_script_language.specs.Reply.{ok, queued, committed, text_of}
use Rattle.be_table.specs.Versions.{CanEncodeEach}
use Rattle.be_table.specs.declared.limits.Limits.{Limits as StoreLimits}
use Rattle.be_volume.specs.Volume.{State, empty}
use Rattle.be_volume.specs.declared.ops.Op.{Op}
use Rattle.be_script_runner.specs.Output.{IsFrontOfOutput, IsOutputTo, done_reply}
use Rattle.be_script_runner.specs.Run.{AreFirstReplies, Wrote}
use Rattle.be_script_runner.specs.Store.{Store, start}
use Rattle.be_script_runner.specs.declared.faults.RunFault.{RunFault}
use Rattle.be_script_runner.specs.declared.faults.RunFault.TheVariants.{Limits, Read, TooLong}
use Rattle.be_script_runner.specs.declared.faults.RunFault.TheVariants.{Write, Memory}

-- The text is an output of the script, followed by the journal of the store that this output
-- leaves. After each of the script's writes, the volume fits into the number of pages that the
-- limits allow.
pub record IsReportedRun (limits : StoreLimits) (script out : List ℕ) : Type 0 where
  pub last : Store
  pub replies : List ℕ
  pub output : IsOutputTo (start limits.commits) script last replies
  pub legal : IsLegal last.journal
  pub volumes : CanEncodeEach limits.pages empty last.journal
  pub is : out ≡ replies ++ result_text last.journal

-- the text is a prefix of the script's replies, or all of them and a prefix of the journal after
-- them
abbrev pub IsReportedInPart : StoreLimits → List ℕ → List ℕ → Type 0
IsReportedInPart limits script front = IsFrontOfOutput (start limits.commits) script front
    ⊎ ((rest : List ℕ) × IsReportedRun limits script (front ++ rest))

-- What an error leaves. If a limit or the script is invalid, nothing was written. If a write
-- failed, a prefix of the whole text was written. If memory ran out, whole replies to the first
-- lines were written, and nothing of the journal.
abbrev pub JournalRunLeaves : StoreLimits → RunFault → Option (List ℕ) → Option (List ℕ)
    → Option (List ℕ) → Type 0
JournalRunLeaves limits Limits input old new = Keeps old new
JournalRunLeaves limits Read input old new = Keeps old new
JournalRunLeaves limits TooLong input old new = Keeps old new
    × IfSome input (λ script. 2 ^ 20 < length script)
JournalRunLeaves limits Write input old new = IfSome input
    (λ script. Wrote old new (IsReportedInPart limits script))
JournalRunLeaves limits Memory input old new = IfSome input
    (λ script. Wrote old new (AreFirstReplies (start limits.commits) script))

-- a store with one pass, which made these writes
abbrev pub made : ℕ → List Entry → Store
made limit entries = record {
  journal = map by_only_pass entries;
  volume = replay entries;
  limit = limit;
  passes = 1;
  pass = 0;
  pin = None;
}

-- the replies to the lines of the write with this number: the reply to its only operation, or the
-- replies for a batch of several
abbrev pub write_output : ℕ → Entry → List ℕ
write_output number entry =
    if nat_lt 1 (length entry.ops) then text_of ok
    ++ (flat_map (λ (op : Op). text_of queued) entry.ops
    ++ text_of (committed number entry.dones))
    else text_of (done_reply entry.dones)

-- the replies to the lines of these writes, whose numbers begin with n
abbrev pub dump_output : ℕ → List Entry → List ℕ
dump_output n [] = []
dump_output n (entry ∷ entries) = write_output n entry ++ dump_output (n + 1) entries

-- A run of the script on a store with one pass and room for `limit` entries leaves this volume,
-- after at most `most` writes.
pub record MakesVolume (limit : ℕ) (script : List ℕ) (volume : State) (most : ℕ) : Type 0 where
  pub last : Store
  pub replies : List ℕ
  pub output : IsOutputTo (start limit) script last replies
  pub volume_is : last.volume ≡ volume
  pub few : length last.journal ≤ most
