-- What a command line can request.
use Rattle.std.specs.Prelude.{◌≡◌, ◌≤◌, ⊤, vec_len}
use Rattle.be_table.specs.declared.limits.Limits.{Limits}
use Rattle.be_table.specs.Rule.{IsWithin}
use Rattle.be_command_line.specs.declared.tasks.Task.{Task}
use Rattle.be_command_line.specs.declared.tasks.Task.TheVariants.{Run, RunWithJournal, RunStrictly}
use Rattle.be_command_line.specs.declared.tasks.Task.TheVariants.{RunStrictlyWithJournal, Race}
use Rattle.be_command_line.specs.declared.tasks.Task.TheVariants.{Shell}
use Rattle.be_command_line.specs.declared.tasks.Task.TheVariants.{ShellWithJournal, Check, Dump}
use Rattle.be_command_line.specs.declared.tasks.Task.TheVariants.{DumpState}

-- The limits with one pass, regardless of their own number of passes.
abbrev pub for_one : Limits → Limits
for_one limits = record limits { passes = 1 }

-- These are limits within range for a store with one pass.
abbrev pub AreForOne : Limits → Type 0
AreForOne limits = IsWithin limits × (limits.passes ≡ 1)

-- Pages and commits are within their ranges. A run and a shell have one pass. A race has at least
-- one script, and one pass per script. Tasks that only read a file have no limits.
abbrev pub IsTask : Task → Type 0
IsTask (Run file limits) = AreForOne limits
IsTask (RunWithJournal file limits) = AreForOne limits
IsTask (RunStrictly file limits) = AreForOne limits
IsTask (RunStrictlyWithJournal file limits) = AreForOne limits
IsTask (Race files limits) = IsWithin (for_one limits) × (1 ≤ vec_len files)
    × (limits.passes ≡ vec_len files)
IsTask (Shell file limits) = AreForOne limits
IsTask (ShellWithJournal file journal limits) = AreForOne limits
IsTask (Check file) = ⊤
IsTask (Dump file) = ⊤
IsTask (DumpState file) = ⊤
