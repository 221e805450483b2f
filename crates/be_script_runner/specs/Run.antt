-- What a run reads, writes and leaves.
use Rattle.std.specs.Prelude.{◌==◌, ◌≡◌, ℕ, ◌+◌, ◌<◌, ◌≤◌, ◌^◌, Bool, List, ◌++◌, length, IfSome}
use Rattle.std.specs.Io.KnownBytes.{Appends, Keeps, Consumes, IsAtEnd}
use Rattle.std.specs.declared.option.Option.{Option}
use Rattle.be_script_runner.specs.Output.{Session, opening, Answered, Outputs, IsOutputTo}
use Rattle.be_script_runner.specs.Output.{IsFrontOfOutput}
use Rattle.be_script_language.specs.Request.{lines_of}
use Rattle.be_table.specs.Versions.{CanEncodeEach}
use Rattle.be_table.specs.declared.limits.Limits.{Limits as StoreLimits}
use Rattle.be_volume.specs.Volume.{empty}
use Rattle.be_script_runner.specs.Store.{Store, start}
use Rattle.be_script_runner.specs.declared.faults.RunFault.{RunFault}
use Rattle.be_script_runner.specs.declared.faults.RunFault.TheVariants.{Limits, Read, TooLong}
use Rattle.be_script_runner.specs.declared.faults.RunFault.TheVariants.{Write, Memory}

-- the writer's contents were extended by a text for which P holds
pub record Wrote (old new : Option (List ℕ)) (P : List ℕ → Type 0) : Type 0 where
  pub out : List ℕ
  pub appended : Appends old new out
  pub is : P out

-- What a run writes: an output of the script on an empty store with one pass. After each of its
-- writes, the volume fits into the number of pages that the limits allow.
pub record IsRun (limits : StoreLimits) (script out : List ℕ) : Type 0 where
  pub last : Store
  pub output : IsOutputTo (start limits.commits) script last out
  pub volumes : CanEncodeEach limits.pages empty last.journal

-- a prefix of the bytes
abbrev pub IsFrontOf : List ℕ → List ℕ → Type 0
IsFrontOf bytes front = (rest : List ℕ) × (bytes ≡ front ++ rest)

-- a prefix of a possible reply to a line
abbrev pub IsFrontOfAnswer : Session → List ℕ → List ℕ → Type 0
IsFrontOfAnswer s line front = (after : Session) × (rest : List ℕ)
    × Answered s line after (front ++ rest)

abbrev pub is_line_end : ℕ → Bool
is_line_end c = c == 10

-- these are all the bytes that the reader had left
abbrev pub ReadsAll : Option (List ℕ) → Option (List ℕ) → List ℕ → Type 0
ReadsAll old new bytes = Consumes old new bytes × IsAtEnd new

-- the number of reads is at most one more than the maximum number of bytes in a script
abbrev pub HasFewReads : (ℕ → Type 0) → (ℕ → Type 0) → Type 0
HasFewReads old new = (before : ℕ) → old before → (times : ℕ) × (times ≤ 2 ^ 20 + 1)
    × new (before + times)

-- the reads returned no more bytes than a script may have; in `ReadsMany`, they returned more
abbrev pub ReadsFew : Option (List ℕ) → Option (List ℕ) → Type 0
ReadsFew old new = (bytes : List ℕ) × Consumes old new bytes × (length bytes ≤ 2 ^ 20)

abbrev pub ReadsMany : Option (List ℕ) → Option (List ℕ) → Type 0
ReadsMany old new = (bytes : List ℕ) × Consumes old new bytes × (2 ^ 20 < length bytes)

-- What was read if reading the script failed. Too many bytes were read if and only if the script is
-- too long.
abbrev pub ReadFault : RunFault → Option (List ℕ) → Option (List ℕ) → Type 0
ReadFault Limits old new = ⊥
ReadFault Read old new = ReadsFew old new
ReadFault TooLong old new = ReadsMany old new
ReadFault Write old new = ⊥
ReadFault Memory old new = ReadsFew old new

-- What was read if a run ended with an error. Too many bytes were read if and only if the script is
-- too long.
abbrev pub HasReadScript : RunFault → Option (List ℕ) → Option (List ℕ) → Type 0
HasReadScript TooLong old new = ReadsMany old new
HasReadScript e old new = ReadsFew old new

-- the text consists of whole replies to a script's first lines
pub record AreFirstReplies (store : Store) (script out : List ℕ) : Type 0 where
  pub lines : List (List ℕ)
  pub rest : List (List ℕ)
  pub is : lines_of script ≡ lines ++ rest
  pub last : Session
  pub output : Outputs (opening store) lines last out

-- What an error leaves. If the script couldn't be read completely or was too long, nothing was
-- written. If a write failed, a prefix of an output was written. If memory ran out, the replies to
-- the first lines were written.
abbrev pub RunLeaves : RunFault → Store → Option (List ℕ) → Option (List ℕ) → Option (List ℕ)
    → Type 0
RunLeaves Limits store input old new = Keeps old new
RunLeaves Read store input old new = Keeps old new
RunLeaves TooLong store input old new = Keeps old new
    × IfSome input (λ script. 2 ^ 20 < length script)
RunLeaves Write store input old new = IfSome input
    (λ script. Wrote old new (IsFrontOfOutput store script))
RunLeaves Memory store input old new = IfSome input
    (λ script. Wrote old new (AreFirstReplies store script))

-- an error that occurs while the script is read
abbrev pub IsEarly : RunFault → Type 0
IsEarly Limits = ⊥
IsEarly Read = Unit {0}
IsEarly TooLong = Unit {0}
IsEarly Write = ⊥
IsEarly Memory = Unit {0}

-- an error that occurs after the script was read
abbrev pub IsLate : RunFault → Type 0
IsLate Limits = ⊥
IsLate Read = ⊥
IsLate TooLong = ⊥
IsLate Write = Unit {0}
IsLate Memory = Unit {0}

-- any error but Limits
abbrev pub IsNotLimits : RunFault → Type 0
IsNotLimits Limits = ⊥
IsNotLimits Read = Unit {0}
IsNotLimits TooLong = Unit {0}
IsNotLimits Write = Unit {0}
IsNotLimits Memory = Unit {0}

-- The text contains the replies to all of a script's lines except those that are left, and `s` is
-- the session after the answered lines.
pub record HasReplied (store : Store) (script : List ℕ) (s : Session) (left out : List ℕ) : Type 0
  where
    pub lines : List (List ℕ)
    pub is : lines_of script ≡ lines ++ lines_of left
    pub output : Outputs (opening store) lines s out
