-- How a conversation changes the bytes that are left in a reader and the bytes in a writer, if they
-- are known.
use Rattle.std.specs.Prelude.{◌≡◌, ◌⊎◌, ◌≤◌, ◌<◌, ℕ, false, All, List, [], ◌∷◌, ◌++◌, length, Some}
use Rattle.std.specs.Prelude.{None}
use Rattle.std.specs.Io.KnownBytes.{Appends, Consumes, IsAtEnd, Keeps}
use Rattle.std.specs.declared.option.Option.{Option}
use Rattle.be_script_runner.specs.Output.{Session, IsOutputTo}
use Rattle.be_script_runner.specs.Run.{is_line_end}
use Rattle.be_script_runner.specs.Store.{Store}
use Rattle.be_shell.specs.Conversation.{Heard, short_line, long_line, Event, hears, ends, says}
use Rattle.be_shell.specs.Conversation.{flushes, fails}
use Rattle.be_shell.specs.declared.ends.Ends.{Ends}

-- None of the bytes ends a line.
abbrev pub IsWithinLine : List ℕ → Type 0
IsWithinLine bytes = All (λ c. is_line_end c ≡ false) bytes

-- What is read of a line with these bytes: either all of them, or the fact that there are more than
-- 65,536.
abbrev pub IsHeardOf : List ℕ → Heard → Type 0
IsHeardOf bytes (short_line line) = (bytes ≡ line) × (length bytes ≤ 65536)
IsHeardOf bytes long_line = 65536 < length bytes

-- A line was taken from the front. It consists of its bytes and the LF after them, or of everything
-- that was left if there is no LF.
pub record TakesLine (old new : Option (List ℕ)) (line : Heard) : Type 0 where
  pub bytes : List ℕ
  pub within : IsWithinLine bytes
  pub heard : IsHeardOf bytes line
  pub taken : Consumes old new (bytes ++ 10 ∷ [])
      ⊎ ((1 ≤ length bytes) × Consumes old new bytes × IsAtEnd new)

-- What is left after one byte was read, or after the end was reached.
abbrev pub TakesByte : Option (List ℕ) → Option (List ℕ) → Option ℕ → Type 0
TakesByte old new (Some byte) = Consumes old new (byte ∷ [])
TakesByte old new None = Consumes old new [] × IsAtEnd new

-- What has been taken of a line if these bytes of it were kept. If at most 65,536 bytes were kept,
-- they are everything that was taken. Otherwise the line is longer than that.
pub record HasTaken (old new : Option (List ℕ)) (kept : List ℕ) : Type 0 where
  pub bytes : List ℕ
  pub within : IsWithinLine bytes
  pub taken : Consumes old new bytes
  pub whole : length kept ≤ 65536 → bytes ≡ kept
  pub long : 65536 < length kept → 65536 < length bytes

-- Either a line was read, or there are no more lines.
abbrev pub Hears : Option (List ℕ) → Option (List ℕ) → Event → Type 0
Hears old new (hears line) = TakesLine old new line
Hears old new ends = Consumes old new [] × IsAtEnd new
Hears old new (says bytes) = ⊥
Hears old new flushes = ⊥
Hears old new fails = ⊥

-- How an event changes what is left to read and what has been written.
abbrev pub ChangesBytes : Option (List ℕ) → Option (List ℕ) → Option (List ℕ) → Option (List ℕ)
    → Event → Type 0
ChangesBytes left left' reported reported' (hears line) = TakesLine left left' line
    × (reported' ≡ reported)
ChangesBytes left left' reported reported' ends = (Consumes left left' [] × IsAtEnd left')
    × (reported' ≡ reported)
ChangesBytes left left' reported reported' (says bytes) = (left' ≡ left)
    × Appends reported reported' bytes
ChangesBytes left left' reported reported' flushes = (left' ≡ left) × Keeps reported reported'
ChangesBytes left left' reported reported' fails = Keeps reported reported'

-- How an event changes what is left in a reader and what has been written to a writer.
abbrev pub ends_do : {R W : Type 0} → (R → Option (List ℕ)) → (W → Option (List ℕ)) → Ends R W
    → Event → Ends R W → Type 0
ends_do remaining contents old event new = ChangesBytes (remaining old.reader)
    (remaining new.reader) (contents old.writer) (contents new.writer) event

-- A peer that consists of the bytes that are left to read and the bytes that have been written.
pub record Known : Type 0 where
  pub left : Option (List ℕ)
  pub reported : Option (List ℕ)

abbrev pub knows : List ℕ → List ℕ → Known
knows left reported = record { left = Some left; reported = Some reported }

abbrev pub known_do : Known → Event → Known → Type 0
known_do old event new = ChangesBytes old.left new.left old.reported new.reported event

-- No line is long.
abbrev pub AreShort : List (List ℕ) → Type 0
AreShort lines = All (λ line. length line ≤ 65536) lines

-- The whole script was read, and what was written is an output of it.
pub record IsWhole (store : Store) (script reported : List ℕ) (last : Session) (end : Known) : Type
    0
  where
    pub out : List ℕ
    pub said : end.reported ≡ Some (reported ++ out)
    pub output : IsOutputTo store script last.store out
