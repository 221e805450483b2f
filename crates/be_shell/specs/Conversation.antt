-- What a conversation is: what is read and written, and in which order.
use Rattle.std.specs.Prelude.{◌≡◌, ◌⊎◌, ℕ, ◌+◌, ◌^◌, Bool, true, false, List, [], ◌∷◌, ◌++◌, length}
use Rattle.std.specs.Prelude.{map, Some, None}
use Rattle.std.specs.declared.option.Option.{Option}
use Rattle.be_script_language.specs.Reply.{Reply, text_of}
use Rattle.be_script_language.specs.Request.{Request, malformed, asked}
use Rattle.be_script_runner.specs.Output.{Session, Serves}
use Rattle.be_script_runner.specs.Run.{IsFrontOf}
use Rattle.be_script_runner.specs.declared.faults.RunFault.{RunFault}
use Rattle.be_script_runner.specs.declared.faults.RunFault.TheVariants.{Limits, Read, TooLong}
use Rattle.be_script_runner.specs.declared.faults.RunFault.TheVariants.{Write, Memory}
use Rattle.be_shell.specs.declared.lines.Line.{Line}
use Rattle.be_shell.specs.declared.lines.Line.TheVariants.{Short, Long}

-- What is read of a line: either its bytes without the LF, or the fact that it has more bytes than
-- are kept.
pub data Heard : Type 0 where
  short_line : List ℕ → Heard
  long_line : Heard

abbrev pub line_heard : Line → Heard
line_heard (Short bytes) = short_line bytes.items
line_heard Long = long_line

-- What can happen between the shell and its peer. A line is read, or there are no more lines, or
-- bytes are written, or what was written is flushed, or something fails, which writes nothing.
pub data Event : Type 0 where
  hears : Heard → Event
  ends : Event
  says : List ℕ → Event
  flushes : Event
  fails : Event

-- The event of reading, given what was read.
abbrev pub hearing : Option Line → Event
hearing None = ends
hearing (Some line) = hears (line_heard line)

-- What a line asks for. A long line is a bad line.
abbrev pub asked_by : Heard → Request
asked_by (short_line line) = asked line
asked_by long_line = malformed

-- The text that can be the reply to a line, and the session after it. For a short line, they are
-- the same as in a script.
abbrev pub RepliedTo : Session → Heard → Session → List ℕ → Type 0
RepliedTo s line after text = (reply : Reply) × Serves s (asked_by line) reply after
    × (text ≡ text_of reply)

-- One line, its whole reply, and the flush.
abbrev pub exchange : Heard → List ℕ → List Event
exchange line reply = hears line ∷ says reply ∷ flushes ∷ []

-- These events are the lines in order, each with its reply before the next line is read, and
-- nothing else.
abbrev pub IsTalk : Session → List Heard → List Event → Session → Type 0
IsTalk s [] events last = (last ≡ s) × (events ≡ [])
IsTalk s (line ∷ lines) events last =
    (after : Session) × (reply : List ℕ) × (rest : List Event) × RepliedTo s line after reply
    × IsTalk after lines rest last × (events ≡ exchange line reply ++ rest)

-- The events happen one after another and take a peer from the first state to the last. Each peer
-- defines what an event does.
abbrev pub Happens : {P : Type 0} → (P → Event → P → Type 0) → P → List Event → P → Type 0
Happens does p [] q = q ≡ p
Happens {P} does p (event ∷ events) q = (mid : P) × does p event mid × Happens does mid events q

-- This many lines of a peer were read and answered, and the session and the peer changed as stated.
abbrev pub SoFar : {P : Type 0} → (P → Event → P → Type 0) → Session → P → ℕ → Session → P → Type 0
SoFar does s p count mid q = (lines : List Heard) × (talk : List Event) × IsTalk s lines talk mid
    × Happens does p talk q × (length lines ≡ count)

-- The conversation with a peer went on until the peer had no more lines.
abbrev pub TalkedTo : {P : Type 0} → (P → Event → P → Type 0) → Session → P → Session → P → Type 0
TalkedTo does s p last q = (lines : List Heard) × (talk : List Event) × IsTalk s lines talk last
    × Happens does p (talk ++ ends ∷ []) q

-- There was one exchange, or none if there were no more lines.
abbrev pub Went : {P : Type 0} → (P → Event → P → Type 0) → Session → P → Bool → Session → P
    → Type 0
Went does s p true after q = (line : Heard) × (reply : List ℕ) × RepliedTo s line after reply
    × Happens does p (exchange line reply) q
Went does s p false after q = (after ≡ s) × Happens does p (ends ∷ []) q

-- A reply was cut off. Either only the first part of it was written, or all of it was written and
-- the flush failed.
abbrev pub IsCut : List ℕ → List Event → Type 0
IsCut reply events = ((front : List ℕ) × IsFrontOf reply front × (events ≡ says front ∷ []))
    ⊎ (events ≡ says reply ∷ fails ∷ [])

-- A fault while reading a line is one of the reader or of memory.
abbrev pub IsDeaf : RunFault → Type 0
IsDeaf Limits = ⊥
IsDeaf Read = Unit {0}
IsDeaf TooLong = ⊥
IsDeaf Write = ⊥
IsDeaf Memory = Unit {0}

-- What a fault leaves of an exchange. Either no line was read, or a line was read but nothing was
-- written because memory ran out, or the reply to the line was cut off.
abbrev pub IsBroken : RunFault → Session → List Event → Type 0
IsBroken Limits s events = ⊥
IsBroken Read s events = events ≡ fails ∷ []
IsBroken TooLong s events = ⊥
IsBroken Write s events =
    (line : Heard) × (after : Session) × (reply : List ℕ) × (cut : List Event)
    × RepliedTo s line after reply × IsCut reply cut × (events ≡ hears line ∷ cut)
IsBroken Memory s events = (events ≡ fails ∷ []) ⊎ ((line : Heard) × (events ≡ hears line ∷ []))

-- A fault interrupted an exchange, or, in the definition below, interrupted it after the line was
-- read.
abbrev pub Broke : {P : Type 0} → (P → Event → P → Type 0) → RunFault → Session → P → P → Type 0
Broke does e s p q = (broken : List Event) × IsBroken e s broken × Happens does p broken q

abbrev pub BrokeAfter : {P : Type 0} → (P → Event → P → Type 0) → RunFault → Session → Heard → P
    → P → Type 0
BrokeAfter does e s line p q = (broken : List Event) × IsBroken e s (hears line ∷ broken)
    × Happens does p broken q

-- What ends a conversation after these lines. Either a fault interrupted an exchange, or the fault
-- is Read after 2^64 - 1 lines, the maximum that can be counted.
abbrev pub IsCutShort : RunFault → Session → List Heard → List Event → Type 0
IsCutShort e s lines events = IsBroken e s events
    ⊎ ((e ≡ Read) × (length lines + 1 ≡ 2 ^ 64) × (events ≡ []))

-- The conversation with a peer went on until a fault. Nothing is written after the fault.
abbrev pub BrokeOff : {P : Type 0} → (P → Event → P → Type 0) → RunFault → Session → P → P → Type 0
BrokeOff does e s p q =
    (lines : List Heard) × (talk : List Event) × (mid : Session) × (broken : List Event)
    × IsTalk s lines talk mid × IsCutShort e mid lines broken
    × Happens does p (talk ++ broken) q

-- A fault before the store was opened.
abbrev pub IsUnopened : RunFault → Type 0
IsUnopened Limits = Unit {0}
IsUnopened Read = ⊥
IsUnopened TooLong = ⊥
IsUnopened Write = ⊥
IsUnopened Memory = Unit {0}

-- What a fault leaves of two conversations, one after the other. Either no store was opened, or the
-- first conversation was interrupted and the second peer is unchanged, or the second conversation
-- was interrupted.
abbrev pub ShellLeaves : {P Q : Type 0} → (P → Event → P → Type 0) → (Q → Event → Q → Type 0)
    → RunFault → Session → P → P → Q → Q → Type 0
ShellLeaves first second e s p p' q q' =
    (IsUnopened e × (p' ≡ p) × (q' ≡ q)) ⊎ (BrokeOff first e s p p' × (q' ≡ q))
    ⊎ ((mid : Session) × TalkedTo first s p mid p' × BrokeOff second e mid q q')

-- Everything that is written by the events.
abbrev pub said : List Event → List ℕ
said [] = []
said (hears line ∷ events) = said events
said (ends ∷ events) = said events
said (says bytes ∷ events) = bytes ++ said events
said (flushes ∷ events) = said events
said (fails ∷ events) = said events

-- The lines, read as they are.
abbrev pub all_short : List (List ℕ) → List Heard
all_short lines = map short_line lines
