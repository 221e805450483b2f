-- A peer at a terminal.
use Rattle.std.specs.Prelude.{◌≡◌, ◌⊎◌, Bool, true, []}
use Rattle.be_shell.specs.Aside.{typed_of}
use Rattle.be_shell.specs.Conversation.{Event, Heard, hears, ends, says, flushes, fails, short_line}
use Rattle.be_shell.specs.Conversation.{long_line}
use Rattle.be_shell.specs.declared.asides.Aside.{Aside}
use Rattle.be_shell.specs.declared.asides.Aside.TheVariants.{Nothing, Cut, Quit, Read}

-- What a typed line asks of the terminal.
abbrev pub asks_of : Heard → Aside
asks_of (short_line line) = typed_of line
asks_of long_line = Cut

-- A line as the shell sees it. If the line is for the store, this is the line itself. Otherwise it
-- is an empty line, or the end.
abbrev pub passed_on : Heard → Aside → Event
passed_on line Nothing = hears line
passed_on line Quit = ends
passed_on line aside = hears (short_line [])

-- An event of the underlying peer, as the shell sees it.
abbrev pub passes : Event → Event
passes (hears line) = passed_on line (asks_of line)
passes ends = ends
passes (says bytes) = says bytes
passes flushes = flushes
passes fails = fails

-- The event asks to read a file.
abbrev pub IsReading : Event → Type 0
IsReading (hears line) = asks_of line ≡ Read
IsReading ends = ⊥
IsReading (says bytes) = ⊥
IsReading flushes = ⊥
IsReading fails = ⊥

-- The event can come from a file, which is the case for a line and for the end of the shell.
abbrev pub IsOfFile : Event → Type 0
IsOfFile (hears line) = Unit {0}
IsOfFile ends = Unit {0}
IsOfFile (says bytes) = ⊥
IsOfFile flushes = ⊥
IsOfFile fails = ⊥

-- What an event at a terminal means for the underlying peer, and whether a file is being read
-- before and after it. Either it is an event of the underlying peer, as the shell sees it, and only
-- a `read` line starts reading a file. Or a file is being read, and the event comes from the file.
abbrev pub asks : {P : Type 0} → (P → Event → P → Type 0) → P → Bool → Event → P → Bool → Type 0
asks does p reads event q reads' =
    ((below : Event) × (event ≡ passes below) × does p below q
    × (reads' ≡ true → (reads ≡ true) ⊎ IsReading below))
    ⊎ ((reads ≡ true) × (q ≡ p) × IsOfFile event)
