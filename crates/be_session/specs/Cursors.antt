-- Positions in an order, as other languages hold them.
use Rattle.std.specs.Prelude.{◌≡◌, ◌⊎◌, ◌≤◌, ◌==◌, ℕ, List, None, Some, length, take}
use Rattle.std.specs.Prelude.{if◌then◌else◌}
use Rattle.std.specs.declared.option.Option.{Option}
use Rattle.be_value.specs.Value.{code_of}
use Rattle.be_value.specs.declared.values.Kind.{Kind}
use Rattle.be_session.specs.declared.cursors.Cursor.{Cursor}

-- The key of the cursor's position, or none at the beginning.
abbrev pub cursor_key : Cursor → Option (List ℕ)
cursor_key c = if c.length == 0 then None else Some (take c.length c.key)

-- The cursor is at the beginning, or it has a key of 8 to 264 bytes from an index of this kind.
abbrev pub IsCursorOf : Kind → Cursor → Type 0
IsCursorOf kind c = ((c.kind ≡ 0) × (c.length ≡ 0))
    ⊎ ((c.kind ≡ code_of kind) × (8 ≤ c.length) × (c.length ≤ 264))

-- If there is a key, it has at least the bytes of a node.
abbrev pub IsLong : Option (List ℕ) → Type 0
IsLong None = Unit {0}
IsLong (Some k) = 8 ≤ length k
