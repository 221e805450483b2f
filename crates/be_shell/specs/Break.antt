-- A reader in which a byte 3, which Ctrl-C types, also ends a line.
use Rattle.std.specs.Prelude.{ℕ, Bool, true, false, List, [], ◌∷◌, nat_eq, if◌then◌else◌}
use Rattle.std.specs.Prelude.{option_map}
use Rattle.std.specs.declared.option.Option.{Option}
use Rattle.be_shell.specs.declared.breaks.Breaking.{Breaking}

-- The bytes with an LF after each byte 3.
abbrev pub broken : List ℕ → List ℕ
broken [] = []
broken (c ∷ bytes) = if nat_eq c 3 then 3 ∷ 10 ∷ broken bytes else c ∷ broken bytes

-- The bytes with an LF after each byte 3, preceded by an LF if one is still owed for an earlier
-- byte 3.
abbrev pub owed : Bool → List ℕ → List ℕ
owed true bytes = 10 ∷ broken bytes
owed false bytes = broken bytes

-- What is left in this reader, given what is left in the underlying reader.
abbrev pub breaks_left : {R : Type 0} → (R → Option (List ℕ)) → Breaking R → Option (List ℕ)
breaks_left remaining s = option_map (owed s.owes_lf) (remaining s.reader)
