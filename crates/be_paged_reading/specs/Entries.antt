-- The entries of a version, with the root of one of them replaced.
use Rattle.std.specs.Prelude.{ℕ, suc, List, ◌∷◌, ◌++◌, take, drop}
use Rattle.be_paged_reading.specs.Entry.{Entry}

-- The entries, with this root for entry e, which is at position i.
abbrev pub with_root : List Entry → ℕ → Entry → ℕ → List Entry
with_root es i e root = take i es ++ record { name = e.name; kind = e.kind; root = root }
    ∷ drop (suc i) es
