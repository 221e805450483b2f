-- What calls do to a witness's handle.
use Rattle.std.specs.Prelude.{◌≡◌, ℕ, Option, None, Some}
use Rattle.be_session.specs.Sitting.{Joins, Sitting}
use Rattle.be_table.specs.Place.{WitnessFacts}
use Rattle.be_table.specs.Rule.{one_step_on}
use Rattle.be_table.specs.Works.{IsWitnessOf}
use Rattle.bestore_c.specs.Calls.{IsClosed}

-- Making a witness. If the handle is open, it is unchanged, and the call returns 65. A closed
-- handle gets a witness of the session's store that has seen what the session has seen. The handle
-- stays closed if memory runs out. The pass makes no move.
abbrev pub Vouches : Sitting → Sitting → Option WitnessFacts → Option WitnessFacts → ℕ → Type 0
Vouches s t (Some w) (Some v) code = (code ≡ 65) × (v ≡ w) × (t ≡ s)
Vouches s t (Some w) None code = ⊥
Vouches s t None (Some v) code = (code ≡ 0) × IsWitnessOf s.store v × (v.seen ≡ s.knows.seen)
    × (t.knows ≡ one_step_on s.knows)
Vouches s t None None code = (code ≡ 10) × (t.knows ≡ one_step_on s.knows)

-- If both handles are open, the witness is of the session's store.
abbrev pub AreOfOneStore : Option Sitting → Option WitnessFacts → Type 0
AreOfOneStore None o = Unit {0}
AreOfOneStore (Some s) None = Unit {0}
AreOfOneStore (Some s) (Some w) = IsWitnessOf s.store w

-- Joining a witness. If its handle is closed, it stays closed, and nothing happens. Otherwise it
-- stays open, with a witness of the same store. Afterwards the session and the witness have seen
-- what either had seen, and the number is how many journal entries that is.
abbrev pub JoinsWitness : Sitting → Sitting → Option WitnessFacts → Option WitnessFacts → ℕ → ℕ
    → Type 0
JoinsWitness s t None None number code = IsClosed number code × (t ≡ s)
JoinsWitness s t None (Some v) number code = ⊥
JoinsWitness s t (Some w) None number code = ⊥
JoinsWitness s t (Some w) (Some v) number code =
    (code ≡ 0) × IsWitnessOf s.store v × Joins s.knows w.seen t.knows v.seen number
