-- What holds for each witness.
use Rattle.std.specs.Prelude.{◌≡◌, ℕ, List, [], ◌∷◌, length}
use Rattle.be_table.specs.declared.pass.Commit.{Commit}
use Rattle.be_table.specs.declared.pass.View.{View}
use Rattle.be_table.specs.declared.witness.Witness.TheInside.{Inside}
use Rattle.be_table.specs.Place.{WitnessFacts}
use Rattle.be_table.specs.Rule.{front_of, witnessing}
use Rattle.be_table.specs.Seats.{is_vacant}

abbrev pub front_in : List View → List Commit
front_in [] = []
front_in (v ∷ vs) = front_of v

abbrev pub facts_of : Inside → WitnessFacts
facts_of w = record {
  blank = is_vacant w.badge.views;
  table = w.badge.table_id;
  seen = front_in w.badge.views;
}

-- the seat has a front and no pass, and the number is the front's length
abbrev pub IsAttested : List View → ℕ → Type 0
IsAttested [] commits = Unit {0}
IsAttested (v ∷ vs) commits = ((v ∷ vs) ≡ witnessing (front_of v) ∷ [])
    × (length (front_of v) ≡ commits)

abbrev pub IsWitness : Inside → Type 0
IsWitness w = IsAttested w.badge.views w.commits
