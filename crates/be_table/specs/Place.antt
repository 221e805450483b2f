-- What contracts see of a seat, a witness, a table and an open write.
use Rattle.std.specs.Prelude.{Bool, ℕ, List}
use Rattle.atomic_table.specs.Seated.{TableId}
use Rattle.be_table.specs.Setting.{Setting as Limits}
use Rattle.be_table.specs.declared.pass.Commit.{Commit}
use Rattle.be_table.specs.declared.pass.Knowledge.{Knowledge}

-- a seat: its table, and what its pass knows; a blank seat has no pass
pub record SeatFacts : Type 0 where
  pub blank : Bool
  pub table : TableId
  pub knows : Knowledge

-- a witness: its table, and the prefix of the journal that was seen; a blank witness has none
pub record WitnessFacts : Type 0 where
  pub blank : Bool
  pub table : TableId
  pub seen : List Commit

pub record Opened : Type 0 where
  pub id : TableId
  pub limits : Limits

-- An open write: its table, what its pass knows, the number of operations for which one entry has
-- room (or 0), and the number of pages that the last whole scan left retired.
pub record Work : Type 0 where
  pub table : Opened
  pub knows : Knowledge
  pub reserved : ℕ
  pub left : ℕ

-- a pass that reads the version to which it is pinned
pub record Pin : Type 0 where
  pub table : Opened
  pub knows : Knowledge
