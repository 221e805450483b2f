-- Live queries, and how their answers change.
use Rattle.std.specs.Prelude.{◌≡◌, ◌==◌, ℕ, List, Bool, true, false, not, filter, Ok, refl, IfSome}
use Rattle.std.specs.Coded.{Coded, code_by, coded_ℕ, coded_list, coded×, coded_option}
use Rattle.std.specs.List.{list_any}
use Rattle.std.specs.declared.option.Option.{Option}
use Rattle.atomic_table.specs.Seated.{table_id_coded}
use Rattle.be_query.specs.Coded.{coded_formula}
use Rattle.be_query.specs.Grammar.{Formula}
use Rattle.be_table.specs.Place.{Opened}
use Rattle.be_table.specs.Setting.{coded_setting}
use Rattle.be_volume.specs.Query.{covered, sat, scan}
use Rattle.be_volume.specs.Volume.{State}

-- A query and its answer at the last refresh. If the query remembers what was known at that
-- refresh, it also has the store in which it was refreshed.
pub record LiveQuery : Type 0 where
  pub query : Formula
  pub last : List ℕ
  pub table : Option Opened

abbrev pub coded_opened : Coded Opened
coded_opened = code_by _ (coded× table_id_coded coded_setting) (λ t. (t.id, t.limits))
    (λ p. record { id = p.0; limits = p.1 }) (λ _. refl)

abbrev pub coded_live : Coded LiveQuery
coded_live = code_by _
    (coded× coded_formula (coded× (coded_list coded_ℕ) (coded_option coded_opened)))
    (λ l. (l.query, (l.last, l.table)))
    (λ p. record { query = p.0; last = p.1.0; table = p.1.1 }) (λ _. refl)

-- What the query remembers from its last refresh belongs to this store.
abbrev pub IsLiveOf : Opened → LiveQuery → Type 0
IsLiveOf store live = IfSome live.table (λ table. table ≡ store)

abbrev pub is_among : List ℕ → ℕ → Bool
is_among numbers n = list_any (λ m. m == n) numbers

-- The numbers that aren't among the others, in order.
abbrev pub without : List ℕ → List ℕ → List ℕ
without numbers others = filter (λ n. not (is_among others n)) numbers

-- The indices cover the query, and the list has exactly the nodes that match it.
abbrev pub IsAnswer : State → Formula → List ℕ → Type 0
IsAnswer s f list = (covered s f ≡ true) × ((n : ℕ) → is_among list n ≡ sat s f n)

-- The indices cover the query, and the list is right about all nodes except possibly these.
abbrev pub IsAnswerBut : List ℕ → State → Formula → List ℕ → Type 0
IsAnswerBut nodes s f list = (covered s f ≡ true)
    × ((n : ℕ) → is_among nodes n ≡ false → is_among list n ≡ sat s f n)

-- The new answer is now the last one. The created nodes are in the new answer but weren't in the
-- old one, and the removed nodes were in the old answer but aren't in the new one.
pub record Refreshes (volume : State) (old new : LiveQuery) (came went : List ℕ) : Type 0 where
  pub query : new.query ≡ old.query
  pub answer : scan volume old.query ≡ Ok new.last
  pub created : came ≡ without new.last old.last
  pub removed : went ≡ without old.last new.last
