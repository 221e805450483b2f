-- A small machine in which passes write to one journal of a sequential object, and read prefixes of
-- the journal. `Calls.antt` says which step each call of a store is.
use Rattle.std.specs.Prelude.{◌≡◌, ◌≢◌, ◌<◌, ◌⊎◌, ℕ, List, [], ◌∷◌, ◌++◌, All, AllPairs, length}
use Rattle.std.specs.Prelude.{map, take, get_or, fold, filter, nat_eq, Option, Some, None, IfSome}
use Rattle.be_table.specs.History.{StartsWith}

-- A sequential object and the entries of its journal. An entry is one pass's write with its
-- outcomes. `Accepts s e` says that the object in the state s accepts the write and returns these
-- outcomes, `after s e` is its state afterwards, and `answer q s` is its answer to the question q.
pub record Object : Type 1 where
  pub State : Type 0
  pub Entry : Type 0
  pub Question : Type 0
  pub Answer : Type 0
  pub by : Entry → ℕ
  pub Accepts : State → Entry → Type 0
  pub after : State → Entry → State
  pub answer : Question → State → Answer

-- The state after these entries, applied in order to the first state.
abbrev pub state_of : (o : Object) → o.State → List o.Entry → o.State
state_of o first log = fold (λ s e. o.after s e) first log

-- From the first state on, the object accepts each entry in the state after the entries before it.
-- The entry at position i, counting from 0, is `get_or log i e` for any e.
abbrev pub IsLegalFor : (o : Object) → o.State → List o.Entry → Type 0
IsLegalFor o first log = (i : ℕ) (e : o.Entry) → i < length log → e ≡ get_or log i e
    → o.Accepts (state_of o first (take i log)) e

-- The entries by the pass k, in order.
abbrev pub entries_by : (o : Object) → ℕ → List o.Entry → List o.Entry
entries_by o k log = filter (λ e. nat_eq (o.by e) k) log

-- What a pass knows: its number, the object's state before the first entry, the prefix of the
-- journal that it has seen, its own entries, and, if it is pinned, the number of entries to which
-- it is pinned.
pub record PassView (o : Object) : Type 0 where
  pub number : ℕ
  pub first : o.State
  pub seen : List o.Entry
  pub mine : List o.Entry
  pub pin : Option ℕ

-- What the pass k knows at first.
abbrev pub first_view : (o : Object) → o.State → ℕ → PassView o
first_view o first k = record { number = k; first = first; seen = []; mine = []; pin = None }

-- What a call does and returns.
pub data Step (o : Object) : Type 0 where
  -- An accepted write, with its entry and the number that it returned.
  Apply : o.Entry → ℕ → Step o
  -- A call that asks nothing of the object: a refused write, a meeting, or a look at the journal.
  -- Its pass has then seen these entries. What the call returns about them, or why the write is
  -- refused, is stated in the call's contract and not here.
  Learn : List o.Entry → Step o
  -- A pin that returned this number. The contracts of these calls, though not this definition,
  -- require that a pass pins only while it isn't pinned, and unpins only while it is.
  Pin : ℕ → Step o
  Unpin : Step o
  -- A read at the pin, with the question and the answer that it returned, unless memory ran out.
  Read : o.Question → Option o.Answer → Step o

-- A step of a pass from the view a to the view c. Other passes write between its steps, and the
-- pass learns of that only at its next step. This definition doesn't rule out that the others'
-- entries are by this pass. `Closes` does, because the journal then has no entries by a pass except
-- those in its `mine`.
abbrev pub Leads : (o : Object) → PassView o → Step o → PassView o → Type 0
Leads o a (Apply e n) c =
    (others : List o.Entry) × (o.by e ≡ a.number)
    × o.Accepts (state_of o a.first (a.seen ++ others)) e
    × (c ≡ record a { seen = (a.seen ++ others) ++ e ∷ []; mine = a.mine ++ e ∷ [] })
    × (n ≡ length c.seen)
Leads o a (Learn log) c = (others : List o.Entry) × (c ≡ record a { seen = a.seen ++ others })
    × (log ≡ c.seen)
Leads o a (Pin n) c = (others : List o.Entry)
    × (c ≡ record a { seen = a.seen ++ others; pin = Some n }) × (n ≡ length c.seen)
Leads o a Unpin c = c ≡ record a { pin = None }
Leads o a (Read q r) c = (n : ℕ) × (a.pin ≡ Some n)
    × IfSome r (λ x. x ≡ o.answer q (state_of o a.first (take n a.seen))) × (c ≡ a)

-- The steps of one pass from the view a, each with the view after it, lead to the view z.
abbrev pub AreSteps : (o : Object) → PassView o → List (Step o × PassView o) → PassView o → Type 0
AreSteps o a [] z = a ≡ z
AreSteps o a (x ∷ rest) z = Leads o a x.0 x.1 × AreSteps o x.1 rest z

-- One of these views belongs to the pass k.
abbrev pub HasNumber : (o : Object) → List (PassView o) → ℕ → Type 0
HasNumber o [] k = ⊥
HasNumber o (z ∷ views) k = (z.number ≡ k) ⊎ HasNumber o views k

-- At the end, the passes with these views close the store and get this journal. No two views belong
-- to the same pass. Each entry is by one of these passes. The journal begins with what each pass
-- has seen, and its entries by each pass are exactly that pass's own entries. All passes know the
-- same first state. `IsClosed` says that these are all passes of the store. The definitions above
-- say nothing about two passes together.
pub record Closes (o : Object) (start : o.State) (journal : List o.Entry)
    (views : List (PassView o)) : Type 0 where
  pub first : All (λ (z : PassView o). z.first ≡ start) views
  pub apart : AllPairs ◌≢◌ (map (λ (z : PassView o). z.number) views)
  pub authors : All (λ (e : o.Entry). HasNumber o views (o.by e)) journal
  pub seen : All (λ (z : PassView o). StartsWith journal z.seen) views
  pub mine : All (λ (z : PassView o). entries_by o z.number journal ≡ z.mine) views
