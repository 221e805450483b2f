-- The main statement: one journal explains the steps of several passes, and what each could read in
-- between.
use Rattle.std.specs.Prelude.{◌≡◌, ◌≢◌, ◌≤◌, ◌⊎◌, ℕ, suc, List, [], ◌∷◌, ◌++◌, All, AllPairs}
use Rattle.std.specs.Prelude.{length, take, map, slice_get, Some, IfSome}
use Rattle.be_table.specs.History.{StartsWith}
use Rattle.be_store.specs.SmallMachine.{Object, PassView, Step, Apply, Learn, Pin, Unpin, Read}
use Rattle.be_store.specs.SmallMachine.{AreSteps, IsLegalFor, entries_by, first_view, state_of}

-- The steps of one pass starting from its first view, each with the view after it.
pub record PassRun (o : Object) : Type 0 where
  pub number : ℕ
  pub first : o.State
  pub steps : List (Step o × PassView o)
  pub last : PassView o
  pub run : AreSteps o (first_view o first number) steps last

-- The steps of a run, without the views.
abbrev pub steps_of : (o : Object) → PassRun o → List (Step o)
steps_of o r = map (λ (x : Step o × PassView o). x.0) r.steps

-- The views after the steps of a run.
abbrev pub views_of : (o : Object) → PassRun o → List (PassView o)
views_of o r = map (λ (x : Step o × PassView o). x.1) r.steps

-- What the journal says about a step that was made from the view a. A write that returned the
-- number n is the n-th entry, counting from 1. What a call learned is a prefix of the journal that
-- begins with everything its pass had seen, and so is what a pin names. A read returns the answer
-- of the state after the pin's prefix.
abbrev pub IsKept : (o : Object) → List o.Entry → PassView o → Step o → Type 0
IsKept o journal a (Apply e n) = (i : ℕ) × (n ≡ suc i) × (slice_get journal i ≡ Some e)
IsKept o journal a (Learn log) = StartsWith journal log × StartsWith log a.seen
IsKept o journal a (Pin n) = (n ≤ length journal) × StartsWith (take n journal) a.seen
IsKept o journal a Unpin = Unit {0}
IsKept o journal a (Read q r) = (n : ℕ) × (a.pin ≡ Some n)
    × IfSome r (λ x. x ≡ o.answer q (state_of o a.first (take n journal)))

-- If a pass with this view is pinned to n, the first n entries that it has seen are those of the
-- journal. Each of its reads is therefore of the object after a prefix of the journal, even if the
-- read is not among the steps, because the contract of a read refers to those entries.
abbrev pub ReadsPrefix : (o : Object) → List o.Entry → PassView o → Type 0
ReadsPrefix o journal a = (n : ℕ) → a.pin ≡ Some n → take n a.seen ≡ take n journal

-- `IsKept` holds for each step of a run from the view a, and `ReadsPrefix` for the view after each
-- step.
abbrev pub AreKept : (o : Object) → List o.Entry → PassView o → List (Step o × PassView o) → Type 0
AreKept o journal a [] = Unit {0}
AreKept o journal a (x ∷ rest) = IsKept o journal a x.0 × ReadsPrefix o journal x.1
    × AreKept o journal x.1 rest

-- The entries that a step has written, in order.
abbrev pub written_by : (o : Object) → Step o → List o.Entry
written_by o (Apply e n) = e ∷ []
written_by o (Learn log) = []
written_by o (Pin n) = []
written_by o Unpin = []
written_by o (Read q r) = []

abbrev pub written : (o : Object) → List (Step o × PassView o) → List o.Entry
written o [] = []
written o (x ∷ rest) = written_by o x.0 ++ written o rest

-- One of these runs belongs to the pass k.
abbrev pub HasRun : (o : Object) → List (PassRun o) → ℕ → Type 0
HasRun o [] k = ⊥
HasRun o (r ∷ runs) k = (r.number ≡ k) ⊎ HasRun o runs k

-- The journal is a legal history of the object that begins with this state, and so do the runs.
-- They belong to different passes, each of which has seen a prefix of the journal at the end. The
-- journal contains the writes of each run exactly once, in the order of its steps, and no others.
-- It determines what each step returned, and which entries the pass could read between its steps.
pub record IsOneHistory (o : Object) (first : o.State) (journal : List o.Entry)
    (runs : List (PassRun o)) : Type 0 where
  pub legal : IsLegalFor o first journal
  pub begins : All (λ (r : PassRun o). r.first ≡ first) runs
  pub apart : AllPairs ◌≢◌ (map (λ (r : PassRun o). r.number) runs)
  pub authors : All (λ (e : o.Entry). HasRun o runs (o.by e)) journal
  pub writes : All (λ (r : PassRun o). entries_by o r.number journal ≡ written o r.steps) runs
  pub kept : All (λ (r : PassRun o). AreKept o journal (first_view o r.first r.number) r.steps) runs
  pub seen : All (λ (r : PassRun o). StartsWith journal r.last.seen) runs
