-- What holds for every table and every open write, and what the calls promise.
use Rattle.std.specs.Prelude.{◌≡◌, ◌≢◌, ◌⊎◌, ℕ, suc, ◌+◌, ◌<◌, false, List, [], ◌∷◌, length, map}
use Rattle.std.specs.Prelude.{count_by, zero, IsTrue}
use Rattle.atomic_table.specs.Seated.{TableId}
use Rattle.be_journal.specs.declared.entries.Entry.{Entry}
use Rattle.be_table.specs.declared.limits.Limits.{Limits}
use Rattle.be_table.specs.Setting.{Setting, IsPossible, IsWithin, AreBad, largest_pool}
use Rattle.be_table.specs.declared.pass.Commit.{Commit}
use Rattle.be_table.specs.declared.pass.Knowledge.{Knowledge}
use Rattle.be_table.specs.declared.pass.Move.{Move}
use Rattle.be_table.specs.declared.pass.Move.TheVariants.{Look, LookAgain, Lock}
use Rattle.be_core.specs.Machine.{World, has}
use Rattle.be_core.specs.declared.event.Phase.TheVariants.{Announced}
use Rattle.be_value.specs.declared.refusals.Refusal.{Refusal}
use Rattle.be_value.specs.declared.refusals.Refusal.TheVariants.{Busy, CommitsSpent, OutOfMemory}
use Rattle.be_value.specs.declared.refusals.Refusal.TheVariants.{BadLimits}
use Rattle.be_table.specs.History.{StartsWith}
use Rattle.be_pages.specs.declared.page_pool.Place.TheVariants.{Free}
use Rattle.be_pages.specs.Place.{undone_place, swept_place, place_of, is_in_hand, is_retired}
use Rattle.be_table.specs.Place.{SeatFacts, WitnessFacts, Opened, Work}
use Rattle.be_table.specs.Reading.{page_state_among, word_of_page}
use Rattle.be_table.specs.Versions.{at_start, EncodesVolume}
use Rattle.be_journal.specs.Journal.{replay_from}
use Rattle.be_table.specs.Trace.{AllRest, Makes, RunsTo, upto_lock}
use Rattle.be_table.specs.Rule.{Reaches, entries, page_at, reach_at, newcomer}
use Rattle.be_table.specs.Rule.{announce_word}
use Rattle.be_table.specs.Steps.{Has, AllIdle, KeepsSeen, IsPass, looks, finds_held, takes_lock}
use Rattle.be_table.specs.Steps.{pins, takes_page, take_moves, scans_all, IsLowestAnnounced}
use Rattle.be_table.specs.Steps.{IsOwnLowest, pages_from, UnreachedAreFree, NoCommitReaches}
use Rattle.be_table.specs.Steps.{AreFound, scans_of, with_history, fills_word, fill_moves, met}

-- a seat of this table
abbrev pub IsSeatOf : Opened → SeatFacts → Type 0
IsSeatOf t s = (s.blank ≡ false) × (s.table ≡ t.id) × (s.knows.limits ≡ t.limits)

-- a witness of this table
abbrev pub IsWitnessOf : Opened → WitnessFacts → Type 0
IsWitnessOf t w = (w.blank ≡ false) × (w.table ≡ t.id)

-- new seats of this table, for passes numbered from k that have seen nothing
abbrev pub AreNewAt : TableId → Setting → ℕ → List SeatFacts → Type 0
AreNewAt id limits k [] = Unit {0}
AreNewAt id limits k (s ∷ ss) = ((s.blank ≡ false) × (s.table ≡ id)
    × (s.knows ≡ newcomer limits (k + 1) k)) × AreNewAt id limits (k + 1) ss

abbrev pub AreNew : Opened → ℕ → List SeatFacts → Type 0
AreNew t k ss = AreNewAt t.id t.limits k ss

-- seats of the table
abbrev pub AllAt : TableId → List SeatFacts → Type 0
AllAt id [] = Unit {0}
AllAt id (s ∷ ss) = ((s.blank ≡ false) × (s.table ≡ id)) × AllAt id ss

abbrev pub knows_of : SeatFacts → Knowledge
knows_of s = s.knows

-- between a and c the pass has made these moves in this order, and the machine is then as the pass
-- knows it
pub record Moves (a : Knowledge) (own : List Move) (c : Knowledge) : Type 0 where
  pub made : Makes a.number a.history own c.history
  pub at : Reaches c (λ w. Unit {0})

-- as in `Moves`, and the pass has seen the journal up to the current number
pub record MovesNow (a : Knowledge) (own : List Move) (c : Knowledge) : Type 0 where
  pub made : Makes a.number a.history own c.history
  pub at : Reaches c (λ w. w.current ≡ length c.seen)

-- the pass has looked, and the journal that it has now seen contains what it had seen before
pub record SeesMore (a c : Knowledge) : Type 0 where
  pub more : StartsWith c.seen a.seen
  pub moves : MovesNow a (Look a.number ∷ []) c
  pub same : c ≡ looks (with_history a c.history) c.seen
  pub pass : IsPass c

-- as in `SeesMore`, and the pass now holds the lock
pub record TakesLock (a c : Knowledge) : Type 0 where
  pub before : IsPass a
  pub more : StartsWith c.seen a.seen
  pub moves : Moves a (Lock a.number ∷ []) c
  pub same : c ≡ takes_lock (with_history a c.history) c.seen c.places c.words
  pub idle : map undone_place c.places ≡ c.places
  pub begun : (q : ℕ) → page_state_among c.places q
      ≡ at_start (has (reach_at c.limits c.seen (length c.seen)) q)
  pub encoded : EncodesVolume (reach_at c.limits c.seen (length c.seen)) (word_of_page c.words)
      (page_at c.seen (length c.seen)) (replay_from c.limits.volume (entries c.seen))
  pub pass : IsPass c

-- the pass, which had announced x, is pinned to the current number
pub record PinsCurrent (a c : Knowledge) : Type 0 where
  pub more : StartsWith c.seen a.seen
  pub moves : MovesNow a (LookAgain a.number ∷ []) c
  pub same : (x : ℕ) × (a.phase ≡ Announced x)
      × (c ≡ pins (with_history a c.history) x c.seen c.image)
  pub pass : IsPass c

-- the pass has met others, and has now seen this journal, which contains what it had seen before
abbrev pub Meets : Knowledge → List Commit → Knowledge → Type 0
Meets a log c = StartsWith log a.seen × (c ≡ met a log)

-- the pass made one attempt, which found another pass of the table holding the lock; the error
-- names that pass
abbrev pub FoundHeld : Refusal → Knowledge → Knowledge → Type 0
FoundHeld r a c = (b : ℕ) × (r ≡ Busy b) × (b < a.limits.passes) × (b ≢ a.number)
    × (c ≡ finds_held a b)

-- why there is no room for an entry
abbrev pub HasNoRoom : Refusal → Knowledge → Type 0
HasNoRoom r a = ((r ≡ CommitsSpent) × (length a.seen ≡ a.limits.commits))
    ⊎ ((r ≡ OutOfMemory) × (length a.seen < a.limits.commits))

-- the write has made a whole scan, and `least` is the lowest number in it
pub record MakesScan (old new : Work) (least : ℕ) : Type 0 where
  pub by : (found : List ℕ) × (length found ≡ old.knows.limits.passes)
      × (new.knows ≡ with_history (scans_all old.knows found) new.knows.history)
      × IsLowestAnnounced (length old.knows.seen) found least
      × AreFound old.knows.limits old.knows.number old.knows.history new.knows.history found
  pub moves : Makes old.knows.number old.knows.history
      (scans_of old.knows.number old.knows.limits.passes) new.knows.history
  pub lowest_is : new.knows.least ≡ least
  pub own : IsOwnLowest old.knows least
  pub places : new.knows.places ≡ map (swept_place least) old.knows.places
  pub held : new.knows.held ≡ pages_from is_in_hand 0 old.knows.places
  pub leaves : UnreachedAreFree new.knows
  pub left : new.left ≡ count_by is_retired new.knows.places
  pub same : new ≡ record old {
    knows = record old.knows {
      scanned = 0;
      least = least;
      places = new.knows.places;
      held = new.knows.held;
      steps = new.knows.steps;
      history = new.knows.history;
    };
    left = new.left;
  }

-- how many more pages than the last whole scan left must be retired for a scan to be due
abbrev pub due_after : ℕ → ℕ
due_after zero = 1
due_after (suc n) = 32

-- no page is free
abbrev pub HasNoFree : Work → Type 0
HasNoFree w = (p : ℕ) → p < length w.knows.places → place_of w.knows.places p ≢ Free

-- a whole scan has a reason: either it comes right after the lock, or no page is free
abbrev pub HasReasonToScan : Work → Type 0
HasReasonToScan w = HasNoFree w ⊎ (upto_lock w.knows.number w.knows.history ≡ w.knows.history)

-- the write has stored this word at index i of a page
abbrev pub FillsWord : Work → Work → ℕ → ℕ → ℕ → Type 0
FillsWord old new page i word =
    (new ≡ record old {
      knows = fills_word (with_history old.knows new.knows.history) page i word;
    })
    × Makes old.knows.number old.knows.history (fill_moves old.knows page i word) new.knows.history

-- the write has taken this page, which was free
abbrev pub TakesFree : Work → Work → ℕ → Type 0
TakesFree old new page =
    (page < length old.knows.places) × (page < largest_pool)
    × (place_of old.knows.places page ≡ Free)
    × (new ≡ record old { knows = takes_page (with_history old.knows new.knows.history) page })
    × Makes old.knows.number old.knows.history (take_moves old.knows page) new.knows.history

-- a free page is taken; a whole scan comes before that only if none was free
pub record TakesPage (old new : Work) (page : ℕ) : Type 0 where
  pub between : Work
  pub scan : (between ≡ old) ⊎ ((least : ℕ) × MakesScan old between least)
  pub because : (between ≡ old) ⊎ HasNoFree old
  pub inside : page < length between.knows.places
  pub small : page < largest_pool
  pub free : place_of between.knows.places page ≡ Free
  pub taken : new ≡ record between {
    knows = takes_page
        (with_history between.knows new.knows.history) page;
  }
  pub moves : Makes between.knows.number between.knows.history (take_moves between.knows page)
      new.knows.history

-- the write holds each page that belongs to no version from `least` on
abbrev pub HoldsUnreached : Knowledge → ℕ → Type 0
HoldsUnreached a least = (p : ℕ) → p < a.limits.pages → NoCommitReaches a.limits a.seen least p
    → IsTrue (has a.held p)

-- after some prefix of the pass's history that includes the lock, pass j had announced this number
-- in the machine
pub record HadAnnounced (a : Knowledge) (j number : ℕ) : Type 0 where
  pub upto : List Move
  pub front : StartsWith a.history upto
  pub since : StartsWith upto (upto_lock a.number a.history)
  pub words : ℕ → ℕ → ℕ
  pub world : World
  pub runs : RunsTo a.limits words upto world
  pub reported : announce_word (world.phases j) ≡ suc number

-- the current number, or one that some pass had announced at some point since the lock
abbrev pub WasAnnounced : Knowledge → ℕ → Type 0
WasAnnounced a least = (least ≡ length a.seen)
    ⊎ ((j : ℕ) × (j < a.limits.passes) × HadAnnounced a j least)

-- `least` is the lowest number of the write's last whole scan, and the write held each page that
-- belongs to no version from `least` on. It is at most the current number and at most what the pass
-- has announced; in a table of one pass it is the lower of the two. If it isn't the current number,
-- some pass had announced it.
abbrev pub IsSpent : Knowledge → ℕ → Type 0
IsSpent a least = (least ≡ a.least) × HoldsUnreached a least × IsOwnLowest a least
    × WasAnnounced a least

-- the write still holds the pages that it held at its last whole scan
abbrev pub HoldsStill : Knowledge → Type 0
HoldsStill a = (p : ℕ) → IsTrue (has a.held p) → IsTrue (is_in_hand (place_of a.places p))

-- why an open write can't take a page
abbrev pub IsFull : Work → ℕ → Type 0
IsFull w least = IsSpent w.knows least × HoldsStill w.knows

-- no page was free, and none is free after a whole scan
pub record FindsNone (old new : Work) (least : ℕ) : Type 0 where
  pub before : HasNoFree old
  pub scan : MakesScan old new least
  pub none : (p : ℕ) → p < length new.knows.places → place_of new.knows.places p ≢ Free
  pub full : IsFull new least

-- why `open` opened no table with these limits
abbrev pub IsOpenRefused : Limits → Refusal → Type 0
IsOpenRefused l r = ((r ≡ BadLimits) × AreBad l) ⊎ ((r ≡ OutOfMemory) × IsWithin l)

-- why `open_large` opened no table with these limits
abbrev pub IsLargeRefused : Limits → Refusal → Type 0
IsLargeRefused l r = ((r ≡ BadLimits) × (¬ (IsPossible l)))
    ⊎ ((r ≡ OutOfMemory) × IsPossible l)

-- all seats of this table
abbrev pub AreAllSeats : Opened → List SeatFacts → Type 0
AreAllSeats t ss = AllAt t.id ss
    × ((k : ℕ) → k < t.limits.passes → Has (map knows_of ss) k)

-- what a seat knows after it has taken in these passes
pub record Gathered (known v : List Knowledge) : Type 0 where
  pub idle : AllIdle v
  pub all : (k : ℕ) → Has known k → Has v k
  pub keeps : (log : List Entry) → KeepsSeen log v → KeepsSeen log known
  pub rests : (trace : List Move) → AllRest trace v → AllRest trace known
