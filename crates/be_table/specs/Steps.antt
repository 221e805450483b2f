-- What a pass knows after its own step.
use Rattle.std.specs.Prelude.{◌≡◌, ◌≢◌, ◌⊎◌, ℕ, zero, suc, ◌+◌, ◌*◌, ◌<◌, ◌≤◌, ◌==◌, true, false}
use Rattle.std.specs.Prelude.{Bool, List, [], ◌∷◌, ◌++◌, length, map, MatchBool, Option, Some, take}
use Rattle.std.specs.Prelude.{min, ◌-◌, if◌then◌else◌, slice_index, slice_set, IsTrue, IsFalse}
use Rattle.std.specs.Prelude.{◌||◌, Contains}
use lib.Dec.{ltb}
use Rattle.atomic_table.specs.Table.{Me, Step}
use Rattle.be_core.specs.declared.event.Phase.TheVariants.{Idle, Announced, Pinned}
use Rattle.be_core.specs.Machine.{World, InTime, phase_after_look, has}
use Rattle.be_journal.specs.declared.entries.Entry.{Entry}
use Rattle.be_table.specs.declared.writer_state.WriterState.{WriterState}
use Rattle.be_pages.specs.declared.page_pool.Place.{Place}
use Rattle.be_pages.specs.declared.page_pool.Place.TheVariants.{Reserved, Filled}
use Rattle.be_volume.specs.declared.ops.Done.{Done}
use Rattle.be_volume.specs.declared.ops.Op.{Op}
use Rattle.be_table.specs.Setting.{Setting as Limits, IsSetting}
use Rattle.be_table.specs.declared.pass.Commit.{Commit}
use Rattle.be_table.specs.declared.pass.Knowledge.{Knowledge}
use Rattle.be_table.specs.declared.pass.Move.{Move}
use Rattle.be_table.specs.declared.pass.View.{View}
use Rattle.be_table.specs.declared.pass.Move.TheVariants.{Look, Announce, LookAgain, Unpin, Lock}
use Rattle.be_table.specs.declared.pass.Move.TheVariants.{Scan, Fill, Publish, Unlock, Return}
use Rattle.be_pages.specs.Place.{retired_at, swept_place, is_in_hand, given_place, published_place}
use Rattle.be_pages.specs.Place.{place_of, undone_place}
use Rattle.be_table.specs.WriterState.{shows_taken, shows_free, is_of_next, is_given}
use Rattle.be_journal.specs.Journal.{HasOperations, Agrees, by_pass, replay_from}
use Rattle.be_table.specs.History.{StartsWith, AreOfPasses, IsHistory}
use Rattle.be_table.specs.Reading.{page_state_among, word_of_page}
use Rattle.be_table.specs.Versions.{at_start, CanEncodeEach, EncodesVolume}
use Rattle.be_table.specs.Trace.{RunsTo, Makes, HasTrace}
use Rattle.be_table.specs.Rule.{Reaches, IsKnownBefore, HasCurrent, announce_word}
use Rattle.be_table.specs.Rule.{writer_state_places}
use Rattle.be_table.specs.Rule.{LeftAreRetired, AreInside, OwnPages, alone, beside}
use Rattle.be_table.specs.Rule.{empty_view, front_of, pass_of, second_of, one_step_on, current_word}
use Rattle.be_table.specs.Rule.{page_at, reach_at, entries, word_place}

-- what always holds for a pass
pub record IsPass (a : Knowledge) : Type 0 where
  pub within : IsSetting a.limits
  pub legal : IsHistory a.limits.volume (entries a.seen)
  pub number_below : a.number < a.limits.passes
  pub by_passes : AreOfPasses a.limits.passes (entries a.seen)
  pub room : length a.seen ≤ a.limits.commits
  pub inside : AreInside a.limits a.seen
  pub own_pages : OwnPages a.limits a.seen
  pub volumes : CanEncodeEach a.limits.pages a.limits.volume (entries a.seen)
  pub pin : InTime (length a.seen) a.phase
  pub mine : by_pass a.number (entries a.seen) ≡ a.mine
  pub encoded : (x n : ℕ) → a.phase ≡ Pinned x n
      → EncodesVolume (reach_at a.limits a.seen n) (word_of_page a.image) (page_at a.seen n)
      (replay_from a.limits.volume (take n (entries a.seen)))

-- a pass after a look that found this journal
abbrev pub looks : Knowledge → List Commit → Knowledge
looks a log = record a {
  seen = log;
  phase = phase_after_look a.phase (length log);
  steps = a.steps
      + 1;
}

-- a pass that has just taken the lock, with the places in the writer state and the table's words
abbrev pub takes_lock : Knowledge → List Commit → List Place → List ℕ → Knowledge
takes_lock a log places words = record a {
  seen = log;
  writes = true;
  scanned = 0;
  least = length log;
  published = false;
  places = places;
  words = words;
  held = [];
  steps = a.steps + 1;
}

abbrev pub announces : Knowledge → ℕ → Knowledge
announces a x = record a { phase = Announced x; steps = a.steps + 1 }

abbrev pub pins : Knowledge → ℕ → List Commit → List ℕ → Knowledge
pins a x log image = record a {
  seen = log;
  phase = Pinned x (length log);
  image = image;
  steps = a.steps + 1;
}

abbrev pub unpins : Knowledge → Knowledge
unpins a = record a { phase = Idle; steps = a.steps + 1 }

-- the pass with this history
abbrev pub with_history : Knowledge → List Move → Knowledge
with_history a history = record a { history = history }

-- the lowest number once one more reader slot has been read
abbrev pub lowest_found : ℕ → ℕ → ℕ
lowest_found l zero = l
lowest_found l (suc n) = min l n

abbrev pub scan_from : Knowledge → ℕ
scan_from a = if a.scanned == 0 then length a.seen else a.least

abbrev pub lowest_then : Knowledge → ℕ → ℕ
lowest_then a n = lowest_found (scan_from a) n

-- the lowest of the current number and the announced numbers; a word is one more than its number
pub record IsLowestAnnounced (current : ℕ) (words : List ℕ) (least : ℕ) : Type 0 where
  pub at_most : least ≤ current
  pub below : (a : ℕ) → Contains words (suc a) → least ≤ a
  pub one : (least ≡ current) ⊎ Contains words (suc least)

-- the pages from p on for which f holds
abbrev pub pages_from : (Place → Bool) → ℕ → List Place → List ℕ
pages_from f p [] = []
pages_from f p (x ∷ xs) = if f x then p ∷ pages_from f (suc p) xs else pages_from f (suc p) xs

-- a scan reads one more reader slot, or its last one
abbrev pub scans_on : Knowledge → ℕ → Knowledge
scans_on a n = record a { scanned = suc a.scanned; least = lowest_then a n; steps = a.steps + 1 }

abbrev pub scans_out : Knowledge → ℕ → Knowledge
scans_out a n = record a {
  scanned = 0;
  least = lowest_then a n;
  places = map (swept_place (lowest_then a n)) a.places;
  held = pages_from is_in_hand 0 a.places;
  steps = a.steps + 1;
}

-- no version from l to the last one seen has the page
abbrev pub NoCommitReaches : Limits → List Commit → ℕ → ℕ → Type 0
NoCommitReaches limits seen l p = (n : ℕ) → l ≤ n → n ≤ length seen
    → IsFalse (has (reach_at limits seen n) p)

-- each page that no version from `least` on has is free or taken
abbrev pub UnreachedAreFree : Knowledge → Type 0
UnreachedAreFree a = (p : ℕ) → p < length a.places → NoCommitReaches a.limits a.seen a.least p
    → IsTrue (shows_free (place_of a.places p) || shows_taken (place_of a.places p))

abbrev pub scans : Knowledge → ℕ → Knowledge
scans a n = if suc a.scanned == a.limits.passes then scans_out a n else scans_on a n

-- a whole scan, or part of one, given the words that it found
abbrev pub scans_all : Knowledge → List ℕ → Knowledge
scans_all a [] = a
scans_all a (n ∷ ns) = scans_all (scans a n) ns

-- a word of a page is stored
abbrev pub fills : Knowledge → ℕ → ℕ → ℕ → Knowledge
fills a p i x = record a {
  places = slice_set a.places p Filled;
  words = slice_set a.words (word_place p i) x;
  steps = a.steps + 1;
}

-- A word of a page is filled. A load checks whether the word is there already; if so, the load is
-- the fill. Otherwise a store follows.
abbrev pub fill_steps : Knowledge → ℕ → ℕ → ℕ → ℕ
fill_steps a p i x = if slice_index a.words (word_place p i) == x then 1 else 2

abbrev pub fills_word : Knowledge → ℕ → ℕ → ℕ → Knowledge
fills_word a p i x = record (fills a p i x) { steps = a.steps + fill_steps a p i x }

-- a free page is taken
abbrev pub takes_page : Knowledge → ℕ → Knowledge
takes_page a p = record a { places = slice_set a.places p Reserved; steps = a.steps + 1 }

-- a page is given up; one that the write has taken is free immediately
abbrev pub gives_up : Knowledge → ℕ → Knowledge
gives_up a p = record a {
  places = slice_set a.places p (given_place (place_of a.places p));
  steps = a.steps + 1;
}

-- an entry by this pass
abbrev pub entry_by : Knowledge → List Op → List Done → Entry
entry_by a ops dones = record { by = a.number; ops = ops; dones = dones }

-- the entry e with the version that the places make, whose version page is v
abbrev pub commit_of : Knowledge → Entry → ℕ → Commit
commit_of a e v = record { entry = e; page = v; reach = pages_from is_of_next 0 a.places }

-- a pass with one more entry of its own
abbrev pub publishes : Knowledge → Entry → ℕ → Knowledge
publishes a e v = record a {
  seen = a.seen ++ commit_of a e v ∷ [];
  mine = a.mine ++ e
      ∷ [];
  published = true;
  places = map (published_place (length a.seen)) a.places;
  steps = a.steps
      + 1;
}

-- a pass that holds the lock may publish this entry, with this version page
pub record MayPublish (limits : Limits) (a : Knowledge) (e : Entry) (v : ℕ) : Type 0 where
  pub writes : a.writes ≡ true
  pub unpublished : a.published ≡ false
  pub by : e.by ≡ a.number
  pub agrees : Agrees (replay_from a.limits.volume (entries a.seen)) e
  pub operations : HasOperations e
  pub room : length a.seen < limits.commits
  pub inside : v < length a.places
  pub filled : place_of a.places v ≡ Filled
  pub none_reserved : (q : ℕ) → place_of a.places q ≢ Reserved
  pub encoded : EncodesVolume (pages_from is_of_next 0 a.places) (word_of_page a.words) v
      (replay_from a.limits.volume (entries a.seen ++ e ∷ []))

-- a pass that holds the lock may read the reader slot of the pass j
abbrev pub MayReadAnnouncement : Limits → Me (Option WriterState) View → ℕ → Type 0
MayReadAnnouncement limits m j = let a = pass_of m.0 in (m.0 ≡ alone a) × (a.writes ≡ true)
    × (a.published ≡ false) × (a.scanned ≡ j) × (j < limits.passes)

-- the pass of a seat is still alone in it, and what it knows has changed so; its history may have
-- grown besides
abbrev pub ChangesAlone : Me (Option WriterState) View → Me (Option WriterState) View
    → (Knowledge → Knowledge) → Type 0
ChangesAlone m r change =
    r ≡ (alone (change (with_history (pass_of m.0) (pass_of r.0).history)), m.1)

abbrev pub MayBeFilled : List Place → ℕ → Type 0
MayBeFilled places p = (p < length places)
    × IsTrue (shows_taken (place_of places p) || shows_free (place_of places p))

-- the current number was found
abbrev pub LookReported : Step (Option WriterState) → Me (Option WriterState) View → ℕ
    → Me (Option WriterState) View → Type 0
LookReported st m n r =
    (log : List Commit) × let a = pass_of m.0 in let c = looks a log in
    (r ≡ (alone c, m.1)) × StartsWith log a.seen × IsPass c
    × (n ≡ current_word (length log) (page_at log (length log)))
    × (page_at log (length log) < 4294967296)

-- the writer state, as a pass that takes the lock finds it
pub record IsFound (writer_state : WriterState) (c : Knowledge) : Type 0 where
  pub journal : writer_state.journal.entries ≡ entries c.seen
  pub limit : writer_state.journal.limit ≡ c.limits.commits
  pub page : writer_state.page ≡ page_at c.seen (length c.seen)
  pub places : (writer_state_places writer_state) ≡ c.places
  pub idle : map undone_place c.places ≡ c.places
  pub left : LeftAreRetired writer_state
  pub count : length c.places ≡ c.limits.pages
  pub size : length c.words ≡ 528 + 512 * c.limits.pages
  pub begun : (q : ℕ) → page_state_among c.places q
      ≡ at_start (has (reach_at c.limits c.seen (length c.seen)) q)
  pub encoded : EncodesVolume (reach_at c.limits c.seen (length c.seen)) (word_of_page c.words)
      (page_at c.seen (length c.seen)) (replay_from c.limits.volume (entries c.seen))

-- The lock was free. The pass has taken the writer state out of the slot, and has seen its journal.
abbrev pub Gets : Me (Option WriterState) View → Me (Option WriterState) View → Type 0
Gets m r =
    (writer_state : WriterState) × (log : List Commit) × (words : List ℕ) × let a = pass_of m.0
    in let c = takes_lock a log (writer_state_places writer_state) words in
    (r ≡ (alone c, (0, Some writer_state) ∷ m.1)) × StartsWith log a.seen × IsPass c
    × IsFound writer_state c

-- a pass whose attempt found pass b holding the lock
abbrev pub finds_held : Knowledge → ℕ → Knowledge
finds_held a b = record a { writers = b ∷ a.writers; steps = a.steps + 1 }

-- another pass holds the lock; the word is that pass's number plus 1
abbrev pub LockIsHeld : Me (Option WriterState) View → ℕ → Me (Option WriterState) View → Type 0
LockIsHeld m n r = let a = pass_of m.0 in (r ≡ (alone (finds_held a (n - 1)), m.1))
    × (n ≢ a.number + 1) × (n < a.limits.passes + 1)

abbrev pub Locked : Step (Option WriterState) → Me (Option WriterState) View → ℕ
    → Me (Option WriterState) View → Type 0
Locked st m n r = MatchBool (n == 0) (Gets m r) (LockIsHeld m n r)

-- a pass without the lock
abbrev pub without_lock : Knowledge → Knowledge
without_lock a = record a { writes = false; steps = a.steps + 1 }

-- the pass has seen this journal
abbrev pub having_seen : Knowledge → List Commit → Knowledge
having_seen a log = record a { seen = log; steps = a.steps + 1 }

-- the pass has seen this journal after three steps: a join, a comparison and a split
abbrev pub met : Knowledge → List Commit → Knowledge
met a log = record a { seen = log; steps = a.steps + 3 }

abbrev pub longer : List Commit → List Commit → List Commit
longer p q = if ltb (length p) (length q) then q else p

-- the two passes of a seat have now seen the longer of their journals; the shorter is a prefix of
-- it
abbrev pub Compared : Step (Option WriterState) → Me (Option WriterState) View → ℕ
    → Me (Option WriterState) View → Type 0
Compared st m n r =
    let a = pass_of m.0 in let c = second_of m.0 in let log = longer a.seen c.seen in
    (r ≡ (beside (having_seen a log) (having_seen c log), m.1)) × StartsWith log a.seen
    × StartsWith log c.seen × IsPass (having_seen a log) × IsPass (having_seen c log)

-- The pass of a seat has now seen the longer of its own journal and its seat's front; the shorter
-- is a prefix of it. The seat then has no front.
abbrev pub Learned : Step (Option WriterState) → Me (Option WriterState) View → ℕ
    → Me (Option WriterState) View → Type 0
Learned st m n r =
    let a = pass_of m.0 in let front = front_of m.0 in let log = longer a.seen front in
    (r ≡ (alone (having_seen a log), m.1)) × StartsWith log a.seen × StartsWith log front
    × IsPass (having_seen a log)

-- a new seat has no pass
abbrev pub Arrived : Step (Option WriterState) → Me (Option WriterState) View → ℕ
    → Me (Option WriterState) View → Type 0
Arrived st m n r = r ≡ (empty_view, [])

-- one of these passes has the number k
abbrev pub Has : List Knowledge → ℕ → Type 0
Has [] k = ⊥
Has (a ∷ v) k = (a.number ≡ k) ⊎ Has v k

-- none of these passes holds the lock
abbrev pub AllIdle : List Knowledge → Type 0
AllIdle [] = Unit {0}
AllIdle (a ∷ v) = (a.writes ≡ false) × AllIdle v

-- the journal begins with what each pass has seen, and its entries by that pass are exactly the
-- pass's own
abbrev pub KeepsSeen : List Entry → List Knowledge → Type 0
KeepsSeen log [] = Unit {0}
KeepsSeen log (a ∷ v) = StartsWith log (entries a.seen) × (by_pass a.number log ≡ a.mine)
    × KeepsSeen log v

-- the writer state is back in its slot
abbrev pub Unlocked : Step (Option WriterState) → Me (Option WriterState) View → ℕ
    → Me (Option WriterState) View → Type 0
Unlocked st m n r = let a = pass_of m.0 in r ≡ (alone (without_lock a), [])

-- the number was announced
abbrev pub Reported : Step (Option WriterState) → Me (Option WriterState) View → ℕ
    → Me (Option WriterState) View → Type 0
Reported st m n r = let a = pass_of m.0 in r ≡ (alone (announces a (n - 1)), m.1)

-- the pass is pinned to the current number, and has seen the journal up to there
abbrev pub PinnedAt : Step (Option WriterState) → Me (Option WriterState) View → ℕ
    → Me (Option WriterState) View → Type 0
PinnedAt st m n r =
    (log : List Commit) × (x : ℕ) × (image : List ℕ) × let a = pass_of m.0
    in let c = pins a x log image in
    (a.phase ≡ Announced x) × (r ≡ (alone c, m.1)) × StartsWith log a.seen × IsPass c
    × (n ≡ current_word (length log) (page_at log (length log)))
    × (page_at log (length log) < 4294967296)

abbrev pub Unpinned : Step (Option WriterState) → Me (Option WriterState) View → ℕ
    → Me (Option WriterState) View → Type 0
Unpinned st m n r = let a = pass_of m.0 in r ≡ (alone (unpins a), m.1)

-- one reader slot was read; in its own slot the pass finds what it has announced
abbrev pub Scanned : Step (Option WriterState) → Me (Option WriterState) View → ℕ
    → Me (Option WriterState) View → Type 0
Scanned st m n r = let a = pass_of m.0 in (r ≡ (alone (scans a n), m.1))
    × (suc a.scanned ≡ a.limits.passes → UnreachedAreFree (scans_out a n))
    × (a.scanned ≡ a.number → n ≡ announce_word a.phase)

-- a word of the pinned version was found
abbrev pub PinnedRead : Step (Option WriterState) → Me (Option WriterState) View → ℕ
    → Me (Option WriterState) View → Type 0
PinnedRead st m n r = let a = pass_of m.0 in (r ≡ (alone (one_step_on a), m.1))
    × (n ≡ slice_index a.image st.word)

-- the writer found a word of a page
abbrev pub OwnRead : Step (Option WriterState) → Me (Option WriterState) View → ℕ
    → Me (Option WriterState) View → Type 0
OwnRead st m n r = let a = pass_of m.0 in (r ≡ (alone (one_step_on a), m.1))
    × (n ≡ slice_index a.words st.word)

abbrev pub FilledAt : Step (Option WriterState) → Me (Option WriterState) View → ℕ
    → Me (Option WriterState) View → Type 0
FilledAt st m n r = let a = pass_of m.0 in (p i : ℕ) → st.word ≡ word_place p i → i < 512 → r
    ≡ (alone (fills a p i n), m.1)

-- a word of a page was found there, and the page is filled with it
abbrev pub FilledFound : Step (Option WriterState) → Me (Option WriterState) View → ℕ
    → Me (Option WriterState) View → Type 0
FilledFound st m n r = let a = pass_of m.0
    in ((p i : ℕ) → st.word ≡ word_place p i → i < 512 → r ≡ (alone (fills a p i n), m.1))
    × (n ≡ slice_index a.words st.word)

-- the page is taken or given up, at its first word
abbrev pub PageTaken : Step (Option WriterState) → Me (Option WriterState) View → ℕ
    → Me (Option WriterState) View → Type 0
PageTaken st m n r = let a = pass_of m.0
    in ((p : ℕ) → st.word ≡ word_place p 0 → r ≡ (alone (takes_page a p), m.1))
    × (n ≡ slice_index a.words st.word)

abbrev pub PageGivenUp : Step (Option WriterState) → Me (Option WriterState) View → ℕ
    → Me (Option WriterState) View → Type 0
PageGivenUp st m n r = let a = pass_of m.0 in (p : ℕ) → st.word ≡ word_place p 0 → r
    ≡ (alone (gives_up a p), m.1)

-- s is the pass a after it has read j reader slots of a scan, in which `least` is the lowest number
-- so far
pub record IsPart (passes : ℕ) (a s : Knowledge) (j least : ℕ) : Type 0 where
  pub same : s ≡ record a {
    scanned = s.scanned;
    least = s.least;
    places = s.places;
    held = s.held;
    steps = s.steps;
    history = s.history;
  }
  pub turn : j < passes → s.scanned ≡ j
  pub waits : j < passes → s.places ≡ a.places
  pub whole : j ≡ passes → (s.scanned ≡ 0) × (s.places ≡ map (swept_place least) a.places)
      × (s.held ≡ pages_from is_in_hand 0 a.places) × UnreachedAreFree s
  pub begins : j ≡ 0 → least ≡ length a.seen
  pub so_far : 0 < j → s.least ≡ least

-- the lower of the current number and the number that the pass itself has announced
abbrev pub own_lowest : Knowledge → ℕ
own_lowest a = lowest_found (length a.seen) (announce_word a.phase)

-- at most that number, and exactly that number in a table of one pass
abbrev pub IsOwnLowest : Knowledge → ℕ → Type 0
IsOwnLowest a least = (least ≤ own_lowest a) × (a.limits.passes ≡ 1 → least ≡ own_lowest a)

-- no page was retired with a number above the current version's
abbrev pub NoneRetiredLater : Knowledge → Type 0
NoneRetiredLater a = (q : ℕ) → retired_at a.places q ≤ length a.seen

abbrev pub Published : Entry → ℕ → Step (Option WriterState) → Me (Option WriterState) View → ℕ
    → Me (Option WriterState) View → Type 0
Published e v st m n r = let a = pass_of m.0 in (r ≡ (alone (publishes a e v), m.1))
    × IsPass (publishes a e v) × NoneRetiredLater a

-- ## The moves of the steps

-- A step makes this move. The pass's history ends with it, the machine is then as the pass knows
-- it, and the other facts hold for the pass with this history.
abbrev pub Moving : Move → (World → Type 0)
    → (Me (Option WriterState) View → Me (Option WriterState) View → Type 0)
    → Me (Option WriterState) View → Me (Option WriterState) View → Type 0
Moving move so reported m r =
    let a = pass_of m.0 in (h : List Move) × Makes a.number a.history (move ∷ []) h
    × Reaches (pass_of r.0) so × reported (alone (with_history a h), m.1) r

abbrev pub LookMoves : Step (Option WriterState) → Me (Option WriterState) View → ℕ
    → Me (Option WriterState) View → Type 0
LookMoves st m n r = Moving (Look (pass_of m.0).number) (HasCurrent n)
    (λ m r. LookReported st m n r) m
    r

abbrev pub AnnounceMoves : Step (Option WriterState) → Me (Option WriterState) View → ℕ
    → Me (Option WriterState) View → Type 0
AnnounceMoves st m n r = Moving (Announce (pass_of m.0).number) (λ w. Unit {0})
    (λ m r. Reported st m n r) m r

abbrev pub LookAgainMoves : Step (Option WriterState) → Me (Option WriterState) View → ℕ
    → Me (Option WriterState) View → Type 0
LookAgainMoves st m n r = Moving (LookAgain (pass_of m.0).number) (HasCurrent n)
    (λ m r. PinnedAt st m n r) m r

abbrev pub UnpinMoves : Step (Option WriterState) → Me (Option WriterState) View → ℕ
    → Me (Option WriterState) View → Type 0
UnpinMoves st m n r = Moving (Unpin (pass_of m.0).number) (λ w. Unit {0}) (λ m r. Unpinned st m n r)
    m r

-- an attempt that finds the lock held is no move
abbrev pub LockMoves : Step (Option WriterState) → Me (Option WriterState) View → ℕ
    → Me (Option WriterState) View → Type 0
LockMoves st m n r = MatchBool (n == 0)
    (Moving (Lock (pass_of m.0).number) (λ w. Unit {0}) Gets m r) (LockIsHeld m n r)

-- two passes of one seat compare what they have seen, and their histories are prefixes of one trace
abbrev pub CompareMoves : Step (Option WriterState) → Me (Option WriterState) View → ℕ
    → Me (Option WriterState) View → Type 0
CompareMoves st m n r = let a = pass_of m.0 in let c = second_of m.0 in Compared st m n r
    × HasTrace a.limits (a ∷ c ∷ [])

-- The number found is in the reader slot of the pass whose turn it is. Just before that, the
-- machine was as the pass knew it.
abbrev pub ScanMoves : Step (Option WriterState) → Me (Option WriterState) View → ℕ
    → Me (Option WriterState) View → Type 0
ScanMoves st m n r =
    let a = pass_of m.0 in (h : List Move)
    × Makes a.number a.history (Scan a.number a.scanned ∷ []) h
    × Reaches (pass_of r.0) (λ w. n ≡ announce_word (w.phases a.scanned))
    × (Scanned st (alone (with_history a h), m.1) n r × IsKnownBefore a (Scan a.number a.scanned) h)

abbrev pub FillMoves : Step (Option WriterState) → Me (Option WriterState) View → ℕ
    → Me (Option WriterState) View → Type 0
FillMoves st m n r =
    let a = pass_of m.0 in (p i : ℕ) → st.word ≡ word_place p i → i < 512
    → (h : List Move) × Makes a.number a.history (Fill a.number p i n ∷ []) h
    × (r ≡ (alone (fills (with_history a h) p i n), m.1))

abbrev pub FoundFillMoves : Step (Option WriterState) → Me (Option WriterState) View → ℕ
    → Me (Option WriterState) View → Type 0
FoundFillMoves st m n r = FillMoves st m n r × (n ≡ slice_index (pass_of m.0).words st.word)

-- a page is taken by a load of its first word, which is a fill with the word already there
abbrev pub take_moves : Knowledge → ℕ → List Move
take_moves a p = Fill a.number p 0 (slice_index a.words (word_place p 0)) ∷ []

abbrev pub TakeMoves : Step (Option WriterState) → Me (Option WriterState) View → ℕ
    → Me (Option WriterState) View → Type 0
TakeMoves st m n r =
    let a = pass_of m.0 in ((p : ℕ) → st.word ≡ word_place p 0 → (h : List Move)
    × Makes a.number a.history (Fill a.number p 0 n ∷ []) h
    × (r ≡ (alone (takes_page (with_history a h) p), m.1)))
    × (n ≡ slice_index a.words st.word)

-- a word of a page is filled with the word already there, and then with x if that is different
abbrev pub fill_moves : Knowledge → ℕ → ℕ → ℕ → List Move
fill_moves a p i x = let found = slice_index a.words (word_place p i) in Fill a.number p i found
    ∷ (if found == x then [] else Fill a.number p i x ∷ [])

-- A page that the write had taken returns to the free pages. The machine learns of any other
-- given-up page only later.
abbrev pub given_moves : Knowledge → ℕ → List Move
given_moves a p = if shows_taken (place_of a.places p) then Return a.number p ∷ [] else []

abbrev pub GiveUpMoves : Step (Option WriterState) → Me (Option WriterState) View → ℕ
    → Me (Option WriterState) View → Type 0
GiveUpMoves st m n r =
    let a = pass_of m.0 in (p : ℕ) → st.word ≡ word_place p 0
    → (h : List Move) × Makes a.number a.history (given_moves a p) h
    × (r ≡ (alone (gives_up (with_history a h) p), m.1))

-- the pages that the write gives up
abbrev pub given_of : Knowledge → List ℕ
given_of a = pages_from is_given 0 a.places

abbrev pub PublishMoves : Entry → ℕ → Step (Option WriterState) → Me (Option WriterState) View → ℕ
    → Me (Option WriterState) View → Type 0
PublishMoves e v st m n r = let a = pass_of m.0
    in Moving (Publish a.number v (given_of a)) (λ w. Unit {0}) (λ m r. Published e v st m n r) m r

abbrev pub UnlockMoves : Step (Option WriterState) → Me (Option WriterState) View → ℕ
    → Me (Option WriterState) View → Type 0
UnlockMoves st m n r = Moving (Unlock (pass_of m.0).number) (λ w. Unit {0})
    (λ m r. Unlocked st m n r) m r

-- the moves with which pass k scans the reader slots before the j-th
abbrev pub scans_of : ℕ → ℕ → List Move
scans_of k zero = []
scans_of k (suc j) = scans_of k j ++ Scan k j ∷ []

-- The j-th scan that pass k made after `before` finds this word, which is the announcement of pass
-- j in the machine after the moves up to that scan.
pub record FoundAt (limits : Limits) (k : ℕ) (before after : List Move) (j word : ℕ) : Type 0 where
  pub upto : List Move
  pub front : StartsWith after upto
  pub scans : Makes k before (scans_of k (suc j)) upto
  pub words : ℕ → ℕ → ℕ
  pub world : World
  pub runs : RunsTo limits words upto world
  pub found : word ≡ announce_word (world.phases j)

-- each of these words is found by its scan
abbrev pub AreFound : Limits → ℕ → List Move → List Move → List ℕ → Type 0
AreFound limits k before after found = (j : ℕ) → j < length found
    → FoundAt limits k before after j (slice_index found j)
