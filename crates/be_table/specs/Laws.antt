-- What a step on a word may do, and which event it is.
use Rattle.std.specs.Prelude.{◌≡◌, ℕ, ◌+◌, ◌*◌, ◌<◌, ◌≤◌, ◌==◌, List, [], ◌∷◌, ◌++◌, length, map}
use Rattle.std.specs.Prelude.{slice_index, slice_set, Option, Some, true, false, IsTrue, MatchBool}
use prog.Atomic.{either}
use mathlib.Core.Option.{some, none}
use lib.ListN.{get_elem?}
use Rattle.atomic_table.specs.Table.{State, Me, Act, Valid, step, stepped, carried_after}
use Rattle.be_core.specs.declared.event.Phase.TheVariants.{Looked, Announced, Pinned}
use Rattle.be_core.specs.declared.event.Event.{Event}
use Rattle.be_core.specs.declared.event.Event.TheVariants as events
use Rattle.be_table.specs.declared.pass.Move.{Move}
use Rattle.be_table.specs.declared.pass.View.{View}
use Rattle.be_table.specs.declared.pass.Move.TheVariants as moves
use Rattle.be_core.specs.Machine.{World, Sound, Protected, Allowed, after_event, has, MayLook}
use Rattle.be_core.specs.Machine.{MayAnnounce, MayLookAgain, MayRead, MayUnpin, MayLock, MayScan}
use Rattle.be_core.specs.Machine.{MayFill, MayPublish as MayPublishAt, MayUnlock, after_look}
use Rattle.be_core.specs.Machine.{after_announce, after_look_again, after_unpin, after_lock}
use Rattle.be_core.specs.Machine.{after_scan, after_fill, after_publish, after_return, after_unlock}
use Rattle.be_table.specs.declared.writer_state.WriterState.{WriterState}
use Rattle.be_table.specs.Setting.{Setting as Limits}
use Rattle.be_table.specs.declared.pass.Commit.{Commit}
use Rattle.be_table.specs.declared.pass.Knowledge.{Knowledge}
use Rattle.be_journal.specs.declared.entries.Entry.{Entry}
use Rattle.be_pages.specs.declared.page_pool.Place.TheVariants.{Free}
use Rattle.be_pages.specs.Place.{undone_place, is_held_page, place_of}
use Rattle.be_table.specs.WriterState.{is_given, shows_taken}
use Rattle.be_table.specs.Trace.{MayReturn, Run, RunsTo}
use Rattle.be_table.specs.Rule.{writer_state_places, LeftAreRetired, Board, FitsBoard, Shows}
use Rattle.be_table.specs.Rule.{IsUnused}
use Rattle.be_table.specs.Rule.{entries, page_at, reach_at, word_place, announce_word}
use Rattle.be_table.specs.Rule.{current_word, HasCurrent, alone, beside, empty_view, witnessing}
use Rattle.be_table.specs.Rule.{informed, first_seat, other_seats, seats_together, one_step_on}
use Rattle.be_table.specs.Steps.{LookReported, Reported, PinnedAt, Unpinned, PinnedRead, Locked}
use Rattle.be_table.specs.Steps.{Unlocked}
use Rattle.be_table.specs.Steps.{Scanned, OwnRead, FilledAt, FilledFound, PageTaken, PageGivenUp}
use Rattle.be_table.specs.Steps.{MayBeFilled, MayPublish, Published, Compared, Learned, pages_from}

-- ## The events: what a step that found the number n does to the machine

abbrev pub NoEvent : ℕ → World → World → Type 0
NoEvent n v w = w ≡ v

-- a look finds the current number
abbrev pub IsLook : ℕ → ℕ → World → World → Type 0
IsLook k n v w = MayLook v k × (w ≡ after_look v k) × HasCurrent n v

abbrev pub IsAnnounce : ℕ → ℕ → World → World → Type 0
IsAnnounce k n v w = MayAnnounce v k × (w ≡ after_announce v k)

abbrev pub IsLookAgain : ℕ → ℕ → World → World → Type 0
IsLookAgain k n v w = MayLookAgain v k × (w ≡ after_look_again v k) × HasCurrent n v

-- a read of a page of the pinned version m finds the word in its image
abbrev pub IsRead : (k m p i : ℕ) → ℕ → World → World → Type 0
IsRead k m p i n v w = MayRead v k p i × (w ≡ v) × (n ≡ v.image m p i)

abbrev pub IsUnpin : ℕ → ℕ → World → World → Type 0
IsUnpin k n v w = MayUnpin v k × (w ≡ after_unpin v k)

-- the step is a Lock only if it found 0
abbrev pub IsLock : ℕ → ℕ → World → World → Type 0
IsLock k n v w = MatchBool (n == 0) (MayLock v k × (w ≡ after_lock v k)) (w ≡ v)

abbrev pub IsUnlock : ℕ → ℕ → World → World → Type 0
IsUnlock k n v w = MayUnlock v k × (w ≡ after_unlock v)

-- a scan finds the word of the pass whose turn it is
abbrev pub IsScan : (k j : ℕ) → ℕ → World → World → Type 0
IsScan k j n v w = MayScan v k j × (w ≡ after_scan v j) × (n ≡ announce_word (v.phases j))

abbrev pub IsFill : (k p i word : ℕ) → ℕ → World → World → Type 0
IsFill k p i word n v w = MayFill v k p i × (w ≡ after_fill v p i word)

-- a page that the write had taken returns to the free pages
abbrev pub IsReturn : (k p : ℕ) → ℕ → World → World → Type 0
IsReturn k p n v w = MayReturn v k p × (w ≡ after_return v p)

abbrev pub IsPublish : (k page : ℕ) → List ℕ → ℕ → World → World → Type 0
IsPublish k page given n v w = MayPublishAt v k page given × (w ≡ after_publish v given)

-- ## What a step does

-- As in `Allows`, the seat can take the step in any state of the table, and the rule is preserved.
-- The machine that the table shows then makes the event, which may depend on the number found.
abbrev pub AllowsBy : Limits → ℕ → ℕ → Me (Option WriterState) View → ℕ → (ℕ → ℕ)
    → (ℕ → World → World → Type 0) → (ℕ → Me (Option WriterState) View → Type 0) → Type 0
AllowsBy limits slots id me i f event then =
    (s : State (Option WriterState) View) (b : Board) → FitsBoard limits s b → length s.homes
    ≡ slots
    → get_elem? s.views id ≡ some me.0 → slice_index s.words i < 18446744073709551616
    → (w : View) × (x : Act (Option WriterState)) × Valid s.homes me.1 x
    × ((d : Board) × FitsBoard limits (stepped s i (f (slice_index s.words i)) id me.1 w x) d
    × event (slice_index s.words i) b.world d.world)
    × then (slice_index s.words i) (w, carried_after me.1 x)

-- ## Each step by a pass that may make it

module _ (limits : Limits) (slots id : ℕ) (a : Knowledge) (carried : List (ℕ × Option WriterState))
  where
    abbrev pub LookIsItsEvent : Type 0
    LookIsItsEvent = AllowsBy limits slots id (alone a, carried) 8 (λ n. n) (IsLook a.number)
        (LookReported (step slots 8 0 0 none) (alone a, carried))

    abbrev pub AnnounceIsItsEvent : Type 0
    AnnounceIsItsEvent = (x : ℕ) → a.phase ≡ Looked x
        → AllowsBy limits slots id (alone a, carried) (16 + 8 * a.number) (λ _. x + 1)
        (IsAnnounce a.number) (λ _. Reported (step slots (16 + 8 * a.number) (x + 1) 0 none)
        (alone a, carried) (x + 1))

    abbrev pub LookAgainIsItsEvent : Type 0
    LookAgainIsItsEvent = (x : ℕ) → a.phase ≡ Announced x
        → AllowsBy limits slots id (alone a, carried) 8 (λ n. n) (IsLookAgain a.number)
        (PinnedAt (step slots 8 0 0 none) (alone a, carried))

    abbrev pub UnpinIsItsEvent : Type 0
    UnpinIsItsEvent = (x n : ℕ) → a.phase ≡ Pinned x n
        → AllowsBy limits slots id (alone a, carried) (16 + 8 * a.number) (λ _. 0)
        (IsUnpin a.number) (λ _. Unpinned (step slots (16 + 8 * a.number) 0 0 none)
        (alone a, carried) 0)

    abbrev pub PinnedReadIsItsEvent : Type 0
    PinnedReadIsItsEvent = (x n p i : ℕ) → a.phase ≡ Pinned x n
        → IsTrue (has (reach_at a.limits a.seen n) p)
        → i < 512
        → AllowsBy limits slots id (alone a, carried) (word_place p i) (λ n. n)
        (IsRead a.number n p i) (PinnedRead (step slots (word_place p i) 0 0 none)
        (alone a, carried))

    -- a compare-exchange that finds 0 is Lock, and any other is no event
    abbrev pub LockIsItsEvent : Type 0
    LockIsItsEvent = a.writes ≡ false
        → AllowsBy limits slots id (alone a, carried) 0 (λ n. either (n == 0) (a.number + 1) n)
        (IsLock a.number) (Locked (step slots 0 0 (a.number + 1) none) (alone a, carried))

    abbrev pub ScanIsItsEvent : Type 0
    ScanIsItsEvent = a.writes ≡ true → a.published ≡ false
        → AllowsBy limits slots id (alone a, carried) (16 + 8 * a.scanned) (λ n. n)
        (IsScan a.number a.scanned) (Scanned (step slots (16 + 8 * a.scanned) 0 0 none)
        (alone a, carried))

    abbrev pub FillIsItsEvent : Type 0
    FillIsItsEvent = (p i x : ℕ) → a.writes ≡ true → a.published ≡ false → MayBeFilled a.places p
        → i < 512
        → AllowsBy limits slots id (alone a, carried) (word_place p i) (λ _. x)
        (IsFill a.number p i x) (λ _. FilledAt (step slots (word_place p i) x 0 none)
        (alone a, carried) x)

    -- a load of a word of a page that the write holds fills it with the word that is there
    abbrev pub FoundFillIsItsEvent : Type 0
    FoundFillIsItsEvent = (p i : ℕ) → a.writes ≡ true → a.published ≡ false → MayBeFilled a.places p
        → i < 512
        → AllowsBy limits slots id (alone a, carried) (word_place p i) (λ n. n)
        (λ n. IsFill a.number p i n n) (FilledFound (step slots (word_place p i) 0 0 none)
        (alone a, carried))

    abbrev pub OwnReadIsNoEvent : Type 0
    OwnReadIsNoEvent = (p i : ℕ) → a.writes ≡ true → p < a.limits.pages → i < 512
        → AllowsBy limits slots id (alone a, carried) (word_place p i) (λ n. n) NoEvent
        (OwnRead (step slots (word_place p i) 0 0 none) (alone a, carried))

    -- a load that takes a page fills its first word with the word that is there
    abbrev pub TakeIsItsEvent : Type 0
    TakeIsItsEvent = (p : ℕ) → a.writes ≡ true → a.published ≡ false → p < length a.places
        → place_of a.places p ≡ Free
        → AllowsBy limits slots id (alone a, carried) (word_place p 0) (λ n. n)
        (λ n. IsFill a.number p 0 n n) (PageTaken (step slots (word_place p 0) 0 0 none)
        (alone a, carried))

    -- the return of a page that the write had taken; no event for any other page
    abbrev pub GiveUpIsNoEvent : Type 0
    GiveUpIsNoEvent = (p : ℕ) → a.writes ≡ true → p < length a.places
        → IsTrue (is_held_page (place_of a.places p))
        → AllowsBy limits slots id (alone a, carried) (word_place p 0) (λ n. n)
        (λ n v w. MatchBool (shows_taken (place_of a.places p)) (IsReturn a.number p n v w)
        (NoEvent n v w)) (PageGivenUp (step slots (word_place p 0) 0 0 none) (alone a, carried))

    abbrev pub PublishIsItsEvent : Type 0
    PublishIsItsEvent = (e : Entry) (page new : ℕ) → MayPublish limits a e page → new
        ≡ current_word (length a.seen + 1) page
        → AllowsBy limits slots id (alone a, carried) 8 (λ _. new)
        (IsPublish a.number page (pages_from is_given 0 a.places))
        (λ _. Published e page (step slots 8 new 0 none) (alone a, carried) new)

abbrev pub UnlockIsItsEvent : Limits → ℕ → ℕ → Knowledge → WriterState → Type 0
UnlockIsItsEvent limits slots id a writer_state = a.writes ≡ true → writer_state.journal.entries
    ≡ entries a.seen → writer_state.journal.limit ≡ a.limits.commits → writer_state.page
    ≡ page_at a.seen (length a.seen) → (writer_state_places writer_state)
    ≡ map undone_place a.places → LeftAreRetired writer_state
    → AllowsBy limits slots id (alone a, (0, Some writer_state) ∷ []) 0 (λ _. 0) (IsUnlock a.number)
    (λ _. Unlocked (step slots 0 0 0 none) (alone a, (0, Some writer_state) ∷ []) 0)

abbrev pub CompareIsNoEvent : Limits → ℕ → ℕ → Knowledge → Knowledge → List (ℕ × Option WriterState)
    → Type 0
CompareIsNoEvent limits slots id a c carried = a.writes ≡ false → c.writes ≡ false
    → AllowsBy limits slots id (beside a c, carried) 0 (λ n. n) NoEvent
    (Compared (step slots 0 0 0 none) (beside a c, carried))

-- a pass takes in its seat's front
abbrev pub LearnIsNoEvent : Limits → ℕ → ℕ → Knowledge → List Commit → List (ℕ × Option WriterState)
    → Type 0
LearnIsNoEvent limits slots id a front carried = a.writes ≡ false
    → AllowsBy limits slots id (informed a front, carried) 0 (λ n. n) NoEvent
    (Learned (step slots 0 0 0 none) (informed a front, carried))

-- ## Seats

-- the table with other views of its seats
abbrev pub with_views : State (Option WriterState) View → List View
    → State (Option WriterState) View
with_views s views = record { words = s.words; homes = s.homes; views = views }

-- the rule holds for the table, which shows the same machine and the same journal as before
abbrev pub StaysShown : Limits → Board → State (Option WriterState) View → Type 0
StaysShown limits b s = (d : Board) × FitsBoard limits s d × (d.world ≡ b.world) × (d.log ≡ b.log)

-- the first pass of a seat gets a new seat, and the others keep theirs
abbrev pub SplitIsNoEvent : Limits → ℕ → Knowledge → List Knowledge → List (List Commit) → Type 0
SplitIsNoEvent limits id a v fronts =
    let all : View = record { passes = a ∷ v; fronts = fronts } in
    (s : State (Option WriterState) View) (b : Board) → FitsBoard limits s b → get_elem? s.views id
    ≡ some all
    → StaysShown limits b (with_views s
    (slice_set s.views id (other_seats all) ++ first_seat all ∷ []))

-- what a seat's pass has seen gets a new seat without a pass, and the seat keeps what it has
abbrev pub AttestIsNoEvent : Limits → ℕ → Knowledge → Type 0
AttestIsNoEvent limits id a =
    (s : State (Option WriterState) View) (b : Board) → FitsBoard limits s b → get_elem? s.views id
    ≡ some (alone a)
    → StaysShown limits b (with_views s
    (slice_set s.views id (alone (one_step_on a)) ++ witnessing a.seen ∷ []))

-- what the seat `other` has goes to the seat `id`, and `other` is left with nothing
abbrev pub JoinIsNoEvent : Limits → ℕ → View → ℕ → View → Type 0
JoinIsNoEvent limits id v other w =
    (s : State (Option WriterState) View) (b : Board) → FitsBoard limits s b → get_elem? s.views id
    ≡ some v
    → ¬ (other ≡ id) → get_elem? (slice_set s.views id (seats_together v w)) other ≡ some w
    → StaysShown limits b (with_views s
    (slice_set (slice_set s.views id (seats_together v w)) other empty_view))

-- there is one more seat, without a pass
abbrev pub ArrivalIsNoEvent : Limits → Type 0
ArrivalIsNoEvent limits = (s : State (Option WriterState) View) (b : Board) → FitsBoard limits s b
    → StaysShown limits b (with_views s (s.views ++ empty_view ∷ []))

-- ## The moves

-- the moves of an event; a read changes nothing and has none
abbrev pub moves_of : Event → List Move
moves_of (events.Look k) = moves.Look k ∷ []
moves_of (events.Announce k) = moves.Announce k ∷ []
moves_of (events.LookAgain k) = moves.LookAgain k ∷ []
moves_of (events.Read k p i) = []
moves_of (events.Unpin k) = moves.Unpin k ∷ []
moves_of (events.Lock k) = moves.Lock k ∷ []
moves_of (events.Scan k j) = moves.Scan k j ∷ []
moves_of (events.Fill k p i word) = moves.Fill k p i word ∷ []
moves_of (events.Publish k page given) = moves.Publish k page given.items ∷ []
moves_of (events.Unlock k) = moves.Unlock k ∷ []

-- an allowed event leads where its moves lead
abbrev pub EventsAreMoves : Type 0
EventsAreMoves = (w : World) (e : Event) → Allowed w e → Run w (moves_of e) (after_event w e)

-- wherever moves lead from the start of a table, the machine's invariant holds: no page of a pinned
-- version is free, taken or changed
abbrev pub RunsAreSound : Type 0
RunsAreSound = (limits : Limits) (words : ℕ → ℕ → ℕ) (ms : List Move) (w : World)
    → limits.used ≤ limits.pages → RunsTo limits words ms w → Sound w × Protected w

-- each prefix of a run is a run
abbrev pub FrontsRun : Type 0
FrontsRun = (limits : Limits) (words : ℕ → ℕ → ℕ) (front rest : List Move) (w : World)
    → RunsTo limits words (front ++ rest) w → (mid : World) × RunsTo limits words front mid
    × Run mid rest w

-- ## The words that the table doesn't use

-- between any two steps they are 0
abbrev pub UnusedAreZero : Type 0
UnusedAreZero = (limits : Limits) (s : State (Option WriterState) View) (k : ℕ) → Shows limits s
    → IsUnused limits.passes k → slice_index s.words k ≡ 0

-- a step may store only 0 there, whatever it does to its seat, so no word can serve as another lock
abbrev pub UnusedStayZero : Type 0
UnusedStayZero = (limits : Limits) (s : State (Option WriterState) View) (k n id : ℕ)
    (carried : List (ℕ × Option WriterState)) (v : View) (x : Act (Option WriterState))
    → IsUnused limits.passes k → Shows limits (stepped s k n id carried v x) → n ≡ 0
