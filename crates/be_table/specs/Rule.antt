-- The rule that holds for the table between any two steps.
use Rattle.std.specs.Prelude.{◌≡◌, ◌≢◌, ℕ, zero, suc, ◌+◌, ◌*◌, ◌<◌, ◌≤◌, ◌==◌, Bool, true, false}
use Rattle.std.specs.Prelude.{List, [], ◌∷◌, ◌++◌, length, take, drop, map, Option, Some, None}
use Rattle.std.specs.Prelude.{slice_index, slice_index_or, IsTrue, count_by}
use mathlib.Core.Option.{Option as Maybe, some, none}
use lib.ListN.{get_elem?}
use Rattle.atomic_table.specs.Table.{State}
use Rattle.be_core.specs.declared.event.Phase.{Phase}
use Rattle.be_core.specs.declared.event.Phase.TheVariants.{Idle, Looked, Announced, Pinned}
use Rattle.be_core.specs.Machine.{World, Writer, Sound, InTime, has}
use Rattle.be_journal.specs.declared.entries.Entry.{Entry}
use Rattle.be_pages.specs.PagePool.{places}
use Rattle.be_table.specs.declared.writer_state.WriterState.{WriterState}
use Rattle.be_pages.specs.declared.page_pool.Place.{Place}
use Rattle.be_table.specs.Setting.{Setting as Limits}
use Rattle.be_table.specs.declared.pass.Commit.{Commit}
use Rattle.be_table.specs.declared.pass.Knowledge.{Knowledge}
use Rattle.be_table.specs.declared.pass.Move.{Move}
use Rattle.be_table.specs.declared.pass.View.{View}
use Rattle.be_pages.specs.Place.{is_retired, undone_place}
use Rattle.be_table.specs.WriterState.{ShowsPlaces}
use Rattle.be_journal.specs.Journal.{by_pass, replay_from}
pub use Rattle.be_table.specs.Setting.{IsPossible, IsWithin, AreBad, largest_pool}
use Rattle.be_table.specs.Setting.{IsSetting, pages_below}
use Rattle.be_volume.specs.Volume.{empty}
use Rattle.be_table.specs.History.{StartsWith, AreOfPasses, IsHistory}
use Rattle.be_table.specs.Trace.{RunsTo, NoneBy, AllRest}
use Rattle.be_table.specs.Versions.{in_pages, EncodesVolume}

-- what the table shows: the journal with its versions, the machine, and which seat each pass has
pub record Board : Type 0 where
  pub log : List Commit
  pub world : World
  pub seat_of : ℕ → ℕ

abbrev pub entries : List Commit → List Entry
entries log = map (λ c. c.entry) log

abbrev pub nothing : Commit
nothing = record { entry = record { by = 0; ops = []; dones = [] }; page = 0; reach = [] }

-- the pages of version n; version 0 has the pages below `used`
abbrev pub reach_at : Limits → List Commit → ℕ → List ℕ
reach_at limits log zero = pages_below limits.used
reach_at limits log (suc n) = (slice_index_or log n nothing).reach

-- the version page of version n
abbrev pub page_at : List Commit → ℕ → ℕ
page_at log zero = 0
page_at log (suc n) = (slice_index_or log n nothing).page

abbrev pub lock_word : Option Writer → ℕ
lock_word None = 0
lock_word (Some h) = h.pass + 1

abbrev pub announce_word : Phase → ℕ
announce_word Idle = 0
announce_word (Looked a) = 0
announce_word (Announced a) = suc a
announce_word (Pinned a n) = suc a

abbrev pub current_word : ℕ → ℕ → ℕ
current_word version page = version * 4294967296 + page

-- the word has the machine's current number
abbrev pub HasCurrent : ℕ → World → Type 0
HasCurrent n w = (page : ℕ) × (n ≡ current_word w.current page) × (page < 4294967296)

-- the place of word i of page p among the table's words
abbrev pub word_place : ℕ → ℕ → ℕ
word_place p i = 528 + 512 * p + i

-- the list holds the given word at each place of each page
abbrev pub PagesAgree : ℕ → (ℕ → ℕ → ℕ) → List ℕ → Type 0
PagesAgree pages words ws = (p i : ℕ) → p < pages → i < 512 → slice_index ws (word_place p i)
    ≡ words p i

-- the place of each page
abbrev pub writer_state_places : WriterState → List Place
writer_state_places writer_state = places writer_state.pool

-- no fewer pages are retired now than the last whole scan left
abbrev pub LeftAreRetired : WriterState → Type 0
LeftAreRetired writer_state = writer_state.left
    ≤ count_by is_retired (writer_state_places writer_state)

abbrev pub is_writer : Option Writer → ℕ → Bool
is_writer None k = false
is_writer (Some h) k = h.pass == k

-- a writer state that agrees with the table: the journal, the version page, and the place of each
-- page
pub record AtHome (w : World) (log : List Commit) (writer_state : WriterState) : Type 0 where
  pub journal : writer_state.journal.entries ≡ entries log
  pub limit : writer_state.journal.limit ≡ w.commits
  pub page : writer_state.page ≡ page_at log (length log)
  pub count : length (writer_state_places writer_state) ≡ w.pages
  pub shown : ShowsPlaces (writer_state_places writer_state) w
  pub idle : map undone_place (writer_state_places writer_state)
      ≡ (writer_state_places writer_state)
  pub left : LeftAreRetired writer_state

-- while no pass holds the lock, the writer state is in its slot and agrees with the table
abbrev pub IsHome : Option Writer → World → List Commit → List (Maybe (Option WriterState)) → Type 0
IsHome None w log homes = (writer_state : WriterState) × (homes ≡ some (Some writer_state) ∷ [])
    × AtHome w log writer_state
IsHome (Some h) w log homes = homes ≡ none ∷ []

-- ## The first part: the table shows the state

-- a word before the pages that isn't the lock, the current version or the reader slot of one of
-- `passes` passes
abbrev pub IsUnused : (passes k : ℕ) → Type 0
IsUnused passes k = (k < 528) × (k ≢ 0) × (k ≢ 8) × ((j : ℕ) → j < passes → k ≢ 16 + 8 * j)

pub record WordsAgree (w : World) (page : ℕ) (words : List ℕ) : Type 0 where
  pub size : length words ≡ 528 + 512 * w.pages
  pub lock : slice_index words 0 ≡ lock_word w.writer
  pub current : slice_index words 8 ≡ current_word w.current page
  pub announced : (k : ℕ) → k < w.passes → slice_index words (16 + 8 * k)
      ≡ announce_word (w.phases k)
  pub pages : PagesAgree w.pages w.words words
  pub unused : (k : ℕ) → IsUnused w.passes k → slice_index words k ≡ 0

-- the words, the slot and the journal's length are those of the machine
pub record ShowsBoard (b : Board) (s : State (Option WriterState) View) : Type 0 where
  pub words : WordsAgree b.world (page_at b.log (length b.log)) s.words
  pub home : IsHome b.world.writer b.world b.log s.homes
  pub version : b.world.current ≡ length b.log

-- ## The second part: the invariants of the journal and the machine, and what each version encodes

-- the pages of each version are those that its commit lists
abbrev pub ReachesAgree : Limits → World → List Commit → Type 0
ReachesAgree limits w log = (n p : ℕ) → n ≤ w.current
    → w.reach n p ≡ has (reach_at limits log n) p

-- the pages of each version are pages of the table
abbrev pub AreInside : Limits → List Commit → Type 0
AreInside limits log = (n p : ℕ) → n ≤ length log → IsTrue (has (reach_at limits log n) p)
    → p < limits.pages

-- the version page of each version is one of its pages
abbrev pub OwnPages : Limits → List Commit → Type 0
OwnPages limits log = (n : ℕ) → n ≤ length log
    → IsTrue (has (reach_at limits log n) (page_at log n))

pub record IsSoundBoard (limits : Limits) (b : Board) : Type 0 where
  pub within : IsSetting limits
  pub legal : IsHistory limits.volume (entries b.log)
  pub by_passes : AreOfPasses limits.passes (entries b.log)
  pub room : length b.log ≤ limits.commits
  pub page : page_at b.log (length b.log) < 4294967296
  pub inside : AreInside limits b.log
  pub own_pages : OwnPages limits b.log
  pub pages : b.world.pages ≡ limits.pages
  pub passes : b.world.passes ≡ limits.passes
  pub commits : b.world.commits ≡ limits.commits
  pub writer : (h : Writer) → b.world.writer ≡ Some h → h.pass < limits.passes
  pub reaches : ReachesAgree limits b.world b.log
  pub machine : Sound b.world
  pub encoded : (n : ℕ) → n ≤ length b.log
      → EncodesVolume (reach_at limits b.log n) (in_pages (b.world.image n)) (page_at b.log n)
      (replay_from limits.volume (take n (entries b.log)))

-- ## The third part: what each pass knows is true

-- the machine's writer, as the pass that holds the lock knows it
abbrev pub known_writer : Knowledge → Writer
known_writer a = record {
  pass = a.number;
  scanned = a.scanned;
  least = a.least;
  published = a.published;
}

-- what the writer knows
pub record Holds (b : Board) (a : Knowledge) : Type 0 where
  pub log : a.seen ≡ b.log
  pub writer : b.world.writer ≡ Some (known_writer a)
  pub turn : a.scanned < b.world.passes
  pub count : length a.places ≡ b.world.pages
  pub shown : ShowsPlaces a.places b.world
  pub size : length a.words ≡ 528 + 512 * b.world.pages
  pub words : PagesAgree b.world.pages b.world.words a.words

-- the list holds the image of a pinned version on each of its pages
abbrev pub ImageIs : World → Phase → List ℕ → Type 0
ImageIs w phase image = (x n p i : ℕ) → phase ≡ Pinned x n → IsTrue (w.reach n p) → i < 512
    → slice_index image (word_place p i) ≡ w.image n p i

pub record Fits (limits : Limits) (b : Board) (seat : ℕ) (a : Knowledge) : Type 0 where
  pub number : a.number < limits.passes
  pub limits_are : a.limits ≡ limits
  pub seat_is : b.seat_of a.number ≡ seat
  pub seen : StartsWith b.log a.seen
  pub mine : by_pass a.number (entries b.log) ≡ a.mine
  pub own : by_pass a.number (entries a.seen) ≡ a.mine
  pub writes : a.writes ≡ is_writer b.world.writer a.number
  pub whole : a.writes ≡ true → Holds b a
  pub phase : b.world.phases a.number ≡ a.phase
  pub pin : InTime (length a.seen) a.phase
  pub image : ImageIs b.world a.phase a.image

-- no pass of the view has this number
abbrev pub IsAbsent : ℕ → List Knowledge → Type 0
IsAbsent k [] = Unit {0}
IsAbsent k (a ∷ v) = (a.number ≢ k) × IsAbsent k v

-- what each pass in a seat's view knows is true, and no pass occurs twice
abbrev pub AllFit : Limits → Board → ℕ → List Knowledge → Type 0
AllFit limits b seat [] = Unit {0}
AllFit limits b seat (a ∷ v) = Fits limits b seat a × IsAbsent a.number v × AllFit limits b seat v

-- the journal begins with each of these
abbrev pub AreFronts : List Commit → List (List Commit) → Type 0
AreFronts log [] = Unit {0}
AreFronts log (front ∷ fronts) = StartsWith log front × AreFronts log fronts

-- what a seat knows is true
abbrev pub ViewFits : Limits → Board → ℕ → View → Type 0
ViewFits limits b seat v = AllFit limits b seat v.passes × AreFronts b.log v.fronts

abbrev pub ViewsFit : Limits → Board → List View → Type 0
ViewsFit limits b views = (seat : ℕ) (v : View) → get_elem? views seat ≡ some v
    → ViewFits limits b seat v

-- ## The fourth part: the trace

-- The moves lead from the first state to this one. After the end of a pass's history, no move is by
-- that pass.
pub record IsTrace (limits : Limits) (w : World) (views : List View) (trace : List Move) : Type 0
  where
    pub words : ℕ → ℕ → ℕ
    pub runs : RunsTo limits words trace w
    pub rests : (seat : ℕ) (v : View) → get_elem? views seat ≡ some v → AllRest trace v.passes

pub record FitsBoard (limits : Limits) (s : State (Option WriterState) View) (b : Board) : Type 0
  where
    pub table : ShowsBoard b s
    pub sound : IsSoundBoard limits b
    pub views : ViewsFit limits b s.views

abbrev pub Shows : Limits → State (Option WriterState) View → Type 0
Shows limits s = (b : Board) × FitsBoard limits s b
    × ((trace : List Move) × IsTrace limits b.world s.views trace)

-- ## What a history says

-- the machine is as the pass knows it
pub record IsAt (a : Knowledge) (w : World) : Type 0 where
  pub phase : w.phases a.number ≡ a.phase
  pub writes : a.writes ≡ is_writer w.writer a.number
  pub holds : a.writes ≡ true → w.writer ≡ Some (known_writer a)
  pub seen : length a.seen ≤ w.current
  pub shown : a.writes ≡ true → ShowsPlaces a.places w
  pub image : ImageIs w a.phase a.image

-- after the pass's history the machine is as the pass knows it, and P holds of it
pub record Reaches (a : Knowledge) (P : World → Type 0) : Type 0 where
  pub words : ℕ → ℕ → ℕ
  pub world : World
  pub runs : RunsTo a.limits words a.history world
  pub known : IsAt a world
  pub so : P world

-- just before the last move of this history, the machine was as the pass knew it
pub record IsKnownBefore (a : Knowledge) (move : Move) (history : List Move) : Type 0 where
  pub others : List Move
  pub none : NoneBy a.number others
  pub ends : history ≡ (a.history ++ others) ++ move ∷ []
  pub words : ℕ → ℕ → ℕ
  pub world : World
  pub runs : RunsTo a.limits words (a.history ++ others) world
  pub known : IsAt a world

-- a pass that has seen nothing
abbrev pub newcomer : Limits → ℕ → ℕ → Knowledge
newcomer limits steps k = record {
  number = k;
  limits = limits;
  seen = [];
  mine = [];
  phase = Idle;
  image = [];
  writes = false;
  scanned = 0;
  least = 0;
  published = false;
  places = [];
  words = [];
  held = [];
  writers = [];
  steps = steps;
  history = [];
}

-- n new passes, numbered from k
unfoldable pub newcomers : Limits → ℕ → ℕ → ℕ → List Knowledge
newcomers limits steps k zero = []
newcomers limits steps k (suc n) = newcomer limits steps k ∷ newcomers limits steps (suc k) n

-- the view of a seat with this pass, with these two, or with none
abbrev pub alone : Knowledge → View
alone a = record { passes = a ∷ []; fronts = [] }

abbrev pub beside : Knowledge → Knowledge → View
beside a c = record { passes = a ∷ c ∷ []; fronts = [] }

abbrev pub empty_view : View
empty_view = record { passes = []; fronts = [] }

-- the view of the seat that has the n passes from k on before they are dealt
abbrev pub undealt : Limits → ℕ → ℕ → ℕ → View
undealt limits steps k n = record { passes = newcomers limits steps k n; fronts = [] }

abbrev pub everyone : Limits → View
everyone limits = undealt limits 0 0 limits.passes

abbrev pub one_step_on : Knowledge → Knowledge
one_step_on a = record a { steps = a.steps + 1 }

-- the first pass gets its own seat
abbrev pub first_seat : View → View
first_seat v = record { passes = map one_step_on (take 1 v.passes); fronts = [] }

abbrev pub other_seats : View → View
other_seats v = record { passes = map one_step_on (drop 1 v.passes); fronts = v.fronts }

abbrev pub seats_together : View → View → View
seats_together v w = record {
  passes = map one_step_on v.passes
      ++ map one_step_on w.passes;
  fronts = v.fronts ++ w.fronts;
}

abbrev pub nobody : Knowledge
nobody = newcomer
    (record { pages = 0; passes = 0; commits = 0; used = 0; volume = empty }) 0 0

-- the first of these passes, if there is one
abbrev pub first_of : List Knowledge → Knowledge
first_of [] = nobody
first_of (a ∷ v) = a

-- the pass of a seat that has one, and the second pass if it has two
abbrev pub pass_of : View → Knowledge
pass_of v = first_of v.passes

abbrev pub second_of : View → Knowledge
second_of v = first_of (drop 1 v.passes)

-- ## Witnesses

-- the view of a witness that has seen this front of the journal
abbrev pub witnessing : List Commit → View
witnessing front = record { passes = []; fronts = front ∷ [] }

-- the view of a pass that has taken in a witness's seat
abbrev pub informed : Knowledge → List Commit → View
informed a front = record { passes = a ∷ []; fronts = front ∷ [] }

-- the front of a seat that has one
abbrev pub front_of : View → List Commit
front_of v = slice_index_or v.fronts 0 []

-- a seat keeps its passes, and a new seat gets what the first of them has seen
abbrev pub kept_seat : View → View
kept_seat v = record v { passes = map one_step_on v.passes }

abbrev pub front_seat : View → View
front_seat v = witnessing (pass_of v).seen
