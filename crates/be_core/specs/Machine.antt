-- The reclamation machine: versions of a set of pages, one writer, and passes that pin versions.
-- The writer takes and retires pages.
use Rattle.std.specs.Prelude.{◌≡◌, ◌≢◌, ℕ, suc, ◌+◌, ◌<◌, ◌≤◌, min, Bool, true, false, not, ◌&&◌}
use Rattle.std.specs.Prelude.{◌||◌, ◌==◌, nat_lt, if◌then◌else◌, ◌⊎◌, List, [], ◌∷◌, AllPairs, All}
use Rattle.std.specs.Prelude.{Option, Some, None, is_some, IsTrue, IsFalse, ⊤}
use Rattle.std.specs.List.{list_any}
use Rattle.be_core.specs.declared.event.Phase.{Phase}
use Rattle.be_core.specs.declared.event.Phase.TheVariants.{Idle, Looked, Announced, Pinned}
use Rattle.be_core.specs.declared.event.Event.{Event}
use Rattle.be_core.specs.declared.event.Event.TheVariants.{Look, Announce, LookAgain, Read, Unpin}
use Rattle.be_core.specs.declared.event.Event.TheVariants.{Lock, Scan, Fill, Publish, Unlock}

-- the writer: its pass, how many reader slots its scan has read, the minimum so far, and whether it
-- has published
pub record Writer : Type 0 where
  pub pass : ℕ
  pub scanned : ℕ
  pub least : ℕ
  pub published : Bool

-- A state. `reach n` is the set of version n's pages, and `image n` gives the words that all pages
-- had when it was published. `retired p` is the number with which page p was retired
pub record World : Type 0 where
  pub pages : ℕ
  pub passes : ℕ
  pub commits : ℕ
  pub current : ℕ
  pub reach : ℕ → ℕ → Bool
  pub image : ℕ → ℕ → ℕ → ℕ
  pub words : ℕ → ℕ → ℕ
  pub free : ℕ → Bool
  pub taken : ℕ → Bool
  pub retired : ℕ → Option ℕ
  pub writer : Option Writer
  pub phases : ℕ → Phase

-- f, except that it has the value b at a
abbrev pub update : {X : Type 0} → (ℕ → X) → ℕ → X → ℕ → X
update f a b k = if k == a then b else f k

-- the empty set
abbrev pub nowhere : ℕ → Bool
nowhere p = false

abbrev pub zeros : ℕ → ℕ → ℕ
zeros p i = 0

-- the maximum number of pages of a `State`, and of a table that isn't opened as a large one
abbrev pub most_pages : ℕ
most_pages = 16384

-- limits on the number of pages, passes and commits; there are at least `least` pages and at most
-- `most`
pub record AreLimits (least most pages passes commits : ℕ) : Type 0 where
  pub some_pages : least ≤ pages
  pub few_pages : pages ≤ most
  pub some_pass : 0 < passes
  pub few : passes ≤ 64
  pub some_commit : 0 < commits
  pub short : commits < 4294967296

-- version 0 has the pages below `used`, with these words, and every other page is free
abbrev pub first_state : (pages used passes commits : ℕ) → (ℕ → ℕ → ℕ) → World
first_state pages used passes commits words =
    record {
      pages = pages;
      passes = passes;
      commits = commits;
      current = 0;
      reach = λ n p. (n == 0) && nat_lt p used;
      image = λ n. words;
      words = words;
      free = λ p. nat_lt p pages && not (nat_lt p used);
      taken = nowhere;
      retired = λ p. None;
      writer = None;
      phases = λ k. Idle;
    }

-- ## A reader's events

abbrev pub to : World → ℕ → Phase → World
to w k phase = record w { phases = update w.phases k phase }

-- the phase after a look that reads c
abbrev pub phase_after_look : Phase → ℕ → Phase
phase_after_look Idle c = Looked c
phase_after_look (Looked a) c = Looked c
phase_after_look (Announced a) c = Announced a
phase_after_look (Pinned a n) c = Pinned a n

abbrev pub phase_after_announce : Phase → Phase
phase_after_announce (Looked a) = Announced a
phase_after_announce Idle = Idle
phase_after_announce (Announced a) = Announced a
phase_after_announce (Pinned a n) = Pinned a n

abbrev pub phase_after_look_again : Phase → ℕ → Phase
phase_after_look_again (Announced a) c = Pinned a c
phase_after_look_again Idle c = Idle
phase_after_look_again (Looked a) c = Looked a
phase_after_look_again (Pinned a n) c = Pinned a n

abbrev pub after_look : World → ℕ → World
after_look w k = to w k (phase_after_look (w.phases k) w.current)

abbrev pub after_announce : World → ℕ → World
after_announce w k = to w k (phase_after_announce (w.phases k))

abbrev pub after_look_again : World → ℕ → World
after_look_again w k = to w k (phase_after_look_again (w.phases k) w.current)

abbrev pub after_unpin : World → ℕ → World
after_unpin w k = to w k Idle

abbrev pub MayLook : World → ℕ → Type 0
MayLook w k = k < w.passes

abbrev pub MayAnnounce : World → ℕ → Type 0
MayAnnounce w k = (k < w.passes) × ((a : ℕ) × (w.phases k ≡ Looked a))

abbrev pub MayLookAgain : World → ℕ → Type 0
MayLookAgain w k = (k < w.passes) × ((a : ℕ) × (w.phases k ≡ Announced a))

abbrev pub MayRead : World → ℕ → ℕ → ℕ → Type 0
MayRead w k p i = (k < w.passes) × (p < w.pages) × (i < 512)
    × ((a : ℕ) × (n : ℕ) × (w.phases k ≡ Pinned a n) × IsTrue (w.reach n p))

abbrev pub MayUnpin : World → ℕ → Type 0
MayUnpin w k = (k < w.passes) × ((a : ℕ) × (n : ℕ) × (w.phases k ≡ Pinned a n))

-- ## The writer's events

-- h holds the lock, is pass k, and hasn't published
abbrev pub HasOpenWrite : World → ℕ → Writer → Type 0
HasOpenWrite w k h = (w.writer ≡ Some h) × (h.pass ≡ k) × IsFalse h.published

abbrev pub MayLock : World → ℕ → Type 0
MayLock w k = (k < w.passes) × (w.writer ≡ None)

abbrev pub after_lock : World → ℕ → World
after_lock w k = record w {
  writer = Some
      record { pass = k; scanned = 0; least = w.current; published = false };
  taken = nowhere;
}

-- the minimum once the reader slot of a pass in this phase has been read
abbrev pub lowest_with : ℕ → Phase → ℕ
lowest_with l Idle = l
lowest_with l (Looked a) = l
lowest_with l (Announced a) = min l a
lowest_with l (Pinned a n) = min l a

-- the page is retired with a number below l
abbrev pub is_below : ℕ → Option ℕ → Bool
is_below l None = false
is_below l (Some r) = nat_lt r l

-- the state once each page that was retired with a number below l has been freed
abbrev pub swept : World → ℕ → World
swept w l =
    record w {
      free = λ p. w.free p || is_below l (w.retired p);
      retired = λ p. if is_below l (w.retired p) then None else w.retired p;
    }

-- the minimum once the j-th reader slot has been read
abbrev pub lowest_after : World → Writer → ℕ → ℕ
lowest_after w h j = lowest_with (if j == 0 then w.current else h.least) (w.phases j)

-- the state once a reader slot other than the last has been read
abbrev pub scanned_on : World → Writer → ℕ → World
scanned_on w h j = record w {
  writer = Some record h
      { scanned = suc j; least = lowest_after w h j };
}

-- the state once the last reader slot has been read
abbrev pub scanned_out : World → Writer → ℕ → World
scanned_out w h j = swept (record w {
  writer = Some record h
      { scanned = 0; least = lowest_after w h j };
}) (lowest_after w h j)

abbrev pub scanned_by : World → Option Writer → ℕ → World
scanned_by w None j = w
scanned_by w (Some h) j = if suc j == w.passes then scanned_out w h j else scanned_on w h j

abbrev pub MayScan : World → ℕ → ℕ → Type 0
MayScan w k j = (j < w.passes) × ((h : Writer) × HasOpenWrite w k h × (j ≡ h.scanned))

abbrev pub after_scan : World → ℕ → World
after_scan w j = scanned_by w w.writer j

abbrev pub MayFill : World → ℕ → ℕ → ℕ → Type 0
MayFill w k p i = (p < w.pages) × (i < 512) × ((h : Writer) × HasOpenWrite w k h)
    × IsTrue (w.taken p || w.free p)

abbrev pub after_fill : World → ℕ → ℕ → ℕ → World
after_fill w p i word =
    record w {
      taken = update w.taken p true;
      free = update w.free p false;
      words = update w.words p (update (w.words p) i word);
    }

-- the list has the page
abbrev pub has : List ℕ → ℕ → Bool
has given p = list_any (λ q. q == p) given

abbrev pub MayPublish : World → ℕ → ℕ → List ℕ → Type 0
MayPublish w k v given =
    (w.current < w.commits) × (v < w.pages) × ((h : Writer) × HasOpenWrite w k h)
    × IsTrue (w.taken v)
    × AllPairs ◌≢◌ given × All (λ p. IsTrue (w.reach w.current p)) given

abbrev pub with_published : Option Writer → Option Writer
with_published None = None
with_published (Some h) = Some record h { published = true }

abbrev pub after_publish : World → List ℕ → World
after_publish w given =
    record w {
      current = suc w.current;
      reach = update w.reach (suc w.current)
          (λ p. (w.reach w.current p && not (has given p)) || w.taken p);
      image = update w.image (suc w.current) w.words;
      retired = λ p. if has given p then Some w.current else w.retired p;
      taken = nowhere;
      writer = with_published w.writer;
    }

abbrev pub MayUnlock : World → ℕ → Type 0
MayUnlock w k = (h : Writer) × (w.writer ≡ Some h) × (h.pass ≡ k)

abbrev pub after_unlock : World → World
after_unlock w = record w { writer = None; taken = nowhere; free = λ p. w.free p || w.taken p }

-- ## Any event

abbrev pub Allowed : World → Event → Type 0
Allowed w (Look k) = MayLook w k
Allowed w (Announce k) = MayAnnounce w k
Allowed w (LookAgain k) = MayLookAgain w k
Allowed w (Read k p i) = MayRead w k p i
Allowed w (Unpin k) = MayUnpin w k
Allowed w (Lock k) = MayLock w k
Allowed w (Scan k j) = MayScan w k j
Allowed w (Fill k p i word) = MayFill w k p i
Allowed w (Publish k v given) = MayPublish w k v given.items
Allowed w (Unlock k) = MayUnlock w k

-- the state after an allowed event
abbrev pub after_event : World → Event → World
after_event w (Look k) = after_look w k
after_event w (Announce k) = after_announce w k
after_event w (LookAgain k) = after_look_again w k
after_event w (Read k p i) = w
after_event w (Unpin k) = after_unpin w k
after_event w (Lock k) = after_lock w k
after_event w (Scan k j) = after_scan w j
after_event w (Fill k p i word) = after_fill w p i word
after_event w (Publish k v given) = after_publish w given.items
after_event w (Unlock k) = after_unlock w

-- the writer returns a page that it has taken
abbrev pub after_return : World → ℕ → World
after_return w p = record w { taken = update w.taken p false; free = update w.free p true }

-- ## Schedules

-- one entry of a schedule: an event, or the return of a taken page to the free ones
pub data Move : Type 0 where
  happens : Event → Move
  returns : ℕ → Move

-- an event that isn't allowed changes nothing
abbrev pub Moves : World → Move → World → Type 0
Moves w (happens e) w' = (Allowed w e × (w' ≡ after_event w e)) ⊎ ((¬ (Allowed w e)) × (w' ≡ w))
Moves w (returns p) w' = IsTrue (w.taken p) × (w' ≡ after_return w p)

abbrev pub Run : World → List Move → World → Type 0
Run w [] w' = w' ≡ w
Run w (m ∷ ms) w' = (mid : World) × Moves w m mid × Run mid ms w'

-- ## What always holds

abbrev pub bit : Bool → ℕ
bit true = 1
bit false = 0

-- how many of the four sets the page is in
abbrev pub set_count : World → ℕ → ℕ
set_count w p = bit (w.free p) + bit (w.taken p) + bit (is_some (w.retired p))
    + bit (w.reach w.current p)

-- each page is in exactly one of the four sets, and nothing else is in any of them
abbrev pub Partition : World → Type 0
Partition w = (p : ℕ) → set_count w p ≡ bit (nat_lt p w.pages)

-- no page of a pinned version is free or taken, and the words of each are the version's
abbrev pub Protected : World → Type 0
Protected w = (k a n p : ℕ) → w.phases k ≡ Pinned a n → IsTrue (w.reach n p)
    → IsFalse (w.free p) × IsFalse (w.taken p) × ((i : ℕ) → w.words p i ≡ w.image n p i)

-- no version from l to c has the page
abbrev pub Unreached : World → ℕ → ℕ → ℕ → Type 0
Unreached w l c p = (n : ℕ) → l ≤ n → n ≤ c → IsFalse (w.reach n p)

-- the phase has no number above the current one
abbrev pub InTime : ℕ → Phase → Type 0
InTime c Idle = ⊤
InTime c (Looked a) = a ≤ c
InTime c (Announced a) = a ≤ c
InTime c (Pinned a n) = (a ≤ n) × (n ≤ c)

-- what a pin to version n guarantees for page p: the page is neither free nor taken, its words are
-- preserved, and it isn't retired with a number below n
abbrev pub KeepsPinned : World → ℕ → ℕ → Type 0
KeepsPinned w n p = IsFalse (w.free p) × IsFalse (w.taken p)
    × ((r : ℕ) → w.retired p ≡ Some r → n ≤ r) × ((i : ℕ) → w.words p i ≡ w.image n p i)

-- the invariant
pub record Sound (w : World) : Type 0 where
  pub partition : Partition w
  pub in_time : (k : ℕ) → InTime w.current (w.phases k)
  pub outside : (k : ℕ) → w.passes ≤ k → w.phases k ≡ Idle
  pub pinned : (k a n p : ℕ) → w.phases k ≡ Pinned a n → IsTrue (w.reach n p) → KeepsPinned w n p
  pub now : (p i : ℕ) → IsTrue (w.reach w.current p) → w.words p i ≡ w.image w.current p i
  pub was_reached : (p r : ℕ) → w.retired p ≡ Some r → (r < w.current) × IsTrue (w.reach r p)
  -- while the writer hasn't published, each pass that was scanned and is pinned to an older version
  -- has announced at least the minimum
  pub counted : (h : Writer) → w.writer ≡ Some h → IsFalse h.published
      → (k a n : ℕ) → k < h.scanned → w.phases k ≡ Pinned a n → n < w.current → h.least ≤ a
  pub lowest_in_time : (h : Writer) → w.writer ≡ Some h → h.least ≤ w.current
  pub unheld : w.writer ≡ None → (p : ℕ) → IsFalse (w.taken p)
  -- each version has only pages of the machine, and the writer is one of its passes
  pub inside : (n p : ℕ) → IsTrue (w.reach n p) → p < w.pages
  pub writer_inside : (h : Writer) → w.writer ≡ Some h → h.pass < w.passes
