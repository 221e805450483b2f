-- What C gets when it reads an answer in parts.
use Rattle.std.specs.Prelude.{◌≡◌, ◌⊎◌, ◌≤◌, ℕ, Bool, List, [], length, None, Ok, Some}
use Rattle.std.specs.Prelude.{if◌then◌else◌}
use Rattle.std.specs.declared.option.Option.{Option}
use Rattle.be_order.specs.Firsts.{IsAnyOf, from_number}
use Rattle.be_session.specs.Ordering.{AreUnread, IsNoPage, IsPageRead}
use Rattle.be_session.specs.Prepared.{PreparedQuery, with_found}
use Rattle.be_session.specs.Sitting.{IsUnread, Sitting}
use Rattle.be_session.specs.declared.cursors.Cursor.{Cursor}
use Rattle.be_session.specs.declared.faults.Fault.{Fault}
use Rattle.be_store.specs.History.{Learns, LocksAtMostOnce}
use Rattle.be_store.specs.Live.{IsLiveOf}
use Rattle.be_store.specs.Passes.{HasRead, IsPinnedTo, volume_pinned}
use Rattle.be_table.specs.Seats.{pinned_number}
use Rattle.be_volume.specs.Query.{scan}
use Rattle.bestore_c.specs.Calls.{IsClosed, Refreshed, Refuses}
use Rattle.bestore_c.specs.Places.{over}
use Rattle.bestore_c.specs.declared.handle.UpdateCounts.{UpdateCounts}

-- The number that says whether there are more nodes: 1 if there are, and otherwise 0.
abbrev pub more_in : Bool → ℕ
more_in others = if others then 1 else 0

-- A prepared query keeps these nodes, and the call returns how many there are and all of them.
abbrev pub KeepsPart : PreparedQuery → List ℕ → List ℕ → ℕ → ℕ → Type 0
KeepsPart q places filled count code = (code ≡ 0) × (count ≡ length q.found)
    × (filled ≡ over q.found places)

-- The call returns an error with what it carries, and the prepared query keeps no nodes.
abbrev pub KeepsNone : PreparedQuery → Fault → ℕ → ℕ → Type 0
KeepsNone q e count code = Refuses e count code × (q.found ≡ [])

-- Reading a page of a prepared query's answer in the pinned version, with as many nodes as fit. The
-- call returns the page and whether more nodes follow, and moves the cursor. If an error occurs,
-- the call returns it. The results of the last refresh are unchanged.
abbrev pub Ordered : Sitting → PreparedQuery → PreparedQuery → List ℕ → Bool → Cursor → Cursor
    → List ℕ → List ℕ → ℕ → ℕ → ℕ → Type 0
Ordered s p q by descending cursor moved places filled count more code =
    (q ≡ with_found p q.found)
    × (((n : ℕ) × IsPinnedTo s.knows n × KeepsPart q places filled count code
    × (others : Bool) × (more ≡ more_in others)
    × IsPageRead (volume_pinned s.knows) p.live.query by descending (length places) cursor moved
    q.found others)
    ⊎ ((e : Fault) × KeepsNone q e count code × IsUnread (pinned_number s.knows.phase)
    (IsNoPage (volume_pinned s.knows) p.live.query by descending (length places) cursor e) e))

-- A prepared query's nodes in the pinned version, starting at a given number.
abbrev pub First : Sitting → PreparedQuery → PreparedQuery → ℕ → List ℕ → List ℕ → ℕ → ℕ → Type 0
First s p q from places filled count code =
    (q ≡ with_found p q.found)
    × (((n : ℕ) × IsPinnedTo s.knows n × KeepsPart q places filled count code
    × (1 ≤ length places)
    × (from_number (volume_pinned s.knows) p.live.query from (length places) ≡ Ok q.found))
    ⊎ ((e : Fault) × KeepsNone q e count code × IsUnread (pinned_number s.knows.phase)
    (AreUnread (from_number (volume_pinned s.knows) p.live.query from (length places))
    (length places) e) e))

-- Arbitrary nodes of a prepared query in the pinned version.
abbrev pub AnyFew : Sitting → PreparedQuery → PreparedQuery → List ℕ → List ℕ → ℕ → ℕ → Type 0
AnyFew s p q places filled count code =
    (q ≡ with_found p q.found)
    × (((n : ℕ) × IsPinnedTo s.knows n × KeepsPart q places filled count code
    × (1 ≤ length places)
    × IsAnyOf (scan (volume_pinned s.knows) p.live.query) (length places) q.found)
    ⊎ ((e : Fault) × KeepsNone q e count code × IsUnread (pinned_number s.knows.phase)
    (AreUnread (scan (volume_pinned s.knows) p.live.query) (length places) e) e))

-- Reading from a prepared query through its handle. If the handle is closed, it stays closed, and
-- nothing happens. Otherwise it stays open, and `does` says what happens to the query.
abbrev pub ReadsPrepared : Sitting → Sitting → Option PreparedQuery → Option PreparedQuery → ℕ → ℕ
    → (PreparedQuery → PreparedQuery → Type 0) → Type 0
ReadsPrepared s t None None count code does = IsClosed count code × (t ≡ s)
ReadsPrepared s t None (Some q) count code does = ⊥
ReadsPrepared s t (Some p) None count code does = ⊥
ReadsPrepared s t (Some p) (Some q) count code does = HasRead s.knows t.knows × does p q

-- If both handles are open, the query was last refreshed in the session's store.
abbrev pub IsRefreshedHere : Option Sitting → Option PreparedQuery → Type 0
IsRefreshedHere None o = Unit {0}
IsRefreshedHere (Some s) None = Unit {0}
IsRefreshedHere (Some s) (Some p) = IsLiveOf s.store p.live

-- A query was refreshed in the pinned version from what was written since its last refresh. The
-- pass took the lock at most once for this. The next refresh can also be of this kind.
abbrev pub RefreshedByWrites : Sitting → Sitting → PreparedQuery → PreparedQuery → UpdateCounts → ℕ
    → Type 0
RefreshedByWrites s t p q counts code =
    Learns s.knows t.knows × LocksAtMostOnce s.knows t.knows
    × (volume_pinned t.knows ≡ volume_pinned s.knows) × IsLiveOf s.store q.live
    × Refreshed s p q counts code

-- Refreshing a query in this way through its handle.
abbrev pub RefreshesByWrites : Sitting → Sitting → Option PreparedQuery → Option PreparedQuery
    → UpdateCounts → ℕ → Type 0
RefreshesByWrites s t None None counts code = (code ≡ 64) × (t ≡ s)
RefreshesByWrites s t None (Some q) counts code = ⊥
RefreshesByWrites s t (Some p) None counts code = ⊥
RefreshesByWrites s t (Some p) (Some q) counts code = RefreshedByWrites s t p q counts code
