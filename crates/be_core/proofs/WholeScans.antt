-- A write's scans find the minimum.
use Rattle.std.proofs.Common.{◌≡◌, ◌≢◌, ℕ, zero, suc, ◌<◌, min, List, [], ◌∷◌, Contains, Option, Some, None, IsTrue, IsFalse, refl, sym, ◌∙◌, inl, inr, ◌⊎◌, arith, subst}
use Rattle.std.proofs.lemmas.Bool.Decides.{eqb_tells, leb_tells}
use Rattle.be_core.specs.declared.event.Event.{Event}
use Rattle.be_core.specs.declared.event.Event.TheVariants.{Look, Announce, LookAgain, Read, Unpin, Lock, Scan, Fill, Publish, Unlock}
use Rattle.be_core.specs.declared.event.Phase.{Phase}
use Rattle.be_core.specs.declared.event.Phase.TheVariants.{Idle, Looked, Announced, Pinned}
use Rattle.be_core.specs.Machine.{World, Writer, Move, happens, returns, Moves, Run, after_event, after_scan, scanned_by, with_published, lowest_with, lowest_after, MayScan}
use Rattle.be_core.specs.Lowest.{announced, IsLowest, NoScan, ScansFrom, FindsLowest}
use Rattle.be_core.proofs.Places.{only, test-other}

-- ## The minimum of a list

abbrev lowest_from : ℕ → List (Option ℕ) → ℕ
lowest_from l [] = l
lowest_from l (None ∷ read) = lowest_from l read
lowest_from l (Some a ∷ read) = lowest_from (min l a) read

first_in : {X : Type 0} (x : X) (xs : List X) → Contains (x ∷ xs) x
first_in x xs = (0, omega arith, refl)

later_in : {X : Type 0} (x y : X) (xs : List X) → Contains xs y → Contains (x ∷ xs) y
later_in x y xs c = (suc c.0, omega (arith, c.1), c.2)

split_in : {X : Type 0} (x y : X) (xs : List X) → Contains (x ∷ xs) y → (x ≡ y) ⊎ Contains xs y
split_in x y xs (zero, b, e) = inl e
split_in x y xs (suc k, b, e) = inr (k, omega (arith, b), e)

lowest_from-lowest : (l : ℕ) (read : List (Option ℕ)) → IsLowest (lowest_from l read) l read
lowest_from-lowest l [] = record { below_start = omega arith; below_each = λ a c. absurd (let b = c.1 in omega arith); among = inl refl }
lowest_from-lowest l (None ∷ read) = let x = lowest_from-lowest l read in record {
  below_start = x.below_start;
  below_each = λ a c. elim (split_in _ _ read c) [ inl e ↦ absurd (cc) | inr d ↦ x.below_each a d ];
  among = elim x.among [ inl e ↦ inl e | inr c ↦ inr (later_in _ _ read c) ];
}
lowest_from-lowest l (Some b ∷ read) = let x = lowest_from-lowest (min l b) read in record {
  below_start = let y = x.below_start in omega arith;
  below_each = λ a c. elim (split_in _ _ read c) [ inl e ↦ (let y = x.below_start in let same : b ≡ a = cc in omega arith) | inr d ↦ x.below_each a d ];
  among = elim x.among [
    | inl e ↦ elim (leb_tells l b) [ inl y ↦ inl (omega (arith, e, y.1)) | inr n ↦ inr (let same : lowest_from (min l b) read ≡ b = omega (arith, e, n.1) in rw same (first_in (Some b) read)) ]
    | inr c ↦ inr (later_in _ _ read c)
  ];
}

-- one more phase
lowest_with-found : (l : ℕ) (phase : Phase) (read : List (Option ℕ)) → lowest_from (lowest_with l phase) read ≡ lowest_from l (announced phase ∷ read)
lowest_with-found l Idle read = refl
lowest_with-found l (Looked a) read = refl
lowest_with-found l (Announced a) read = refl
lowest_with-found l (Pinned a n) read = refl

-- ## Between two scans

-- a writer that is in the middle of a scan has read j slots and found the minimum l, and the
-- current number is c
abbrev Midway : ℕ → ℕ → ℕ → World → Type 0
Midway c j l w = (h : Writer) → w.writer ≡ Some h → IsFalse h.published → 0 < h.scanned → (h.scanned ≡ j) × (h.least ≡ l) × (w.current ≡ c)

spent : (o : Option Writer) (h : Writer) → with_published o ≡ Some h → IsFalse h.published → ⊥
spent None h e open_ = cc
spent (Some g) h e open_ = let yes : IsTrue h.published = only _ h (λ h. IsTrue h.published) e refl in cc

module _ (c j l : ℕ) where
  after-midway : (w : World) (e : Event) → ((k i : ℕ) → e ≢ Scan k i) → Midway c j l w → Midway c j l (after_event w e)
  after-midway w (Look k) scanless m = m
  after-midway w (Announce k) scanless m = m
  after-midway w (LookAgain k) scanless m = m
  after-midway w (Read k p i) scanless m = m
  after-midway w (Unpin k) scanless m = m
  after-midway w (Lock k) scanless m = λ h is open_ begun. absurd (let none : h.scanned ≡ 0 = only _ h (λ h. h.scanned ≡ 0) is refl in omega arith)
  after-midway w (Scan k i) scanless m = absurd (scanless k i refl)
  after-midway w (Fill k p i word) scanless m = m
  after-midway w (Publish k v given) scanless m = λ h is open_ begun. absurd (spent w.writer h is open_)
  after-midway w (Unlock k) scanless m = λ h is. absurd (cc)

  moves-midway : (w : World) (m : Move) (w' : World) → ((k i : ℕ) → m ≢ happens (Scan k i)) → Midway c j l w → Moves w m w' → Midway c j l w'
  moves-midway w (happens e) w' scanless mid (inl x) = subst (Midway c j l) (sym x.1) (after-midway w e (λ k i same. scanless k i (rw same refl)) mid)
  moves-midway w (happens e) w' scanless mid (inr x) = subst (Midway c j l) (sym x.1) mid
  moves-midway w (returns p) w' scanless mid x = subst (Midway c j l) (sym x.1) mid

  run-midway : (w : World) (ms : List Move) (w' : World) → NoScan ms → Midway c j l w → Run w ms w' → Midway c j l w'
  run-midway w [] w' scanless mid r = subst (Midway c j l) (sym r) mid
  run-midway w (m ∷ ms) w' scanless mid r = run-midway r.0 ms w' (λ i d b. scanless (suc i) d (omega arith)) (moves-midway w m r.0 (scanless 0 m (omega arith)) mid r.1) r.2

-- ## Over the scans

-- the writer has the minimum l, and keeps it until its next scan while it writes
abbrev Found : ℕ → ℕ → ℕ → World → Type 0
Found c j l w = Midway c j l w × ((h : Writer) × (w.writer ≡ Some h) × (h.least ≡ l))

scanned-found : (w : World) (h : Writer) (j c l : ℕ) → lowest_after w h j ≡ l → w.current ≡ c → Found c (suc j) l (scanned_by w (Some h) j)
scanned-found w h j c l least now = elim (eqb_tells (suc j) w.passes) [
  | inl y ↦ rw y.0 ((λ g is open_ begun. absurd (let none : g.scanned ≡ 0 = only _ g (λ g. g.scanned ≡ 0) is refl in omega arith)), (_, refl, least))
  | inr n ↦ rw n.0 ((λ g is open_ begun. only _ g (λ g. (g.scanned ≡ suc j) × (g.least ≡ l) × (w.current ≡ c)) is (refl, least, now)), (_, refl, least))
]

after_scan-found : (w : World) (k j c l : ℕ) (may : MayScan w k j) → lowest_after w may.1.0 j ≡ l → w.current ≡ c → Found c (suc j) l (after_scan w j)
after_scan-found w k j c l may least now = rw may.1.1.0 (scanned-found w may.1.0 j c l least now)

from-found : (read : List (Option ℕ)) (w w' : World) (k c j l : ℕ) → Found c (suc j) l w → ScansFrom w k (suc j) read w' → (h : Writer) × (w'.writer ≡ Some h) × (h.least ≡ lowest_from l read)
from-found [] w w' k c j l found scans = subst (λ (v : World). (h : Writer) × (v.writer ≡ Some h) × (h.least ≡ l)) (sym scans.1) found.1
from-found (a ∷ read) w w' k c j l found (moves, mid, scanless, run, may, reads, rest) =
    let m = run-midway c (suc j) l w moves mid scanless found.0 run in
    let h = may.1.0 in
    let now = m h may.1.1.0 may.1.1.2 (omega (arith, may.1.2)) in
    let least : lowest_after mid h (suc j) ≡ lowest_with l (mid.phases (suc j)) = rw (test-other (suc j) 0 (λ z. absurd (omega arith)), now.1) refl in
    let x = from-found read (after_scan mid (suc j)) w' k c (suc j) (lowest_with l (mid.phases (suc j))) (after_scan-found mid k (suc j) c (lowest_with l (mid.phases (suc j))) may least now.2) rest in
    (x.0, x.1, x.2 ∙ lowest_with-found l (mid.phases (suc j)) read ∙ rw reads refl)

pub finds_lowest : FindsLowest
finds_lowest w w' k [] whole = absurd whole
finds_lowest w w' k (a ∷ read) (may, reads, rest) =
    let x = from-found read (after_scan w 0) w' k w.current 0 (lowest_with w.current (w.phases 0)) (after_scan-found w k 0 w.current (lowest_with w.current (w.phases 0)) may refl refl) rest in
    let same : x.0.least ≡ lowest_from w.current (a ∷ read) = x.2 ∙ lowest_with-found w.current (w.phases 0) read ∙ rw reads refl in
    (x.0, x.1, rw same (lowest_from-lowest w.current (a ∷ read)))
