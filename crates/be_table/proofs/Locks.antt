-- Taking and releasing the lock.
use Rattle.std.proofs.Common.{◌≡◌, ◌≢◌, ℕ, ◌+◌, ◌-◌, ◌*◌, ◌<◌, ◌≤◌, eqb, eq-eqb, ne_eqb, MatchBool, List, [], ◌∷◌, ◌++◌, length, set, Bool, true, false, true≢false, Option, Some, None, refl, sym, ap, ◌∙◌, subst, arith, slice_index, map, take, IsTrue}
use Rattle.std.proofs.lemmas.List.{length-map}
use mathlib.Core.Option.{some, none}
use mathlib.Core.Logic.{dite}
use native.Mathlib.Decide.{ℕ_discrete}
use prog.Atomic.{either}
use lib.ListN.{get_elem?}
use Rattle.atomic_table.specs.Table.{keeps, takes, gives, step, carried_after, Allows}
use Rattle.be_core.specs.Machine.{has, World, Writer, MayLock, after_lock, after_unlock}
use Rattle.be_core.proofs.Writers.{after_lock-sound, after_unlock-sound}
use Rattle.be_table.specs.declared.writer_state.WriterState.{WriterState}
use Rattle.be_table.specs.Setting.{Setting as Limits}
use Rattle.be_journal.specs.Journal.{replay_from}
use Rattle.be_table.specs.declared.pass.Commit.{Commit}
use Rattle.be_table.specs.declared.pass.Knowledge.{Knowledge}
use Rattle.be_table.specs.declared.pass.Move.TheVariants.{Lock, Unlock}
use Rattle.be_table.specs.Laws.{AllowsBy, IsLock, IsUnlock}
use Rattle.be_pages.specs.Place.{undone_place}
use Rattle.be_table.specs.WriterState.{ShowsPlaces}
use Rattle.be_table.specs.Rule.{alone, writer_state_places, LeftAreRetired, Board, entries, reach_at, page_at, word_place, lock_word, is_writer, known_writer, IsHome, IsSoundBoard, Holds, Fits, FitsBoard, Shows}
use Rattle.be_table.specs.Steps.{takes_lock, finds_held, without_lock, Gets, LockIsHeld, Locked, Unlocked, Moving, LockMoves, UnlockMoves, with_history}
use Rattle.be_table.proofs.Histories.{starts_itself}
use Rattle.be_table.proofs.Frames.{Table, Me1, views_step, fits_late, longer_seen, is_pass, in_time_later, words_load, words_lock, not_writer, fits_world, not_other, sound_world}
use Rattle.std.proofs.Math.Nat.{le_refl}
use Rattle.be_table.specs.Versions.{at_start, in_pages, EncodesVolume}
use Rattle.be_table.specs.Reading.{word_of_page}
use Rattle.be_table.proofs.Versions.{encodes_same, clipped, take_all}
use Rattle.be_table.proofs.PageStates.{begun}
use Rattle.be_table.specs.Trace.{AllRest}
use Rattle.be_table.proofs.Traces.{Goes, dated, fits_board_dated, set_at, moved, rested, moving, one_of}
use Rattle.be_table.proofs.WriterStates.{shows-unlock, idle-idle}

pub same_some : (g k : Writer) → Some g ≡ Some k → g ≡ k
same_some g k e = cc

no_lock : (o : Option Writer) → lock_word o ≡ 0 → o ≡ None
no_lock None e = refl
no_lock (Some x) e = absurd (omega arith)

-- the board with this writer
abbrev pub held_by : Board → Option Writer → Board
held_by b o = record { log = b.log; world = record b.world { writer = o }; seat_of = b.seat_of }

-- what holds for the board with its writer spelled out holds for the board
pub unheld_by : (w : World) (h : Writer) (P : World → Type 0) → w.writer ≡ Some h → P (record w { writer = Some h }) → P w
unheld_by w h P e p = subst P (ap (λ (o : Option Writer). record w { writer = o }) (sym e)) p

-- a pass that holds the lock is the machine's writer, and has seen the journal
pub at_work : (limits : Limits) (s : Table) (b : Board) (i : ℕ) (a : Knowledge) → FitsBoard limits s b → get_elem? s.views i ≡ some (alone a) → a.writes ≡ true
    → FitsBoard limits s (held_by b (Some (known_writer a))) × Holds (held_by b (Some (known_writer a))) a
at_work limits s b i a h at writes =
    let f = (h.views i (alone a) at).0.0 in let r = f.whole writes in
    subst (λ (o : Option Writer). FitsBoard limits s (held_by b o) × Holds (held_by b o) a) r.writer (h, r)

-- the table's words encode the volume after the journal
now_encoded : (limits : Limits) (s : Table) (b : Board) → FitsBoard limits s b → EncodesVolume (reach_at limits b.log (length b.log)) (word_of_page s.words) (page_at b.log (length b.log)) (replay_from limits.volume (entries b.log))
now_encoded limits s b h =
    let n = length b.log in let w = b.world in let version = h.table.version in
    let all : take n (entries b.log) ≡ entries b.log = ap (λ m. take m (entries b.log)) (sym (length-map b.log (λ (c : Commit). c.entry))) ∙ take_all (entries b.log) in
    subst (λ es. EncodesVolume (reach_at limits b.log n) (word_of_page s.words) (page_at b.log n) (replay_from limits.volume es)) all
    (encodes_same (reach_at limits b.log n) (in_pages (w.image n)) (word_of_page s.words) (page_at b.log n) (replay_from limits.volume (take n (entries b.log)))
    (λ q r.
    let reached : IsTrue (w.reach w.current q) = subst IsTrue (sym (h.sound.reaches w.current q (le_refl w.current) ∙ ap (λ m. has (reach_at limits b.log m) q) version)) r in
    let inside : q < w.pages = h.sound.machine.inside w.current q reached in
    clipped (λ j. slice_index s.words (word_place q j)) (w.image n q) (λ j lt. h.table.words.pages q j inside lt ∙ h.sound.machine.now q j reached ∙ ap (λ m. w.image m q j) version))
    (h.sound.encoded n (le_refl n)))

module _ (limits : Limits) (slots i : ℕ) (a : Knowledge) (carried : List (ℕ × Option WriterState)) where
  lock_free : (s : Table) (b : Board) → FitsBoard limits s (held_by b None) → get_elem? s.views i ≡ some (alone a) → Goes limits s (held_by b None) 0 (a.number + 1) i carried (λ v w. MayLock v a.number × (w ≡ after_lock v a.number)) (Gets (alone a, carried))
  lock_free s b0 h at =
      let b : Board = held_by b0 None in
      let home : IsHome None b.world b.log s.homes = h.table.home in
      let writer_state = home.0 in
      let x = home.2 in
      let t = h.table in
      let k = a.number in
      let w : World = after_lock b.world k in
      let d : Board = record b { world = w } in
      let fa = (h.views i (alone a) at).0.0 in
      let below : k < b.world.passes = rw h.sound.passes fa.number in
      let few : b.world.passes ≤ 64 = rw h.sound.passes h.sound.within.limits.few in
      let c = takes_lock a b.log (writer_state_places writer_state) s.words in
      let v = words_lock b.world (page_at b.log (length b.log)) s.words t.words (k + 1) w.writer few refl in
      let fc : Fits limits d i c = record {
        number = fa.number;
        limits_are = fa.limits_are;
        seat_is = fa.seat_is;
        seen = starts_itself b.log;
        mine = fa.mine;
        own = fa.mine;
        writes = sym (eq-eqb k k refl);
        whole = λ _. record {
          log = refl;
          writer = ap (λ n. Some record { pass = k; scanned = 0; least = n; published = false }) t.version;
          turn = rw h.sound.passes h.sound.within.limits.some_pass;
          count = x.count;
          shown = record { free = x.shown.free; taken = λ p. sym (h.sound.machine.unheld refl p) ∙ x.shown.taken p; retired = x.shown.retired };
          size = t.words.size;
          words = t.words.pages;
        };
        phase = fa.phase;
        pin = in_time_later (length a.seen) (length b.log) a.phase (longer_seen b.log a.seen fa.seen) fa.pin;
        image = fa.image;
      } in
      let sd : IsSoundBoard limits d = sound_world limits b w h.sound refl refl refl refl (λ g e. subst (λ (g : Writer). g.pass < limits.passes) (same_some _ _ e) fa.number) h.sound.reaches (after_lock-sound b.world h.sound.machine k (below, refl)) in (
        alone c,
        takes 0 (Some writer_state),
        ap (λ hs. get_elem? hs 0) home.1,
        (
          d,
          record {
            table = record { words = record { size = v.size; lock = v.lock; current = v.current; announced = v.announced; pages = v.pages; unused = v.unused }; home = ap (λ hs. set hs 0 none) home.1; version = t.version };
            sound = sd;
            views = views_step limits b d s.views i a c h.views at (starts_itself b.log) (λ j y ne f. fits_world limits b w j y (not_other k y.number ne) refl (λ z. absurd (let e = z.writer in cc)) (λ g. g) f) fc;
          },
          ((below, refl), refl),
        ),
        (writer_state, b.log, s.words, (refl, fa.seen, is_pass limits d i c sd fc, record { journal = x.journal; limit = x.limit ∙ h.sound.commits ∙ ap (λ (l : Limits). l.commits) (sym fa.limits_are); page = x.page; places = refl; idle = x.idle; left = x.left; count = x.count ∙ h.sound.pages ∙ ap (λ (l : Limits). l.pages) (sym fa.limits_are); size = t.words.size ∙ ap (λ n. 528 + 512 * n) (h.sound.pages ∙ ap (λ (l : Limits). l.pages) (sym fa.limits_are)); begun = λ q. begun (writer_state_places writer_state) b.world h.sound.machine x.shown x.count (let few = h.sound.within.limits.few_pages in let count = x.count in let pages = h.sound.pages in omega arith) x.idle q ∙ ap at_start (h.sound.reaches b.world.current q (le_refl b.world.current) ∙ ap (λ n. has (reach_at limits b.log n) q) t.version ∙ ap (λ (l : Limits). has (reach_at l b.log (length b.log)) q) (sym fa.limits_are)); encoded = subst (λ (l : Limits). EncodesVolume (reach_at l b.log (length b.log)) (word_of_page s.words) (page_at b.log (length b.log)) (replay_from l.volume (entries b.log))) (sym fa.limits_are) (now_encoded limits s b h) })),
      )

  taken : (o : Option Writer) (passes : ℕ) → lock_word o ≢ 0 → ((g : Writer) → o ≡ Some g → g.pass < passes) → is_writer o a.number ≡ false → (lock_word o ≢ a.number + 1) × (lock_word o < passes + 1)
  taken None passes n b f = absurd (n refl)
  taken (Some x) passes n b f = let lt = b x refl in ((λ e. true≢false (sym (eq-eqb x.pass a.number (omega arith)) ∙ f)), omega arith)

  lock_late : (s : Table) (b : Board) → FitsBoard limits s b → get_elem? s.views i ≡ some (alone a) → a.writes ≡ false → lock_word b.world.writer ≢ 0 → Goes limits s b 0 (slice_index s.words 0) i carried (λ v w. w ≡ v) (LockIsHeld (alone a, carried) (lock_word b.world.writer))
  lock_late s b h at idle held =
      let fa = (h.views i (alone a) at).0.0 in
      let late = taken b.world.writer b.world.passes held (λ g e. rw h.sound.passes (h.sound.writer g e)) (sym fa.writes ∙ idle) in (
        alone (finds_held a (lock_word b.world.writer - 1)),
        keeps,
        tt,
        (
          b,
          record {
            table = record { words = words_load b.world (page_at b.log (length b.log)) s.words h.table.words 0; home = h.table.home; version = h.table.version };
            sound = h.sound;
            views = views_step limits b b s.views i a (finds_held a (lock_word b.world.writer - 1)) h.views at (starts_itself b.log) (λ j x _ f. f) (fits_late limits b i (lock_word b.world.writer - 1) a fa);
          },
          refl,
        ),
        (refl, late.0, subst (λ (l : Limits). lock_word b.world.writer < l.passes + 1) (sym fa.limits_are) (subst (λ n. lock_word b.world.writer < n + 1) h.sound.passes late.1)),
      )

  pub lock_by : a.writes ≡ false → AllowsBy limits slots i (alone a, carried) 0 (λ n. either (eqb n 0) (a.number + 1) n) (IsLock a.number) (Locked (step slots 0 0 (a.number + 1) none) (alone a, carried))
  lock_by idle s b h sized at fits =
      let found : slice_index s.words 0 ≡ lock_word b.world.writer = h.table.words.lock in
      let E : Bool → World → World → Type 0 = λ z v w. MatchBool z (MayLock v a.number × (w ≡ after_lock v a.number)) (w ≡ v) in
      let P : Board → ℕ → Type 0 = λ d n. Goes limits s d 0 (either (eqb n 0) (a.number + 1) n) i carried (E (eqb n 0)) (Locked (step slots 0 0 (a.number + 1) none) (alone a, carried) n) in
      dite (ℕ_discrete (lock_word b.world.writer) 0)
      (λ is0. let none_is = no_lock b.world.writer is0 in
      subst (λ (o : Option Writer). P (held_by b o) (slice_index s.words 0)) (sym none_is) (subst (P (held_by b None)) (sym (found ∙ is0)) (lock_free s b (subst (λ (o : Option Writer). FitsBoard limits s (held_by b o)) none_is h) at)))
      (λ held. let Q : Bool → ℕ → Type 0 = λ z n. Goes limits s b 0 (either z (a.number + 1) (slice_index s.words 0)) i carried (E z) (λ r. MatchBool z (Gets (alone a, carried) r) (LockIsHeld (alone a, carried) n r)) in
      let none_is : eqb (slice_index s.words 0) 0 ≡ false = ne_eqb (slice_index s.words 0) 0 (λ e. held (sym found ∙ e)) in
      subst (λ (p : Bool × ℕ). Q p.0 p.1) (λ k. (sym none_is k, sym found k)) (lock_late s b h at idle held))

module _ (limits : Limits) (slots i : ℕ) (a : Knowledge) (writer_state : WriterState) where
  pub unlock_by : a.writes ≡ true → writer_state.journal.entries ≡ entries a.seen → writer_state.journal.limit ≡ a.limits.commits → writer_state.page ≡ page_at a.seen (length a.seen) → (writer_state_places writer_state) ≡ map undone_place a.places → LeftAreRetired writer_state
      → AllowsBy limits slots i (alone a, (0, Some writer_state) ∷ []) 0 (λ _. 0) (IsUnlock a.number) (λ _. Unlocked (step slots 0 0 0 none) (alone a, (0, Some writer_state) ∷ []) 0)
  unlock_by writes journal limit page places left s b0 h0 sized at fits =
      let work = at_work limits s b0 i a h0 at writes in
      let b : Board = held_by b0 (Some (known_writer a)) in
      let h = work.0 in
      let m = work.1 in
      let t = h.table in
      let w : World = after_unlock b.world in
      let d : Board = record b { world = w } in
      let fa = (h.views i (alone a) at).0.0 in
      let few : b.world.passes ≤ 64 = rw h.sound.passes h.sound.within.limits.few in
      let c = without_lock a in
      let v = words_lock b.world (page_at b.log (length b.log)) s.words t.words 0 None few refl in
      let shown = shows-unlock a.places b.world m.shown in
      let fc : Fits limits d i c = record { number = fa.number; limits_are = fa.limits_are; seat_is = fa.seat_is; seen = fa.seen; mine = fa.mine; own = fa.own; writes = refl; whole = λ z. absurd (true≢false (sym z)); phase = fa.phase; pin = fa.pin; image = fa.image } in (
        alone c,
        gives,
        tt,
        (
          d,
          record {
            table = record {
              words = record { size = v.size; lock = v.lock; current = v.current; announced = v.announced; pages = v.pages; unused = v.unused };
              home = (
                writer_state,
                ap (λ hs. set hs 0 (some (Some writer_state))) t.home,
                record {
                  journal = journal ∙ ap entries m.log;
                  limit = limit ∙ ap (λ (l : Limits). l.commits) fa.limits_are ∙ sym h.sound.commits;
                  page = page ∙ ap (λ l. page_at l (length l)) m.log;
                  count = ap length places ∙ length-map a.places undone_place ∙ m.count;
                  shown = subst (λ ps. ShowsPlaces ps w) (sym places) shown;
                  idle = ap (map undone_place) places ∙ idle-idle a.places ∙ sym places;
                  left = left;
                },
              );
              version = t.version;
            };
            sound = sound_world limits b w h.sound refl refl refl refl (λ g e. absurd (cc)) h.sound.reaches (after_unlock-sound b.world h.sound.machine a.number (known_writer a, refl, refl));
            views = views_step limits b d s.views i a c h.views at (starts_itself b.log) (λ j y ne f. fits_world limits b w j y (sym (not_other a.number y.number ne)) refl (λ z. absurd (not_writer b a y ne refl z)) (λ g. g) f) fc;
          },
          ((known_writer a, ((h0.views i (alone a) at).0.0.whole writes).writer, refl), refl),
        ),
        refl,
      )

module _ (limits : Limits) (slots i : ℕ) (a : Knowledge) (carried : List (ℕ × Option WriterState)) where
  -- an attempt is the move Lock if it finds the lock free, and otherwise no move
  pub locking : a.writes ≡ false → Allows (Shows limits) slots i (alone a, carried) 0 (λ n. either (eqb n 0) (a.number + 1) n) (LockMoves (step slots 0 0 (a.number + 1) none) (alone a, carried))
  locking idle s h sized at fits =
      let n = slice_index s.words 0 in
      let hist = h.2.0 ++ Lock a.number ∷ [] in
      dite (ℕ_discrete n 0)
      (λ is0.
      let yes : eqb n 0 ≡ true = eq-eqb n 0 is0 in
      let y = lock_by limits slots i (with_history a hist) carried idle (dated s i a hist) h.0 (fits_board_dated limits s h.0 i a hist h.1 at) sized (set_at s.views i (alone a) (alone (with_history a hist)) at) fits in
      let m = moved limits s h 0 (either (eqb n 0) (a.number + 1) n) i a carried at (Lock a.number) refl (λ v w. IsLock a.number n v w) (λ l r. MatchBool (eqb n 0) (Gets (alone (with_history a l), carried) r) (LockIsHeld (alone (with_history a l), carried) n r)) (λ w. Unit {0}) y
      (λ v w g. (subst (λ b. MatchBool b (MayLock v a.number × (w ≡ after_lock v a.number)) (w ≡ v)) yes g, tt))
      (λ r g. let x : Gets (alone (with_history a hist), carried) r = subst (λ b. MatchBool b (Gets (alone (with_history a hist), carried) r) (LockIsHeld (alone (with_history a hist), carried) n r)) yes g in
      one_of a (takes_lock (with_history a hist) x.1 (writer_state_places x.0) x.2) hist ((0, Some x.0) ∷ carried) r x.3.0 refl refl) in (
        m.0,
        m.1,
        m.2,
        m.3,
        subst (λ b. MatchBool b (Moving (Lock a.number) (λ w. Unit {0}) Gets (alone a, carried) (m.0, carried_after carried m.1)) (LockIsHeld (alone a, carried) n (m.0, carried_after carried m.1))) (sym yes)
            (m.4.0, m.4.1, m.4.2, subst (λ b. MatchBool b (Gets (alone (with_history a m.4.0), carried) (m.0, carried_after carried m.1)) (LockIsHeld (alone (with_history a m.4.0), carried) n (m.0, carried_after carried m.1))) yes m.4.3),
      ))
      (λ other.
      let no : eqb n 0 ≡ false = ne_eqb n 0 other in
      let y = lock_by limits slots i a carried idle s h.0 h.1 sized at fits in
      let reported : (r : Me1) → MatchBool (eqb n 0) (Gets (alone a, carried) r) (LockIsHeld (alone a, carried) n r) → LockIsHeld (alone a, carried) n r = λ r g. subst (λ b. MatchBool b (Gets (alone a, carried) r) (LockIsHeld (alone a, carried) n r)) no g in
      let m = rested limits s h 0 (either (eqb n 0) (a.number + 1) n) i (alone a) carried at (λ v w. IsLock a.number n v w) (λ r. MatchBool (eqb n 0) (Gets (alone a, carried) r) (LockIsHeld (alone a, carried) n r)) y
      (λ v w g. subst (λ b. MatchBool b (MayLock v a.number × (w ≡ after_lock v a.number)) (w ≡ v)) no g)
      (λ r g l rest. subst (AllRest l) (sym (ap (λ (m : Me1). m.0.passes) (reported r g).0)) rest) in
      (m.0, m.1, m.2, m.3, subst (λ b. MatchBool b (Moving (Lock a.number) (λ w. Unit {0}) Gets (alone a, carried) (m.0, carried_after carried m.1)) (LockIsHeld (alone a, carried) n (m.0, carried_after carried m.1))) (sym no) (reported _ m.4)))

module _ (limits : Limits) (slots i : ℕ) (a : Knowledge) (carried : List (ℕ × Option WriterState)) (me : Me1) where
  pub locks_as : me ≡ (alone a, carried) → (new : ℕ) → a.writes ≡ false → new ≡ a.number + 1 → Allows (Shows limits) slots i me 0 (λ n. either (eqb n 0) new n) (LockMoves (step slots 0 0 new none) me)
  locks_as e new idle is =
      subst (λ (p : Me1 × ℕ). Allows (Shows limits) slots i p.0 0 (λ n. either (eqb n 0) p.1 n) (LockMoves (step slots 0 0 p.1 none) p.0)) (λ k. (sym e k, sym is k)) (locking limits slots i a carried idle)

  pub unlocks_as : (writer_state : WriterState) → me ≡ (alone a, (0, Some writer_state) ∷ []) → a.writes ≡ true → writer_state.journal.entries ≡ entries a.seen → writer_state.journal.limit ≡ a.limits.commits → writer_state.page ≡ page_at a.seen (length a.seen) → (writer_state_places writer_state) ≡ map undone_place a.places → LeftAreRetired writer_state
      → Allows (Shows limits) slots i me 0 (λ _. 0) (λ _. UnlockMoves (step slots 0 0 0 none) me 0)
  unlocks_as writer_state e writes journal limit page places left =
      subst (λ (m : Me1). Allows (Shows limits) slots i m 0 (λ _. 0) (λ _. UnlockMoves (step slots 0 0 0 none) m 0)) (sym e)
      (moving limits slots i a ((0, Some writer_state) ∷ []) 0 (λ _. 0) (λ n. Unlock a.number) (IsUnlock a.number) (λ h _. Unlocked (step slots 0 0 0 none) (alone (with_history a h), (0, Some writer_state) ∷ []) 0) (λ n w. Unit {0}) (λ n. refl)
      (λ h. unlock_by limits slots i (with_history a h) writer_state writes journal limit page places left) (λ n v w g. (g, tt)) (λ h n r t. one_of a (without_lock (with_history a h)) h [] r t refl refl))

pub gained : (m : Me1) (n : ℕ) (r : Me1) (k : ℕ) → MatchBool (eqb n 0) (Moving (Lock k) (λ w. Unit {0}) Gets m r) (LockIsHeld m n r) → n ≡ 0 → Moving (Lock k) (λ w. Unit {0}) Gets m r
gained m n r k l e = subst (λ (b : Bool). MatchBool b (Moving (Lock k) (λ w. Unit {0}) Gets m r) (LockIsHeld m n r)) (eq-eqb n 0 e) l

pub late : (m : Me1) (n : ℕ) (r : Me1) (k : ℕ) → MatchBool (eqb n 0) (Moving (Lock k) (λ w. Unit {0}) Gets m r) (LockIsHeld m n r) → n ≢ 0 → LockIsHeld m n r
late m n r k l ne = subst (λ (b : Bool). MatchBool b (Moving (Lock k) (λ w. Unit {0}) Gets m r) (LockIsHeld m n r)) (ne_eqb n 0 ne) l

-- the slot that was taken last is the first in the list
pub is_out : (l rest : List (ℕ × Option WriterState)) (x : ℕ × Option WriterState) → l ≡ x ∷ rest → l ≡ x ∷ Rattle.atomic_table.specs.Table.rest l
is_out l rest x e = e ∙ ap (λ y. x ∷ y) (sym (ap Rattle.atomic_table.specs.Table.rest e))
