-- Splitting and joining seats, and the rule at the start.
use Rattle.std.proofs.Common.{◌≡◌, ◌≢◌, ◌⊎◌, ℕ, zero, suc, ◌+◌, ◌*◌, ◌<◌, ◌≤◌, eqb, eq-eqb, ne_eqb, List, [], ◌∷◌, ◌++◌, map, length, take, set, false, true≢false, if◌then◌else◌, Option, Some, None, refl, sym, ap, ◌∙◌, subst, inl, inr, ⊎_elim, arith, nat_lt, ◌&&◌, not}
use Rattle.be_table.specs.declared.pass.View.{View}
use Rattle.std.proofs.lemmas.Bool.{cases_lt}
use borrow.Author.Tests.{lt-ltb, le-ltb, ltb-true}
use Rattle.std.specs.Prelude.{slice_index}
use mathlib.Core.Option.{some, some-injective, some-ne-none}
use lib.ListN.{get_elem?}
use Rattle.std.proofs.Math.ListN.{length-set}
use Rattle.atomic_table.specs.Table.{Me, Splits, Joins, opening}
use Rattle.atomic_table.proofs.Lists.{at_set, set_else}
use Rattle.atomic_table.specs.Seated.{TableId}
use Rattle.be_core.specs.Machine.{World, first_state, has}
use Rattle.be_table.specs.Trace.{RunsTo, AllRest}
use Rattle.be_table.proofs.Traces.{rest_counted, rest_append}
use Rattle.be_core.proofs.Schedules.{first-sound}
use Rattle.be_table.specs.declared.writer_state.WriterState.{WriterState}
use Rattle.be_pages.specs.declared.page_pool.Place.{Place as PagePlace}
use Rattle.be_pages.specs.declared.page_pool.Place.TheVariants.{Free, Current}
use Rattle.be_table.specs.Setting.{Setting as Limits, IsSetting, pages_below}
use Rattle.be_table.specs.declared.pass.Commit.{Commit}
use Rattle.be_table.specs.declared.pass.Knowledge.{Knowledge}
use Rattle.be_table.specs.declared.pass.Move.{Move}
use Rattle.be_pages.specs.Place.{undone_place, place_of}
use Rattle.be_table.specs.Laws.{SplitIsNoEvent, AttestIsNoEvent, JoinIsNoEvent}
use Rattle.be_table.specs.WriterState.{ShowsPlaces, shows_free, shows_taken, retired_with}
use Rattle.be_journal.specs.Journal.{replay_from}
use Rattle.be_volume.specs.Volume.{State}
use Rattle.be_table.specs.Versions.{in_pages, CanEncodeEach, EncodesVolume}
use Rattle.be_table.specs.Place.{SeatFacts}
use Rattle.be_table.specs.Rule.{alone, ViewFits, AreFronts, empty_view, witnessing, kept_seat, front_seat, undealt, writer_state_places, Board, IsSoundBoard, AreInside, OwnPages, reach_at, page_at, word_place, Fits, IsAbsent, AllFit, IsTrace, Shows, newcomer, newcomers, everyone, one_step_on, first_seat, other_seats, seats_together}
use Rattle.be_table.specs.Seats.{IsReported}
use Rattle.be_table.specs.Works.{AreNewAt}
use Rattle.be_table.proofs.Histories.{starts_itself, by_pass-nil, legal-nil, below-nil}
use Rattle.std.proofs.lemmas.List.{get_or_past}
use Rattle.be_table.proofs.WriterStates.{mapped}
use Rattle.be_table.proofs.Frames.{all_fit, apart, views_change, views_step, fits_counted}

-- a list with one more member has its old members and the new one
pub at_snoc_place : {A : Type 0} (l : List A) (a b : A) (j : ℕ) → get_elem? (l ++ a ∷ []) j ≡ some b → (get_elem? l j ≡ some b) ⊎ ((j ≡ length l) × (a ≡ b))
at_snoc_place [] a b zero e = inr (refl, some-injective a b e)
at_snoc_place [] a b (suc j) e = absurd (some-ne-none b (sym e))
at_snoc_place (x ∷ xs) a b zero e = inl e
at_snoc_place (x ∷ xs) a b (suc j) e = ⊎_elim inl (λ t. inr (ap suc t.0, t.1)) (at_snoc_place xs a b j e)

-- the pass k moves to the seat n
abbrev moved : ℕ → ℕ → (ℕ → ℕ) → ℕ → ℕ
moved k n seat_of m = if eqb m k then n else seat_of m

-- the passes of the seat j move to the seat i
abbrev gathered : ℕ → ℕ → (ℕ → ℕ) → ℕ → ℕ
gathered j i seat_of m = if eqb (seat_of m) j then i else seat_of m

choose_then : (m k n o : ℕ) → m ≡ k → (if eqb m k then n else o) ≡ n
choose_then m k n o e = ap (λ b. if b then n else o) (eq-eqb m k e)

choose_else : (m k n o : ℕ) → m ≢ k → (if eqb m k then n else o) ≡ o
choose_else m k n o e = ap (λ b. if b then n else o) (ne_eqb m k e)

-- the board is unchanged except for where the passes sit
reseat : (limits : Limits) (b : Board) (f : ℕ → ℕ) (i j : ℕ) (a : Knowledge) → f a.number ≡ j → Fits limits b i a → Fits limits (record b { seat_of = f }) j a
reseat limits b f i j a e h = record { number = h.number; limits_are = h.limits_are; seat_is = e; seen = h.seen; mine = h.mine; own = h.own; writes = h.writes; whole = λ t. let x = h.whole t in record { log = x.log; writer = x.writer; turn = x.turn; count = x.count; shown = x.shown; size = x.size; words = x.words }; phase = h.phase; pin = h.pin; image = h.image }

sound_seats : (limits : Limits) (b : Board) (f : ℕ → ℕ) → IsSoundBoard limits b → IsSoundBoard limits (record b { seat_of = f })
sound_seats limits b f s = record { within = s.within; legal = s.legal; by_passes = s.by_passes; room = s.room; page = s.page; inside = s.inside; own_pages = s.own_pages; pages = s.pages; passes = s.passes; commits = s.commits; writer = s.writer; reaches = s.reaches; machine = s.machine; encoded = s.encoded }

absent_counted : (k : ℕ) (v : List Knowledge) → IsAbsent k v → IsAbsent k (map one_step_on v)
absent_counted k [] h = tt
absent_counted k (a ∷ v) h = (h.0, absent_counted k v h.1)

absent_append : (k : ℕ) (v w : List Knowledge) → IsAbsent k v → IsAbsent k w → IsAbsent k (v ++ w)
absent_append k [] w h g = g
absent_append k (a ∷ v) w h g = (h.0, absent_append k v w h.1 g)

-- a pass of one seat is absent from every other seat
absent_elsewhere : (limits : Limits) (b : Board) (i j : ℕ) (a : Knowledge) (w : List Knowledge) → j ≢ i → Fits limits b i a → AllFit limits b j w → IsAbsent a.number w
absent_elsewhere limits b i j a [] ne fa h = tt
absent_elsewhere limits b i j a (x ∷ w) ne fa h = (apart limits b i j a x ne fa h.0, absent_elsewhere limits b i j a w ne fa h.2)

all_counted : (limits : Limits) (b d : Board) (i j : ℕ) (v : List Knowledge) → ((x : Knowledge) → Fits limits b i x → Fits limits d j x) → AllFit limits b i v → AllFit limits d j (map one_step_on v)
all_counted limits b d i j [] f h = tt
all_counted limits b d i j (a ∷ v) f h = (fits_counted limits d j a (f a h.0), absent_counted a.number v h.1, all_counted limits b d i j v f h.2)

all_joined : (limits : Limits) (b d : Board) (i j : ℕ) (v w : List Knowledge) → j ≢ i → ((x : Knowledge) → Fits limits b i x → Fits limits d i x) → ((x : Knowledge) → Fits limits b j x → Fits limits d i x)
    → AllFit limits b i v → AllFit limits b j w → AllFit limits d i (map one_step_on v ++ map one_step_on w)
all_joined limits b d i j [] w ne f g h k = all_counted limits b d j i w g k
all_joined limits b d i j (a ∷ v) w ne f g h k =
    (fits_counted limits d i a (f a h.0), absent_append a.number (map one_step_on v) (map one_step_on w) (absent_counted a.number v h.1) (absent_counted a.number w (absent_elsewhere limits b i j a w ne h.0 k)), all_joined limits b d i j v w ne f g h.2 k)

-- the other passes in a list from which one pass is absent
all_others : (limits : Limits) (b d : Board) (i k : ℕ) (v : List Knowledge) → ((x : Knowledge) → x.number ≢ k → Fits limits b i x → Fits limits d i x) → IsAbsent k v → AllFit limits b i v → AllFit limits d i (map one_step_on v)
all_others limits b d i k [] f n h = tt
all_others limits b d i k (a ∷ v) f n h = (fits_counted limits d i a (f a n.0 h.0), absent_counted a.number v h.1, all_others limits b d i k v f n.1 h.2)

fronts_append : (log : List Commit) (fs gs : List (List Commit)) → AreFronts log fs → AreFronts log gs → AreFronts log (fs ++ gs)
fronts_append log [] gs h g = g
fronts_append log (f ∷ fs) gs h g = (h.0, fronts_append log fs gs h.1 g)

-- a seat's view is split in two, and the passes of both are at rest
cut_rests : (limits : Limits) (w : World) (views : List View) (t : List Move) → IsTrace limits w views t → (i : ℕ) (left right : View) → AllRest t left.passes → AllRest t right.passes
    → (j : ℕ) (u : View) → get_elem? (set views i left ++ right ∷ []) j ≡ some u → AllRest t u.passes
cut_rests limits w views t tr i left right l r j u e =
    ⊎_elim
    (λ there. ⊎_elim
    (λ (q : (j ≡ i) × (left ≡ u)). subst (λ (x : View). AllRest t x.passes) q.1 l)
    (λ (q : (j ≢ i) × (get_elem? views j ≡ some u)). tr.rests j u q.1)
    (at_set views i j left u there))
    (λ (p : (j ≡ length (set views i left)) × (right ≡ u)). subst (λ (x : View). AllRest t x.passes) p.1 r)
    (at_snoc_place (set views i left) right u j e)

module _ (limits : Limits) where
  -- the first pass of a seat is given its own seat
  pub split_by : (i : ℕ) (a : Knowledge) (v : List Knowledge) (fs : List (List Commit)) → SplitIsNoEvent limits i a v fs
  split_by i a v fs s b t at =
      let n = length s.views in
      let all : View = record { passes = a ∷ v; fronts = fs } in
      let rest : View = record { passes = map one_step_on v; fronts = fs } in
      let d : Board = record b { seat_of = moved a.number n b.seat_of } in
      let f = (t.views i all at).0 in
      let changed = views_change limits b d s.views i all rest t.views at (starts_itself b.log)
      (λ j x ne fx. reseat limits b d.seat_of j j x (choose_else x.number a.number n (b.seat_of x.number) (apart limits b i j a x ne f.0 fx) ∙ fx.seat_is) fx)
      (λ was. (all_others limits b d i a.number v (λ x ne fx. reseat limits b d.seat_of i i x (choose_else x.number a.number n (b.seat_of x.number) ne ∙ fx.seat_is) fx) was.0.1 was.0.2, was.1)) in
      let sized : length (set s.views i rest) ≡ n = length-set s.views i rest in
      let new : ViewFits limits d n (alone (one_step_on a)) = ((fits_counted limits d n a (reseat limits b d.seat_of i n a (choose_then a.number a.number n (b.seat_of a.number) refl) f.0), tt, tt), tt) in (
        d,
        record {
          table = record { words = t.table.words; home = t.table.home; version = t.table.version };
          sound = sound_seats limits b d.seat_of t.sound;
          views = λ j u e. ⊎_elim (λ there. changed j u there)
              (λ (p : (j ≡ length (set s.views i rest)) × (alone (one_step_on a) ≡ u)). subst (λ (q : ℕ × View). ViewFits limits d q.0 q.1) (λ k. (sym (p.0 ∙ sized) k, p.1 k)) new)
              (at_snoc_place (set s.views i rest) (alone (one_step_on a)) u j e);
        },
        refl,
        refl,
      )

  pub deals : (i : ℕ) (a : Knowledge) (v : List Knowledge) (fs : List (List Commit)) → let all : View = record { passes = a ∷ v; fronts = fs } in Splits (Shows limits) i all (other_seats all) (first_seat all)
  deals i a v fs s h at =
      let rest : View = record { passes = map one_step_on v; fronts = fs } in
      let d = split_by i a v fs s h.0 h.1 at in let t = h.2.0 in let tr = h.2.1 in
      let all = tr.rests i (record { passes = a ∷ v; fronts = fs }) at in (
        d.0,
        d.1,
        (
          t,
          record {
            words = tr.words;
            runs = subst (λ (w : World). RunsTo limits tr.words t w) (sym d.2) tr.runs;
            rests = cut_rests limits h.0.world s.views t tr i rest (alone (one_step_on a)) (rest_counted t v all.1) (all.0, tt);
          },
        ),
      )

  -- what a pass has seen is given its own seat
  pub attest_by : (i : ℕ) (a : Knowledge) → AttestIsNoEvent limits i a
  attest_by i a s b t at =
      let f = (t.views i (alone a) at).0.0 in
      let kept = views_step limits b b s.views i a (one_step_on a) t.views at (starts_itself b.log) (λ j x ne fx. fx) (fits_counted limits b i a f) in (
        b,
        record {
          table = record { words = t.table.words; home = t.table.home; version = t.table.version };
          sound = t.sound;
          views = λ j u e. ⊎_elim (λ there. kept j u there)
              (λ (p : (j ≡ length (set s.views i (alone (one_step_on a)))) × (witnessing a.seen ≡ u)). subst (ViewFits limits b j) p.1 (tt, (f.seen, tt)))
              (at_snoc_place (set s.views i (alone (one_step_on a))) (witnessing a.seen) u j e);
        },
        refl,
        refl,
      )

  pub attests : (i : ℕ) (a : Knowledge) → Splits (Shows limits) i (alone a) (kept_seat (alone a)) (front_seat (alone a))
  attests i a s h at =
      let d = attest_by i a s h.0 h.1 at in let t = h.2.0 in let tr = h.2.1 in
      let all = tr.rests i (alone a) at in (
        d.0,
        d.1,
        (
          t,
          record {
            words = tr.words;
            runs = subst (λ (w : World). RunsTo limits tr.words t w) (sym d.2) tr.runs;
            rests = cut_rests limits h.0.world s.views t tr i (alone (one_step_on a)) (witnessing a.seen) (all.0, tt) tt;
          },
        ),
      )

  -- two seats become one
  pub join_by : (i : ℕ) (v : View) (other : ℕ) (w : View) → JoinIsNoEvent limits i v other w
  join_by i v other w s b t at ne there =
      let d : Board = record b { seat_of = gathered other i b.seat_of } in
      let was : get_elem? s.views other ≡ some w = sym (set_else s.views i other (seats_together v w) ne) ∙ there in
      let to_i = λ (x : Knowledge) (fx : Fits limits b other x). reseat limits b d.seat_of other i x (choose_then (b.seat_of x.number) other i (b.seat_of x.number) fx.seat_is) fx in
      let stay = λ (j : ℕ) (x : Knowledge) (apart_from : j ≢ other) (fx : Fits limits b j x). reseat limits b d.seat_of j j x (choose_else (b.seat_of x.number) other i (b.seat_of x.number) (λ q. apart_from (sym fx.seat_is ∙ q)) ∙ fx.seat_is) fx in
      let both : ViewFits limits d i (seats_together v w) = (all_joined limits b d i other v.passes w.passes ne (λ x fx. stay i x (λ q'. ne (sym q')) fx) to_i (t.views i v at).0 (t.views other w was).0, fronts_append b.log v.fronts w.fronts (t.views i v at).1 (t.views other w was).1) in (
        d,
        record {
          table = record { words = t.table.words; home = t.table.home; version = t.table.version };
          sound = sound_seats limits b d.seat_of t.sound;
          views = λ j u e. ⊎_elim
              (λ (p : (j ≡ other) × (empty_view ≡ u)). subst (ViewFits limits d j) p.1 (tt, tt))
              (λ (p : (j ≢ other) × (get_elem? (set s.views i (seats_together v w)) j ≡ some u)). ⊎_elim
              (λ (q : (j ≡ i) × (seats_together v w ≡ u)). subst (λ (r : ℕ × View). ViewFits limits d r.0 r.1) (λ k. (sym q.0 k, q.1 k)) both)
              (λ (q : (j ≢ i) × (get_elem? s.views j ≡ some u)). (all_fit limits b d j u.passes (λ x fx. stay j x p.0 fx) (t.views j u q.1).0, (t.views j u q.1).1))
              (at_set s.views i j (seats_together v w) u p.1))
              (at_set (set s.views i (seats_together v w)) other j empty_view u e);
        },
        refl,
        refl,
      )

  pub joins : (i : ℕ) (v : View) (other : ℕ) (w : View) → Joins (Shows limits) i v other w (seats_together v w) empty_view
  joins i v other w s h at ne there =
      let d = join_by i v other w s h.0 h.1 at ne there in let t = h.2.0 in let tr = h.2.1 in
      let was : get_elem? s.views other ≡ some w = sym (set_else s.views i other (seats_together v w) ne) ∙ there in
      let both : AllRest t (seats_together v w).passes = rest_append t (map one_step_on v.passes) (map one_step_on w.passes) (rest_counted t v.passes (tr.rests i v at)) (rest_counted t w.passes (tr.rests other w was)) in (
        d.0,
        d.1,
        (
          t,
          record {
            words = tr.words;
            runs = subst (λ (u : World). RunsTo limits tr.words t u) (sym d.2) tr.runs;
            rests = λ j u e. ⊎_elim
                (λ (p : (j ≡ other) × (empty_view ≡ u)). subst (λ (x : View). AllRest t x.passes) p.1 tt)
                (λ (p : (j ≢ other) × (get_elem? (set s.views i (seats_together v w)) j ≡ some u)). ⊎_elim
                (λ (q : (j ≡ i) × (seats_together v w ≡ u)). subst (λ (x : View). AllRest t x.passes) q.1 both)
                (λ (q : (j ≢ i) × (get_elem? s.views j ≡ some u)). tr.rests j u q.1)
                (at_set s.views i j (seats_together v w) u p.1))
                (at_set (set s.views i (seats_together v w)) other j empty_view u e);
          },
        ),
      )

-- the passes from k on all differ
newcomers-absent : (limits : Limits) (j k n : ℕ) → j < k → IsAbsent j (newcomers limits 0 k n)
unfolding newcomers
newcomers-absent limits j k zero lt = tt
newcomers-absent limits j k (suc n) lt = ((λ e. omega arith), newcomers-absent limits j (suc k) n (omega arith))

below_suc : (n p : ℕ) → has (pages_below n) p ≡ nat_lt p n → (p < n) ⊎ (n ≤ p) → (n < p) ⊎ (p ≤ n) → has (n ∷ pages_below n) p ≡ nat_lt p (suc n)
below_suc n p h (inl lt) d = rw (ne_eqb n p (λ e. absurd (omega (arith, lt))), lt-ltb p (suc n) (omega (arith, lt))) (h ∙ lt-ltb p n lt)
below_suc n p h (inr le) (inl past) = rw (ne_eqb n p (λ e. absurd (omega (arith, past))), le-ltb p (suc n) (omega (arith, past))) (h ∙ le-ltb p n le)
below_suc n p h (inr le) (inr same) = rw (eq-eqb n p (omega (arith, le, same)), lt-ltb p (suc n) (omega (arith, same))) refl

-- a page is among the pages below n if its number is below n
pub has_below : (n p : ℕ) → has (pages_below n) p ≡ nat_lt p n
has_below zero p = sym (le-ltb p 0 (omega arith))
has_below (suc n) p = below_suc n p (has_below n p) (cases_lt p n) (cases_lt n p)

-- version 0 has only pages below `used`
first_inside : (limits : Limits) → IsSetting limits → AreInside limits []
first_inside limits within zero p le r = let lt : p < limits.used = ltb-true p limits.used (sym (has_below limits.used p) ∙ r) in let fits = within.used_inside in omega (arith, lt)
first_inside limits within (suc n) p le r = absurd (omega arith)

-- a version has at least its version page
pub used_of : (used : ℕ) (words : ℕ → ℕ → ℕ) (volume : State) → EncodesVolume (pages_below used) words 0 volume → 0 < used
used_of zero words volume h = absurd (true≢false (sym h.version.in_use))
used_of (suc n) words volume h = omega arith

first_own : (limits : Limits) → IsSetting limits → OwnPages limits []
first_own limits within zero le = has_below limits.used 0 ∙ lt-ltb 0 limits.used within.some_used
first_own limits within (suc n) le = absurd (omega arith)

none_encoded : (pages : ℕ) (volume : State) → CanEncodeEach pages volume []
unfolding CanEncodeEach
none_encoded pages volume = λ n lt. absurd (omega (arith, lt))

abbrev first_board : Limits → List ℕ → Board
first_board limits words = record { log = []; world = first_state limits.pages limits.used limits.passes limits.commits (λ p i. slice_index words (word_place p i)); seat_of = λ _. 0 }

newcomers_fit : (limits : Limits) (words : List ℕ) (k n : ℕ) → k + n ≡ limits.passes → AllFit limits (first_board limits words) 0 (newcomers limits 0 k n)
unfolding newcomers
newcomers_fit limits words k zero e = tt
newcomers_fit limits words k (suc n) e = (
  record { number = omega arith; limits_are = refl; seat_is = refl; seen = ([], refl); mine = by_pass-nil k; own = by_pass-nil k; writes = refl; whole = λ w. absurd (true≢false (sym w)); phase = refl; pin = tt; image = λ x n p i e. absurd (cc) },
  newcomers-absent limits k (suc k) n (omega arith),
  newcomers_fit limits words (suc k) n (omega arith),
)

newcomers_rest : (limits : Limits) (k n : ℕ) → AllRest [] (newcomers limits 0 k n)
unfolding newcomers
newcomers_rest limits k zero = tt
newcomers_rest limits k (suc n) = (([], tt, refl), newcomers_rest limits (suc k) n)

pub begins : (limits : Limits) (words : List ℕ) (writer_state : WriterState) → IsSetting limits → length words ≡ 528 + 512 * limits.pages → ((k : ℕ) → k < 528 → slice_index words k ≡ 0)
    → writer_state.journal.entries ≡ [] → writer_state.journal.limit ≡ limits.commits → writer_state.page ≡ 0 → length (writer_state_places writer_state) ≡ limits.pages → ShowsPlaces (writer_state_places writer_state) (first_board limits words).world → map undone_place (writer_state_places writer_state) ≡ (writer_state_places writer_state) → writer_state.left ≡ 0
    → EncodesVolume (pages_below limits.used) (in_pages (λ p i. slice_index words (word_place p i))) 0 limits.volume
    → Shows limits (opening words (Some writer_state ∷ []) (everyone limits))
begins limits words writer_state within size blank none limit page count shown idle left first = (
  first_board limits words,
  record {
    table = record {
      words = record { size = size; lock = blank 0 (omega arith); current = blank 8 (omega arith); announced = λ k lt. blank (16 + 8 * k) (let f = within.limits.few in omega arith); pages = λ p i a b. refl; unused = λ k u. blank k u.0 };
      home = (writer_state, refl, record { journal = none; limit = limit; page = page; count = count; shown = shown; idle = idle; left = omega (arith, left) });
      version = refl;
    };
    sound = record {
      within = within;
      legal = legal-nil limits.volume;
      by_passes = below-nil limits.passes;
      room = omega arith;
      page = omega arith;
      inside = first_inside limits within;
      own_pages = first_own limits within;
      pages = refl;
      passes = refl;
      commits = refl;
      writer = λ h e. absurd (cc);
      reaches = λ n p le. reached n p le;
      machine = first-sound limits.pages limits.used limits.passes limits.commits (λ p i. slice_index words (word_place p i)) within.used_inside;
      encoded = λ n le. encoded n le;
    };
    views = one;
  },
  ([], record { words = λ p i. slice_index words (word_place p i); runs = refl; rests = λ j u e. rested j u e }),
)
  where
    rested : (j : ℕ) (u : View) → get_elem? (everyone limits ∷ []) j ≡ some u → AllRest [] u.passes
    rested zero u e = subst (λ (x : View). AllRest [] x.passes) (some-injective (everyone limits) u e) (newcomers_rest limits 0 limits.passes)
    rested (suc j) u e = absurd (some-ne-none u (sym e))

    encoded : (n : ℕ) → n ≤ 0 → EncodesVolume (reach_at limits [] n) (in_pages ((first_board limits words).world.image n)) (page_at [] n) (replay_from limits.volume (take n []))
    encoded zero le = first
    encoded (suc n) le = absurd (omega arith)

    reached : (n p : ℕ) → n ≤ 0 → (first_board limits words).world.reach n p ≡ has (reach_at limits [] n) p
    reached zero p le = sym (has_below limits.used p)
    reached (suc n) p le = absurd (omega arith)

    one : (j : ℕ) (u : View) → get_elem? (everyone limits ∷ []) j ≡ some u → ViewFits limits (first_board limits words) j u
    one zero u e = subst (ViewFits limits (first_board limits words) 0) (some-injective (everyone limits) u e) (newcomers_fit limits words 0 limits.passes (omega arith), tt)
    one (suc j) u e = absurd (some-ne-none u (sym e))

-- the first of the new passes is dealt a seat
pub newcomers-first : (limits : Limits) (t k n : ℕ) → first_seat (undealt limits t k (suc n)) ≡ alone (newcomer limits (t + 1) k)
unfolding newcomers
newcomers-first limits t k n = refl

newcomers-counted : (limits : Limits) (t k n : ℕ) → map one_step_on (newcomers limits t k n) ≡ newcomers limits (t + 1) k n
unfolding newcomers
newcomers-counted limits t k zero = refl
newcomers-counted limits t k (suc n) = ap (λ v. newcomer limits (t + 1) k ∷ v) (newcomers-counted limits t (suc k) n)

pub newcomers-others : (limits : Limits) (t k n : ℕ) → other_seats (undealt limits t k (suc n)) ≡ undealt limits (t + 1) (suc k) n
unfolding newcomers
newcomers-others limits t k n = ap (λ (v : List Knowledge). record { passes = v; fronts = [] }) (newcomers-counted limits t (suc k) n)

pub newcomers-deal : (limits of : Limits) (i t k n : ℕ) (v : View) → v ≡ undealt of t k (suc n) → Splits (Shows limits) i v (other_seats v) (first_seat v)
unfolding newcomers
newcomers-deal limits of i t k n v e = subst (λ u. Splits (Shows limits) i u (other_seats u) (first_seat u)) (sym e) (deals limits i (newcomer of t k) (newcomers of t (suc k) n) [])

abbrev pub Me2 : Type 0
Me2 = Me (Option WriterState) View

pub newcomer_reported : (limits : Limits) (t k : ℕ) → IsSetting limits → k < limits.passes → IsReported (newcomer limits t k) k 0
newcomer_reported limits t k within lt = record { number_is = refl; seen_is = refl; writes = refl; pass = record { within = within; legal = legal-nil limits.volume; number_below = lt; by_passes = below-nil limits.passes; room = omega arith; inside = first_inside limits within; own_pages = first_own limits within; volumes = none_encoded limits.pages limits.volume; pin = tt; mine = by_pass-nil k; encoded = λ x n e. absurd (cc) } }

pub AreNewAt-push : (id : TableId) (limits : Limits) (k : ℕ) (ss : List SeatFacts) (s : SeatFacts) → AreNewAt id limits k ss → (s.blank ≡ false) × (s.table ≡ id) × (s.knows ≡ newcomer limits (k + length ss + 1) (k + length ss)) → AreNewAt id limits k (ss ++ s ∷ [])
AreNewAt-push id limits k [] s h new = (subst (λ n. (s.blank ≡ false) × (s.table ≡ id) × (s.knows ≡ newcomer limits (n + 1) n)) (let e : k + length {A = SeatFacts} [] ≡ k = omega arith in e) new, tt)
AreNewAt-push id limits k (x ∷ ss) s h new = (h.0, AreNewAt-push id limits (k + 1) ss s h.1 (subst (λ n. (s.blank ≡ false) × (s.table ≡ id) × (s.knows ≡ newcomer limits (n + 1) n)) (let e : k + length (x ∷ ss) ≡ k + 1 + length ss = omega arith in e) new))

pub dealt : (limits : Limits) (k n : ℕ) (me r : Me2) → me ≡ (undealt limits k k (suc n), []) → r ≡ (first_seat me.0, []) → r ≡ (alone (newcomer limits (k + 1) k), [])
dealt limits k n me r e f = f ∙ ap (λ (m : Me2). (first_seat m.0, [])) e ∙ ap (λ (v : View). (v, [])) (newcomers-first limits k k n)

pub left_over : (limits : Limits) (k n : ℕ) (me r : Me2) → me ≡ (undealt limits k k (suc n), []) → r ≡ (other_seats me.0, me.1) → r ≡ (undealt limits (k + 1) (suc k) n, [])
left_over limits k n me r e f = f ∙ ap (λ (m : Me2). (other_seats m.0, m.1)) e ∙ ap (λ (v : View). (v, [])) (newcomers-others limits k k n)

pub newcomers-none : (limits : Limits) (t k n : ℕ) → n ≡ 0 → undealt limits t k n ≡ empty_view
unfolding newcomers
newcomers-none limits t k n e = ap (undealt limits t k) e

-- the pages below `used` are current, and all others are free
pub first_places : (limits : Limits) (words : List ℕ) (places : List PagePlace) → IsSetting limits → length places ≡ limits.pages → ((q : ℕ) → q < limits.used → place_of places q ≡ Current) → ((q : ℕ) → limits.used ≤ q → q < limits.pages → place_of places q ≡ Free)
    → ShowsPlaces places (first_board limits words).world × (map undone_place places ≡ places)
first_places limits words places within count used unused = (record { free = λ p. (at p).0; taken = λ p. (at p).1; retired = λ p. (at p).2 }, sym (mapped undone_place refl places places refl (λ q lt. (at q).3)))
  where
    Lies : ℕ → Type 0
    Lies p = ((nat_lt p limits.pages && not (nat_lt p limits.used)) ≡ shows_free (place_of places p)) × (false ≡ shows_taken (place_of places p)) × (None ≡ retired_with (place_of places p)) × (place_of places p ≡ undone_place (place_of places p))

    beyond : (p : ℕ) → limits.used ≤ p → (p < limits.pages) ⊎ (limits.pages ≤ p) → Lies p
    beyond p past c = elim c [
      | inl lt ↦ rw (unused p past lt, le-ltb p limits.used past, lt-ltb p limits.pages lt) (refl, refl, refl, refl)
      | inr le ↦ rw (get_or_past places p Current (omega (arith, le, count)), le-ltb p limits.pages le) (refl, refl, refl, refl)
    ]

    at : (p : ℕ) → Lies p
    at p = elim (cases_lt p limits.used) [
      | inl lt ↦ rw (used p lt, lt-ltb p limits.used lt, lt-ltb p limits.pages (let fits = within.used_inside in omega (arith, lt))) (refl, refl, refl, refl)
      | inr past ↦ beyond p past (cases_lt p limits.pages)
    ]

pub begins_as : (limits : Limits) (words : List ℕ) (slots : List (Option WriterState)) (writer_state : WriterState) → slots ≡ Some writer_state ∷ [] → IsSetting limits → length words ≡ 528 + 512 * limits.pages → ((k : ℕ) → k < 528 → slice_index words k ≡ 0)
    → writer_state.journal.entries ≡ [] → writer_state.journal.limit ≡ limits.commits → writer_state.page ≡ 0 → length (writer_state_places writer_state) ≡ limits.pages → ((q : ℕ) → q < limits.used → place_of (writer_state_places writer_state) q ≡ Current) → ((q : ℕ) → limits.used ≤ q → q < limits.pages → place_of (writer_state_places writer_state) q ≡ Free) → writer_state.left ≡ 0 → EncodesVolume (pages_below limits.used) (in_pages (λ p i. slice_index words (word_place p i))) 0 limits.volume → Shows limits (opening words slots (everyone limits))
begins_as limits words slots writer_state e within size blank none limit page count used unused left first =
    let x = first_places limits words (writer_state_places writer_state) within count used unused in
    subst (λ (xs : List (Option WriterState)). Shows limits (opening words xs (everyone limits))) (sym e) (begins limits words writer_state within size blank none limit page count x.0 x.1 left first)

pub only_one : (r l : List (Option WriterState)) (x : Option WriterState) → r ≡ l ++ x ∷ [] → l ≡ [] → r ≡ x ∷ []
only_one r l x e f = e ∙ ap (λ xs. xs ++ x ∷ []) f
