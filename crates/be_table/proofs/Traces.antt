-- A step's move extends the trace.
use Rattle.std.proofs.Common.{◌≡◌, ◌≢◌, ℕ, zero, suc, List, [], ◌∷◌, ◌++◌, map, set, Option, refl, sym, ap, ◌∙◌, subst, ⊎_elim, arith, append_assoc, slice_index}
use Rattle.be_table.specs.declared.pass.View.{View}
use Rattle.std.proofs.lemmas.List.{append-nil, set-set}
use mathlib.Core.Option.{some, some-ne-none}
use lib.ListN.{get_elem?}
use Rattle.atomic_table.specs.Table.{Act, Valid, stepped, homes_after, carried_after, Allows}
use Rattle.atomic_table.proofs.Lists.{at_set}
use Rattle.be_core.specs.Machine.{World}
use Rattle.be_table.specs.declared.writer_state.WriterState.{WriterState}
use Rattle.be_table.specs.Setting.{Setting as Limits}
use Rattle.be_table.specs.declared.pass.Knowledge.{Knowledge}
use Rattle.be_table.specs.declared.pass.Move.{Move}
use Rattle.be_table.specs.Laws.{AllowsBy}
use Rattle.be_table.specs.Rule.{alone, ViewFits, Board, Fits, AllFit, FitsBoard, Shows, IsAt, Reaches, IsKnownBefore, pass_of, one_step_on}
use Rattle.be_table.specs.Seats.{IsReported}
use Rattle.be_table.specs.Steps.{IsPass, with_history}
use Rattle.be_table.specs.Trace.{mover, after_move, Run, RunsTo, NoneBy, Makes, Rests, AllRest}
use Rattle.be_table.proofs.Histories.{starts_itself}
use Rattle.be_table.proofs.Frames.{Table, Me1, apart, views_step, longer_seen}

-- ## Lists of moves

pub run-append : (w v u : World) (ms ns : List Move) → Run w ms v → Run v ns u → Run w (ms ++ ns) u
run-append w v u [] ns r q = subst (λ (x : World). Run x ns u) r q
run-append w v u (m ∷ ms) ns r q = (r.0, run-append (after_move w m) v u ms ns r.1 q)

none_append : (k : ℕ) (ms ns : List Move) → NoneBy k ms → NoneBy k ns → NoneBy k (ms ++ ns)
none_append k [] ns h g = g
none_append k (m ∷ ms) ns h g = (h.0, none_append k ms ns h.1 g)

rests_on : (k : ℕ) (h t more : List Move) → NoneBy k more → Rests k h t → Rests k h (t ++ more)
rests_on k h t more none r = (r.0 ++ more, none_append k r.0 more r.1 none, ap (λ l. l ++ more) r.2 ∙ append_assoc h r.0 more)

rests_now : (k : ℕ) (t : List Move) → Rests k t t
rests_now k t = ([], tt, sym (append-nil t))

makes_one : (k : ℕ) (h t : List Move) (m : Move) → Rests k h t → Makes k h (m ∷ []) (t ++ m ∷ [])
makes_one k h t m r = (r.0, r.1, ap (λ l. l ++ m ∷ []) r.2)

-- moves, one list after another
pub makes_more : (k : ℕ) (old own mid more new : List Move) → Makes k old own mid → Makes k mid more new → Makes k old (own ++ more) new
makes_more k old [] mid more new a b = subst (λ (l : List Move). Makes k l more new) a b
makes_more k old (m ∷ own) mid more new a b = (a.0, a.1, makes_more k ((old ++ a.0) ++ m ∷ []) own mid more new a.2 b)

-- the moves of another pass leave the rest at rest
all_rest_on : (limits : Limits) (b : Board) (i j : ℕ) (a : Knowledge) (t : List Move) (m : Move) (u : List Knowledge) → j ≢ i → Fits limits b i a → mover m ≡ a.number → AllFit limits b j u → AllRest t u → AllRest (t ++ m ∷ []) u
all_rest_on limits b i j a t m [] ne fa is f r = tt
all_rest_on limits b i j a t m (x ∷ u) ne fa is f r = (rests_on x.number x.history t (m ∷ []) ((λ e. apart limits b i j a x ne fa f.0 (sym e ∙ is)), tt) r.0, all_rest_on limits b i j a t m u ne fa is f.2 r.1)

pub rest_counted : (t : List Move) (v : List Knowledge) → AllRest t v → AllRest t (map one_step_on v)
rest_counted t [] r = tt
rest_counted t (a ∷ v) r = (r.0, rest_counted t v r.1)

pub rest_append : (t : List Move) (v w : List Knowledge) → AllRest t v → AllRest t w → AllRest t (v ++ w)
rest_append t [] w r q = q
rest_append t (a ∷ v) w r q = (r.0, rest_append t v w r.1 q)

pub set_at : {A : Type 0} (l : List A) (i : ℕ) (a b : A) → get_elem? l i ≡ some a → get_elem? (set l i b) i ≡ some b
set_at [] i a b e = absurd (some-ne-none a (sym e))
set_at (x ∷ xs) zero a b e = refl
set_at (x ∷ xs) (suc i) a b e = set_at xs i a b e

-- ## A pass with another history

pub pass_history : (a : Knowledge) (h : List Move) → IsPass a → IsPass (with_history a h)
pass_history a h p = record { within = p.within; legal = p.legal; number_below = p.number_below; by_passes = p.by_passes; room = p.room; inside = p.inside; own_pages = p.own_pages; volumes = p.volumes; pin = p.pin; mine = p.mine; encoded = p.encoded }

pub reported_history : (a : Knowledge) (h : List Move) (number seen : ℕ) → IsReported a number seen → IsReported (with_history a h) number seen
reported_history a h number seen t = record { number_is = t.number_is; seen_is = t.seen_is; writes = t.writes; pass = pass_history a h t.pass }

fits_history : (limits : Limits) (b : Board) (i : ℕ) (a : Knowledge) (h : List Move) → Fits limits b i a → Fits limits b i (with_history a h)
fits_history limits b i a h f = record { number = f.number; limits_are = f.limits_are; seat_is = f.seat_is; seen = f.seen; mine = f.mine; own = f.own; writes = f.writes; whole = λ t. let x = f.whole t in record { log = x.log; writer = x.writer; turn = x.turn; count = x.count; shown = x.shown; size = x.size; words = x.words }; phase = f.phase; pin = f.pin; image = f.image }

-- the table in which a seat's pass has this history
abbrev pub dated : Table → ℕ → Knowledge → List Move → Table
dated s i a h = record { words = s.words; homes = s.homes; views = set s.views i (alone (with_history a h)) }

pub fits_board_dated : (limits : Limits) (s : Table) (b : Board) (i : ℕ) (a : Knowledge) (h : List Move) → FitsBoard limits s b → get_elem? s.views i ≡ some (alone a) → FitsBoard limits (dated s i a h) b
fits_board_dated limits s b i a h st at = record {
  table = record { words = st.table.words; home = st.table.home; version = st.table.version };
  sound = st.sound;
  views = views_step limits b b s.views i a (with_history a h) st.views at (starts_itself b.log) (λ j x _ f. f) (fits_history limits b i a h (st.views i (alone a) at).0.0);
}

-- what the machine is for a pass that fits
is_at : (limits : Limits) (s : Table) (d : Board) (i : ℕ) (c : Knowledge) → FitsBoard limits s d → Fits limits d i c → IsAt c d.world
is_at limits s d i c st f = record { phase = f.phase; writes = f.writes; holds = λ t. (f.whole t).writer; seen = let long = longer_seen d.log c.seen f.seen in let version = st.table.version in omega arith; shown = λ t. (f.whole t).shown; image = f.image }

-- what a step has to show
abbrev pub Goes : Limits → Table → Board → ℕ → ℕ → ℕ → List (ℕ × Option WriterState) → (World → World → Type 0) → (Me1 → Type 0) → Type 0
Goes limits s b word n i carried event then = (w : View) × (x : Act (Option WriterState)) × Valid s.homes carried x × ((d : Board) × FitsBoard limits (stepped s word n i carried w x) d × event b.world d.world) × then (w, carried_after carried x)

-- what a step has to show, with its trace
abbrev pub Follows : Limits → Table → ℕ → ℕ → ℕ → List (ℕ × Option WriterState) → (Me1 → Type 0) → Type 0
Follows limits s word n i carried then = (w : View) × (x : Act (Option WriterState)) × Valid s.homes carried x × Shows limits (stepped s word n i carried w x) × then (w, carried_after carried x)

-- the seat has one pass, with this number and this history
abbrev pub IsOne : Knowledge → List Move → Me1 → Type 0
IsOne a h r = (c : Knowledge) × (r.0 ≡ alone c) × (c.number ≡ a.number) × (c.history ≡ h)

-- a step that is a move of the machine
module _ (limits : Limits) (s : Table) (h : Shows limits s) (word n i : ℕ) (a : Knowledge) (carried : List (ℕ × Option WriterState)) (at : get_elem? s.views i ≡ some (alone a)) (m : Move) (is : mover m ≡ a.number) where
  abbrev pub later : List Move
  later = h.2.0 ++ m ∷ []

  -- before it the machine was as the pass knew it
  pub known_before : IsKnownBefore a m later
  known_before =
      let tr = h.2.1 in
      let fa = (h.1.views i (alone a) at).0.0 in
      let r = (tr.rests i (alone a) at).0 in record {
        others = r.0;
        none = r.1;
        ends = ap (λ l. l ++ m ∷ []) r.2;
        words = tr.words;
        world = h.0.world;
        runs = subst (λ (q : Limits × List Move). RunsTo q.0 tr.words q.1 h.0.world) (λ k. (sym fa.limits_are k, r.2 k)) tr.runs;
        known = is_at limits s h.0 i a h.1 fa;
      }

  pub moved : (event : World → World → Type 0) (then : List Move → Me1 → Type 0) (so : World → Type 0) → Goes limits (dated s i a later) h.0 word n i carried event (then later)
      → ((v w : World) → event v w → Run v (m ∷ []) w × so w) → ((r : Me1) → then later r → IsOne a later r)
      → Follows limits s word n i carried (λ r. (hist : List Move) × Makes a.number a.history (m ∷ []) hist × Reaches (pass_of r.0) so × then hist r)
  moved event then so y goes shape =
      let b = h.0 in let t = h.2.0 in let tr = h.2.1 in
      let d = y.3.0 in
      let c = shape (y.0, carried_after carried y.1) y.4 in
      let fa = (h.1.views i (alone a) at).0.0 in
      let run = goes b.world d.world y.3.2 in
      let lies : FitsBoard limits (stepped s word n i carried y.0 y.1) d = subst
      (λ (vs : List View). FitsBoard limits (record { words = set s.words word n; homes = homes_after s.homes carried y.1; views = vs }) d)
      (set-set s.views i (alone (with_history a later)) y.0) y.3.1 in
      let runs : RunsTo limits tr.words later d.world = run-append _ b.world d.world t (m ∷ []) tr.runs run.0 in
      let fits : Fits limits d i c.0 = (subst (ViewFits limits d i) c.1 (lies.views i y.0 (set_at s.views i (alone a) y.0 at))).0.0 in (
        y.0,
        y.1,
        y.2,
        (
          d,
          lies,
          (
            later,
            record {
              words = tr.words;
              runs = runs;
              rests = λ j u e. ⊎_elim
                  (λ (q : (j ≡ i) × (y.0 ≡ u)). subst (λ (u : View). AllRest later u.passes) (sym c.1 ∙ q.1) (subst (λ l. Rests c.0.number l later) (sym c.3) (rests_now c.0.number later), tt))
                  (λ (q : (j ≢ i) × (get_elem? s.views j ≡ some u)). all_rest_on limits b i j a t m u.passes q.0 fa is (h.1.views j u q.1).0 (tr.rests j u q.1))
                  (at_set s.views i j y.0 u e);
            },
          ),
        ),
        (
          later,
          makes_one a.number a.history t m (tr.rests i (alone a) at).0,
          subst (λ (u : View). Reaches (pass_of u) so) (sym c.1)
              (record {
                words = tr.words;
                world = d.world;
                runs = subst (λ (q : Limits × List Move). RunsTo q.0 tr.words q.1 d.world) (λ k. (sym fits.limits_are k, sym c.3 k)) runs;
                known = is_at limits (stepped s word n i carried y.0 y.1) d i c.0 lies fits;
                so = run.1;
              }),
          y.4,
        ),
      )

-- the same for every table
pub moving : (limits : Limits) (slots i : ℕ) (a : Knowledge) (carried : List (ℕ × Option WriterState)) (word : ℕ) (f : ℕ → ℕ) (move : ℕ → Move) (event : ℕ → World → World → Type 0) (then : List Move → ℕ → Me1 → Type 0) (so : ℕ → World → Type 0)
    → ((n : ℕ) → mover (move n) ≡ a.number) → ((hist : List Move) → AllowsBy limits slots i (alone (with_history a hist), carried) word f event (then hist))
    → ((n : ℕ) (v w : World) → event n v w → Run v (move n ∷ []) w × so n w) → ((hist : List Move) (n : ℕ) (r : Me1) → then hist n r → IsOne a hist r)
    → Allows (Shows limits) slots i (alone a, carried) word f (λ n r. (hist : List Move) × Makes a.number a.history (move n ∷ []) hist × Reaches (pass_of r.0) (so n) × then hist n r)
moving limits slots i a carried word f move event then so is by goes shape s h sized at fits =
    let n = slice_index s.words word in
    let hist = h.2.0 ++ move n ∷ [] in
    moved limits s h word (f n) i a carried at (move n) (is n) (event n) (λ hist r. then hist n r) (so n)
    (by hist (dated s i a hist) h.0 (fits_board_dated limits s h.0 i a hist h.1 at) sized (set_at s.views i (alone a) (alone (with_history a hist)) at) fits) (goes n) (shape hist n)

-- the same, with what the machine was before
pub moving_from : (limits : Limits) (slots i : ℕ) (a : Knowledge) (carried : List (ℕ × Option WriterState)) (word : ℕ) (f : ℕ → ℕ) (move : ℕ → Move) (event : ℕ → World → World → Type 0) (then : List Move → ℕ → Me1 → Type 0) (so : ℕ → World → Type 0)
    → ((n : ℕ) → mover (move n) ≡ a.number) → ((hist : List Move) → AllowsBy limits slots i (alone (with_history a hist), carried) word f event (then hist))
    → ((n : ℕ) (v w : World) → event n v w → Run v (move n ∷ []) w × so n w) → ((hist : List Move) (n : ℕ) (r : Me1) → then hist n r → IsOne a hist r)
    → Allows (Shows limits) slots i (alone a, carried) word f (λ n r. (hist : List Move) × Makes a.number a.history (move n ∷ []) hist × Reaches (pass_of r.0) (so n) × (then hist n r × IsKnownBefore a (move n) hist))
moving_from limits slots i a carried word f move event then so is by goes shape s h sized at fits =
    let n = slice_index s.words word in
    let hist = h.2.0 ++ move n ∷ [] in
    let y = by hist (dated s i a hist) h.0 (fits_board_dated limits s h.0 i a hist h.1 at) sized (set_at s.views i (alone a) (alone (with_history a hist)) at) fits in
    moved limits s h word (f n) i a carried at (move n) (is n) (event n) (λ hist r. then hist n r × IsKnownBefore a (move n) hist) (so n)
    (y.0, y.1, y.2, y.3, (y.4, known_before limits s h word (f n) i a carried at (move n) (is n))) (goes n) (λ r t. shape hist n r t.0)

-- a step that is no move
pub rested : (limits : Limits) (s : Table) (h : Shows limits s) (word n i : ℕ) (v : View) (carried : List (ℕ × Option WriterState)) → get_elem? s.views i ≡ some v → (event : World → World → Type 0) (then : Me1 → Type 0) → Goes limits s h.0 word n i carried event then
    → ((x w : World) → event x w → w ≡ x) → ((r : Me1) → then r → (t : List Move) → AllRest t v.passes → AllRest t r.0.passes) → Follows limits s word n i carried then
rested limits s h word n i v carried at event then y same rest =
    let t = h.2.0 in let tr = h.2.1 in
    let d = y.3.0 in (
      y.0,
      y.1,
      y.2,
      (
        d,
        y.3.1,
        (
          t,
          record {
            words = tr.words;
            runs = subst (λ (w : World). RunsTo limits tr.words t w) (sym (same h.0.world d.world y.3.2)) tr.runs;
            rests = λ j u e. ⊎_elim
                (λ (q : (j ≡ i) × (y.0 ≡ u)). subst (λ (x : View). AllRest t x.passes) q.1 (rest (y.0, carried_after carried y.1) y.4 t (tr.rests i v at)))
                (λ (q : (j ≢ i) × (get_elem? s.views j ≡ some u)). tr.rests j u q.1)
                (at_set s.views i j y.0 u e);
          },
        ),
      ),
      y.4,
    )

pub resting : (limits : Limits) (slots i : ℕ) (v : View) (carried : List (ℕ × Option WriterState)) (word : ℕ) (f : ℕ → ℕ) (event : ℕ → World → World → Type 0) (then : ℕ → Me1 → Type 0) → AllowsBy limits slots i (v, carried) word f event then
    → ((n : ℕ) (x w : World) → event n x w → w ≡ x) → ((n : ℕ) (r : Me1) → then n r → (t : List Move) → AllRest t v.passes → AllRest t r.0.passes) → Allows (Shows limits) slots i (v, carried) word f then
resting limits slots i v carried word f event then by same rest s h sized at fits =
    let n = slice_index s.words word in rested limits s h word (f n) i v carried at (event n) (then n) (by s h.0 h.1 sized at fits) (same n) (rest n)

-- what a step says may be restated
pub retold : (limits : Limits) (slots i : ℕ) (me : Me1) (word : ℕ) (f : ℕ → ℕ) (then more : ℕ → Me1 → Type 0) → ((n : ℕ) (r : Me1) → then n r → more n r) → Allows (Shows limits) slots i me word f then → Allows (Shows limits) slots i me word f more
retold limits slots i me word f then more g x s h sized at fits = let r = x s h sized at fits in (r.0, r.1, r.2, r.3, g (slice_index s.words word) _ r.4)

-- the step at a seat whose pass is known
pub as_me : (limits : Limits) (slots i : ℕ) (a : Knowledge) (carried : List (ℕ × Option WriterState)) (me : Me1) (word : ℕ) (f : ℕ → ℕ) (then : Me1 → ℕ → Me1 → Type 0) → me ≡ (alone a, carried) → Allows (Shows limits) slots i (alone a, carried) word f (then (alone a, carried)) → Allows (Shows limits) slots i me word f (then me)
as_me limits slots i a carried me word f then e x = subst (λ (m : Me1). Allows (Shows limits) slots i m word f (then m)) (sym e) x

-- the pass of a seat whose view is known
pub one_of : (a c : Knowledge) (h : List Move) (l : List (ℕ × Option WriterState)) (r : Me1) → r ≡ (alone c, l) → c.number ≡ a.number → c.history ≡ h → IsOne a h r
one_of a c h l r e number history = (c, ap (λ (m : Me1). m.0) e, number, history)
