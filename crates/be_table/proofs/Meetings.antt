-- Two passes in one seat compare what they have seen.
use Rattle.std.proofs.Common.{◌≡◌, ℕ, ◌<◌, ◌≤◌, List, [], ◌∷◌, ◌++◌, length, Bool, false, true≢false, if◌then◌else◌, Option, refl, sym, ap, ◌∙◌, subst, arith}
use Rattle.be_table.specs.declared.pass.View.{View}
use mathlib.Core.Option.{none}
use mathlib.Core.Logic.{dite}
use native.Mathlib.Decide.{dec_lt}
use borrow.Author.Tests.{lt-ltb, le-ltb}
use Rattle.atomic_table.specs.Table.{Step, keeps, step, Allows, Splits}
use Rattle.be_table.specs.declared.writer_state.WriterState.{WriterState}
use Rattle.be_table.specs.Setting.{Setting as Limits}
use Rattle.be_table.specs.declared.marks.PinnedVersion.{PinnedVersion}
use Rattle.be_table.specs.declared.pass.Commit.{Commit}
use Rattle.be_table.specs.declared.pass.Knowledge.{Knowledge}
use Rattle.be_table.specs.History.{StartsWith}
use Rattle.be_table.specs.Laws.{AllowsBy, NoEvent}
use Rattle.be_table.specs.Rule.{alone, beside, second_of, Board, entries, page_at, Fits, Shows, one_step_on, pass_of, seats_together, first_seat, other_seats}
use Rattle.be_table.specs.Seats.{IsReported, pin_of}
use Rattle.be_table.specs.Steps.{IsPass, Compared, CompareMoves, having_seen, longer}
use Rattle.be_table.proofs.Histories.{starts_itself, by_pass-between}
use Rattle.be_table.proofs.Deals.{deals}
use Rattle.be_table.proofs.Frames.{Me1, views_change, entries-start, longer_seen, is_pass, in_time_later, words_load}
use Rattle.be_table.specs.Trace.{AllRest, HasTrace}
use Rattle.be_table.proofs.Traces.{resting}
use Rattle.be_table.proofs.PinMarks.{pin_stays}
use Rattle.be_table.proofs.Reported.{reported_as, stepped_pass}

-- two prefixes of one journal
two_fronts : (p r q z : List Commit) → p ++ r ≡ q ++ z → length p ≤ length q → StartsWith q p
two_fronts [] r q z e le = (q, refl)
two_fronts (x ∷ p) r [] z e le = absurd (omega arith)
two_fronts (x ∷ p) r (y ∷ q) z e le =
    let head : x ≡ y = cc in let tail : p ++ r ≡ q ++ z = cc in
    let more = two_fronts p r q z tail (omega arith) in
    (more.0, λ k. sym head k ∷ more.1 k)

shorter_starts : (log p q : List Commit) → StartsWith log p → StartsWith log q → length p ≤ length q → StartsWith q p
shorter_starts log p q s t le = two_fronts p s.0 q t.0 (sym s.1 ∙ t.1) le

pub longer_starts : (log p q : List Commit) → StartsWith log p → StartsWith log q → StartsWith (longer p q) p × StartsWith (longer p q) q × StartsWith log (longer p q)
longer_starts log p q s t = dite (dec_lt (length p) (length q))
    (λ lt. subst P (sym (lt-ltb (length p) (length q) lt)) (shorter_starts log p q s t (omega arith), starts_itself q, t))
    (λ nlt. let le : length q ≤ length p = omega arith in subst P (sym (le-ltb (length p) (length q) le)) (starts_itself p, shorter_starts log q p t s le, s))
  where
    P : Bool → Type 0
    P b = StartsWith (if b then q else p) p × StartsWith (if b then q else p) q × StartsWith log (if b then q else p)

-- a pass without the lock sees more
pub sees_fits : (limits : Limits) (b : Board) (i : ℕ) (a : Knowledge) (log : List Commit) → a.writes ≡ false → Fits limits b i a → StartsWith log a.seen → StartsWith b.log log → Fits limits b i (having_seen a log)
sees_fits limits b i a log idle f more front = record {
  number = f.number;
  limits_are = f.limits_are;
  seat_is = f.seat_is;
  seen = front;
  mine = f.mine;
  own = by_pass-between a.number (entries b.log) (entries log) (entries a.seen) a.mine (entries-start b.log log front) (entries-start log a.seen more) f.own f.mine;
  writes = f.writes;
  whole = λ w. absurd (true≢false (sym w ∙ idle));
  phase = f.phase;
  pin = in_time_later (length a.seen) (length log) a.phase (longer_seen log a.seen more) f.pin;
  image = f.image;
}

module _ (limits : Limits) (slots i : ℕ) (a c : Knowledge) (carried : List (ℕ × Option WriterState)) where
  pub compare_by : a.writes ≡ false → c.writes ≡ false → AllowsBy limits slots i (beside a c, carried) 0 (λ n. n) NoEvent (Compared (step slots 0 0 0 none) (beside a c, carried))
  compare_by idle idle' s b t sized at fits =
      let f = (t.views i (beside a c) at).0 in
      let log = longer a.seen c.seen in
      let l = longer_starts b.log a.seen c.seen f.0.seen f.2.0.seen in
      let ga = sees_fits limits b i a log idle f.0 l.0 l.2 in
      let gc = sees_fits limits b i c log idle' f.2.0 l.1 l.2 in (
        beside (having_seen a log) (having_seen c log),
        keeps,
        tt,
        (
          b,
          record {
            table = record { words = words_load b.world (page_at b.log (length b.log)) s.words t.table.words 0; home = t.table.home; version = t.table.version };
            sound = t.sound;
            views = views_change limits b b s.views i (beside a c) (beside (having_seen a log) (having_seen c log)) t.views at (starts_itself b.log) (λ j x _ g. g) (λ _. ((ga, (f.1.0, tt), (gc, tt, tt)), tt));
          },
          refl,
        ),
        (refl, l.0, l.1, is_pass limits b i (having_seen a log) t.sound ga, is_pass limits b i (having_seen c log) t.sound gc),
      )

pub joined_pair : (a c : Knowledge) (m n r : Me1) → m ≡ (alone a, []) → n ≡ (alone c, []) → r ≡ (seats_together m.0 n.0, m.1) → r ≡ (beside (one_step_on a) (one_step_on c), [])
joined_pair a c m n r e f g = g ∙ (λ k. (seats_together ((e k).0) ((f k).0), (e k).1))

-- a comparison is no move, and shows that both histories are prefixes of the trace
comparing : (limits : Limits) (slots i : ℕ) (a c : Knowledge) → a.writes ≡ false → c.writes ≡ false → Allows (Shows limits) slots i (beside a c, []) 0 (λ n. n) (CompareMoves (step slots 0 0 0 none) (beside a c, []))
comparing limits slots i a c idle idle' s h sized at fits =
    let y = resting limits slots i (beside a c) [] 0 (λ n. n) NoEvent (Compared (step slots 0 0 0 none) (beside a c, [])) (compare_by limits slots i a c [] idle idle')
    (λ n v w g. g) (λ n r t l rest. subst (AllRest l) (sym (ap (λ (m : Me1). m.0.passes) t.0)) rest) s h sized at fits in
    let tr = h.2.1 in (
      y.0,
      y.1,
      y.2,
      y.3,
      (
        y.4,
        subst (λ (l : Limits). HasTrace l (a ∷ c ∷ [])) (sym (h.1.views i (beside a c) at).0.0.limits_are)
            (record { trace = h.2.0; runs = (tr.words, h.0.world, tr.runs); rests = tr.rests i (beside a c) at }),
      ),
    )

pub compares_as : (limits : Limits) (slots i : ℕ) (a c : Knowledge) (me : Me1) → me ≡ (beside a c, []) → a.writes ≡ false → c.writes ≡ false → Allows (Shows limits) slots i me 0 (λ n. n) (CompareMoves (step slots 0 0 0 none) me)
compares_as limits slots i a c me e idle idle' =
    subst (λ (m : Me1). Allows (Shows limits) slots i m 0 (λ n. n) (CompareMoves (step slots 0 0 0 none) m)) (sym e) (comparing limits slots i a c idle idle')

-- what the two passes had done before they met is in one trace
pub traced : (a c : Knowledge) (m n j l : Me1) → m ≡ (alone a, []) → n ≡ (alone c, []) → j ≡ (seats_together m.0 n.0, m.1) → CompareMoves (step 0 0 0 0 none) j 0 l → HasTrace a.limits (a ∷ c ∷ [])
traced a c m n j l left right pair compared =
    let t : HasTrace a.limits (one_step_on a ∷ one_step_on c ∷ []) =
    subst (λ (x : Me1). HasTrace (pass_of x.0).limits (pass_of x.0 ∷ second_of x.0 ∷ [])) (joined_pair a c m n j left right pair) compared.1 in
    record { trace = t.trace; runs = t.runs; rests = (t.rests.0, (t.rests.1.0, tt)) }

pub deals_as : (limits : Limits) (i : ℕ) (a c : Knowledge) (u : View) → u ≡ beside a c → Splits (Shows limits) i u (other_seats u) (first_seat u)
deals_as limits i a c u e = subst (λ (w : View). Splits (Shows limits) i w (other_seats w) (first_seat w)) (sym e) (deals limits i a (c ∷ []) [])

-- what a comparison says about the two passes
pub reported : (a c : Knowledge) (m r : Me1) (st : Step (Option WriterState)) (n : ℕ) → m ≡ (beside a c, []) → Compared st m n r → Compared st (beside a c, []) n r
reported a c m r st n e t = subst (λ (x : Me1). Compared st x n r) e t

pub met_pin : (a : Knowledge) (log : List Commit) (pin : Option PinnedVersion) → IsPass a → pin ≡ pin_of a.phase a.seen → StartsWith log a.seen → pin ≡ pin_of a.phase log
met_pin a log pin pass is more = is ∙ sym (pin_stays a.phase a.seen log pass.pin more)

-- the longer of two journals
pub right_longer : (p q : List Commit) → length p < length q → length (longer p q) ≡ length q
right_longer p q lt = rw (lt-ltb (length p) (length q) lt) refl

pub left_longer : (p q : List Commit) → length q ≤ length p → length (longer p q) ≡ length p
left_longer p q le = rw (le-ltb (length p) (length q) le) refl

-- what the seats say after they are split
module _ (a c : Knowledge) (m n j l f : Me1) (number seen both : ℕ) (left : m ≡ (alone a, [])) (right : n ≡ (alone c, [])) (pair : j ≡ (seats_together m.0 n.0, m.1)) (compared : Compared (step 0 0 0 0 none) j 0 l) (long : length (longer a.seen c.seen) ≡ both) where
  after_all : Compared (step 0 0 0 0 none) (beside (one_step_on a) (one_step_on c), []) 0 l
  after_all = reported (one_step_on a) (one_step_on c) j l (step 0 0 0 0 none) 0 (joined_pair a c m n j left right pair) compared

  pub met_left : f.0 ≡ first_seat l.0 → IsReported a number seen → IsReported (pass_of f.0) number both
  met_left e t = reported_as (one_step_on (having_seen (one_step_on a) (longer a.seen c.seen))) f number both (ap pass_of e ∙ ap (λ (x : Me1). pass_of (first_seat x.0)) after_all.0)
      (record { number_is = t.number_is; seen_is = long; writes = t.writes; pass = stepped_pass (having_seen (one_step_on a) (longer a.seen c.seen)) _ after_all.3 })

  pub met_right : f.0 ≡ other_seats l.0 → IsReported c number seen → IsReported (pass_of f.0) number both
  met_right e t = reported_as (one_step_on (having_seen (one_step_on c) (longer a.seen c.seen))) f number both (ap pass_of e ∙ ap (λ (x : Me1). pass_of (other_seats x.0)) after_all.0)
      (record { number_is = t.number_is; seen_is = long; writes = t.writes; pass = stepped_pass (having_seen (one_step_on c) (longer a.seen c.seen)) _ after_all.4 })
