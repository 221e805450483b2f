-- A witness is made from what a pass has seen, and a pass takes in what a witness has seen.
use Rattle.std.proofs.Common.{◌≡◌, ℕ, List, [], length, false, Option, refl, sym, ap, ◌∙◌, subst}
use mathlib.Core.Option.{none}
use Rattle.atomic_table.specs.Table.{keeps, step, Allows, Splits}
use Rattle.be_table.specs.declared.writer_state.WriterState.{WriterState}
use Rattle.be_table.specs.Setting.{Setting as Limits}
use Rattle.be_table.specs.declared.pass.Commit.{Commit}
use Rattle.be_table.specs.declared.pass.Knowledge.{Knowledge}
use Rattle.be_table.specs.declared.pass.View.{View}
use Rattle.be_table.specs.Laws.{LearnIsNoEvent, NoEvent}
use Rattle.be_table.specs.Rule.{Shows, page_at, alone, witnessing, informed, kept_seat, front_seat, pass_of, seats_together, one_step_on}
use Rattle.be_table.specs.Seats.{IsReported}
use Rattle.be_table.specs.Steps.{Learned, having_seen, longer}
use Rattle.be_table.specs.Trace.{AllRest}
use Rattle.be_table.proofs.Histories.{starts_itself}
use Rattle.be_table.proofs.Deals.{attests}
use Rattle.be_table.proofs.Frames.{Me1, views_change, is_pass, words_load}
use Rattle.be_table.proofs.Meetings.{longer_starts, sees_fits}
use Rattle.be_table.proofs.Reported.{stepped_pass, reported_as}
use Rattle.be_table.proofs.Traces.{resting}

module _ (limits : Limits) (slots i : ℕ) (a : Knowledge) (front : List Commit) (carried : List (ℕ × Option WriterState)) where
  pub learn_by : LearnIsNoEvent limits slots i a front carried
  learn_by idle s b t sized at fits =
      let f = t.views i (informed a front) at in
      let log = longer a.seen front in
      let l = longer_starts b.log a.seen front f.0.0.seen f.1.0 in
      let ga = sees_fits limits b i a log idle f.0.0 l.0 l.2 in (
        alone (having_seen a log),
        keeps,
        tt,
        (
          b,
          record {
            table = record { words = words_load b.world (page_at b.log (length b.log)) s.words t.table.words 0; home = t.table.home; version = t.table.version };
            sound = t.sound;
            views = views_change limits b b s.views i (informed a front) (alone (having_seen a log)) t.views at (starts_itself b.log) (λ j x _ g. g) (λ _. ((ga, tt, tt), tt));
          },
          refl,
        ),
        (refl, l.0, l.1, is_pass limits b i (having_seen a log) t.sound ga),
      )

pub learns_as : (limits : Limits) (slots i : ℕ) (a : Knowledge) (front : List Commit) (me : Me1) → me ≡ (informed a front, []) → a.writes ≡ false → Allows (Shows limits) slots i me 0 (λ n. n) (Learned (step slots 0 0 0 none) me)
learns_as limits slots i a front me e idle =
    subst (λ (m : Me1). Allows (Shows limits) slots i m 0 (λ n. n) (Learned (step slots 0 0 0 none) m)) (sym e)
    (resting limits slots i (informed a front) [] 0 (λ n. n) NoEvent (Learned (step slots 0 0 0 none) (informed a front, [])) (learn_by limits slots i a front [] idle)
    (λ n v w g. g) (λ n r t l rest. subst (AllRest l) (sym (ap (λ (m : Me1). m.0.passes) t.0)) rest))

pub attests_as : (limits : Limits) (i : ℕ) (a : Knowledge) (u : View) → u ≡ alone a → Splits (Shows limits) i u (kept_seat u) (front_seat u)
attests_as limits i a u e = subst (λ (w : View). Splits (Shows limits) i w (kept_seat w) (front_seat w)) (sym e) (attests limits i a)

-- a pass has taken in a witness's seat
pub joined_front : (a : Knowledge) (front : List Commit) (m n r : Me1) → m ≡ (alone a, []) → n ≡ (witnessing front, []) → r ≡ (seats_together m.0 n.0, m.1) → r ≡ (informed (one_step_on a) front, [])
joined_front a front m n r e f g = g ∙ (λ k. (seats_together ((e k).0) ((f k).0), (e k).1))

-- what the seat and the witness say after they are split
module _ (a : Knowledge) (front : List Commit) (m n j l : Me1) (number seen : ℕ) (left : m ≡ (alone a, [])) (right : n ≡ (witnessing front, [])) (pair : j ≡ (seats_together m.0 n.0, m.1)) (learned : Learned (step 0 0 0 0 none) j 0 l) where
  pub learnt : Learned (step 0 0 0 0 none) (informed (one_step_on a) front, []) 0 l
  learnt = subst (λ (x : Me1). Learned (step 0 0 0 0 none) x 0 l) (joined_front a front m n j left right pair) learned

  pub reported_joined : (r : Me1) (both : ℕ) → r ≡ (kept_seat l.0, l.1) → length (longer a.seen front) ≡ both → IsReported a number seen → IsReported (pass_of r.0) number both
  reported_joined r both e long t =
      reported_as (one_step_on (having_seen (one_step_on a) (longer a.seen front))) r number both (ap (λ (x : Me1). pass_of x.0) e ∙ ap (λ (x : Me1). pass_of (kept_seat x.0)) learnt.0)
      (record { number_is = t.number_is; seen_is = long; writes = t.writes; pass = stepped_pass (having_seen (one_step_on a) (longer a.seen front)) _ learnt.3 })

-- what a seat says after a witness was made from it
pub reported_attested : (a : Knowledge) (m r : Me1) (number seen : ℕ) → m ≡ (alone a, []) → r ≡ (kept_seat m.0, m.1) → IsReported a number seen → IsReported (pass_of r.0) number seen
reported_attested a m r number seen is e t =
    reported_as (one_step_on a) r number seen (ap (λ (x : Me1). pass_of x.0) e ∙ ap (λ (x : Me1). pass_of (kept_seat x.0)) is)
    (record { number_is = t.number_is; seen_is = t.seen_is; writes = t.writes; pass = stepped_pass a _ t.pass })
