use Rattle.std.proofs.Common.{◌≡◌, length, sym, ap, ◌∙◌, arith}
use Rattle.be_table.specs.Rule.{one_step_on}
use Rattle.be_table.specs.Steps.{longer}
use Rattle.be_table.proofs.Deals.{joins}
use Rattle.be_table.proofs.Meetings.{left_longer, right_longer}
use Rattle.be_table.proofs.Witnesses.{attests_as, joined_front, learns_as, reported_joined}
use Rattle.be_table.proofs.table.VersionTable.join.Goals as goal
use Rattle.be_table.proofs.table.VersionTable.join.Goals.{then-marks-seen, else-marks-seen}

pub join_seat-requires : goal.join_seat-requires
join_seat-requires c =
    let p = c.into_base-base.ensures.pass in let q = c.into_base-other.ensures.front in let id = sym (ap (λ t. t.id) c.self.view_is) in
    (p.0 ∙ ap (λ s. s.table) c.move_out.ensures.0 ∙ c.requires.0.1 ∙ id, q.0 ∙ ap (λ w. w.table) c.move_out-2.ensures.0 ∙ c.requires.1.1 ∙ id, ap (λ m. m.1) q.1, omega (arith, c.self.invariant.0), joins _ _ _ _ _)

pub load-requires : goal.load-requires
load-requires c =
    let p = c.into_base-base.ensures.pass in let q = c.into_base-other.ensures.front in let id = sym (ap (λ t. t.id) c.self.view_is) in
    let j = c.join_seat.ensures in (
      j.0 ∙ p.0 ∙ ap (λ s. s.table) c.move_out.ensures.0 ∙ c.requires.0.1 ∙ id,
      omega (arith, c.self.invariant.0),
      learns_as _ _ _ (one_step_on c.move_out.result.knows) c.move_out-2.result.seen _ (joined_front _ _ _ _ _ p.1 q.1 j.2) c.into_base-base.ensures.reported.1.writes,
    )

pub split_seat-front-requires : goal.split_seat-front-requires
split_seat-front-requires c =
    let p = c.into_base-base.ensures.pass in let id = sym (ap (λ t. t.id) c.self.view_is) in
    let j = c.join_seat.ensures in let l = c.load.ensures in
    (l.0 ∙ j.0 ∙ p.0 ∙ ap (λ s. s.table) c.move_out.ensures.0 ∙ c.requires.0.1 ∙ id, omega (arith, c.self.invariant.0), attests_as _ _ _ _ (ap (λ m. m.0) l.2.0))

pub of-requires-clause-reported : goal.of-requires-clause-reported
of-requires-clause-reported c =
    let p = c.into_base-base.ensures in let q = c.into_base-other.ensures in
    let a = c.move_out.result.knows in let front = c.move_out-2.result.seen in
    let long : length (longer a.seen front) ≡ c.if-marks-seen.both = elim c.if-marks-seen.branch [
      | then-marks-seen w ↦ right_longer a.seen front (omega (arith, p.reported.1.seen_is, q.length, w.if-marks-seen)) ∙ q.length ∙ sym w.both-is
      | else-marks-seen w ↦ left_longer a.seen front (omega (arith, p.reported.1.seen_is, q.length, w.if-marks-seen)) ∙ p.reported.1.seen_is ∙ sym w.both-is
    ] in
    reported_joined a front _ _ _ c.load.new.seat.me _ _ p.pass.1 q.front.1 c.join_seat.ensures.2 c.load.ensures.2 c.split_seat-front.new.seat.me _ c.split_seat-front.ensures.2 long p.reported.1
