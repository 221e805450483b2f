use Rattle.std.proofs.Common.{◌≡◌, length, [], ◌∷◌, sym, ap, ◌∙◌, subst, arith}
use Rattle.be_table.specs.Rule.{one_step_on}
use Rattle.be_table.proofs.Deals.{joins}
use Rattle.be_table.specs.Steps.{longer}
use Rattle.be_table.specs.Trace.{HasTrace}
use Rattle.be_table.proofs.Meetings.{joined_pair, compares_as, deals_as, left_longer, right_longer, met_left, met_right, traced}
use Rattle.be_table.proofs.table.VersionTable.meet.Goals as goal
use Rattle.be_table.proofs.table.VersionTable.meet.Goals.{then-marks-other_marks, else-marks-other_marks}

pub join_seat-requires : goal.join_seat-requires
join_seat-requires c =
    let p = c.into_base-base.ensures.pass in let q = c.into_base-other.ensures.pass in let id = sym (ap (λ t. t.id) c.self.view_is) in
    (p.0 ∙ c.requires.0.1 ∙ id, q.0 ∙ c.requires.1.1 ∙ id, ap (λ m. m.1) q.1, omega (arith, c.self.invariant.0), joins _ _ _ _ _)

pub load-requires : goal.load-requires
load-requires c =
    let p = c.into_base-base.ensures.pass in let q = c.into_base-other.ensures.pass in let id = sym (ap (λ t. t.id) c.self.view_is) in
    let j = c.join_seat.ensures in (
      j.0 ∙ p.0 ∙ c.requires.0.1 ∙ id,
      omega (arith, c.self.invariant.0),
      compares_as _ _ _ (one_step_on c.args.left.knows) (one_step_on c.args.right.knows) _ (joined_pair _ _ _ _ _ p.1 q.1 j.2) c.into_base-base.ensures.reported.1.writes c.into_base-other.ensures.reported.1.writes,
    )

pub split_seat-first-requires : goal.split_seat-first-requires
split_seat-first-requires c =
    let p = c.into_base-base.ensures.pass in let q = c.into_base-other.ensures.pass in let id = sym (ap (λ t. t.id) c.self.view_is) in
    let j = c.join_seat.ensures in let l = c.load.ensures in
    (l.0 ∙ j.0 ∙ p.0 ∙ c.requires.0.1 ∙ id, omega (arith, c.self.invariant.0), deals_as _ _ _ _ _ (ap (λ m. m.0) l.2.0.0))

pub of-requires-clause-reported : goal.of-requires-clause-reported
of-requires-clause-reported c =
    let p = c.into_base-base.ensures in let q = c.into_base-other.ensures in
    let a = c.args.left.knows in let b = c.args.right.knows in
    let long : length (longer a.seen b.seen) ≡ c.if-marks-other_marks.both = elim c.if-marks-other_marks.branch [
      | then-marks-other_marks w ↦ right_longer a.seen b.seen (omega (arith, p.reported.1.seen_is, q.reported.1.seen_is, w.if-marks-other_marks)) ∙ q.reported.1.seen_is ∙ sym w.both-is
      | else-marks-other_marks w ↦ left_longer a.seen b.seen (omega (arith, p.reported.1.seen_is, q.reported.1.seen_is, w.if-marks-other_marks)) ∙ p.reported.1.seen_is ∙ sym w.both-is
    ] in
    met_left a b _ _ _ c.load.new.seat.me c.split_seat-first.result.me _ _ _ p.pass.1 q.pass.1 c.join_seat.ensures.2 c.load.ensures.2.0 long (ap (λ m. m.0) c.split_seat-first.ensures.4) p.reported.1

pub of-requires-2-clause-reported : goal.of-requires-2-clause-reported
of-requires-2-clause-reported c =
    let p = c.into_base-base.ensures in let q = c.into_base-other.ensures in
    let a = c.args.left.knows in let b = c.args.right.knows in
    let long : length (longer a.seen b.seen) ≡ c.if-marks-other_marks.both = elim c.if-marks-other_marks.branch [
      | then-marks-other_marks w ↦ right_longer a.seen b.seen (omega (arith, p.reported.1.seen_is, q.reported.1.seen_is, w.if-marks-other_marks)) ∙ q.reported.1.seen_is ∙ sym w.both-is
      | else-marks-other_marks w ↦ left_longer a.seen b.seen (omega (arith, p.reported.1.seen_is, q.reported.1.seen_is, w.if-marks-other_marks)) ∙ p.reported.1.seen_is ∙ sym w.both-is
    ] in
    met_right a b _ _ _ c.load.new.seat.me c.split_seat-first.new.seat.me _ _ _ p.pass.1 q.pass.1 c.join_seat.ensures.2 c.load.ensures.2.0 long (ap (λ m. m.0) c.split_seat-first.ensures.2) q.reported.1

pub returns-clause-trace : goal.returns-clause-trace
returns-clause-trace c =
    let a = c.args.left.knows in let b = c.args.right.knows in
    subst (λ l. HasTrace l (a ∷ b ∷ [])) c.requires.0.2
    (traced a b _ _ _ c.load.new.seat.me c.into_base-base.ensures.pass.1 c.into_base-other.ensures.pass.1 c.join_seat.ensures.2 c.load.ensures.2)
