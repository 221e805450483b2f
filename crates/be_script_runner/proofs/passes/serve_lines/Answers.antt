use Rattle.std.proofs.Common.{◌≡◌, ◌≤◌, Some, length, refl, ◌∙◌, arith, inl, inr, subst}
use Rattle.std.proofs.lemmas.Bool.Decides.{nat_tests}
use Rattle.be_script_runner.specs.Gates.{AreReported, line_count}
use Rattle.be_script_runner.specs.Served.{known}
use Rattle.be_script_runner.specs.View.{session}
use Rattle.be_script_runner.proofs.CallLemmas.{last_served, none_left, none_served, one_served}
use Rattle.be_script_runner.proofs.RaceLemmas.{on_at_ok}
use Rattle.be_script_runner.proofs.GateLemmas.{last_is_none, last_is_one, line_counted, reported_more}
use Rattle.be_script_runner.proofs.RunLemmas.{always_ok, on_ok}
use Rattle.be_script_runner.proofs.passes.serve_lines.Goals as goal

pub loop-line-init : goal.loop-line-init
loop-line-init g c = record {
  counted = omega arith;
  numbered = omega arith;
  next = inl refl;
  reported = λ line first below. absurd (omega (arith, first, below));
  few = c.new-client.ensures.few;
  of = c.requires;
  same = refl;
  so_far = none_served c.args.pass.knows c.args.script.now (session (known c.args.pass.knows) c.new-client.result) (Some c.args.replies.now.items)
      (c.new-client.ensures.opening (known c.args.pass.knows)) refl;
}

pub loop-line-preserved : goal.loop-line-preserved
loop-line-preserved g c = record {
  counted = omega (arith, c.in-Some.ensures.shorter, c.loop-line.invariant.counted);
  numbered = omega (arith, line_counted c.loop-line.rest.now c.in-Some.line.now c.in-Some.beyond.now c.in-Some.ensures.first, c.loop-line.invariant.numbered);
  next = inr (c.loop-line.number, refl, c.after.ensures);
  reported = reported_more (g.G.Gate.begun c.args.gate.now c.number-place.result) (g.G.Gate.ended c.args.gate.now c.number-place.result) c.loop-line.number c.loop-line.invariant.reported
      c.before-in-Some.ensures c.after.ensures;
  few = c.serve_line-next.ensures.few;
  of = c.serve_line-next.ensures.pass;
  same = c.serve_line-next.ensures.number ∙ c.loop-line.invariant.same;
  so_far = one_served c.args.pass.knows c.args.script.now c.loop-line.rest.now c.in-Some.line.now c.in-Some.beyond.now
      c.loop-line.current.knows c.serve_line-next.result.0.knows
      (session (known c.loop-line.current.knows) c.loop-line.client) (session (known c.serve_line-next.result.0.knows) c.serve_line-next.new.client)
      (Some c.args.replies.now.items) (Some c.loop-line.replies.items) (Some c.serve_line-next.new.replies.items)
      c.in-Some.ensures.first c.loop-line.invariant.so_far (on_at_ok _ c.in-Ok.is c.serve_line-next.ensures.ok);
}

pub returns-then-is_empty-clause-served : goal.returns-then-is_empty-clause-served
returns-then-is_empty-clause-served g c =
    let none : length c.loop-line.rest.now ≡ 0 = grind (arith, nat_tests, c.if-is_empty.ensures) in
    none_left c.args.pass.knows c.args.script.now c.loop-line.rest.now c.loop-line.current.knows (session (known c.loop-line.current.knows) c.loop-line.client)
    (Some c.args.replies.now.items) (Some c.loop-line.replies.items) none c.loop-line.invariant.so_far

pub returns-clause-served : goal.returns-clause-served
returns-clause-served g c = on_ok c.serve_line-last.result.1 (λ w.
    last_served c.args.pass.knows c.args.script.now c.loop-line.rest.now c.loop-line.current.knows c.serve_line-last.result.0.knows
    (session (known c.loop-line.current.knows) c.loop-line.client) (session (known c.serve_line-last.result.0.knows) c.serve_line-last.new.client)
    (Some c.args.replies.now.items) (Some c.loop-line.replies.items) (Some c.serve_line-last.new.replies.items)
    c.in_default.ensures.last c.loop-line.invariant.so_far w) c.serve_line-last.ensures.ok

pub returns-then-is_empty-clause-reported : goal.returns-then-is_empty-clause-reported
returns-then-is_empty-clause-reported g c =
    let empty : length c.loop-line.rest.now ≡ 0 = grind (arith, nat_tests, c.if-is_empty.ensures) in
    let none : line_count c.loop-line.rest.now ≡ 0 = last_is_none c.loop-line.rest.now c.in_default.ensures.last empty in
    subst (λ n. AreReported (g.G.Gate.begun c.args.gate.now n) (g.G.Gate.ended c.args.gate.now n) (line_count c.args.script.now)) c.number-place.ensures
    (λ line first last. c.loop-line.invariant.reported line first (omega (arith, last, none, c.loop-line.invariant.numbered)))

pub returns-clause-reported : goal.returns-clause-reported
returns-clause-reported g c =
    let some : 1 ≤ length c.loop-line.rest.now = grind (arith, nat_tests, c.if-is_empty.ensures) in
    let one : line_count c.loop-line.rest.now ≡ 1 = last_is_one c.loop-line.rest.now c.in_default.ensures.last some in
    let reported = reported_more (g.G.Gate.begun c.args.gate.now c.number-place.result) (g.G.Gate.ended c.args.gate.now c.number-place.result) c.loop-line.number c.loop-line.invariant.reported
    c.before-2.ensures c.after-2.ensures in
    always_ok c.serve_line-last.result.1
    (subst (λ n. AreReported (g.G.Gate.begun c.args.gate.now n) (g.G.Gate.ended c.args.gate.now n) (line_count c.args.script.now)) c.number-place.ensures
    (λ line first last. reported line first (omega (arith, last, one, c.loop-line.invariant.numbered))))
