use Rattle.std.proofs.Common.{◌≡◌, ◌≤◌, [], length, refl, ◌∙◌, arith, inl, inr}
use Rattle.std.proofs.lemmas.Bool.Decides.{nat_tests}
use Rattle.be_script_language.specs.Request.{lines_of}
use Rattle.be_script_runner.specs.View.{session}
use Rattle.be_script_runner.specs.Gates.{line_count}
use Rattle.be_script_runner.proofs.EndLemmas.{finish_empty}
use Rattle.be_script_runner.proofs.GateLemmas.{last_is_none, last_is_one, line_counted, reported_more}
use Rattle.be_script_runner.proofs.RunLemmas.{advance, always_ok, each_err, finish, none_further, nothing_yet, passed_up, stop, on_ok, on_err, always_err}
use Rattle.be_script_runner.proofs.runs.run_lines.Goals as goal

pub loop-line-init : goal.loop-line-init
loop-line-init g c = record {
  counted = omega arith;
  numbered = omega arith;
  next = inl refl;
  reported = λ line first below. absurd (omega (arith, first, below));
  few = c.new-client.ensures.few;
  stays = refl;
  so_far = nothing_yet (g.S.Server.shows c.args.server.now) c.args.script.now (session (g.S.Server.shows c.args.server.now) c.new-client.result)
      (g.W.Write.contents c.args.writer.now) (c.new-client.ensures.opening (g.S.Server.shows c.args.server.now));
}

pub returns-in_err-ran-clause-err : goal.returns-in_err-ran-clause-err
returns-in_err-ran-clause-err g c = always_err c.from_residual.result
    (stop (g.S.Server.shows c.args.server.now) c.args.script.now c.loop-line.rest.now c.in-Some.line.now (lines_of c.in-Some.beyond.now)
    (session (g.S.Server.shows c.loop-line.server) c.loop-line.client)
    (g.W.Write.contents c.args.writer.now) (g.W.Write.contents c.loop-line.writer) (g.W.Write.contents c.run_line-ran.new.writer)
    c.in-Some.ensures.first c.loop-line.invariant.so_far c.in_err-ran.ensures.err)

pub loop-line-preserved : goal.loop-line-preserved
loop-line-preserved g c = record {
  counted = omega (arith, c.in-Some.ensures.shorter, c.loop-line.invariant.counted);
  numbered = omega (arith, line_counted c.loop-line.rest.now c.in-Some.line.now c.in-Some.beyond.now c.in-Some.ensures.first, c.loop-line.invariant.numbered);
  next = inr (c.loop-line.number, refl, c.after.ensures);
  reported = reported_more (g.G.Gate.begun c.args.gate.now c.args.pass) (g.G.Gate.ended c.args.gate.now c.args.pass) c.loop-line.number c.loop-line.invariant.reported
      c.before-in-Some.ensures c.after.ensures;
  few = c.run_line-ran.ensures.few;
  stays = c.run_line-ran.ensures.stays ∙ c.loop-line.invariant.stays;
  so_far = advance (g.S.Server.shows c.args.server.now) c.args.script.now c.loop-line.rest.now c.in-Some.line.now c.in-Some.beyond.now
      (session (g.S.Server.shows c.loop-line.server) c.loop-line.client) (session (g.S.Server.shows c.run_line-ran.new.server) c.run_line-ran.new.client)
      (g.W.Write.contents c.args.writer.now) (g.W.Write.contents c.loop-line.writer) (g.W.Write.contents c.run_line-ran.new.writer)
      c.in-Some.ensures.first c.loop-line.invariant.so_far c.in_ok-ran.ensures.ok;
}

pub returns-then-is_empty-clause-ok : goal.returns-then-is_empty-clause-ok
returns-then-is_empty-clause-ok g c =
    let none : length c.loop-line.rest.now ≡ 0 = grind (arith, nat_tests, c.if-is_empty.ensures) in
    finish_empty (g.S.Server.shows c.args.server.now) c.args.script.now c.loop-line.rest.now (session (g.S.Server.shows c.loop-line.server) c.loop-line.client)
    (g.W.Write.contents c.args.writer.now) (g.W.Write.contents c.loop-line.writer) none c.loop-line.invariant.so_far

pub returns-then-is_empty-clause-reported : goal.returns-then-is_empty-clause-reported
returns-then-is_empty-clause-reported g c =
    let empty : length c.loop-line.rest.now ≡ 0 = grind (arith, nat_tests, c.if-is_empty.ensures) in
    let none : line_count c.loop-line.rest.now ≡ 0 = last_is_none c.loop-line.rest.now c.in_default.ensures.last empty in
    λ line first last. c.loop-line.invariant.reported line first (omega (arith, last, none, c.loop-line.invariant.numbered))

pub returns-clause-reported : goal.returns-clause-reported
returns-clause-reported g c =
    let some : 1 ≤ length c.loop-line.rest.now = grind (arith, nat_tests, c.if-is_empty.ensures) in
    let one : line_count c.loop-line.rest.now ≡ 1 = last_is_one c.loop-line.rest.now c.in_default.ensures.last some in
    let reported = reported_more (g.G.Gate.begun c.args.gate.now c.args.pass) (g.G.Gate.ended c.args.gate.now c.args.pass) c.loop-line.number c.loop-line.invariant.reported
    c.before-2.ensures c.after-2.ensures in
    always_ok c.run_line-ran-2.result (λ line first last. reported line first (omega (arith, last, one, c.loop-line.invariant.numbered)))

pub returns-clause-ok : goal.returns-clause-ok
returns-clause-ok g c = on_ok c.run_line-ran-2.result (λ w.
    finish (g.S.Server.shows c.args.server.now) c.args.script.now c.loop-line.rest.now
    (session (g.S.Server.shows c.loop-line.server) c.loop-line.client) (session (g.S.Server.shows c.run_line-ran-2.new.server) c.run_line-ran-2.new.client)
    (g.W.Write.contents c.args.writer.now) (g.W.Write.contents c.loop-line.writer) (g.W.Write.contents c.run_line-ran-2.new.writer)
    c.in_default.ensures.last c.loop-line.invariant.so_far w) c.run_line-ran-2.ensures.ok

pub returns-clause-err : goal.returns-clause-err
returns-clause-err g c = on_err c.run_line-ran-2.result (λ w.
    stop (g.S.Server.shows c.args.server.now) c.args.script.now c.loop-line.rest.now c.loop-line.rest.now []
    (session (g.S.Server.shows c.loop-line.server) c.loop-line.client)
    (g.W.Write.contents c.args.writer.now) (g.W.Write.contents c.loop-line.writer) (g.W.Write.contents c.run_line-ran-2.new.writer)
    c.in_default.ensures.last c.loop-line.invariant.so_far w) c.run_line-ran-2.ensures.err

pub returns-in_err-ran-clause-whole : goal.returns-in_err-ran-clause-whole
returns-in_err-ran-clause-whole g c =
    passed_up c.from_residual.result c.in_err-ran.field-0.0 _ c.from_residual.ensures.1
    (none_further c.in_err-ran.field-0.0 (g.S.Server.shows c.args.server.now) c.args.script.now c.loop-line.rest.now (session (g.S.Server.shows c.loop-line.server) c.loop-line.client)
    (g.W.Write.contents c.args.writer.now) (g.W.Write.contents c.loop-line.writer) (g.W.Write.contents c.run_line-ran.new.writer) c.loop-line.invariant.so_far c.in_err-ran.ensures.whole)

pub returns-clause-whole : goal.returns-clause-whole
returns-clause-whole g c =
    each_err c.run_line-ran-2.result (λ e. none_further e (g.S.Server.shows c.args.server.now) c.args.script.now c.loop-line.rest.now (session (g.S.Server.shows c.loop-line.server) c.loop-line.client)
    (g.W.Write.contents c.args.writer.now) (g.W.Write.contents c.loop-line.writer) (g.W.Write.contents c.run_line-ran-2.new.writer) c.loop-line.invariant.so_far) c.run_line-ran-2.ensures.whole
