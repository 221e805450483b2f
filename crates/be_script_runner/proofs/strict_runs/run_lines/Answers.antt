use Rattle.std.proofs.Common.{◌≡◌, [], Some, None, length, refl, ◌∙◌, arith}
use Rattle.std.proofs.lemmas.Bool.Decides.{nat_tests}
use Rattle.std.specs.Option.{option_map}
use Rattle.std.specs.String.{string_bytes}
use Rattle.be_script_language.specs.Request.{lines_of}
use Rattle.be_script_runner.specs.Run.{Wrote}
use Rattle.be_script_runner.specs.Strict.{Judged, line_refused}
use Rattle.be_script_runner.specs.View.{session}
use Rattle.be_script_runner.proofs.RunLemmas.{none_further, passed_up, stop}
use Rattle.be_script_runner.proofs.StrictLemmas.{accept_empty, accept_more, accepted_replied, judge_last, nothing_yet, stop_at, strict_front, whole_answer}
use Rattle.be_script_runner.proofs.strict_runs.run_lines.Goals as goal

pub loop-line-init : goal.loop-line-init
loop-line-init g c = record {
  counted = omega arith;
  few = c.new-client.ensures.few;
  stays = refl;
  so_far = nothing_yet (g.S.Server.shows c.args.server.now) c.args.script.now (session (g.S.Server.shows c.args.server.now) c.new-client.result)
      (g.W.Write.contents c.args.writer.now) (c.new-client.ensures.opening (g.S.Server.shows c.args.server.now));
}

pub returns-in_err-refused-clause-front : goal.returns-in_err-refused-clause-front
returns-in_err-refused-clause-front g c =
    let store = g.S.Server.shows c.args.server.now in
    let s = session (g.S.Server.shows c.loop-line.server) c.loop-line.client in
    let old = g.W.Write.contents c.args.writer.now in
    let mid = g.W.Write.contents c.loop-line.writer in
    stop store c.args.script.now c.loop-line.rest.now c.in-Some.line.now (lines_of c.in-Some.beyond.now) s old mid (g.W.Write.contents c.run_line.new.writer)
    c.in-Some.ensures.first (accepted_replied store c.args.script.now c.loop-line.rest.now s c.loop-line.number old mid c.loop-line.invariant.so_far) c.in_err-refused.ensures.err

pub returns-in_err-refused-clause-whole : goal.returns-in_err-refused-clause-whole
returns-in_err-refused-clause-whole g c =
    let store = g.S.Server.shows c.args.server.now in
    let s = session (g.S.Server.shows c.loop-line.server) c.loop-line.client in
    let old = g.W.Write.contents c.args.writer.now in
    let mid = g.W.Write.contents c.loop-line.writer in
    passed_up c.from_residual.result c.in_err-refused.field-0.0 _ c.from_residual.ensures.1
    (none_further c.in_err-refused.field-0.0 store c.args.script.now c.loop-line.rest.now s old mid (g.W.Write.contents c.run_line.new.writer)
    (accepted_replied store c.args.script.now c.loop-line.rest.now s c.loop-line.number old mid c.loop-line.invariant.so_far) c.in_err-refused.ensures.whole)

pub returns-in-Some-refused-clause-ok : goal.returns-in-Some-refused-clause-ok
returns-in-Some-refused-clause-ok g c =
    let s = session (g.S.Server.shows c.loop-line.server) c.loop-line.client in
    let after = session (g.S.Server.shows c.run_line.new.server) c.run_line.new.client in
    let old = g.W.Write.contents c.args.writer.now in
    let mid = g.W.Write.contents c.loop-line.writer in
    let new = g.W.Write.contents c.run_line.new.writer in
    let judged : Wrote mid new (Judged s c.in-Some.line.now after (Some (string_bytes c.in-Some-refused.reply))) = rw c.in-Some-refused.is at c.in_ok-refused.ensures.ok in
    stop_at (g.S.Server.shows c.args.server.now) c.args.script.now c.loop-line.rest.now c.in-Some.line.now (lines_of c.in-Some.beyond.now) s after c.loop-line.number
    (string_bytes c.in-Some-refused.reply) old mid new c.in-Some.ensures.first c.loop-line.invariant.so_far judged

pub returns-in-Some-refused-clause-front : goal.returns-in-Some-refused-clause-front
returns-in-Some-refused-clause-front g c =
    let store = g.S.Server.shows c.args.server.now in
    let s = session (g.S.Server.shows c.loop-line.server) c.loop-line.client in
    let after = session (g.S.Server.shows c.run_line.new.server) c.run_line.new.client in
    let old = g.W.Write.contents c.args.writer.now in
    let mid = g.W.Write.contents c.loop-line.writer in
    let new = g.W.Write.contents c.run_line.new.writer in
    stop store c.args.script.now c.loop-line.rest.now c.in-Some.line.now (lines_of c.in-Some.beyond.now) s old mid new
    c.in-Some.ensures.first (accepted_replied store c.args.script.now c.loop-line.rest.now s c.loop-line.number old mid c.loop-line.invariant.so_far)
    (whole_answer s after c.in-Some.line.now (option_map string_bytes c.in_ok-refused.refused) mid new c.in_ok-refused.ensures.ok)

pub loop-line-preserved : goal.loop-line-preserved
loop-line-preserved g c =
    let s = session (g.S.Server.shows c.loop-line.server) c.loop-line.client in
    let after = session (g.S.Server.shows c.run_line.new.server) c.run_line.new.client in
    let old = g.W.Write.contents c.args.writer.now in
    let mid = g.W.Write.contents c.loop-line.writer in
    let new = g.W.Write.contents c.run_line.new.writer in
    let judged : Wrote mid new (Judged s c.in-Some.line.now after None) = rw c.in_default-refused.is at c.in_ok-refused.ensures.ok in
    record {
      counted = omega (arith, c.in-Some.ensures.shorter, c.loop-line.invariant.counted);
      few = c.run_line.ensures.few;
      stays = c.run_line.ensures.stays ∙ c.loop-line.invariant.stays;
      so_far = accept_more (g.S.Server.shows c.args.server.now) c.args.script.now c.loop-line.rest.now c.in-Some.line.now c.in-Some.beyond.now s after c.loop-line.number
          old mid new c.in-Some.ensures.first c.loop-line.invariant.so_far judged;
    }

pub returns-then-is_empty-clause-ok : goal.returns-then-is_empty-clause-ok
returns-then-is_empty-clause-ok g c =
    let none : length c.loop-line.rest.now ≡ 0 = grind (arith, nat_tests, c.if-is_empty.ensures) in
    accept_empty (g.S.Server.shows c.args.server.now) c.args.script.now c.loop-line.rest.now (session (g.S.Server.shows c.loop-line.server) c.loop-line.client) c.loop-line.number
    (g.W.Write.contents c.args.writer.now) (g.W.Write.contents c.loop-line.writer) none c.loop-line.invariant.so_far

pub returns-then-is_empty-clause-front : goal.returns-then-is_empty-clause-front
returns-then-is_empty-clause-front g c =
    let none : length c.loop-line.rest.now ≡ 0 = grind (arith, nat_tests, c.if-is_empty.ensures) in
    let store = g.S.Server.shows c.args.server.now in
    let old = g.W.Write.contents c.args.writer.now in
    let mid = g.W.Write.contents c.loop-line.writer in
    strict_front store (g.S.Server.shows c.loop-line.server) c.args.script.now old mid
    (accept_empty store c.args.script.now c.loop-line.rest.now (session (g.S.Server.shows c.loop-line.server) c.loop-line.client) c.loop-line.number
    old mid none c.loop-line.invariant.so_far)

pub returns-in_err-refused-2-clause-front : goal.returns-in_err-refused-2-clause-front
returns-in_err-refused-2-clause-front g c =
    let store = g.S.Server.shows c.args.server.now in
    let s = session (g.S.Server.shows c.loop-line.server) c.loop-line.client in
    let old = g.W.Write.contents c.args.writer.now in
    let mid = g.W.Write.contents c.loop-line.writer in
    stop store c.args.script.now c.loop-line.rest.now c.loop-line.rest.now [] s old mid (g.W.Write.contents c.run_line-2.new.writer)
    c.in_default.ensures.last (accepted_replied store c.args.script.now c.loop-line.rest.now s c.loop-line.number old mid c.loop-line.invariant.so_far) c.in_err-refused-2.ensures.err

pub returns-in_err-refused-2-clause-whole : goal.returns-in_err-refused-2-clause-whole
returns-in_err-refused-2-clause-whole g c =
    let store = g.S.Server.shows c.args.server.now in
    let s = session (g.S.Server.shows c.loop-line.server) c.loop-line.client in
    let old = g.W.Write.contents c.args.writer.now in
    let mid = g.W.Write.contents c.loop-line.writer in
    passed_up c.from_residual-in_err-refused-2.result c.in_err-refused-2.field-0.0 _ c.from_residual-in_err-refused-2.ensures.1
    (none_further c.in_err-refused-2.field-0.0 store c.args.script.now c.loop-line.rest.now s old mid (g.W.Write.contents c.run_line-2.new.writer)
    (accepted_replied store c.args.script.now c.loop-line.rest.now s c.loop-line.number old mid c.loop-line.invariant.so_far) c.in_err-refused-2.ensures.whole)

pub returns-clause-ok : goal.returns-clause-ok
returns-clause-ok g c =
    let s = session (g.S.Server.shows c.loop-line.server) c.loop-line.client in
    let after = session (g.S.Server.shows c.run_line-2.new.server) c.run_line-2.new.client in
    let old = g.W.Write.contents c.args.writer.now in
    let mid = g.W.Write.contents c.loop-line.writer in
    judge_last (g.S.Server.shows c.args.server.now) c.args.script.now c.loop-line.rest.now s after c.loop-line.number (option_map string_bytes c.in_ok-refused-2.refused)
    (option_map line_refused c.refused_line.result) old mid (g.W.Write.contents c.run_line-2.new.writer) c.in_default.ensures.last c.loop-line.invariant.so_far
    c.in_ok-refused-2.ensures.ok c.refused_line.ensures

pub returns-clause-front : goal.returns-clause-front
returns-clause-front g c =
    let store = g.S.Server.shows c.args.server.now in
    let s = session (g.S.Server.shows c.loop-line.server) c.loop-line.client in
    let after = session (g.S.Server.shows c.run_line-2.new.server) c.run_line-2.new.client in
    let old = g.W.Write.contents c.args.writer.now in
    let mid = g.W.Write.contents c.loop-line.writer in
    let new = g.W.Write.contents c.run_line-2.new.writer in
    stop store c.args.script.now c.loop-line.rest.now c.loop-line.rest.now [] s old mid new
    c.in_default.ensures.last (accepted_replied store c.args.script.now c.loop-line.rest.now s c.loop-line.number old mid c.loop-line.invariant.so_far)
    (whole_answer s after c.loop-line.rest.now (option_map string_bytes c.in_ok-refused-2.refused) mid new c.in_ok-refused-2.ensures.ok)
