use Rattle.std.proofs.Common.{◌∙◌}
use Rattle.be_script_runner.proofs.RaceLemmas.{line_in_part, replies_all, replies_before, replies_more, replies_whole, text_in_part}
use Rattle.be_script_runner.proofs.RunLemmas.{always_err}
use Rattle.be_script_runner.proofs.races.put_replies.Goals as goal

pub returns-in_default-clause-err : goal.returns-in_default-clause-err
returns-in_default-clause-err g c =
    let holds = g.W.Write.contents in
    replies_before (λ t. t.items) c.args.replies.now c.loop-pass.pass (holds c.args.writer.now) (holds c.loop-pass.writer) c.loop-pass.invariant

pub returns-in_default-clause-whole : goal.returns-in_default-clause-whole
returns-in_default-clause-whole g c is =
    let holds = g.W.Write.contents in
    replies_whole (λ t. t.items) c.args.replies.now c.loop-pass.pass (holds c.args.writer.now) (holds c.loop-pass.writer) c.loop-pass.invariant

pub returns-in_err-put-clause-err : goal.returns-in_err-put-clause-err
returns-in_err-put-clause-err g c =
    let holds = g.W.Write.contents in
    always_err _ (line_in_part (λ t. t.items) c.args.replies.now c.loop-pass.pass (holds c.args.writer.now) (holds c.loop-pass.writer) c.loop-pass.invariant
    (holds c.put.new.writer) c.index-replies-pass.result c.as_bytes.result.now c.loop-pass-test.true c.index-replies-pass.is (c.as_bytes.ensures.value ∙ c.in-Ok.ensures) c.in_err-put.ensures.err)

pub returns-in_err-put-2-clause-err : goal.returns-in_err-put-2-clause-err
returns-in_err-put-2-clause-err g c =
    let holds = g.W.Write.contents in
    always_err _ (text_in_part (λ t. t.items) c.args.replies.now c.loop-pass.pass (holds c.args.writer.now) (holds c.loop-pass.writer) c.loop-pass.invariant
    (holds c.put.new.writer) (holds c.put-in-loop-pass.new.writer) c.index-replies-pass.result c.as_bytes.result.now c.deref.result.now
    c.loop-pass-test.true c.index-replies-pass.is (c.as_bytes.ensures.value ∙ c.in-Ok.ensures) c.deref.ensures.value c.in_ok-put.ensures.ok c.in_err-put-2.ensures.err)

pub loop-pass-preserved : goal.loop-pass-preserved
loop-pass-preserved g c =
    let holds = g.W.Write.contents in
    replies_more (λ t. t.items) c.args.replies.now c.loop-pass.pass (holds c.args.writer.now) (holds c.loop-pass.writer) c.loop-pass.invariant
    (holds c.put.new.writer) (holds c.put-in-loop-pass.new.writer) c.index-replies-pass.result c.as_bytes.result.now c.deref.result.now
    c.loop-pass-test.true c.index-replies-pass.is (c.as_bytes.ensures.value ∙ c.in-Ok.ensures) c.deref.ensures.value c.in_ok-put.ensures.ok c.in_ok-put-2.ensures.ok

pub returns-clause-ok : goal.returns-clause-ok
returns-clause-ok g c =
    let holds = g.W.Write.contents in
    replies_all (λ t. t.items) c.args.replies.now c.loop-pass.pass (holds c.args.writer.now) (holds c.loop-pass.writer) c.loop-pass.invariant c.loop-pass-test.false
