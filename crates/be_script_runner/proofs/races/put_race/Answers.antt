use Rattle.std.proofs.Common.{[], ◌++◌, map, refl, sym, ap, append-nil}
use Rattle.be_journal.specs.Text.{result_text}
use Rattle.be_script_runner.specs.Race.{replies_text}
use Rattle.be_script_runner.proofs.RaceLemmas.{all_texts, next_in_part, on_both}
use Rattle.be_script_runner.proofs.RunLemmas.{always_err, each_err, none_written, on_err, on_memory, passed_up, written_both}
use Rattle.be_script_runner.proofs.races.put_race.Goals as goal

pub returns-in_err-put_replies-clause-err : goal.returns-in_err-put_replies-clause-err
returns-in_err-put_replies-clause-err g c =
    let old = g.W.Write.contents c.args.writer.now in
    let replies = replies_text 0 (map (λ t. t.items) c.args.replies.now) in
    let result = result_text c.args.journal.now.entries in
    always_err _ (next_in_part old old (g.W.Write.contents c.put_replies.new.writer) [] replies result (replies ++ result) refl (none_written old) c.in_err-put_replies.ensures.err)

pub returns-clause-ok : goal.returns-clause-ok
returns-clause-ok g c =
    let holds = g.W.Write.contents in
    let replies = replies_text 0 (map (λ t. t.items) c.args.replies.now) in
    let result = result_text c.args.journal.now.entries in
    on_both c.put_result.result c.put_result.ensures.ok c.put_result.ensures.ok (λ legal is _. (
      is.0,
      written_both (holds c.args.writer.now) (holds c.put_replies.new.writer) (holds c.put_result.new.writer) replies result c.in_ok-put_replies.ensures.ok is.1,
    ))

pub returns-clause-err : goal.returns-clause-err
returns-clause-err g c =
    let holds = g.W.Write.contents in
    let replies = replies_text 0 (map (λ t. t.items) c.args.replies.now) in
    let result = result_text c.args.journal.now.entries in
    on_err c.put_result.result (next_in_part (holds c.args.writer.now) (holds c.put_replies.new.writer) (holds c.put_result.new.writer) replies result [] (replies ++ result)
    (ap (λ l. replies ++ l) (sym (append-nil result))) c.in_ok-put_replies.ensures.ok) c.put_result.ensures.err

pub returns-in_err-put_replies-clause-whole : goal.returns-in_err-put_replies-clause-whole
returns-in_err-put_replies-clause-whole g c =
    passed_up c.from_residual.result c.in_err-put_replies.field-0.0 _ c.from_residual.ensures.1 c.in_err-put_replies.ensures.whole

pub returns-clause-whole : goal.returns-clause-whole
returns-clause-whole g c =
    let holds = g.W.Write.contents in
    let replies = map (λ t. t.items) c.args.replies.now in
    each_err c.put_result.result (λ e. on_memory e
    (all_texts replies (holds c.args.writer.now) (holds c.put_replies.new.writer) (holds c.put_result.new.writer) c.in_ok-put_replies.ensures.ok)) c.put_result.ensures.whole
