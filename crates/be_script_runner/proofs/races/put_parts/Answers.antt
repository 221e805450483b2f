use Rattle.std.proofs.Common.{List, ℕ, [], ◌++◌, refl, sym, ap, ◌∙◌, append_assoc, append-nil}
use Rattle.be_script_runner.proofs.RaceLemmas.{next_in_part}
use Rattle.be_script_runner.proofs.RunLemmas.{always_err, none_written, on_err, on_ok, written_both}
use Rattle.be_script_runner.proofs.races.put_parts.Goals as goal

pub returns-in_err-put-clause-err : goal.returns-in_err-put-clause-err
returns-in_err-put-clause-err g c =
    let old = g.W.Write.contents c.args.writer.now in
    let rest = c.args.second.now ++ c.args.third.now in
    always_err _ (next_in_part old old (g.W.Write.contents c.put.new.writer) [] c.args.first.now rest (c.args.first.now ++ rest) refl (none_written old) c.in_err-put.ensures.err)

pub returns-in_err-put-2-clause-err : goal.returns-in_err-put-2-clause-err
returns-in_err-put-2-clause-err g c =
    let holds = g.W.Write.contents in
    always_err _ (next_in_part (holds c.args.writer.now) (holds c.put.new.writer) (holds c.put-2.new.writer) c.args.first.now c.args.second.now c.args.third.now
    (c.args.first.now ++ (c.args.second.now ++ c.args.third.now)) refl c.in_ok-put.ensures.ok c.in_err-put-2.ensures.err)

pub returns-clause-ok : goal.returns-clause-ok
returns-clause-ok g c =
    let holds = g.W.Write.contents in
    on_ok c.put-3.result (λ w.
    written_both (holds c.args.writer.now) (holds c.put.new.writer) (holds c.put-3.new.writer) c.args.first.now (c.args.second.now ++ c.args.third.now) c.in_ok-put.ensures.ok
    (written_both (holds c.put.new.writer) (holds c.put-2.new.writer) (holds c.put-3.new.writer) c.args.second.now c.args.third.now c.in_ok-put-2.ensures.ok w)) c.put-3.ensures.ok

pub returns-clause-err : goal.returns-clause-err
returns-clause-err g c =
    let holds = g.W.Write.contents in
    let front = c.args.first.now ++ c.args.second.now in
    let third = c.args.third.now in
    on_err c.put-3.result (next_in_part (holds c.args.writer.now) (holds c.put-2.new.writer) (holds c.put-3.new.writer) front third [] _
    (sym (append_assoc c.args.first.now c.args.second.now third) ∙ ap (λ (l : List ℕ). front ++ l) (sym (append-nil third)))
    (written_both (holds c.args.writer.now) (holds c.put.new.writer) (holds c.put-2.new.writer) c.args.first.now c.args.second.now c.in_ok-put.ensures.ok c.in_ok-put-2.ensures.ok)) c.put-3.ensures.err
