use Rattle.std.proofs.Common.{◌≡◌, ◌++◌, ℕ, List, true, length, IfOk, ap, ◌∙◌, refl, subst}
use Rattle.std.proofs.lemmas.Result.{IfOk-at_ok}
use Rattle.std.specs.Prelude.{codes}
use Rattle.std.specs.Fmt.{decimal}
use Rattle.std.specs.Io.KnownBytes.{Appends}
use Rattle.std.specs.String.{string_bytes}
use Rattle.be_journal.specs.Text.{lines_from, result_text}
use Rattle.be_script_runner.specs.Run.{IsFrontOf, Wrote}
use Rattle.be_script_runner.proofs.RaceLemmas.{none_of_text, result_is}
use Rattle.be_script_runner.proofs.RunLemmas.{always_err}
use Rattle.be_script_runner.proofs.races.put_result.Goals as goal
use Rattle.be_script_runner.proofs.races.put_result.Goals.{then-legal, else-legal}

pub returns-in_default-clause-err : goal.returns-in_default-clause-err
returns-in_default-clause-err g c = none_of_text (result_text c.args.journal.now.entries) (g.W.Write.contents c.args.writer.now)

pub returns-in_err-put_parts-clause-err : goal.returns-in_err-put_parts-clause-err
returns-in_err-put_parts-clause-err g c =
    let holds = g.W.Write.contents in
    let log = c.args.journal.now.entries in
    let legal : c.in-Ok-Ok-Ok.legal ≡ true = c.in-Ok-Ok-Ok.ensures'.ok.1 c.requires in
    let head : string_bytes c.in-Ok-Ok-Ok.head ≡ codes "journal " ++ (decimal (length log) ++ codes "\n") =
    IfOk-at_ok (λ t. string_bytes t ≡ codes "journal " ++ (decimal (length log) ++ codes "\n")) c.in-Ok-Ok-Ok.is-0
    (subst (λ n. IfOk c.format.result (λ t. string_bytes t ≡ codes "journal " ++ (decimal n ++ codes "\n"))) c.len-count.ensures.len c.format.ensures.ok) in
    let text : string_bytes c.in-Ok-Ok-Ok.text ≡ lines_from 1 log = IfOk-at_ok (λ bytes. bytes ≡ lines_from 1 log) c.in-Ok-Ok-Ok.ensures refl in
    let last : c.if-legal.last.now ≡ codes "replay ok\n" = elim c.if-legal.branch [ then-legal w ↦ ap (λ r. r.now) w.last-is | else-legal w ↦ cc ] in
    let is = result_is log c.as_bytes.result.now c.as_bytes-2.result.now c.as_bytes-3.result.now (c.as_bytes.ensures.value ∙ head) (c.as_bytes-2.ensures.value ∙ text)
    (c.as_bytes-3.ensures.value ∙ last) in
    always_err _ (subst (λ (l : List ℕ). Wrote (holds c.args.writer.now) (holds c.put_parts.new.writer) (IsFrontOf l)) is c.in_err-put_parts.ensures.err)

pub returns-clause-ok : goal.returns-clause-ok
returns-clause-ok g c =
    let holds = g.W.Write.contents in
    let log = c.args.journal.now.entries in
    let legal : c.in-Ok-Ok-Ok.legal ≡ true = c.in-Ok-Ok-Ok.ensures'.ok.1 c.requires in
    let head : string_bytes c.in-Ok-Ok-Ok.head ≡ codes "journal " ++ (decimal (length log) ++ codes "\n") =
    IfOk-at_ok (λ t. string_bytes t ≡ codes "journal " ++ (decimal (length log) ++ codes "\n")) c.in-Ok-Ok-Ok.is-0
    (subst (λ n. IfOk c.format.result (λ t. string_bytes t ≡ codes "journal " ++ (decimal n ++ codes "\n"))) c.len-count.ensures.len c.format.ensures.ok) in
    let text : string_bytes c.in-Ok-Ok-Ok.text ≡ lines_from 1 log = IfOk-at_ok (λ bytes. bytes ≡ lines_from 1 log) c.in-Ok-Ok-Ok.ensures refl in
    let last : c.if-legal.last.now ≡ codes "replay ok\n" = elim c.if-legal.branch [ then-legal w ↦ ap (λ r. r.now) w.last-is | else-legal w ↦ cc ] in
    let is = result_is log c.as_bytes.result.now c.as_bytes-2.result.now c.as_bytes-3.result.now (c.as_bytes.ensures.value ∙ head) (c.as_bytes-2.ensures.value ∙ text)
    (c.as_bytes-3.ensures.value ∙ last) in
    (legal, subst (λ (l : List ℕ). Appends (holds c.args.writer.now) (holds c.put_parts.new.writer) l) is c.in_ok-put_parts.ensures.ok)
