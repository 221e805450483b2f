use Rattle.std.proofs.Common.{◌≡◌, length, true≢false, sym, ap, ◌∙◌, arith}
use Rattle.std.specs.Option.{option_map}
use Rattle.be_journal.specs.Text.{lines_from}
use Rattle.be_journal_text.specs.Finding.{head}
use Rattle.be_journal_text.proofs.ReadLemmas.{inside, never_some}
use Rattle.be_journal_text.proofs.ReportLemmas.{one_front, result_cut, result_made}
use Rattle.be_journal_text.proofs.outputs.read_result.Goals as goal

pub returns-in_default-clause-whole : goal.returns-in_default-clause-whole
returns-in_default-clause-whole c = λ es are is. absurd (c.in_default.ensures (lines_from 1 es)
    (result_cut c.args.text.now c.first_line.result.0.now c.first_line.result.1.now c.first_line.ensures.first es are is).1)

pub returns-in_default-2-clause-whole : goal.returns-in_default-2-clause-whole
returns-in_default-2-clause-whole c = λ es are is.
    let rest = (result_cut c.args.text.now c.first_line.result.0.now c.first_line.result.1.now c.first_line.ensures.first es are is).1 in
    let lines = one_front c.first_line.result.1.now c.in-Some.lines.now (lines_from 1 es) c.in-Some.ensures rest in
    never_some es (ap (option_map (λ v. v.items)) (sym c.in_default-2.is) ∙ c.in_ok-entries.ensures.whole es are lines)

pub returns-then-branch-clause-reads : goal.returns-then-branch-clause-reads
returns-then-branch-clause-reads c =
    let read = rw c.in-Some-2.is at c.in_ok-entries.ensures.reads in
    let count : c.len.result ≡ length c.in-Some-2.entries.items = omega (arith, c.len.ensures, c.in-Some-2.entries.ok.0) in (
      read.0,
      result_made c.args.text.now c.first_line.result.0.now c.first_line.result.1.now c.in-Some.lines.now c.in-Some-2.entries.items
          c.first_line.ensures.whole (c.in_ok-is_head.ensures.0 c.if-branch.true ∙ ap head count) c.in-Some.ensures read.1,
    )

pub returns-then-branch-clause-whole : goal.returns-then-branch-clause-whole
returns-then-branch-clause-whole c = λ es are is.
    let rest = (result_cut c.args.text.now c.first_line.result.0.now c.first_line.result.1.now c.first_line.ensures.first es are is).1 in
    let lines = one_front c.first_line.result.1.now c.in-Some.lines.now (lines_from 1 es) c.in-Some.ensures rest in
    ap (option_map (λ v. v.items)) (sym c.in-Some-2.is) ∙ c.in_ok-entries.ensures.whole es are lines

pub returns-else-branch-clause-whole : goal.returns-else-branch-clause-whole
returns-else-branch-clause-whole c = λ es are is.
    let read = result_cut c.args.text.now c.first_line.result.0.now c.first_line.result.1.now c.first_line.ensures.first es are is in
    let lines = one_front c.first_line.result.1.now c.in-Some.lines.now (lines_from 1 es) c.in-Some.ensures read.1 in
    let same = inside c.in-Some-2.entries.items es (ap (option_map (λ v. v.items)) (sym c.in-Some-2.is) ∙ c.in_ok-entries.ensures.whole es are lines) in
    let count : length es ≡ c.len.result = omega (arith, c.len.ensures, c.in-Some-2.entries.ok.0, ap length same) in
    absurd (true≢false (sym (c.in_ok-is_head.ensures.1 (read.0 ∙ ap head count)) ∙ c.if-branch.false))
