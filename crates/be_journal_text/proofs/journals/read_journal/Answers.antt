use Rattle.std.proofs.Common.{◌≡◌, ◌≤◌, ◌<◌, ◌+◌, ◌^◌, ◌∷◌, [], List, All, length, length-append, Some, sym, ap, ◌∙◌, subst, arith}
use Rattle.std.proofs.lemmas.Bool.Decides.{nat_tests}
use Rattle.std.proofs.lemmas.List.Elements.{All-push}
use Rattle.be_journal.specs.Text.{entry_line}
use Rattle.be_journal.specs.declared.entries.Entry.{Entry}
use Rattle.be_journal_text.specs.History.{CanBeEntry}
use Rattle.be_journal_text.proofs.ReadLemmas.{first_line_left, inside, less_lines_left, line_cut, lines_read, never_some, no_lines_left}
use Rattle.be_journal_text.proofs.journals.read_journal.Goals as goal

pub loop-rest-preserved : goal.loop-rest-preserved
loop-rest-preserved c =
    let i = c.loop-rest.invariant in
    let text = c.args.text.now in
    let rest = c.loop-rest.rest.now in
    let first = c.first_line.result.0.now in
    let beyond = c.first_line.result.1.now in
    let read = c.loop-rest.entries.items in
    let entry = c.in-Some.entry in
    let some : 1 ≤ length rest = grind (arith, nat_tests, c.loop-rest-test.true, c.is_empty.ensures) in
    let shorter : length beyond < length rest = c.first_line.ensures.shorter some in
    let pushed = c.in_ok-push.ensures.items in
    let long = ap length pushed ∙ length-append read (entry ∷ []) in
    let is = rw c.in-Some.is at c.in_ok-entry.ensures.reads in
    let line : first ≡ entry_line (1 + length read) entry = is.1 ∙ ap (λ n. entry_line n entry) i.number in
    record {
      number = omega (arith, i.number, long);
      short = omega (arith, i.short, shorter, long);
      written = subst (λ (es : List Entry). All CanBeEntry es) (sym pushed) (All-push CanBeEntry read entry i.written is.0);
      reads = lines_read text rest first beyond read c.push.new.self.items entry i.reads c.first_line.ensures.whole line pushed;
      left = less_lines_left text rest first beyond read c.push.new.self.items entry some i.left
          (line_cut (1 + length read) rest first beyond (omega (arith, i.number, c.loop-rest.auto.number-fits)) c.first_line.ensures.first)
          (λ e w same. inside entry e (sym c.in-Some.is ∙ c.in_ok-entry.ensures.whole e w (same ∙ ap (λ n. entry_line n e) (sym i.number))))
          pushed;
    }

pub returns-in_default-clause-whole : goal.returns-in_default-clause-whole
returns-in_default-clause-whole c = λ entries are is.
    let i = c.loop-rest.invariant in
    let rest = c.loop-rest.rest.now in
    let read = c.loop-rest.entries.items in
    let some : 1 ≤ length rest = grind (arith, nat_tests, c.loop-rest-test.true, c.is_empty.ensures) in
    let small : 1 + length read < 2 ^ 64 = omega (arith, i.number, c.loop-rest.auto.number-fits) in
    let cut = line_cut (1 + length read) rest c.first_line.result.0.now c.first_line.result.1.now small c.first_line.ensures.first in
    let first = first_line_left c.args.text.now rest c.first_line.result.0.now c.first_line.result.1.now read some i.left cut entries are is in
    let line : c.first_line.result.0.now ≡ entry_line c.loop-rest.number first.0 = first.2 ∙ ap (λ n. entry_line n first.0) (sym i.number) in
    never_some first.0 (sym c.in_default.is ∙ c.in_ok-entry.ensures.whole first.0 first.1 line)

pub returns-clause-whole : goal.returns-clause-whole
returns-clause-whole c = λ entries are is. ap Some (no_lines_left c.args.text.now c.loop-rest.rest.now c.loop-rest.entries.items
    (grind (arith, nat_tests, c.loop-rest-test.false, c.is_empty.ensures)) c.loop-rest.invariant.left entries are is)
