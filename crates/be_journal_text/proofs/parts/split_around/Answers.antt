use Rattle.std.proofs.Common.{◌+◌, length, ap, ◌∙◌, take, drop, arith}
use Rattle.std.proofs.lemmas.List.{length-drop}
use Rattle.be_journal_text.proofs.LineLemmas.{drop_one_more, drop_past, take_front, take_length}
use Rattle.be_journal_text.proofs.parts.split_around.Goals as goal

pub returns-clause-ends : goal.returns-clause-ends
returns-clause-ends c = λ part more h e.
    let count = c.length_to-count.ensures.ends part more h e in (
      c.split_at.ensures.front ∙ (ap (λ n. take n c.args.text.now) count ∙ (ap (take _) e ∙ take_front part _)),
      c.skip.ensures ∙ (ap (λ n. drop (n + 1) c.args.text.now) count ∙ (ap (drop _) e ∙ drop_one_more part more _)),
    )

pub returns-clause-alone : goal.returns-clause-alone
returns-clause-alone c = λ h.
    let count = c.length_to-count.ensures.alone h in (
      c.split_at.ensures.front ∙ (ap (λ n. take n c.args.text.now) count ∙ take_length c.args.text.now),
      c.skip.ensures ∙ (ap (λ n. drop (n + 1) c.args.text.now) count ∙ drop_past c.args.text.now),
    )

pub returns-clause-shorter : goal.returns-clause-shorter
returns-clause-shorter c = λ some. omega (arith, ap length c.skip.ensures, length-drop (c.length_to-count.result + 1) c.args.text.now, some)
