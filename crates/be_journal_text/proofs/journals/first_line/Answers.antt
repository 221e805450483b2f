use Rattle.std.proofs.Common.{◌≡◌, ◌+◌, List, ℕ, length, take, drop, ap, ◌∙◌}
use Rattle.be_journal_text.proofs.LineLemmas.{drop_one_more, take_one_more}
use Rattle.be_journal_text.proofs.journals.first_line.Goals as goal

pub returns-then-end-text-clause-first : goal.returns-then-end-text-clause-first
returns-then-end-text-clause-first c = λ line more h e.
    let text = c.args.text.now in
    let cut = c.split_around.ensures.ends line more h e in
    let place : length c.split_around.result.0.now + 1 ≡ length line + 1 = ap (λ (l : List ℕ). length l + 1) cut.0 in (
      c.split_at.ensures.front ∙ (ap (λ n. take n text) place ∙ (ap (λ (l : List ℕ). take (length line + 1) l) e ∙ take_one_more line more 10)),
      c.split_at.ensures.back ∙ (ap (λ n. drop n text) place ∙ (ap (λ (l : List ℕ). drop (length line + 1) l) e ∙ drop_one_more line more 10)),
    )
