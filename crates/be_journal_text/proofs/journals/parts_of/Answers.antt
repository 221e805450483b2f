use Rattle.std.proofs.Common.{ℕ, ◌-◌, List, [], ◌∷◌, ◌++◌, length, drop, take, codes, ap, ◌∙◌}
use Rattle.std.specs.Fmt.{decimal}
use Rattle.be_journal_text.proofs.LineLemmas.{answers_part, arrow_split, before_arrow, after_arrow, after_pass, outcomes_of, less_two, ops_of, pass_part}
use Rattle.be_journal_text.proofs.journals.parts_of.Goals as goal

pub returns : goal.returns
returns c = λ entry w is.
    let n = c.args.number in
    let pass = c.in_ok-rest.ensures (decimal entry.by ++ 32 ∷ after_pass n entry w) is in
    let one = c.split_around.ensures.ends (decimal entry.by) (after_pass n entry w) (pass_part n entry w) pass in
    let two = c.split_around-2.ensures.ends (ops_of n entry w ++ codes " -") (32 ∷ after_arrow n entry w)
    (before_arrow n entry w) (one.1 ∙ arrow_split n entry w) in
    let arrow = c.skip.ensures ∙ ap (λ (l : List ℕ). drop 1 l) two.1 in
    let three = c.split_around-3.ensures.ends (outcomes_of n entry w) [] (answers_part n entry w) arrow in (
      one.0,
      c.without_last_two.ensures ∙ (ap (λ (l : List ℕ). take (length l - 2) l) two.0 ∙ less_two n entry w (ops_of n entry w)),
      three.0,
    )
