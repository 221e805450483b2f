use Rattle.std.proofs.Common.{◌≡◌, ◌==◌, ℕ, true, false, length, nat_lt, sym, ap, ◌∙◌, arith, if◌then◌else◌}
use Rattle.std.proofs.lemmas.Bool.Decides.{nat_tests}
use Rattle.be_pattern.specs.Canonical.{is_plain}
use Rattle.be_query.specs.View.{literal}
use Rattle.be_query.specs.declared.tree.Cmp.TheVariants.{Eq}
use Rattle.be_plan.specs.Cover.{score_of, begins_literally}
use Rattle.be_plan.proofs.Prefixes.{shows_front}
use Rattle.be_plan.proofs.choosing.score_of.Goals as goal

none : (n : ℕ) → (n == 0) ≡ true → nat_lt 0 n ≡ false
none n h = grind (arith, nat_tests)

pub returns-else-not-is_empty-clause-score : goal.returns-else-not-is_empty-clause-score
returns-else-not-is_empty-clause-score c =
    let parts = c.in-Pattern.pattern in
    let wild : is_plain parts ≡ false = sym c.is_plain.ensures ∙ c.if-is_plain.false in
    let starts : begins_literally parts ≡ false =
    sym (shows_front parts) ∙ ap (λ xs. nat_lt 0 (length xs)) (sym c.prefix.ensures) ∙ none (length c.prefix.result.now) (sym c.is_empty.ensures ∙ c.if-not-is_empty.false) in
    sym (ap (λ op. score_of op (literal c.args.comparison.now.literal)) c.in-Eq.is ∙ ap (λ l. score_of Eq (literal l)) c.in-Pattern.is
    ∙ ap (λ t. if t then 1 else if begins_literally parts then 2 else 4) wild ∙ ap (λ t. if t then 2 else 4) starts)
