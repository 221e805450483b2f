use Rattle.std.proofs.Common.{◌≡◌, ℕ, None, sym, subst, refl, ap, ◌∙◌, arith}
use Rattle.std.proofs.lemmas.Bool.Decides.{nat_tests}
use Rattle.std.specs.declared.option.Option.{Option}
use Rattle.be_paged_reading.specs.Facts.{IsCounted, count_of}
use Rattle.be_paged_reading.proofs.Asking.Counting.{bare_counted, uncounted}
use Rattle.be_paged_reading.proofs.facts.is_bare.Goals as goal

pub returns-then-node-version : goal.returns-then-node-version
returns-then-node-version c = λ is volume sound next reported. bare_counted volume c.args.node None (uncounted volume c.args.node c.args.version.now.next sound next (omega arith)) refl

pub returns-in-Some : goal.returns-in-Some
returns-in-Some c = λ is volume sound next reported.
    let counted = subst (λ (counted : Option (ℕ × Option ℕ)). IsCounted counted volume) c.in-Some.is reported in
    let same : c.in-Some.last ≡ c.args.node = cc in
    let none : c.unwrap_or.result ≡ 0 = grind (arith, nat_tests, is) in
    bare_counted volume c.args.node c.in-Some.count (counted ∙ ap (count_of volume.nodes) same) (sym c.unwrap_or.ensures ∙ none)
