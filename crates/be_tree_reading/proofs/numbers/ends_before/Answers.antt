use Rattle.std.proofs.Common.{◌∙◌, ap, sym, arith}
use Rattle.std.specs.Option.{option_copied}
use Rattle.be_tree_reading.specs.Range.{numbers_to}
use Rattle.be_tree_reading.proofs.Reading.Starts.{none_within}
use Rattle.be_tree_reading.proofs.numbers.ends_before.Goals as goal

pub is_past_at-requires-clause-readable : goal.is_past_at-requires-clause-readable
is_past_at-requires-clause-readable g c = c.requires.next.1.readable (omega (arith, c.if-next-eq0.false))

pub is_past_at-requires-clause-item : goal.is_past_at-requires-clause-item
is_past_at-requires-clause-item g c = c.requires.next.1.is_item (omega (arith, c.if-next-eq0.false))

pub returns-then-next-eq0-clause-none : goal.returns-then-next-eq0-clause-none
returns-then-next-eq0-clause-none g c = λ _ rest is. ap (λ xs. numbers_to xs (option_copied c.args.high)) (is.none c.if-next-eq0.true)

pub returns-clause-none : goal.returns-clause-none
returns-clause-none g c = λ past rest is.
    none_within _ rest (option_copied c.args.high) (is.starts (omega (arith, c.if-next-eq0.false))) (sym c.is_past_at.ensures.past ∙ past)
