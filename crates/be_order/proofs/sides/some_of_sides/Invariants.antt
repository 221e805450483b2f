use Rattle.std.proofs.Common.{◌≡◌, ◌≤◌, ℕ, true}
use Rattle.be_query.specs.Grammar.{comparisons}
use Rattle.be_query.specs.View.{formula}
use Rattle.be_volume.specs.Query.{sat}
use Rattle.be_order.proofs.sides.some_of_sides.Given as goal

abbrev pub ghost-some_of_part : goal.ghost-some_of_part
ghost-some_of_part g a = g.volume

-- What satisfies a side that is left satisfies the whole.
abbrev pub invariant-sides : goal.invariant-sides
invariant-sides g l = record {
  stays : g.S.Source.kept l.source ≡ g.S.Source.kept l.initial.source;
  answers : g.S.Source.answers_for l.source g.volume;
  few : comparisons (formula l.rest) ≤ 256;
  within : (n : ℕ) → sat g.volume (formula l.rest) n ≡ true → sat g.volume (formula l.tree) n ≡ true;
}

abbrev pub decreases-sides : goal.decreases-sides
decreases-sides g l = comparisons (formula l.rest)
