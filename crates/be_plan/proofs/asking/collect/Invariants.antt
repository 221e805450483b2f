use Rattle.std.proofs.Common.{◌≡◌, ◌⊎◌, ◌≤◌, ℕ, true}
use Rattle.std.specs.List.{Contains}
use Rattle.be_query.specs.Grammar.{comparisons}
use Rattle.be_query.specs.View.{formula}
use Rattle.be_volume.specs.Query.{covered, sat}
use Rattle.be_plan.proofs.asking.collect.Given as goal

abbrev pub ghost-collect_side : goal.ghost-collect_side
ghost-collect_side g a = g.volume

-- What has been found satisfies the sides that are finished, and `rest` is the unevaluated part of
-- the query.
abbrev pub invariant-sides : goal.invariant-sides
invariant-sides g l = record {
  stays : g.S.Source.kept l.source ≡ g.S.Source.kept l.initial.source;
  answers : g.S.Source.answers_for l.source g.volume;
  few : comparisons (formula l.rest) ≤ 256;
  only : (n : ℕ) → Contains l.found.items n → Contains l.initial.found.items n ⊎ (sat g.volume (formula l.tree) n ≡ true);
  has : (n : ℕ) → sat g.volume (formula l.tree) n ≡ true → Contains l.found.items n ⊎ (sat g.volume (formula l.rest) n ≡ true);
  within : (n : ℕ) → sat g.volume (formula l.rest) n ≡ true → sat g.volume (formula l.tree) n ≡ true;
  rests : covered g.volume (formula l.tree) ≡ covered g.volume (formula l.rest);
}

abbrev pub decreases-sides : goal.decreases-sides
decreases-sides g l = comparisons (formula l.rest)
