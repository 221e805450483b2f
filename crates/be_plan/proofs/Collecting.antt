-- What is collected, step by step.
use Rattle.std.proofs.Common.{ℕ, List, inl, inr}
use Rattle.be_query.specs.Grammar.{Formula}
use Rattle.be_volume.specs.Volume.{State}
use Rattle.be_plan.specs.Walk.{Collects}

-- Without a step, nothing is collected.
pub collects_none : (s : State) (f : Formula) (found : List ℕ) → Collects s f found found
collects_none s f found = record { keeps = λ n h. h; only = λ n h. inl h }

-- Two steps in sequence.
pub collects_on : (s : State) (f : Formula) (before between after : List ℕ) → Collects s f before between → Collects s f between after → Collects s f before after
collects_on s f before between after first next = record {
  keeps = λ n h. next.keeps n (first.keeps n h);
  only = λ n h. elim (next.only n h) [ inl old ↦ first.only n old | inr is ↦ inr is ];
}
