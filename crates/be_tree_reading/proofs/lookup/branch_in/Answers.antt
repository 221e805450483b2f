use Rattle.std.proofs.Common.{◌<◌, ◌+◌, ◌*◌, ◌∙◌, ap, sym, subst, ℕ}
use Rattle.be_tree_reading.specs.Places.{IsBranchAt}
use Rattle.be_tree_reading.specs.Page.{items_of}
use Rattle.be_tree_reading.proofs.Frame.{unchanged_trans}
use Rattle.be_tree_reading.proofs.lookup.branch_in.Goals as goal

pub branch_for-requires-clause-some : goal.branch_for-requires-clause-some
branch_for-requires-clause-some g c = subst (λ (w : ℕ → ℕ → ℕ). 0 < w c.args.page 1) (sym c.end_of-end.ensures.unchanged.words) c.requires.some

pub branch_for-requires-clause-end : goal.branch_for-requires-clause-end
branch_for-requires-clause-end g c = c.end_of-end.ensures.end ∙ sym (ap (λ (w : ℕ → ℕ → ℕ). 2 + 42 * w c.args.page 1) c.end_of-end.ensures.unchanged.words)

pub returns-clause-branch : goal.returns-clause-branch
returns-clause-branch g c = subst (λ (w : ℕ → ℕ → ℕ). IsBranchAt c.args.key.now (items_of (w c.args.page)) c.branch_for.result) c.end_of-end.ensures.unchanged.words c.branch_for.ensures.branch

pub returns-clause-unchanged : goal.returns-clause-unchanged
returns-clause-unchanged g c =
    unchanged_trans g.L.Look.kept g.L.Look.page_state g.L.Look.words c.args.look.now c.end_of-end.new.look c.branch_for.new.look c.end_of-end.ensures.unchanged c.branch_for.ensures.unchanged
