use Rattle.std.proofs.Common.{ℕ, ap, ◌∙◌}
use Rattle.std.specs.List.{slice_get}
use Rattle.be_tree_reading.specs.Tree.{pairs}
use Rattle.be_tree_reading.specs.Cursor.{remaining}
use Rattle.be_tree_reading.proofs.Ranges.{first_pair}
use Rattle.be_tree_reading.proofs.walk.range.Goals as goal

pub returns-clause-item : goal.returns-clause-item
returns-clause-item g c =
    c.next.ensures.item
    ∙ ap (λ (w : ℕ → ℕ → ℕ). slice_get (remaining w c.seek.new.self) 0) c.seek.ensures.unchanged.words
    ∙ ap (λ xs. slice_get xs 0) c.seek.ensures.remaining
    ∙ first_pair c.args.from.now c.args.after (pairs (g.L.Look.words c.args.look.now) c.args.root)
