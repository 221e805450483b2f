use Rattle.std.proofs.Common.{◌≡◌, None, option_map}
use Rattle.std.specs.FinMap as fin
use Rattle.be_volume_state.proofs.Pushed.{none_held}
use Rattle.be_volume_state.proofs.pieces.held_ops.Goals as goal

pub attrs-requires : goal.attrs-requires
attrs-requires g c = (g.volume, c.requires.1)

pub returns-in_default-clause-ops : goal.returns-in_default-clause-ops
returns-in_default-clause-ops g c =
    let none : None ≡ option_map fin.entries (fin.get g.volume.nodes c.args.node) = rw c.in_default.is at (c.in_ok-attributes.ensures.answer g.volume c.requires.1) in
    none_held g.volume c.args.node c.new-ops.result.items none c.new-ops.ensures.items
