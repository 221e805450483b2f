use Rattle.std.proofs.Common.{◌≡◌, drop}
use Rattle.be_change.proofs.Left.{kind_listed}
use Rattle.be_change.proofs.overlay.listed_kind.Given as goal

abbrev pub invariant-loop-listed : goal.invariant-loop-listed
invariant-loop-listed l = kind_listed l.indices l.name ≡ kind_listed (drop l.listed-index l.indices) l.name
