use Rattle.std.proofs.Common.{ap}
use Rattle.be_table.specs.declared.pass.Knowledge.{Knowledge}
use Rattle.be_store.proofs.Alone.{same_seen}
use Rattle.be_store.proofs.laws.alone_pins_seen.Goals as goal

pub returns : goal.returns
returns c a d n alone then h = same_seen a d alone then h.more (ap (λ (k : Knowledge). k.mine) h.same)
