use Rattle.be_table.proofs.Witnesses.{learn_by}
use Rattle.be_table.proofs.laws.learn.Goals as goal

pub returns : goal.returns
returns c limits slots id a front carried = learn_by limits slots id a front carried
