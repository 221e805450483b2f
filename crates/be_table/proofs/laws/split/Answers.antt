use Rattle.be_table.proofs.Deals.{split_by}
use Rattle.be_table.proofs.laws.split.Goals as goal

pub returns : goal.returns
returns c limits id a v fronts = split_by limits id a v fronts
