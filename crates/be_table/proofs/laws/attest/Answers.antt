use Rattle.be_table.proofs.Deals.{attest_by}
use Rattle.be_table.proofs.laws.attest.Goals as goal

pub returns : goal.returns
returns c limits id a = attest_by limits id a
