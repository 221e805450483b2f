use Rattle.be_table.proofs.Publishing.{publish_by}
use Rattle.be_table.proofs.laws.publish.Goals as goal

pub returns : goal.returns
returns c limits slots id a carried = publish_by limits slots id a carried
