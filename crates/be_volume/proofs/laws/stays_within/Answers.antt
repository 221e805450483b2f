use Rattle.be_volume.proofs.ItemLemmas.{stays, stays_by_length}
use Rattle.be_volume.proofs.laws.stays_within.Goals as goal

pub returns : goal.returns
returns c = record { sums = stays; lengths = stays_by_length }
