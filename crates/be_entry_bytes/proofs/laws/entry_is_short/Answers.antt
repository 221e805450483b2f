use Rattle.be_entry_bytes.proofs.Lengths.{entry_short}
use Rattle.be_entry_bytes.proofs.laws.entry_is_short.Goals as goal

pub returns : goal.returns
returns c = entry_short
