use Rattle.be_entry_bytes.proofs.Entries.{entry_again}
use Rattle.be_entry_bytes.proofs.laws.entry_is_read.Goals as goal

pub returns : goal.returns
returns c = entry_again
