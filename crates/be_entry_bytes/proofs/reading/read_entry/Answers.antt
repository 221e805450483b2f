use Rattle.be_entry_bytes.proofs.Entries.{read_written}
use Rattle.be_entry_bytes.proofs.reading.read_entry.Goals as goal

pub returns-clause-written : goal.returns-clause-written
returns-clause-written c = read_written (λ x. (x.0, x.1.items, x.2.items, x.3.now)) c.entry_of.result c.args.bytes.now c.entry_of.ensures
