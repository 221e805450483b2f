use Rattle.be_entry_bytes.proofs.Values.{kind_found}
use Rattle.be_entry_bytes.proofs.reading.kind_numbered.Goals as goal

pub returns : goal.returns
returns c = kind_found c.numbered.result c.args.number c.numbered.ensures.found c.numbered.ensures.none
