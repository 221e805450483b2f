use Rattle.be_entry_bytes.proofs.Values.{encodes, encodes_none}
use Rattle.be_entry_bytes.proofs.reading.text_in.Goals as goal

pub returns-in-Ok : goal.returns-in-Ok
returns-in-Ok c = encodes c.args.bytes.now c.in-Ok.text.now c.in-Ok.ensures.cases.0 c.in-Ok.ensures.cases.1

pub returns-in-Err : goal.returns-in-Err
returns-in-Err c = encodes_none c.args.bytes.now c.in-Err.ensures.cases.0
