use Rattle.be_change.proofs.Written.{first_is, read_pin}
use Rattle.be_change.proofs.ending.at_pin.Goals as goal

pub indices-requires-clause-pinned : goal.indices-requires-clause-pinned
indices-requires-clause-pinned c = (c.args.number, read_pin c.args.pass.now.knows c.next-first.new.pass.knows c.args.number c.next-first.ensures.pass.1 c.requires.pinned)

pub new-requires : goal.new-requires
new-requires c = first_is c.args.pass.now.knows c.args.number c.next-first.result c.seen_is_legal.ensures.pass c.requires.pinned c.next-first.ensures.next
