use Rattle.std.proofs.Common.{map, take}
use Rattle.be_session.specs.Operations.{AreEncoded, sets}
use Rattle.be_session.proofs.encodings.encoded_attributes.Given as goal

abbrev pub invariant-loop-name : goal.invariant-loop-name
invariant-loop-name l = AreEncoded l.operations.items l.bytes.items (map (sets l.node) (take l.name-index l.list))
