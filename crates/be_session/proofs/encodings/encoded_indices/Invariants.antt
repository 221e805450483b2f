use Rattle.std.proofs.Common.{map, take}
use Rattle.be_session.specs.Operations.{AreEncoded, makes}
use Rattle.be_session.proofs.encodings.encoded_indices.Given as goal

abbrev pub invariant-loop-name : goal.invariant-loop-name
invariant-loop-name l = AreEncoded l.operations.items l.bytes.items (map makes (take l.name-index l.list))
