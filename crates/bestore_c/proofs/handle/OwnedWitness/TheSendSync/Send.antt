-- The pointer can be sent to another thread together with what it owns.
use denote.Param.Send.{AllSend, IsSend, owning_send, sendable, struct_send}
use denote.Struct.Owning.{shape, fields, to}
use denote.Struct.Struct.{exits_of}
use Rattle.be_table.proofs.Crosses.{witness_send}
use Rattle.be_table.specs.contracts.witness.Witness as Held
use Rattle.bestore_c.proofs.Sent.{goes, pointer, quiet}
use Rattle.bestore_c.specs.contracts.handle.OwnedWitness.{the_row, the_type}

pub send : IsSend the_row
send =
    let all : AllSend (fields the_type) = (pointer, (search sendable depth 20, tt)) in
    owning_send the_type all (λ d. goes Held.the_row witness_send d.alloc d.at d.value)
    (λ k. quiet (to the_type) (exits_of k (fields the_type)) ((struct_send (shape the_type) all).leaving k))
