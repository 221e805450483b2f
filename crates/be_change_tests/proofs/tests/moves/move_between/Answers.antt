use denote.Param.Send.{sendable}
use Rattle.std.proofs.Crossing.{crosses}
use Rattle.be_store.proofs.Crosses.{pass_send, store_sync}
use Rattle.be_change_tests.proofs.tests.moves.move_between.Goals as goal

pub join-one-requires-send-F : goal.join-one-requires-send-F
join-one-requires-send-F g c κs within = search (sendable, crosses, pass_send, store_sync) depth 20
