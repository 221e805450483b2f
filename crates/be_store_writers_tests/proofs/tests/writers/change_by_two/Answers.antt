use denote.Param.Send.{sendable}
use Rattle.std.proofs.Crossing.{crosses}
use Rattle.be_store.proofs.Crosses.{pass_send, store_sync}
use Rattle.be_store_writers_tests.proofs.tests.writers.change_by_two.Goals as goal

pub join-requires-send-F : goal.join-requires-send-F
join-requires-send-F g c κs within = search (sendable, crosses, pass_send, store_sync) depth 20
