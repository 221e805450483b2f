use denote.Param.Send.{sendable}
use Rattle.std.proofs.Crossing.{crosses}
use Rattle.be_store.proofs.Crosses.{pass_send, store_sync}
use Rattle.example_inbox.proofs.file_both.Goals as goal

-- src/main.rt:55:22
pub join-ada-requires-send-F : goal.join-ada-requires-send-F
join-ada-requires-send-F g c κs within = search (sendable, crosses, pass_send, store_sync) depth 20
