-- A pass may be sent to another thread, and threads may share a store. What a thread takes with it is proved from these.
use denote.Param.Send.{IsSend, IsSync, sendable}
use Rattle.std.proofs.Crossing.{crosses}
use Rattle.be_store.specs.contracts.store.Store as Store
use Rattle.be_table.proofs.Crosses.{seat_send, seat_sync, table_send, table_sync}
use Rattle.be_table.specs.contracts.seat.Seat as Seat

pub pass_send : IsSend Seat.the_row
pass_send = seat_send

pub pass_sync : IsSync Seat.the_row
pass_sync = seat_sync

pub store_send : IsSend Store.the_row
store_send = search (sendable, crosses, table_send) depth 20

pub store_sync : IsSync Store.the_row
store_sync = search (sendable, crosses, table_sync) depth 20
