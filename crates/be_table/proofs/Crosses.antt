-- A seat may be sent to another thread, and threads may share a table. A `&` to a seat gives no access to it, so that may be sent too.
use denote.RattleType.{RattleType}
use denote.Param.Send.{IsSend, IsSync, part_keyless, sendable}
use Rattle.std.proofs.Crossing.{crosses}
use Rattle.atomic_table.specs.contracts.badge.Badge as Badge
use Rattle.atomic_table.proofs.badge.Badge.TheSendSync.{the_send as badge_send}
use Rattle.atomic_table.proofs.send_lease.SendLease.TheSendSync.{the_send as lease_send, the_sync as lease_sync}
use Rattle.atomic_table.proofs.shared.Shared.TheSendSync.{the_send as words_send, the_sync as words_sync}
use Rattle.be_journal.specs.contracts.journals.Journal as Journal
use Rattle.be_table.specs.contracts.seat.Seat as Seat
use Rattle.be_table.specs.contracts.table.VersionTable as VersionTable
use Rattle.be_table.specs.contracts.witness.Witness as Witness

badge_sync : (V : RattleType) → IsSync (Badge.the_row V)
badge_sync V = record { shared = λ d b o κ q. part_keyless (Badge.the_row V) (badge_send V) q d b o }

pub seat_send : IsSend Seat.the_row
seat_send = search (sendable, crosses, badge_send) depth 20

pub seat_sync : IsSync Seat.the_row
seat_sync = search (sendable, crosses, badge_sync) depth 20

journal_send : IsSend Journal.the_row
journal_send = search (sendable, crosses) depth 100 fits 20000

pub table_send : IsSend VersionTable.the_row
table_send = search (sendable, crosses, journal_send, words_send, lease_send) depth 100 fits 20000

pub table_sync : IsSync VersionTable.the_row
table_sync = search (sendable, crosses, journal_send, words_sync, lease_sync) depth 100 fits 20000

pub witness_send : IsSend Witness.the_row
witness_send = search (sendable, crosses, badge_send) depth 20
