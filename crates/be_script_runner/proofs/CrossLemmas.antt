-- A pass's thread may be sent what it captures.
use base.Fml.{Lft}
use mir.Syntax.{Lifetime, Sym, w8}
use denote.Param.{param}
use denote.Param.Send.{IsSend, IsSync, sendable, shr_send}
use denote.Param.SendFields.{as_row_send, declared_send}
use denote.Plain.{UInt}
use denote.RattleType.{RattleType}
use denote.Ref.{ShrRef}
use denote.Struct.Field.{row_field}
use denote.Struct.Tuple.{TupleAt, type_at}
use Rattle.std.proofs.Common.{[], ◌∷◌}
use Rattle.std.proofs.Crossing.{Vec-sync, send as heap_send}
use Rattle.std.specs.contracts.alloc.Global as Global
use Rattle.std.specs.contracts.impls.GlobalAllocator.TheImpl.{ghosts}
use Rattle.std.specs.contracts.vec.Vec as Vec
use Rattle.be_store.proofs.Crosses.{pass_send, store_sync}
use Rattle.be_store.specs.contracts.store.Store as Store
use Rattle.be_table.specs.contracts.seat.Seat as Seat

abbrev bytes : RattleType
bytes = Vec.the_row (UInt w8) Global.the_row ghosts

bytes_sync : IsSync bytes
bytes_sync = Vec-sync (UInt w8) (search sendable)

-- a closure that captures an allocator, a store, a pass, a gate and a script
pub thread_send : (ν : Sym) (m n o : Lifetime) (a b c : Lft) (G : RattleType) → IsSync (param 1 G)
    → IsSend (TupleAt ν (Global.the_row ∷ ShrRef m a Store.the_row ∷ Seat.the_row ∷ ShrRef n b (param 1 G) ∷ ShrRef o c bytes ∷ []))
thread_send ν m n o a b c G gate =
    let store = ShrRef m a Store.the_row in
    let gates = ShrRef n b (param 1 G) in
    let script = ShrRef o c bytes in
    declared_send (type_at ν (Global.the_row ∷ store ∷ Seat.the_row ∷ gates ∷ script ∷ [])) (
      as_row_send (row_field Global.the_row) heap_send,
      (
        as_row_send (row_field store) (shr_send m a Store.the_row store_sync),
        (
          as_row_send (row_field Seat.the_row) pass_send,
          (as_row_send (row_field gates) (shr_send n b (param 1 G) gate), (as_row_send (row_field script) (shr_send o c bytes bytes_sync), tt)),
        ),
      ),
    )
