-- What C's pointer to a box owns can be sent to another thread if the value in the box can.
use Rattle.std.proofs.Common.{Option, Some, None}
use base.Fraction.{full_share}
use base.Shift.{Keyless}
use mir.Raw.{raw}
use denote.Builtin.{RawPtr}
use denote.Exit.{Exit, unchanged, leaves, hidden, under}
use denote.Memory.{lone}
use denote.Param.Send.{Frees, IsSend, Quiet, part_keyless, sendable}
use denote.RattleType.{RattleType}
use denote.RawPtr.{Ptr, block_ptr, null_ptr, lies_at}
use Rattle.std.proofs.Crossing.{crosses}
use Rattle.std.specs.declared.alloc.Global.{Global}
use Rattle.std.specs.contracts.impls.GlobalAllocator.TheImpl.{ghosts}
use Rattle.bestore_c.specs.Owned.{may_own}

pub quiet : {D X : Type 0} (to : D → X) (e : Exit X) → Quiet e → Quiet (hidden (under to e))
quiet to unchanged q = λ x w. tt
quiet to (leaves L l S s r₀) q = λ d. q (to d)

pub pointer : IsSend RawPtr
pointer = search sendable

lies : (R : RattleType) → IsSend R → (p : Ptr) (x : R.Denot) → Keyless (lies_at R full_share p x)
lies R s (block_ptr b o) x = part_keyless R s full_share x b o
lies R s null_ptr x = tt

frees : Frees ghosts ghosts.dealloc_token
frees = search (sendable, crosses) depth 20

-- The pointer owns either nothing or a box.
pub goes : (R : RattleType) → IsSend R → (a : Global) (p : Ptr) (o : Option R.Denot) → Keyless (may_own (ghosts.dealloc_token a) R p o)
goes R s a p None = tt
goes R s a p (Some x) = (lies R s p x, frees.frees a (raw (lone R.mir)) p)
