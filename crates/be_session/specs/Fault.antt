-- The numbers of errors.
use Rattle.std.specs.Prelude.{ℕ, unwrap_or}
use Rattle.be_change.specs.declared.errors.CollectError.{CollectError}
use Rattle.be_change.specs.declared.errors.CollectError.TheVariants as uncollected
use Rattle.be_value.specs.Refusal.{carried, refusal_number}
use Rattle.be_value.specs.Value.{code_of}
use Rattle.be_value.specs.declared.refusals.Refusal.TheVariants.{OutOfMemory}
use Rattle.be_store.specs.declared.conditional.ApplyIfError.{ApplyIfError}
use Rattle.be_store.specs.declared.conditional.ApplyIfError.TheVariants as errors
use Rattle.be_session.specs.declared.faults.Fault.{Fault}
use Rattle.be_session.specs.declared.faults.Fault.TheVariants.{NotPinned, AlreadyPinned, NoPass}
use Rattle.be_session.specs.declared.faults.Fault.TheVariants.{BadCount}
use Rattle.be_session.specs.declared.faults.Fault.TheVariants.{NotUtf8, NoOperation, NoKind}
use Rattle.be_session.specs.declared.faults.Fault.TheVariants.{NoValue, BadPart, NoItem, Conflict}
use Rattle.be_session.specs.declared.faults.Fault.TheVariants.{InUse, BadCursor, NoRoom, WrongKind}
use Rattle.be_session.specs.declared.faults.Fault.TheVariants.{Refused}

-- The number that identifies an error in other languages. A refusal has its own number, and the
-- errors of a session are numbered from 66 on.
abbrev pub fault_code : Fault → ℕ
fault_code NotPinned = 66
fault_code AlreadyPinned = 67
fault_code NoPass = 68
fault_code BadCount = 69
fault_code NotUtf8 = 70
fault_code NoOperation = 71
fault_code NoKind = 72
fault_code NoValue = 73
fault_code BadPart = 74
fault_code NoItem = 75
fault_code (Conflict length) = 76
fault_code InUse = 77
fault_code BadCursor = 78
fault_code NoRoom = 79
fault_code (WrongKind index) = 80
fault_code (Refused e) = refusal_number e

-- The number that comes with an error. For a refusal, this is the refusal's own number. For a
-- conflict, it is the journal's length, and for a value of the wrong kind, the type code of the
-- index's kind. Otherwise it is 0.
abbrev pub fault_carried : Fault → ℕ
fault_carried NotPinned = 0
fault_carried AlreadyPinned = 0
fault_carried NoPass = 0
fault_carried BadCount = 0
fault_carried NotUtf8 = 0
fault_carried NoOperation = 0
fault_carried NoKind = 0
fault_carried NoValue = 0
fault_carried BadPart = 0
fault_carried NoItem = 0
fault_carried (Conflict length) = length
fault_carried InUse = 0
fault_carried BadCursor = 0
fault_carried NoRoom = 0
fault_carried (WrongKind index) = code_of index
fault_carried (Refused e) = unwrap_or (carried e) 0

-- The error of a conditional write that the store didn't make.
abbrev pub fault_of : ApplyIfError → Fault
fault_of (errors.Conflict length) = Conflict length
fault_of (errors.Refused e) = Refused e

-- The error of an operation that a change didn't collect.
abbrev pub fault_of_collecting : CollectError → Fault
fault_of_collecting uncollected.TooMany = BadCount
fault_of_collecting (uncollected.WrongKind index value) = WrongKind index
fault_of_collecting uncollected.OutOfMemory = Refused OutOfMemory
