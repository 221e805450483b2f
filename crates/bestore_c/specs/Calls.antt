-- What calls do to handles, and what they return.
use Rattle.std.specs.Prelude.{◌≡◌, ◌⊎◌, ◌<◌, ℕ, ◌*◌, ◌^◌, IsUtf8, List, [], drop, length, map}
use Rattle.std.specs.Prelude.{slice_get, Bool, Option, None, Some, Ok, Err, if◌then◌else◌}
use Rattle.std.specs.declared.result.Result.{Result}
use Rattle.be_journal.specs.declared.entries.Entry.{Entry}
use Rattle.be_journal.specs.Journal.{IsLegalFrom}
use Rattle.be_paged_reading.specs.Cells.{ReportsColumns, name_in}
use Rattle.be_paged_reading.specs.declared.cells.Cell.{Cell}
use Rattle.be_paged_reading.specs.declared.cells.HeldName.{HeldName}
use Rattle.be_query.specs.Grammar.{Formula, IsTextOf}
use Rattle.be_query.specs.Printing.{or_text}
use Rattle.be_session.specs.Fault.{fault_carried, fault_code}
use Rattle.be_session.specs.Items.{IsBuilt, IsUnbuilt}
use Rattle.be_session.specs.Meaning.{HasNoMore, IsNoName, IsValueMeant}
use Rattle.be_session.specs.Operations.{AreMeant, AreEncoded, IsInvalid, IsWriteCount, ReportNodes}
use Rattle.be_session.specs.Explained.{explanation_in}
use Rattle.be_session.specs.Prepared.{IsUnasked, PreparedQuery, RefreshesAtPin, with_found}
use Rattle.be_session.specs.Sitting.{HasMet, IsHandedOut, IsNoQuery, IsNotHandedOut, IsOpened}
use Rattle.be_session.specs.Sitting.{IsUnrefreshed, IsUnwritten, IsUnwrittenIf, Sitting}
use Rattle.be_session.specs.Sitting.{having_searched}
use Rattle.be_session.specs.declared.faults.Fault.{Fault}
use Rattle.be_session.specs.declared.faults.Fault.TheVariants.{BadCount, NoPass, NotPinned, Refused}
use Rattle.be_session.specs.declared.items.PredicateItem.{PredicateItem}
use Rattle.be_session.specs.declared.lists.Operation.{Operation}
use Rattle.be_store.specs.Conditional.{AcceptsAt}
use Rattle.be_store.specs.History.{Accepts, IsUnreported, Learns, LocksAndUnlocks, text_seen}
use Rattle.be_store.specs.Passes.{HasRead, IsPinnedTo, volume_pinned}
use Rattle.be_table.specs.Rule.{IsPossible, entries}
use Rattle.be_table.specs.Seats.{pinned_number}
use Rattle.be_table.specs.Works.{IsLargeRefused}
use Rattle.be_table.specs.declared.limits.Limits.{Limits}
use Rattle.be_value.specs.Name.{name_from}
use Rattle.be_value.specs.Refusal.{refusal_number}
use Rattle.be_value.specs.declared.refusals.Refusal.{Refusal}
use Rattle.be_value.specs.declared.refusals.Refusal.TheVariants.{OutOfMemory}
use Rattle.be_value.specs.declared.values.Value.{Value}
use Rattle.be_volume.specs.Query.{scan}
use Rattle.be_volume.specs.Reading.{attribute}
use Rattle.be_volume.specs.Volume.{State}
use Rattle.be_volume.specs.declared.ops.Done.{Done}
use Rattle.be_volume.specs.declared.ops.Op.{Op}
use Rattle.be_volume_state.specs.Rebuilding.{is_held}
use Rattle.bestore_c.specs.Places.{node_of, over}
use Rattle.bestore_c.specs.declared.handle.Attribute.{Attribute}
use Rattle.bestore_c.specs.declared.handle.Counts.{Counts}
use Rattle.bestore_c.specs.declared.handle.UpdateCounts.{UpdateCounts}

-- A call on a closed handle leaves it closed and returns the code for a closed handle. A call on an
-- open handle leaves it open, with a session of the same store. The call has given away no share of
-- the store, so it has made no other session, and has written nothing by a waiting pass. `does`
-- says what the call does to the session.
abbrev pub Calls : Option Sitting → Option Sitting → Type 0 → (Sitting → Sitting → Type 0) → Type 0
Calls None None closed does = closed
Calls None (Some t) closed does = ⊥
Calls (Some s) None closed does = ⊥
Calls (Some s) (Some t) closed does = (t.store ≡ s.store) × (t.holds ≡ s.holds) × does s t

-- The session only read. Its store and what it holds are unchanged.
abbrev pub HasOnlyRead : Sitting → Sitting → Type 0
HasOnlyRead s t = (t.store ≡ s.store) × (t.holds ≡ s.holds) × HasRead s.knows t.knows

-- A call on a closed handle returns the code 64 and the number 0.
abbrev pub IsClosed : ℕ → ℕ → Type 0
IsClosed number code = (code ≡ 64) × (number ≡ 0)

-- The call returns the code of an error and the number that the error carries.
abbrev pub Refuses : Fault → ℕ → ℕ → Type 0
Refuses e number code = (code ≡ fault_code e) × (number ≡ fault_carried e)

-- The call returns 64 for a closed handle, and 0 for an open one.
abbrev pub AnswersWhetherOpen : {A : Type 0} → Option A → ℕ → Type 0
AnswersWhetherOpen None code = code ≡ 64
AnswersWhetherOpen (Some s) code = code ≡ 0

-- Opening a store. If the handle is open, it is unchanged, and the call returns 65. A closed handle
-- gets a session that has just opened an empty store with these limits. It stays closed if the
-- store refuses the limits or if memory runs out, in which case the call returns the number of the
-- error.
abbrev pub Opens : Limits → Option Sitting → Option Sitting → ℕ → Type 0
Opens limits (Some s) (Some t) code = (code ≡ 65) × (t ≡ s)
Opens limits (Some s) None code = ⊥
Opens limits None (Some t) code = (code ≡ 0) × IsOpened limits t
Opens limits None None code = ((code ≡ 10) × IsPossible limits)
    ⊎ ((why : Refusal) × (code ≡ refusal_number why) × IsLargeRefused limits why)

-- Making a second handle. If that handle is open, it is unchanged, and the call returns 65. A
-- closed handle gets a session of the same store, whose pass was handed out and has met the pass of
-- the first handle. The call returns 68 if no pass waits, and 10 if memory runs out.
abbrev pub OpensSecond : Sitting → Sitting → Option Sitting → Option Sitting → ℕ → Type 0
OpensSecond s t (Some o) (Some p) code = (code ≡ 65) × (p ≡ o) × (t ≡ s)
OpensSecond s t (Some o) None code = ⊥
OpensSecond s t None (Some p) code = (code ≡ 0) × (p.store ≡ s.store) × IsHandedOut s t p
OpensSecond s t None None code = (e : Fault) × (code ≡ fault_code e) × IsNotHandedOut s t e

-- Making a second handle when the first one may be closed. In that case both are unchanged, and the
-- call returns 64.
abbrev pub GivesAnother : Option Sitting → Option Sitting → Option Sitting → Option Sitting → ℕ
    → Type 0
GivesAnother None None o p code = (code ≡ 64) × (p ≡ o)
GivesAnother None (Some t) o p code = ⊥
GivesAnother (Some s) None o p code = ⊥
GivesAnother (Some s) (Some t) o p code = (t.store ≡ s.store) × OpensSecond s t o p code

-- Meeting a waiting pass. The call returns how many journal entries both passes have then seen. If
-- no pass was found, it returns 68, and the session has searched the slots.
abbrev pub MeetsWaiting : Option Sitting → Option Sitting → ℕ → ℕ → Type 0
MeetsWaiting None None seen code = IsClosed seen code
MeetsWaiting None (Some t) seen code = ⊥
MeetsWaiting (Some s) None seen code = ⊥
MeetsWaiting (Some s) (Some t) seen code = (t.store ≡ s.store)
    × (((code ≡ 0) × (t.holds ≡ s.holds) × HasMet s.store s.knows t.knows seen)
    ⊎ (Refuses NoPass seen code × (t ≡ having_searched s)))

-- Moving a handle. Its content goes to a closed handle, and it is closed itself. The call returns
-- 65 if the other handle is open, and 64 if this one is closed.
abbrev pub MovesHandle : {A : Type 0} → Option A → Option A → Option A → Option A → ℕ → Type 0
MovesHandle None o from to code = (code ≡ 64) × (from ≡ None) × (to ≡ o)
MovesHandle (Some s) (Some o) from to code = (code ≡ 65) × (from ≡ Some s) × (to ≡ Some o)
MovesHandle (Some s) None from to code = (code ≡ 0) × (from ≡ None) × (to ≡ Some s)

-- A write of encoded operations. If one of them is invalid, nothing happens, and the number is its
-- index in the list. Otherwise they encode a list of operations. If the store accepts these, the
-- call returns the numbers of new nodes, and the number is the journal's length. If the store
-- refuses them, the number is what the error carries.
abbrev pub WritesEncoded : Sitting → Sitting → List Operation → List ℕ → List ℕ → List ℕ → ℕ → ℕ
    → Type 0
WritesEncoded s t encoded bytes places filled number code =
    ((e : Fault) × (code ≡ fault_code e) × IsInvalid encoded bytes e number × (t ≡ s))
    ⊎ (IsWriteCount (length encoded) × (ops : List Op) × AreMeant encoded bytes ops ×
    (((code ≡ 0) × (dones : List Done) × Accepts s.knows t.knows ops number dones
    × (filled ≡ over (map node_of dones) places))
    ⊎ ((e : Fault) × Refuses e number code × IsUnwritten s.knows t.knows ops e)))

-- A conditional write of encoded operations. If one of them is invalid, nothing happens. Otherwise,
-- either the store accepts them on a journal with `expected` entries and the number is the
-- journal's length, or the store writes nothing and the number is what the error carries.
abbrev pub WritesEncodedIf : Sitting → Sitting → ℕ → List Operation → List ℕ → List ℕ → List ℕ → ℕ
    → ℕ → Type 0
WritesEncodedIf s t expected encoded bytes places filled number code =
    ((e : Fault) × (code ≡ fault_code e) × IsInvalid encoded bytes e number × (t ≡ s))
    ⊎ (IsWriteCount (length encoded) × (ops : List Op) × AreMeant encoded bytes ops ×
    (((code ≡ 0) × (dones : List Done) × AcceptsAt s.knows t.knows expected ops number dones
    × (filled ≡ over (map node_of dones) places))
    ⊎ ((e : Fault) × Refuses e number code × IsUnwrittenIf s.knows t.knows expected ops e)))

-- A number that is read from the pinned version, or NotPinned if there is no pin.
abbrev pub ReportsNumber : Option ℕ → ℕ → ℕ → ℕ → Type 0
ReportsNumber None meant number code = Refuses NotPinned number code
ReportsNumber (Some n) meant number code = (code ≡ 0) × (number ≡ meant)

-- An answer of a version, which is a list of nodes or of the bytes of a text. The call returns its
-- length and as many items as fit, or an error with what it carries.
abbrev pub PutsOutAnswer : Result (List ℕ) Refusal → List ℕ → List ℕ → ℕ → ℕ → Type 0
PutsOutAnswer (Ok nodes) places filled count code = (code ≡ 0) × (count ≡ length nodes)
    × (filled ≡ over nodes places)
PutsOutAnswer (Err why) places filled count code = Refuses (Refused why) count code

-- An answer of the pinned version. Without a pin, the error is NotPinned, and if memory runs out,
-- it is 10.
abbrev pub PutsOutAtPin : Option ℕ → Result (List ℕ) Refusal → List ℕ → List ℕ → ℕ → ℕ → Type 0
PutsOutAtPin None answer places filled count code = Refuses NotPinned count code
PutsOutAtPin (Some n) answer places filled count code = Refuses (Refused OutOfMemory) count code
    ⊎ PutsOutAnswer answer places filled count code

-- Running a query that is given by its text. If the bytes aren't a query, nothing happens.
-- Otherwise the call returns the answer of the query.
abbrev pub Finds : Sitting → Sitting → List ℕ → List ℕ → List ℕ → ℕ → ℕ → Type 0
Finds s t text places filled count code =
    ((e : Fault) × Refuses e count code × IsNoQuery text e × (t ≡ s))
    ⊎ ((query : Formula) × IsTextOf text query × HasRead s.knows t.knows
    × PutsOutAtPin (pinned_number s.knows.phase) (scan (volume_pinned s.knows) query) places filled
    count code)

-- Explaining a query that is given by its text. If the bytes aren't a query, nothing happens.
-- Otherwise the call returns the text that describes which indices would be used.
abbrev pub Explains : Sitting → Sitting → List ℕ → List ℕ → List ℕ → ℕ → ℕ → Type 0
Explains s t text places filled count code =
    ((e : Fault) × Refuses e count code × IsNoQuery text e × (t ≡ s))
    ⊎ ((query : Formula) × IsTextOf text query × HasRead s.knows t.knows
    × PutsOutAtPin (pinned_number s.knows.phase) (explanation_in (volume_pinned s.knows) query)
    places filled count code)

-- Running a query that is given by its items. If they build no query, nothing happens. Otherwise
-- the call returns the answer of the query.
abbrev pub FindsBuilt : Sitting → Sitting → List PredicateItem → List ℕ → List ℕ → List ℕ → ℕ → ℕ
    → Type 0
FindsBuilt s t encoded bytes places filled count code =
    ((e : Fault) × (code ≡ fault_code e) × IsUnbuilt encoded bytes e count × (t ≡ s))
    ⊎ ((query : Formula) × IsBuilt encoded bytes query × HasRead s.knows t.knows
    × PutsOutAtPin (pinned_number s.knows.phase) (scan (volume_pinned s.knows) query) places filled
    count code)

-- The type code, number and length of a value, and as many of its bytes as fit.
abbrev pub ShowsValue : Value → Attribute → List ℕ → List ℕ → Type 0
ShowsValue value reported places filled =
    (bytes : List ℕ) × IsValueMeant reported.code reported.number bytes value
    × HasNoMore reported.number bytes value
    × (reported.length ≡ length bytes) × (filled ≡ over bytes places)

-- Whether an index has an attribute in the pinned version, as 1 or 0. The call returns 66 if the
-- pass isn't pinned.
abbrev pub ShowsHeld : Option ℕ → Bool → ℕ → ℕ → Type 0
ShowsHeld None is_held shown code = code ≡ 66
ShowsHeld (Some n) is_held shown code = (code ≡ 0) × (shown ≡ (if is_held then 1 else 0))

-- Looking up a node in the index with a name that is given by its bytes. If they aren't a valid
-- name, nothing happens.
abbrev pub ReportsHeld : Sitting → Sitting → ℕ → List ℕ → ℕ → ℕ → Type 0
ReportsHeld s t node name shown code =
    ((e : Fault) × (code ≡ fault_code e) × IsNoName name e × (t ≡ s))
    ⊎ (IsUtf8 name × (name_from name ≡ Ok name) × HasRead s.knows t.knows
    × ShowsHeld (pinned_number s.knows.phase) (is_held (volume_pinned s.knows) node name) shown
    code)

-- The attribute in the pinned version. The call returns 66 if there is no pin, and 3 if there is no
-- such attribute.
abbrev pub Shown : Option ℕ → Option Value → Attribute → List ℕ → List ℕ → ℕ → Type 0
Shown None found reported places filled code = code ≡ 66
Shown (Some n) None reported places filled code = code ≡ 3
Shown (Some n) (Some value) reported places filled code = (code ≡ 0)
    × ShowsValue value reported places filled

-- Reading an attribute. If the bytes aren't a valid name, nothing happens. Otherwise the call
-- returns the attribute.
abbrev pub Reads : Sitting → Sitting → ℕ → List ℕ → Attribute → List ℕ → List ℕ → ℕ → Type 0
Reads s t node name reported places filled code =
    ((e : Fault) × (code ≡ fault_code e) × IsNoName name e × (t ≡ s))
    ⊎ (IsUtf8 name × (name_from name ≡ Ok name) × HasRead s.knows t.knows
    × Shown (pinned_number s.knows.phase) (attribute (volume_pinned s.knows) node name) reported
    places filled code)

-- Reading an attribute, given a name that was checked before.
abbrev pub ReadsHeld : Sitting → Sitting → ℕ → List ℕ → Attribute → List ℕ → List ℕ → ℕ → Type 0
ReadsHeld s t node name reported places filled code =
    HasRead s.knows t.knows × Shown (pinned_number s.knows.phase)
    (attribute (volume_pinned s.knows) node name) reported places filled code

-- Checking a name and keeping it. If the bytes aren't a valid name, `held` is unchanged.
abbrev pub HoldsName : List ℕ → HeldName → HeldName → ℕ → Type 0
HoldsName bytes was held code =
    ((code ≡ 0) × (name_in held ≡ bytes) × (name_from bytes ≡ Ok bytes) × IsUtf8 bytes)
    ⊎ ((e : Fault) × (code ≡ fault_code e) × IsNoName bytes e × (held ≡ was))

-- The cells of these nodes and names in the pinned version. The error is NotPinned if there is no
-- pin, and BadCount if there are more than 2^32 cells.
abbrev pub ReportsAtPin : Option ℕ → State → List ℕ → List (List ℕ) → List Cell → List Cell → List ℕ
    → List ℕ → ℕ → ℕ → Type 0
ReportsAtPin None volume nodes names cell_places cells places filled needed code = Refuses NotPinned
    needed code
ReportsAtPin (Some n) volume nodes names cell_places cells places filled needed code =
    ((code ≡ 0) × ReportsColumns volume nodes names cell_places cells places filled needed)
    ⊎ (Refuses BadCount needed code × (2 ^ 32 < length nodes * length names))

-- A list is returned as these operations. The call returns how many operations and bytes their
-- encoding has, and as many of the operations and bytes as fit, unless memory runs out.
abbrev pub IsPutOut : List Op → Counts → List Operation → List Operation → List ℕ → List ℕ → ℕ
    → Type 0
IsPutOut ops counts places filled byte_places bytes code =
    (code ≡ 10)
    ⊎ ((code ≡ 0) × (os : List Operation) × (bs : List ℕ) × AreEncoded os bs ops
    × (counts.operations ≡ length os) × (filled ≡ over os places) × (counts.bytes ≡ length bs)
    × (bytes ≡ over bs byte_places))

-- A list in the pinned version is returned as the operations that would create it. The call returns
-- 66 if there is no pin. Otherwise it returns the list, or the reason why there is none.
abbrev pub Listed : {A : Type 0} → (A → Op) → Option ℕ → Result (List A) Refusal → Counts
    → List Operation → List Operation → List ℕ → List ℕ → ℕ → Type 0
Listed makes None meant counts places filled byte_places bytes code = code ≡ 66
Listed makes (Some n) (Err why) counts places filled byte_places bytes code = (code ≡ 10)
    ⊎ (code ≡ refusal_number why)
Listed makes (Some n) (Ok list) counts places filled byte_places bytes code = IsPutOut
    (map makes list) counts places filled byte_places bytes code

-- The reason why a text isn't a query, and what the error carries.
abbrev pub IsTextFault : List ℕ → Fault → ℕ → Type 0
IsTextFault text e place = IsNoQuery text e × (place ≡ fault_carried e)

-- Preparing a query. If the handle is open, it is unchanged, and the call returns 65. A closed
-- handle gets a query that these bytes or items encode and that has never been refreshed. After an
-- error, it stays closed. The number belongs to the error, and is 0 if there is none.
abbrev pub Prepares : (Formula → Type 0) → (Fault → ℕ → Type 0) → Option PreparedQuery
    → Option PreparedQuery → ℕ → ℕ → Type 0
Prepares is_meant is_fault (Some p) (Some q) place code = (code ≡ 65) × (q ≡ p) × (place ≡ 0)
Prepares is_meant is_fault (Some p) None place code = ⊥
Prepares is_meant is_fault None (Some q) place code = (code ≡ 0) × (place ≡ 0) × (query : Formula)
    × is_meant query × IsUnasked query q
Prepares is_meant is_fault None None place code = (e : Fault) × (code ≡ fault_code e)
    × is_fault e place

-- A query ran in the pinned version and keeps what it found. The call returns how many nodes these
-- are, and as many of them as fit. If an error occurs, the call returns it with what it carries,
-- and the query keeps no nodes. The results of the last refresh are unchanged.
abbrev pub Asked : Sitting → PreparedQuery → PreparedQuery → List ℕ → List ℕ → ℕ → ℕ → Type 0
Asked s p q places filled count code =
    (q ≡ with_found p q.found)
    × (((code ≡ 0) × (n : ℕ) × IsPinnedTo s.knows n
    × (scan (volume_pinned s.knows) p.live.query ≡ Ok q.found)
    × (count ≡ length q.found) × (filled ≡ over q.found places))
    ⊎ ((e : Fault) × Refuses e count code × (q.found ≡ [])
    × IsUnrefreshed (pinned_number s.knows.phase) (scan (volume_pinned s.knows) p.live.query)
    e))

-- Running a prepared query. If its handle is closed, it stays closed, and nothing happens.
-- Otherwise it stays open, and the query runs.
abbrev pub AsksPrepared : Sitting → Sitting → Option PreparedQuery → Option PreparedQuery → List ℕ
    → List ℕ → ℕ → ℕ → Type 0
AsksPrepared s t None None places filled count code = IsClosed count code × (t ≡ s)
AsksPrepared s t None (Some q) places filled count code = ⊥
AsksPrepared s t (Some p) None places filled count code = ⊥
AsksPrepared s t (Some p) (Some q) places filled count code = HasRead s.knows t.knows
    × Asked s p q places filled count code

-- What a prepared query found when it last ran. The call returns how many nodes these are, and as
-- many of them as fit, starting at an index, unless the handle is closed.
abbrev pub ShowsFound : Option PreparedQuery → ℕ → List ℕ → List ℕ → ℕ → ℕ → Type 0
ShowsFound None from places filled count code = IsClosed count code
ShowsFound (Some p) from places filled count code = (code ≡ 0) × (count ≡ length p.found)
    × (filled ≡ over (drop from p.found) places)

-- A query was refreshed in the pinned version. It still has the nodes that it found when it was
-- last run. It keeps which nodes were added to its answer and which were removed, and the call
-- returns how many there are. If an error occurs, the call returns it, and the query is unchanged.
abbrev pub Refreshed : Sitting → PreparedQuery → PreparedQuery → UpdateCounts → ℕ → Type 0
Refreshed s p q counts code =
    ((code ≡ 0) × RefreshesAtPin s.knows p.live q.live q.came q.went × (q.found ≡ p.found)
    × (counts.created ≡ length q.came) × (counts.removed ≡ length q.went))
    ⊎ ((e : Fault) × (code ≡ fault_code e) × (q ≡ p)
    × IsUnrefreshed (pinned_number s.knows.phase) (scan (volume_pinned s.knows) p.live.query) e)

-- Refreshing a prepared query. If its handle is closed, it stays closed, and nothing happens.
-- Otherwise it stays open, and the query is refreshed.
abbrev pub RefreshesPrepared : Sitting → Sitting → Option PreparedQuery → Option PreparedQuery
    → UpdateCounts → ℕ → Type 0
RefreshesPrepared s t None None counts code = (code ≡ 64) × (t ≡ s)
RefreshesPrepared s t None (Some q) counts code = ⊥
RefreshesPrepared s t (Some p) None counts code = ⊥
RefreshesPrepared s t (Some p) (Some q) counts code = HasRead s.knows t.knows
    × Refreshed s p q counts code

-- The nodes that the last refresh added to the answer, and those that it removed, as many of each
-- as fit.
abbrev pub ShowsChanges : Option PreparedQuery → List ℕ → List ℕ → List ℕ → List ℕ → ℕ → Type 0
ShowsChanges None created_places created removed_places removed code = code ≡ 64
ShowsChanges (Some p) created_places created removed_places removed code =
    (code ≡ 0) × (created ≡ over p.came created_places) × (removed ≡ over p.went removed_places)

-- The canonical text of a prepared query. The call returns its length in bytes, and as many of the
-- bytes as fit, unless the handle is closed or memory runs out.
abbrev pub PrintsPrepared : Option PreparedQuery → List ℕ → List ℕ → ℕ → ℕ → Type 0
PrintsPrepared None places filled count code = IsClosed count code
PrintsPrepared (Some p) places filled count code =
    Refuses (Refused OutOfMemory) count code
    ⊎ ((code ≡ 0) × (count ≡ length (or_text p.live.query))
    × (filled ≡ over (or_text p.live.query) places))

-- A journal entry, if there is one. The call returns its pass and an encoding of its operations, in
-- which each operation that created a node has the number of that node. It returns how many
-- operations and bytes there are, and as many of them as fit. If there is no entry, the lists are
-- unchanged, and all three numbers are 0.
abbrev pub IsEntryPutOut : Option Entry → ℕ → Counts → List Operation → List Operation → List ℕ
    → List ℕ → Type 0
IsEntryPutOut None by counts places filled byte_places bytes = (by ≡ 0) × (counts.operations ≡ 0)
    × (counts.bytes ≡ 0) × (filled ≡ places) × (bytes ≡ byte_places)
IsEntryPutOut (Some entry) by counts places filled byte_places bytes =
    (by ≡ entry.by) × (os : List Operation) × (bs : List ℕ) × AreEncoded os bs entry.ops
    × ReportNodes os entry.ops entry.dones
    × (counts.operations ≡ length os) × (filled ≡ over os places) × (counts.bytes ≡ length bs)
    × (bytes ≡ over bs byte_places)

-- The journal entry with this index, as far as the pass has seen the journal after the call, and
-- the journal's length. The call's moves are a lock and an unlock. If an error occurs, the call
-- returns it with what it carries.
abbrev pub ReportsEntry : Sitting → Sitting → ℕ → ℕ → Counts → List Operation → List Operation
    → List ℕ → List ℕ → ℕ → ℕ → Type 0
ReportsEntry s t from by counts places filled byte_places bytes number code =
    Learns s.knows t.knows
    × (((code ≡ 0) × LocksAndUnlocks s.knows t.knows × (number ≡ length t.knows.seen)
    × IsEntryPutOut (slice_get (entries t.knows.seen) from) by counts places filled byte_places
    bytes)
    ⊎ ((why : Refusal) × Refuses (Refused why) number code × IsUnreported s.knows t.knows why))

-- The journal, as far as the pass has seen it after the call, is legal from the store's first
-- volume on. The call returns the length of its text, and as many of the bytes as fit. The call's
-- moves are a lock and an unlock. If an error occurs, the call returns it with what it carries.
abbrev pub ReportsJournal : Sitting → Sitting → List ℕ → List ℕ → ℕ → ℕ → Type 0
ReportsJournal s t places filled count code =
    Learns s.knows t.knows × IsLegalFrom t.store.limits.volume (entries t.knows.seen)
    × (((code ≡ 0) × LocksAndUnlocks s.knows t.knows × (count ≡ length (text_seen t.knows))
    × (filled ≡ over (text_seen t.knows) places))
    ⊎ ((why : Refusal) × Refuses (Refused why) count code × IsUnreported s.knows t.knows why))
