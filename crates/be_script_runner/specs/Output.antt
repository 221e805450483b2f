-- The replies that a script may get.
use Rattle.std.specs.Prelude.{◌≡◌, ◌⊎◌, ℕ, ◌<◌, List, [], ◌∷◌, ◌++◌, Some, None, IsOk, IsSome}
use Rattle.std.specs.Prelude.{length, nat_lt, if◌then◌else◌}
use Rattle.std.specs.declared.option.Option.{Option}
use Rattle.std.specs.declared.result.Result.{Result}
use Rattle.std.specs.declared.result.Result.TheVariants.{Ok, Err}
use Rattle.be_value.specs.declared.refusals.Refusal.{Refusal}
use Rattle.be_value.specs.declared.refusals.Refusal.TheVariants.{Busy, OutOfMemory, Full}
use Rattle.be_query.specs.Faults.{fault}
use Rattle.be_query.specs.Grammar.{Formula, ParsesTo}
use Rattle.be_query.specs.Lexing.{tokens}
use Rattle.be_plan.specs.Cover.{chosen}
use Rattle.be_plan.specs.Explain.{explanation}
use Rattle.be_store.specs.Live.{LiveQuery, without}
use Rattle.be_volume.specs.Query.{scan, has_index}
use Rattle.be_volume.specs.Reading.{attribute, attributes_at, index_kinds}
use Rattle.be_volume.specs.Volume.{State}
use Rattle.be_volume.specs.declared.ops.Done.{Done}
use Rattle.be_volume.specs.declared.ops.Done.TheVariants.{Node, Unit as Nothing}
use Rattle.be_volume.specs.declared.ops.Op.{Op}
use Rattle.be_script_language.specs.Reply.{Reply, none, bad_line, ok, node, nodes, paged, value}
use Rattle.be_script_language.specs.Reply.{attributes, kinds, cover, pinned_at, already_pinned}
use Rattle.be_script_language.specs.Reply.{not_pinned, updates, no_live_query, queued, full_batch}
use Rattle.be_script_language.specs.Reply.{empty_batch, already_begun, not_begun, committed}
use Rattle.be_script_language.specs.Reply.{refused, text_of}
use Rattle.be_script_language.specs.Request.{Request, silent, malformed, write, query, page}
use Rattle.be_script_language.specs.Request.{explain, get, attrs, indices, pin, unpin, live}
use Rattle.be_script_language.specs.Request.{refresh, begin, commit, abort, asked, lines_of}
use Rattle.be_script_language.specs.declared.pages.Paging.{Paging}
use Rattle.be_script_runner.specs.Pages.{page_read}
use Rattle.be_script_runner.specs.Store.{PinnedVolume, Store, Meanwhile, IsLowestOf, IsOther}
use Rattle.be_script_runner.specs.Store.{viewed}
use Rattle.be_script_runner.specs.Store.{pinned, unpinned, written}

-- a running script: its store, the operations of its batch if one is open, and its live query if
-- there is one
pub record Session : Type 0 where
  pub store : Store
  pub batch : Option (List Op)
  pub live : Option LiveQuery

-- a session before its first line
abbrev pub opening : Store → Session
opening store = record { store = store; batch = None; live = None }

-- the session with another store, another batch, or another live query
abbrev pub with_store : Session → Store → Session
with_store s store = record { store = store; batch = s.batch; live = s.live }

abbrev pub with_batch : Session → Option (List Op) → Session
with_batch s batch = record { store = s.store; batch = batch; live = s.live }

abbrev pub with_live : Session → LiveQuery → Session
with_live s l = record { store = s.store; batch = s.batch; live = Some l }

-- the reply to a write that has one operation
abbrev pub done_reply : List Done → Reply
done_reply [] = ok
done_reply (Node n ∷ dones) = node n
done_reply (Nothing ∷ dones) = ok

abbrev pub write_reply : Session → Result (Store × List Done) Refusal → Reply × Session
write_reply s (Ok answer) = (done_reply answer.1, with_store s answer.0)
write_reply s (Err e) = (refused e, s)

-- An operation is written, or queued if a batch is open. A batch has room for 64 operations.
abbrev pub taken : Session → Option (List Op) → Op → Reply × Session
taken s None op = write_reply s (written s.store (op ∷ []))
taken s (Some ops) op =
    if nat_lt (length ops) 64 then (queued, with_batch s (Some (ops ++ op ∷ [])))
    else (full_batch, s)

abbrev pub commit_reply : Session → Result (Store × List Done) Refusal → Reply × Session
commit_reply s (Ok answer) = (
  committed (length answer.0.journal) answer.1,
  with_batch (with_store s answer.0) None,
)
commit_reply s (Err e) = (refused e, with_batch s None)

-- The batch is written as one transaction. This ends the batch even if the write is refused.
abbrev pub committing : Session → Option (List Op) → Reply × Session
committing s None = (not_begun, s)
committing s (Some []) = (empty_batch, s)
committing s (Some (op ∷ ops)) = commit_reply s (written s.store (op ∷ ops))

abbrev pub beginning : Session → Option (List Op) → Reply × Session
beginning s None = (ok, with_batch s (Some []))
beginning s (Some ops) = (already_begun, s)

abbrev pub aborting : Session → Option (List Op) → Reply × Session
aborting s None = (not_begun, s)
aborting s (Some ops) = (ok, with_batch s None)

-- The reply to a pin is the number of writes so far.
abbrev pub pinning : Session → Option PinnedVolume → Reply × Session
pinning s None = (pinned_at (length s.store.journal), with_store s (pinned s.store))
pinning s (Some p) = (already_pinned, s)

abbrev pub unpinning : Session → Option PinnedVolume → Reply × Session
unpinning s None = (not_pinned, s)
unpinning s (Some p) = (ok, with_store s (unpinned s.store))

-- A live query is accepted whether or not indices cover it. Its last answer is empty at first.
abbrev pub watching : Session → Result Formula Refusal → Reply × Session
watching s (Ok f) = (ok, with_live s (record { query = f; last = []; table = None }))
watching s (Err e) = (refused e, s)

-- the nodes that have joined the answer and those that have left it since the last answer, which
-- this answer replaces
abbrev pub updating : Session → LiveQuery → Result (List ℕ) Refusal → Reply × Session
updating s l (Ok now) = (
  updates (without now l.last) (without l.last now),
  with_live s (record { query = l.query; last = now; table = None }),
)
updating s l (Err e) = (refused e, s)

abbrev pub refreshing : Session → Option LiveQuery → Reply × Session
refreshing s None = (no_live_query, s)
refreshing s (Some l) = updating s l (scan (viewed s.store) l.query)

-- an answer or an error as a reply
abbrev pub replied : {X : Type 0} → (X → Reply) → Result X Refusal → Reply
replied reply (Ok x) = reply x
replied reply (Err e) = refused e

-- the reply to a query, or to text that isn't a valid query
abbrev pub queried : State → Result Formula Refusal → Reply
queried volume (Ok f) = replied nodes (scan volume f)
queried volume (Err e) = refused e

-- the reply to a query that asks for a page, or to text that isn't a valid query
abbrev pub turned : State → Paging → Result Formula Refusal → Reply
turned volume paging (Ok f) = replied paged (page_read volume paging f)
turned volume paging (Err e) = refused e

-- the reply to a request for a query's plan: what is looked up in the volume's indices, and the
-- cost
abbrev pub explained : State → Result Formula Refusal → Reply
explained volume (Ok f) = replied (λ c. cover (explanation f c)) (chosen (has_index volume) f)
explained volume (Err e) = refused e

abbrev pub got : State → ℕ → Result (List ℕ) Refusal → Reply
got volume n (Ok name) = value (attribute volume n name)
got volume n (Err e) = refused e

-- the text read as a query: the query, or the text's error
abbrev pub IsQuery : List ℕ → Result Formula Refusal → Type 0
IsQuery text (Ok f) = (fault text ≡ None) × ParsesTo (tokens text) f
IsQuery text (Err e) = fault text ≡ Some e

-- the session after a line that ran out of memory or whose write was held up: it is unchanged,
-- except that a commit ends its batch
abbrev pub unwritten : Session → Request → Session
unwritten s silent = s
unwritten s malformed = s
unwritten s (write op) = s
unwritten s (query text) = s
unwritten s (page paging text) = s
unwritten s (explain text) = s
unwritten s (get n name) = s
unwritten s (attrs n) = s
unwritten s indices = s
unwritten s pin = s
unwritten s unpin = s
unwritten s (live text) = s
unwritten s refresh = s
unwritten s begin = s
unwritten s commit = with_batch s None
unwritten s abort = s

-- No page was left for these operations, which the volume accepts, and the reply has the oldest
-- version in use; or another pass was writing.
abbrev pub IsHeldUp : Store → List Op → Reply → Type 0
IsHeldUp store ops reply = ((least : ℕ) × (reply ≡ refused (Full least)) × IsLowestOf store least
    × IsOk (written store ops)) ⊎ ((pass : ℕ) × (reply ≡ refused (Busy pass)) × IsOther store pass)

-- `IsHeldUp` for the operations that a line writes to the store; no other line is held up
abbrev pub IsHeldUpAt : Session → Option (List Op) → Request → Reply → Type 0
IsHeldUpAt s None (write (Ok op)) reply = IsHeldUp s.store (op ∷ []) reply
IsHeldUpAt s (Some (op ∷ ops)) commit reply = IsHeldUp s.store (op ∷ ops) reply
IsHeldUpAt s batch request reply = ⊥

-- An operation takes memory if it is written and the store accepts it, or if it is queued in a
-- batch that has room for it.
abbrev pub OpTakesMemory : Session → Option (List Op) → Op → Type 0
OpTakesMemory s None op = IsOk (written s.store (op ∷ []))
OpTakesMemory s (Some ops) op = length ops < 64

-- A commit takes memory if the store accepts its batch.
abbrev pub CommitTakesMemory : Session → Option (List Op) → Type 0
CommitTakesMemory s None = ⊥
CommitTakesMemory s (Some []) = ⊥
CommitTakesMemory s (Some (op ∷ ops)) = IsOk (written s.store (op ∷ ops))

-- a line takes memory if its operation or commit does, or if it parses a query or lists what it
-- finds
abbrev pub TakesMemory : Session → Request → Type 0
TakesMemory s silent = ⊥
TakesMemory s malformed = ⊥
TakesMemory s (write (Ok op)) = OpTakesMemory s s.batch op
TakesMemory s (write (Err e)) = ⊥
TakesMemory s (query text) = Unit {0}
TakesMemory s (page (Ok paging) text) = Unit {0}
TakesMemory s (page (Err e) text) = ⊥
TakesMemory s (explain text) = Unit {0}
TakesMemory s (get n name) = ⊥
TakesMemory s (attrs n) = Unit {0}
TakesMemory s indices = Unit {0}
TakesMemory s pin = ⊥
TakesMemory s unpin = ⊥
TakesMemory s (live text) = Unit {0}
TakesMemory s refresh = IsSome s.live
TakesMemory s begin = ⊥
TakesMemory s commit = CommitTakesMemory s s.batch
TakesMemory s abort = ⊥

-- A line that takes memory ran out of it, or a write was held up; nothing was written.
abbrev pub IsWanting : Session → Request → Reply → Session → Type 0
IsWanting s request reply after = (after ≡ unwritten s request)
    × (((reply ≡ refused OutOfMemory) × TakesMemory s request) ⊎ IsHeldUpAt s s.batch request reply)

-- the answer consists of exactly this reply and of the session afterwards
abbrev pub Gives : Reply × Session → Reply → Session → Type 0
Gives answer reply after = answer ≡ (reply, after)

-- the intended reply and session, or the error of a line that ran out of memory or whose write was
-- held up
abbrev pub MayReply : Session → Request → Reply × Session → Reply → Session → Type 0
MayReply s request answer reply after = Gives answer reply after ⊎ IsWanting s request reply after

-- the reply to a text's query or error, or the error of a line that ran out of memory
abbrev pub MayReplyTo : Session → Request → List ℕ → (Result Formula Refusal → Reply × Session)
    → Reply → Session → Type 0
MayReplyTo s request text answer reply after =
    ((parsed : Result Formula Refusal) × IsQuery text parsed × Gives (answer parsed) reply after)
    ⊎ IsWanting s request reply after

-- The replies that a request may get, and the session after each. Reads see the pinned version, or
-- the version after all writes if none is pinned.
abbrev pub Replies : Session → Request → Reply → Session → Type 0
Replies s silent reply after = Gives (none, s) reply after
Replies s malformed reply after = MayReply s malformed (bad_line, s) reply after
Replies s (write (Ok op)) reply after = MayReply s (write (Ok op)) (taken s s.batch op) reply after
Replies s (write (Err e)) reply after = MayReply s (write (Err e)) (refused e, s) reply after
Replies s (query text) reply after = MayReplyTo s (query text) text
    (λ parsed. (queried (viewed s.store) parsed, s)) reply after
Replies s (page (Ok paging) text) reply after = MayReplyTo s (page (Ok paging) text) text
    (λ parsed. (turned (viewed s.store) paging parsed, s)) reply after
Replies s (page (Err e) text) reply after = MayReply s (page (Err e) text) (refused e, s) reply
    after
Replies s (explain text) reply after = MayReplyTo s (explain text) text
    (λ parsed. (explained (viewed s.store) parsed, s)) reply after
Replies s (get n name) reply after = MayReply s (get n name) (got (viewed s.store) n name, s) reply
    after
Replies s (attrs n) reply after = MayReply s (attrs n)
    (replied attributes (attributes_at (viewed s.store) n), s) reply after
Replies s indices reply after = MayReply s indices (kinds (index_kinds (viewed s.store)), s) reply
    after
Replies s pin reply after = Gives (pinning s s.store.pin) reply after
Replies s unpin reply after = MayReply s unpin (unpinning s s.store.pin) reply after
Replies s (live text) reply after = MayReplyTo s (live text) text (watching s) reply after
Replies s refresh reply after = MayReply s refresh (refreshing s s.live) reply after
Replies s begin reply after = MayReply s begin (beginning s s.batch) reply after
Replies s commit reply after = MayReply s commit (committing s s.batch) reply after
Replies s abort reply after = MayReply s abort (aborting s s.batch) reply after

-- The replies that a request may get if the store has other passes, and the session after each: the
-- reply is about the store as those passes left it. A store with one pass has no others, so there
-- the reply is about the store as it was.
abbrev pub Serves : Session → Request → Reply → Session → Type 0
Serves s request reply after = Meanwhile s.store
    (λ now. Replies (with_store s now) request reply after)

-- a possible reply to a line, as text, and the session after it
abbrev pub Answered : Session → List ℕ → Session → List ℕ → Type 0
Answered s line after out = (reply : Reply) × Serves s (asked line) reply after
    × (out ≡ text_of reply)

-- possible replies to several lines, as text, one after another, and the session after them
abbrev pub Outputs : Session → List (List ℕ) → Session → List ℕ → Type 0
Outputs s [] last out = (last ≡ s) × (out ≡ [])
Outputs s (line ∷ lines) last out =
    (after : Session) × (reply : List ℕ) × (rest : List ℕ) × Answered s line after reply
    × Outputs after lines last rest × (out ≡ reply ++ rest)

-- the text is an output of the script, run from the first store and leaving the second
abbrev pub IsOutputTo : Store → List ℕ → Store → List ℕ → Type 0
IsOutputTo store script new out = (last : Session)
    × Outputs (opening store) (lines_of script) last out × (last.store ≡ new)

-- the text is an output of the script, run from this store
abbrev pub IsOutputFrom : Store → List ℕ → List ℕ → Type 0
IsOutputFrom store script out = (new : Store) × IsOutputTo store script new out

-- the text is a prefix of an output of the script, run from this store
abbrev pub IsFrontOfOutput : Store → List ℕ → List ℕ → Type 0
IsFrontOfOutput store script front = (rest : List ℕ) × IsOutputFrom store script (front ++ rest)
