-- The code's requests and replies as requests and replies of the definitions.
use Rattle.std.specs.String.{string_bytes}
use Rattle.be_script_language.specs.Request.{Request, silent, malformed, write, query, page}
use Rattle.be_script_language.specs.Request.{explain, get, attrs, indices, pin, unpin, live}
use Rattle.be_script_language.specs.Request.{refresh, begin, commit, abort}
use Rattle.be_script_language.specs.declared.requests.Request.{Request as Asked}
use Rattle.be_script_language.specs.declared.requests.Request.TheVariants as asked
use Rattle.be_script_language.specs.Page.{page_found}
use Rattle.be_script_language.specs.Reply.{Reply, none, bad_line, ok, node, nodes, paged, value}
use Rattle.be_script_language.specs.Reply.{attributes, kinds, cover, pinned_at, already_pinned}
use Rattle.be_script_language.specs.Reply.{not_pinned, updates, no_live_query, queued, full_batch}
use Rattle.be_script_language.specs.Reply.{empty_batch, already_begun, not_begun, committed}
use Rattle.be_script_language.specs.Reply.{refused}
use Rattle.be_script_language.specs.declared.replies.Reply.{Reply as Answer}
use Rattle.be_script_language.specs.declared.replies.Reply.TheVariants as answers

abbrev pub request_of : Asked → Request
request_of asked.Silent = silent
request_of asked.Malformed = malformed
request_of (asked.Write op) = write op
request_of (asked.Query text) = query (string_bytes text)
request_of (asked.Page paging text) = page paging (string_bytes text)
request_of (asked.Explain text) = explain (string_bytes text)
request_of (asked.Get number name) = get number name
request_of (asked.Attrs number) = attrs number
request_of asked.Indices = indices
request_of asked.Pin = pin
request_of asked.Unpin = unpin
request_of (asked.Live text) = live (string_bytes text)
request_of asked.Refresh = refresh
request_of asked.Begin = begin
request_of asked.Commit = commit
request_of asked.Abort = abort

-- the code's reply as a reply of the definitions
abbrev pub reply_of : Answer → Reply
reply_of answers.Silent = none
reply_of answers.BadLine = bad_line
reply_of answers.Done = ok
reply_of (answers.Node n) = node n
reply_of (answers.Nodes found) = nodes found.items
reply_of (answers.Page p) = paged (page_found p)
reply_of (answers.Value v) = value v
reply_of (answers.Attributes list) = attributes list.items
reply_of (answers.Kinds list) = kinds list.items
reply_of (answers.Cover text) = cover (string_bytes text)
reply_of (answers.Pinned n) = pinned_at n
reply_of answers.AlreadyPinned = already_pinned
reply_of answers.NotPinned = not_pinned
reply_of (answers.Updates created removed) = updates created.items removed.items
reply_of answers.NoLiveQuery = no_live_query
reply_of answers.Queued = queued
reply_of answers.FullBatch = full_batch
reply_of answers.EmptyBatch = empty_batch
reply_of answers.AlreadyBegun = already_begun
reply_of answers.NotBegun = not_begun
reply_of (answers.Committed n dones) = committed n dones.items
reply_of (answers.Refused r) = refused r
