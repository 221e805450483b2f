use Rattle.std.proofs.Common.{List, ℕ, inl, refl, sym, subst}
use Rattle.be_script_runner.specs.Output.{Replies, Serves}
use Rattle.be_script_language.specs.Reply.{none, bad_line}
use Rattle.be_script_language.specs.Request.{live, query, page, explain}
use Rattle.be_script_language.specs.View.{request_of, reply_of}
use Rattle.be_script_runner.specs.View.{session}
use Rattle.be_script_language.specs.declared.requests.Request.{Request}
use Rattle.be_script_runner.proofs.ReplyLemmas.{serves_at_once, serves_joined}
use Rattle.be_script_runner.proofs.answers.answer.Goals as goal

pub returns-in-Silent-clause-replies : goal.returns-in-Silent-clause-replies
returns-in-Silent-clause-replies g c =
    let s = session (g.S.Server.shows c.args.server.now) c.args.client.now in
    serves_at_once s s (request_of c.args.request) none (subst (λ (r : Request). Replies s (request_of r) none s) (sym c.in-Silent.is) refl)

pub returns-in-Malformed-clause-replies : goal.returns-in-Malformed-clause-replies
returns-in-Malformed-clause-replies g c =
    let s = session (g.S.Server.shows c.args.server.now) c.args.client.now in
    serves_at_once s s (request_of c.args.request) bad_line (subst (λ (r : Request). Replies s (request_of r) bad_line s) (sym c.in-Malformed.is) (inl refl))

pub returns-in-Write-clause-replies : goal.returns-in-Write-clause-replies
returns-in-Write-clause-replies g c =
    subst (λ (r : Request). Serves (session (g.S.Server.shows c.args.server.now) c.args.client.now) (request_of r) (reply_of c.write_line.result)
    (session (g.S.Server.shows c.write_line.new.server) c.write_line.new.client)) (sym c.in-Write.is) c.write_line.ensures.replies

pub returns-in-Query-clause-replies : goal.returns-in-Query-clause-replies
returns-in-Query-clause-replies g c =
    let new = g.S.Server.shows c.query.new.server in
    let s = session new c.args.client.now in
    serves_joined (session (g.S.Server.shows c.args.server.now) c.args.client.now) s new (request_of c.args.request) (reply_of c.query.result) c.query.ensures.joins
    (subst (λ (r : Request). Replies s (request_of r) (reply_of c.query.result) s) (sym c.in-Query.is)
    (subst (λ (text : List ℕ). Replies s (query text) (reply_of c.query.result) s) c.as_str.ensures.value (c.query.ensures.replies c.args.client.now)))

pub returns-in-Page-clause-replies : goal.returns-in-Page-clause-replies
returns-in-Page-clause-replies g c =
    let new = g.S.Server.shows c.page.new.server in
    let s = session new c.args.client.now in
    serves_joined (session (g.S.Server.shows c.args.server.now) c.args.client.now) s new (request_of c.args.request) (reply_of c.page.result) c.page.ensures.joins
    (subst (λ (r : Request). Replies s (request_of r) (reply_of c.page.result) s) (sym c.in-Page.is)
    (subst (λ (text : List ℕ). Replies s (page c.in-Page.paging text) (reply_of c.page.result) s) c.as_str-in-Page.ensures.value (c.page.ensures.replies c.args.client.now)))

pub returns-in-Explain-clause-replies : goal.returns-in-Explain-clause-replies
returns-in-Explain-clause-replies g c =
    let new = g.S.Server.shows c.explain_query.new.server in
    let s = session new c.args.client.now in
    serves_joined (session (g.S.Server.shows c.args.server.now) c.args.client.now) s new (request_of c.args.request) (reply_of c.explain_query.result) c.explain_query.ensures.joins
    (subst (λ (r : Request). Replies s (request_of r) (reply_of c.explain_query.result) s) (sym c.in-Explain.is)
    (subst (λ (text : List ℕ). Replies s (explain text) (reply_of c.explain_query.result) s) c.as_str-in-Explain.ensures.value (c.explain_query.ensures.replies c.args.client.now)))

pub returns-in-Get-clause-replies : goal.returns-in-Get-clause-replies
returns-in-Get-clause-replies g c =
    let new = g.S.Server.shows c.get.new.server in
    let s = session new c.args.client.now in
    serves_joined (session (g.S.Server.shows c.args.server.now) c.args.client.now) s new (request_of c.args.request) (reply_of c.get.result) c.get.ensures.joins
    (subst (λ (r : Request). Replies s (request_of r) (reply_of c.get.result) s) (sym c.in-Get.is) (c.get.ensures.replies c.args.client.now))

pub returns-in-Attrs-clause-replies : goal.returns-in-Attrs-clause-replies
returns-in-Attrs-clause-replies g c =
    let new = g.S.Server.shows c.attrs.new.server in
    let s = session new c.args.client.now in
    serves_joined (session (g.S.Server.shows c.args.server.now) c.args.client.now) s new (request_of c.args.request) (reply_of c.attrs.result) c.attrs.ensures.joins
    (subst (λ (r : Request). Replies s (request_of r) (reply_of c.attrs.result) s) (sym c.in-Attrs.is) (c.attrs.ensures.replies c.args.client.now))

pub returns-in-Indices-clause-replies : goal.returns-in-Indices-clause-replies
returns-in-Indices-clause-replies g c =
    let new = g.S.Server.shows c.indices.new.server in
    let s = session new c.args.client.now in
    serves_joined (session (g.S.Server.shows c.args.server.now) c.args.client.now) s new (request_of c.args.request) (reply_of c.indices.result) c.indices.ensures.joins
    (subst (λ (r : Request). Replies s (request_of r) (reply_of c.indices.result) s) (sym c.in-Indices.is) (c.indices.ensures.replies c.args.client.now))

pub returns-in-Pin-clause-replies : goal.returns-in-Pin-clause-replies
returns-in-Pin-clause-replies g c =
    subst (λ (r : Request). Serves (session (g.S.Server.shows c.args.server.now) c.args.client.now) (request_of r) (reply_of c.pin.result) (session (g.S.Server.shows c.pin.new.server) c.args.client.now))
    (sym c.in-Pin.is) (c.pin.ensures.replies c.args.client.now)

pub returns-in-Unpin-clause-replies : goal.returns-in-Unpin-clause-replies
returns-in-Unpin-clause-replies g c =
    let s = session (g.S.Server.shows c.args.server.now) c.args.client.now in
    let after = session (g.S.Server.shows c.unpin.new.server) c.args.client.now in
    serves_at_once s after (request_of c.args.request) (reply_of c.unpin.result)
    (subst (λ (r : Request). Replies s (request_of r) (reply_of c.unpin.result) after) (sym c.in-Unpin.is) (c.unpin.ensures.replies c.args.client.now))

pub returns-in-Live-clause-replies : goal.returns-in-Live-clause-replies
returns-in-Live-clause-replies g c =
    let store = g.S.Server.shows c.args.server.now in
    serves_at_once (session store c.args.client.now) (session store c.watch.new.client) (request_of c.args.request) (reply_of c.watch.result)
    (subst (λ (r : Request). Replies (session store c.args.client.now) (request_of r) (reply_of c.watch.result) (session store c.watch.new.client)) (sym c.in-Live.is)
    (subst (λ (text : List ℕ). Replies (session store c.args.client.now) (live text) (reply_of c.watch.result) (session store c.watch.new.client)) c.as_str-in-Live.ensures.value
    (c.watch.ensures.replies store)))

pub returns-in-Refresh-clause-replies : goal.returns-in-Refresh-clause-replies
returns-in-Refresh-clause-replies g c =
    let new = g.S.Server.shows c.refresh.new.server in
    let s = session new c.args.client.now in
    let after = session new c.refresh.new.client in
    serves_joined (session (g.S.Server.shows c.args.server.now) c.args.client.now) after new (request_of c.args.request) (reply_of c.refresh.result) c.refresh.ensures.joins
    (subst (λ (r : Request). Replies s (request_of r) (reply_of c.refresh.result) after) (sym c.in-Refresh.is) c.refresh.ensures.replies)

pub returns-in-Begin-clause-replies : goal.returns-in-Begin-clause-replies
returns-in-Begin-clause-replies g c =
    let store = g.S.Server.shows c.args.server.now in
    let s = session store c.args.client.now in
    let after = session store c.begin.new.client in
    serves_at_once s after (request_of c.args.request) (reply_of c.begin.result)
    (subst (λ (r : Request). Replies s (request_of r) (reply_of c.begin.result) after) (sym c.in-Begin.is) (c.begin.ensures.replies store))

pub returns-in-Abort-clause-replies : goal.returns-in-Abort-clause-replies
returns-in-Abort-clause-replies g c =
    let store = g.S.Server.shows c.args.server.now in
    let s = session store c.args.client.now in
    let after = session store c.abort.new.client in
    serves_at_once s after (request_of c.args.request) (reply_of c.abort.result)
    (subst (λ (r : Request). Replies s (request_of r) (reply_of c.abort.result) after) (sym c.in-Abort.is) (c.abort.ensures.replies store))
