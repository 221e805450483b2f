use Rattle.std.proofs.Common.{◌≡◌, ◌≤◌, Ok, Err, Some, None, refl, sym, subst, inl, List, arith, length}
use Rattle.std.proofs.lemmas.Bool.Decides.{nat_tests}
use Rattle.be_volume.specs.declared.ops.Done.{Done}
use Rattle.be_script_runner.specs.Output.{Serves}
use Rattle.be_script_language.specs.Reply.{committed, empty_batch, not_begun, refused}
use Rattle.be_script_language.specs.Request.{commit}
use Rattle.be_script_runner.specs.Store.{Meanwhile, MayWrite}
use Rattle.be_script_runner.specs.View.{session}
use Rattle.be_script_runner.proofs.ReplyLemmas.{commit_accepted, commit_empty, commit_refused, of_both, serves_at_once}
use Rattle.be_script_runner.proofs.answers.commit.Goals as goal

pub returns-in_default-clause-replies : goal.returns-in_default-clause-replies
returns-in_default-clause-replies g c =
    let store = g.S.Server.shows c.args.server.now in
    let client = c.args.client.now in
    of_both (λ x y. Serves (session store (record client { batch = x })) commit not_begun (session store (record client { batch = y })))
    client.batch c.take.new.self None None (sym c.in_default.ensures.value) c.take.ensures.after
    (serves_at_once (session store (record client { batch = None })) (session store (record client { batch = None })) commit not_begun (inl refl))

pub returns-then-is_empty-clause-replies : goal.returns-then-is_empty-clause-replies
returns-then-is_empty-clause-replies g c =
    let store = g.S.Server.shows c.args.server.now in
    let client = c.args.client.now in
    let ops = c.in-Some.ops in
    let none : length ops.items ≡ 0 = grind (arith, nat_tests, c.if-is_empty.ensures, ops.ok.0) in
    let s = session store (record client { batch = Some ops }) in
    of_both (λ x y. Serves (session store (record client { batch = x })) commit empty_batch (session store (record client { batch = y })))
    client.batch (Some ops) (Some ops) (Some ops) (sym c.in-Some.ensures.value) refl
    (serves_at_once s s commit empty_batch (commit_empty store ops.items client.live none))

pub returns-in-Ok-clause-replies : goal.returns-in-Ok-clause-replies
returns-in-Ok-clause-replies g c =
    let old = g.S.Server.shows c.args.server.now in
    let new = g.S.Server.shows c.apply.new.self in
    let client = c.args.client.now in
    let ops = c.in-Some.ops in
    let some : 1 ≤ length ops.items = grind (arith, nat_tests, c.if-is_empty.ensures, ops.ok.0) in
    of_both (λ x y. Serves (session old (record client { batch = x })) commit (committed c.in-Ok.number c.in-Ok.dones.items) (session new (record client { batch = y })))
    client.batch c.take.new.self (Some ops) None (sym c.in-Some.ensures.value) c.take.ensures.after
    (commit_accepted (λ dones. dones.items) old new client.live ops.items c.in-Ok.number c.in-Ok.dones some
    (subst (λ l. Meanwhile old (λ s. MayWrite (λ dones. dones.items) s l (Ok (c.in-Ok.number, c.in-Ok.dones)) new)) c.as_slice.ensures.value c.in-Ok.ensures.writes))

pub returns-clause-replies : goal.returns-clause-replies
returns-clause-replies g c =
    let old = g.S.Server.shows c.args.server.now in
    let new = g.S.Server.shows c.apply.new.self in
    let client = c.args.client.now in
    let ops = c.in-Some.ops in
    let some : 1 ≤ length ops.items = grind (arith, nat_tests, c.if-is_empty.ensures, ops.ok.0) in
    of_both (λ x y. Serves (session old (record client { batch = x })) commit (refused c.in-Err.refusal) (session new (record client { batch = y })))
    client.batch c.take.new.self (Some ops) None (sym c.in-Some.ensures.value) c.take.ensures.after
    (commit_refused (λ (dones : List Done). dones) old new client.live ops.items c.in-Err.refusal some
    (subst (λ l. Meanwhile old (λ s. MayWrite (λ (dones : List Done). dones) s l (Err c.in-Err.refusal) new)) c.as_slice.ensures.value c.in-Err.ensures.writes))
