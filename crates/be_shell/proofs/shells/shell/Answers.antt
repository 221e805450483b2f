use Rattle.std.proofs.Common.{ap, ◌∙◌, subst, inl, inr, refl}
use Rattle.be_table.specs.Setting.{begins_empty}
use Rattle.be_script_runner.specs.Output.{Session, opening}
use Rattle.be_script_runner.specs.Served.{known}
use Rattle.be_script_runner.specs.Store.{start}
use Rattle.be_script_runner.specs.View.{session}
use Rattle.be_script_runner.proofs.LimitLemmas.{served_encoded}
use Rattle.be_script_runner.specs.declared.faults.RunFault.{RunFault}
use Rattle.be_shell.specs.Conversation.{BrokeOff, ShellLeaves, TalkedTo}
use Rattle.be_shell.proofs.TalkLemmas.{passed_up}
use Rattle.be_shell.proofs.shells.shell.Goals as goal

pub returns-then-not-are_within-clause-fault : goal.returns-then-not-are_within-clause-fault
returns-then-not-are_within-clause-fault g c = inl (tt, refl, refl)

pub returns-in_default-clause-fault : goal.returns-in_default-clause-fault
returns-in_default-clause-fault g c = inl (tt, refl, refl)

pub returns-clause-talked : goal.returns-clause-talked
returns-clause-talked g c =
    let opened = c.new-client.ensures.opening (known c.new-server.result.knows) ∙ ap opening (ap known c.new-server.ensures.1 ∙ c.in-Ok.ensures.opened.1) in
    let mid = session (known c.converse.new.server.knows) c.converse.new.client in
    let last = session (known c.converse-2.new.server.knows) c.converse-2.new.client in (
      mid,
      last,
      subst (λ (s : Session). TalkedTo g.F.Peer.does s c.args.first.now mid c.converse.new.peer) opened c.in_ok-converse.ensures.talked,
      c.in_ok-converse-2.ensures.talked,
      served_encoded (begins_empty (record c.args.limits { passes = 1 })) c.in-Ok.store c.converse-2.new.server.store c.into_pass-pass.result c.converse-2.new.server.knows
          (ap (λ s. s.0) c.converse-2.ensures.stays ∙ (ap (λ s. s.0) c.converse.ensures.stays ∙ c.new-server.ensures.0)) c.into_pass-pass.ensures.0
          c.in-Ok.ensures.begins c.into_pass-pass.ensures.1 c.is_pass.ensures,
    )

pub returns-in_err-converse-clause-fault : goal.returns-in_err-converse-clause-fault
returns-in_err-converse-clause-fault g c =
    let opened = c.new-client.ensures.opening (known c.new-server.result.knows) ∙ ap opening (ap known c.new-server.ensures.1 ∙ c.in-Ok.ensures.opened.1) in
    passed_up c.from_residual.result c.in_err-converse.field-0.0
    (λ (e : RunFault). ShellLeaves g.F.Peer.does g.P.Peer.does e (opening (start c.args.limits.commits)) c.args.first.now c.converse.new.peer c.args.peer.now c.args.peer.now)
    c.from_residual.ensures.1
    (inr (inl (subst (λ (s : Session). BrokeOff g.F.Peer.does c.in_err-converse.field-0.0 s c.args.first.now c.converse.new.peer) opened c.in_err-converse.ensures.broke, refl)))

pub returns-in_err-converse-2-clause-fault : goal.returns-in_err-converse-2-clause-fault
returns-in_err-converse-2-clause-fault g c =
    let opened = c.new-client.ensures.opening (known c.new-server.result.knows) ∙ ap opening (ap known c.new-server.ensures.1 ∙ c.in-Ok.ensures.opened.1) in
    let mid = session (known c.converse.new.server.knows) c.converse.new.client in
    passed_up c.from_residual-in_err-converse-2.result c.in_err-converse-2.field-0.0
    (λ (e : RunFault). ShellLeaves g.F.Peer.does g.P.Peer.does e (opening (start c.args.limits.commits)) c.args.first.now c.converse.new.peer c.args.peer.now c.converse-2.new.peer)
    c.from_residual-in_err-converse-2.ensures.1
    (inr (inr (mid, subst (λ (s : Session). TalkedTo g.F.Peer.does s c.args.first.now mid c.converse.new.peer) opened c.in_ok-converse.ensures.talked, c.in_err-converse-2.ensures.broke)))
