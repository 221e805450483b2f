use Rattle.std.proofs.Common.{inl, inr, refl}
use Rattle.be_script_runner.proofs.RunLemmas.{each_err, on_ok}
use Rattle.be_script_runner.specs.View.{session}
use Rattle.be_script_runner.specs.declared.faults.RunFault.{RunFault}
use Rattle.be_shell.specs.Conversation.{BrokeOff, ShellLeaves, TalkedTo}
use Rattle.be_shell.proofs.TalkLemmas.{passed_up}
use Rattle.be_shell.proofs.closings.converse_with_both.Goals as goal

pub returns-in_err-converse-clause-fault : goal.returns-in_err-converse-clause-fault
returns-in_err-converse-clause-fault g c =
    let s = session (g.S.Server.shows c.args.server.now) c.args.client.now in
    passed_up c.from_residual.result c.in_err-converse.field-0.0
    (λ (e : RunFault). ShellLeaves g.F.Peer.does g.P.Peer.does e s c.args.first.now c.converse.new.peer c.args.peer.now c.args.peer.now)
    c.from_residual.ensures.1
    (inr (inl (c.in_err-converse.ensures.broke, refl)))

pub returns-clause-talked : goal.returns-clause-talked
returns-clause-talked g c =
    let mid = session (g.S.Server.shows c.converse.new.server) c.converse.new.client in
    on_ok c.converse-2.result (λ talked. (mid, c.in_ok-converse.ensures.talked, talked)) c.converse-2.ensures.talked

pub returns-clause-fault : goal.returns-clause-fault
returns-clause-fault g c =
    let mid = session (g.S.Server.shows c.converse.new.server) c.converse.new.client in
    each_err c.converse-2.result (λ e broke. inr (inr (mid, c.in_ok-converse.ensures.talked, broke))) c.converse-2.ensures.broke
