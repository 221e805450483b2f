use Rattle.std.proofs.Common.{ap, ◌∙◌, subst, inl, inr, refl, rules, sym}
use Rattle.std.specs.Prelude.{Err, IfErr}
use Rattle.be_journal.specs.Journal.{IsLegalFrom}
use Rattle.be_table.specs.Place.{Opened}
use Rattle.be_table.specs.Rule.{entries}
use Rattle.be_table.specs.Setting.{Setting}
use Rattle.be_table.specs.Versions.{CanEncodeEach}
use Rattle.be_table.specs.declared.pass.Knowledge.{Knowledge}
use Rattle.be_store.specs.Passes.{IsPassOf}
use Rattle.be_script_runner.specs.Output.{Session, opening}
use Rattle.be_script_runner.specs.Run.{IsNotLimits}
use Rattle.be_script_runner.specs.Served.{known}
use Rattle.be_script_runner.specs.Store.{Store, start}
use Rattle.be_script_runner.specs.View.{session}
use Rattle.be_script_runner.specs.declared.faults.RunFault.TheVariants.{Limits, Memory}
use Rattle.be_script_runner.proofs.LimitLemmas.{no_fault, not_by}
use Rattle.be_script_runner.proofs.RunLemmas.{each_err, on_ok}
use Rattle.be_shell.specs.Conversation.{ShellLeaves, TalkedTo}
use Rattle.be_shell.proofs.closings.shell_and_close.Goals as goal

pub returns-then-not-are_within-clause-fault : goal.returns-then-not-are_within-clause-fault
returns-then-not-are_within-clause-fault g c = inl (tt, refl, refl)

pub returns-in_default-clause-fault : goal.returns-in_default-clause-fault
returns-in_default-clause-fault g c = inl (tt, refl, refl)

pub close_alone-requires-clause-pass : goal.close_alone-requires-clause-pass
close_alone-requires-clause-pass g c =
    subst (λ (store : Opened). IsPassOf store c.into_pass-pass.result) (ap (λ s. s.0) c.converse_with_both-talked.ensures.stays ∙ c.new-server.ensures.0) c.into_pass-pass.ensures.0

pub close_alone-requires-clause-one : goal.close_alone-requires-clause-one
close_alone-requires-clause-one g c =
    ap (λ l. l.passes) (sym c.in-Ok.ensures.opened.0.0.2) ∙ ap (λ (s : Store). s.passes) c.in-Ok.ensures.opened.1

pub returns-in-Ok-close_alone-clause-talked : goal.returns-in-Ok-close_alone-clause-talked
returns-in-Ok-close_alone-clause-talked g c =
    let t = c.converse_with_both-talked in
    let opened = c.new-client.ensures.opening (known c.new-server.result.knows) ∙ ap opening (ap known c.new-server.ensures.1 ∙ c.in-Ok.ensures.opened.1) in
    let written = c.in-Ok-close_alone.ensures.all ∙ ap (λ (k : Knowledge). entries k.seen) c.into_pass-pass.ensures.1 in
    on_ok t.result (λ h. (h.0, session (known t.new.server.knows) t.new.client, subst (λ (s : Session). TalkedTo g.F.Peer.does s c.args.first.now h.0 t.new.first) opened h.1, h.2, written)) t.ensures.talked

pub returns-in-Ok-close_alone-clause-fault : goal.returns-in-Ok-close_alone-clause-fault
returns-in-Ok-close_alone-clause-fault g c =
    let t = c.converse_with_both-talked in
    let opened = c.new-client.ensures.opening (known c.new-server.result.knows) ∙ ap opening (ap known c.new-server.ensures.1 ∙ c.in-Ok.ensures.opened.1) in
    each_err t.result (λ e leaves. subst (λ (s : Session). ShellLeaves g.F.Peer.does g.P.Peer.does e s c.args.first.now t.new.first c.args.peer.now t.new.peer) opened leaves) t.ensures.fault

pub returns-clause-talked : goal.returns-clause-talked
returns-clause-talked g c =
    let t = c.converse_with_both-talked in
    let opened = c.new-client.ensures.opening (known c.new-server.result.knows) ∙ ap opening (ap known c.new-server.ensures.1 ∙ c.in-Ok.ensures.opened.1) in
    on_ok t.result (λ h. (h.0, session (known t.new.server.knows) t.new.client, subst (λ (s : Session). TalkedTo g.F.Peer.does s c.args.first.now h.0 t.new.first) opened h.1, h.2, tt)) t.ensures.talked

pub returns-clause-fault : goal.returns-clause-fault
returns-clause-fault g c =
    let t = c.converse_with_both-talked in
    let opened = c.new-client.ensures.opening (known c.new-server.result.knows) ∙ ap opening (ap known c.new-server.ensures.1 ∙ c.in-Ok.ensures.opened.1) in
    each_err t.result (λ e leaves. subst (λ (s : Session). ShellLeaves g.F.Peer.does g.P.Peer.does e s c.args.first.now t.new.first c.args.peer.now t.new.peer) opened leaves) t.ensures.fault

pub returns-in-Ok-close_alone-clause-legal : goal.returns-in-Ok-close_alone-clause-legal
returns-in-Ok-close_alone-clause-legal g c = subst (λ (s : Setting). IsLegalFrom s.volume c.in-Ok-close_alone.journal.entries) c.in-Ok.ensures.begins c.in-Ok-close_alone.ensures.legal

pub returns-in-Ok-close_alone-clause-volumes : goal.returns-in-Ok-close_alone-clause-volumes
returns-in-Ok-close_alone-clause-volumes g c =
    subst (λ (s : Setting). CanEncodeEach s.pages s.volume c.in-Ok-close_alone.journal.entries) c.in-Ok.ensures.begins c.in-Ok-close_alone.ensures.volumes
