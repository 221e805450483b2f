use Rattle.std.proofs.Common.{◌≡◌, All, IfOk, OnOk, ap, subst}
use Rattle.std.specs.String.{string_bytes}
use Rattle.be_journal_text.specs.Dump.{state_dump}
use Rattle.be_journal_text.specs.History.{CanBeOp}
use Rattle.be_volume_state.specs.Rebuilding.{state_ops}
use Rattle.be_volume.specs.Volume.{State}
use Rattle.be_script_runner.specs.Served.{Seated}
use Rattle.be_script_runner.proofs.CallLemmas.{leads_read}
use Rattle.be_script_runner.proofs.PassLemmas.{is_pinned_to}
use Rattle.be_script_runner.proofs.StateTextLemmas.{pinned_view}
use Rattle.be_script_runner.proofs.stores.PassServerServer.state_text.Goals as goal

pub pinned_text-text-requires-clause-pinned : goal.pinned_text-text-requires-clause-pinned
pinned_text-text-requires-clause-pinned c = is_pinned_to c.self.inside.pass.knows c.begin_read-made.new.self.knows (ap (λ (s : Seated). s.knows) c.self.view_is) c.begin_read-made.ensures.pinned

pub returns-clause-text : goal.returns-clause-text
returns-clause-text c =
    subst (λ (v : State). IfOk c.pinned_text-text.result (λ text. string_bytes text ≡ state_dump v))
    (pinned_view c.self.inside.pass.knows c.begin_read-made.new.self.knows c.pinned_text-text.new.pass.knows c.end_read.new.self.knows c.begin_read-made.result
    (ap (λ (s : Seated). s.knows) c.self.view_is) c.begin_read-made.ensures.pinned c.pinned_text-text.ensures.pass.1 c.begin_read-made.ensures.same_view c.end_read.ensures.unpinned)
    c.pinned_text-text.ensures.text

pub returns-clause-can : goal.returns-clause-can
returns-clause-can c =
    subst (λ (v : State). OnOk c.pinned_text-text.result (All CanBeOp (state_ops v)))
    (pinned_view c.self.inside.pass.knows c.begin_read-made.new.self.knows c.pinned_text-text.new.pass.knows c.end_read.new.self.knows c.begin_read-made.result
    (ap (λ (s : Seated). s.knows) c.self.view_is) c.begin_read-made.ensures.pinned c.pinned_text-text.ensures.pass.1 c.begin_read-made.ensures.same_view c.end_read.ensures.unpinned)
    c.pinned_text-text.ensures.can

pub invariant_of-self : goal.invariant_of-self
invariant_of-self c = (
  c.pinned_text-text.ensures.pass.0,
  leads_read c.self.inside.first.value.knows c.self.inside.pass.knows c.pinned_text-text.new.pass.knows c.self.invariant.1 c.pinned_text-text.ensures.pass.1,
)
