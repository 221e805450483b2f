use Rattle.std.proofs.Common.{◌≡◌, All, subst}
use Rattle.std.specs.Prelude.{IfOk, OnOk}
use Rattle.std.specs.String.{string_bytes}
use Rattle.be_journal_text.specs.Dump.{state_dump}
use Rattle.be_journal_text.specs.History.{CanBeOp}
use Rattle.be_volume_state.specs.Rebuilding.{state_ops}
use Rattle.be_volume.specs.Volume.{State}
use Rattle.be_script_runner.proofs.JoinLemmas.{joins_itself}
use Rattle.be_script_tests.proofs.tests.plain.PlainStoreServer.state_text.Goals as goal

pub returns-clause-joins : goal.returns-clause-joins
returns-clause-joins c = joins_itself c.args.self.now

pub returns-clause-text : goal.returns-clause-text
returns-clause-text c = subst (λ (v : State). IfOk c.volume_text.result (λ text. string_bytes text ≡ state_dump v)) c.viewed.ensures c.volume_text.ensures.text

pub returns-clause-can : goal.returns-clause-can
returns-clause-can c = subst (λ (v : State). OnOk c.volume_text.result (All CanBeOp (state_ops v))) c.viewed.ensures c.volume_text.ensures.can
