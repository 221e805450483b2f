use Rattle.std.proofs.Common.{◌≡◌, ◌∙◌, ℕ, List, OnErr, OnOk, subst}
use Rattle.std.specs.Io.KnownBytes.{Appends}
use Rattle.be_journal_text.specs.Dump.{state_dump}
use Rattle.be_script_runner.specs.Run.{IsFrontOf, Wrote}
use Rattle.be_script_runner.specs.Store.{viewed}
use Rattle.be_script_runner.proofs.RaceLemmas.{none_of_text}
use Rattle.be_script_runner.proofs.RunLemmas.{always_ok, is_not_memory}
use Rattle.be_script_runner.proofs.saves.save_state.Goals as goal

pub returns-in_default-clause-cut : goal.returns-in_default-clause-cut
returns-in_default-clause-cut g c = none_of_text (state_dump (viewed (g.S.Server.shows c.state_text.new.self))) (g.W.Write.contents c.args.writer.now)

pub returns-clause-saved : goal.returns-clause-saved
returns-clause-saved g c =
    subst (λ (l : List ℕ). OnOk c.put.result (Appends (g.W.Write.contents c.args.writer.now) (g.W.Write.contents c.put.new.writer) l))
    (c.as_bytes.ensures.value ∙ c.in-Ok.ensures.text) c.put.ensures.ok

pub returns-clause-can : goal.returns-clause-can
returns-clause-can g c = always_ok c.put.result c.in-Ok.ensures.can

pub returns-clause-cut : goal.returns-clause-cut
returns-clause-cut g c =
    subst (λ (l : List ℕ). OnErr c.put.result (Wrote (g.W.Write.contents c.args.writer.now) (g.W.Write.contents c.put.new.writer) (IsFrontOf l)))
    (c.as_bytes.ensures.value ∙ c.in-Ok.ensures.text) c.put.ensures.err

pub returns-clause-whole : goal.returns-clause-whole
returns-clause-whole g c = is_not_memory c.put.result (g.W.Write.contents c.put.new.writer ≡ g.W.Write.contents c.args.writer.now) c.put.ensures.fault
