use Rattle.be_script_runner.proofs.RunLemmas.{always_err}
use Rattle.be_shell.specs.Bytes.{Hears, ChangesBytes}
use Rattle.be_shell.specs.Conversation.{hearing}
use Rattle.be_shell.proofs.LineLemmas.{hears_moves, if_ok, keeps_itself}
use Rattle.be_shell.proofs.ends.EndsPeer.hear.Goals as goal

pub returns-clause-heard : goal.returns-clause-heard
returns-clause-heard g c =
    let left = g.R.Read.remaining c.args.self.now.reader in
    let left' = g.R.Read.remaining c.hear_line.new.reader in
    let reported = g.W.Write.contents c.args.self.now.writer in
    if_ok c.hear_line.result (λ next. Hears left left' (hearing next)) (λ next. ChangesBytes left left' reported reported (hearing next))
    (λ next h. hears_moves left left' reported (hearing next) h) c.hear_line.ensures.heard

pub returns-clause-deaf : goal.returns-clause-deaf
returns-clause-deaf g c = always_err c.hear_line.result (keeps_itself (g.W.Write.contents c.args.self.now.writer))
