use Rattle.std.proofs.Common.{List, ℕ, refl, sym, subst}
use Rattle.be_script_language.specs.Request.{lines_of}
use Rattle.be_script_runner.specs.Output.{Outputs, opening}
use Rattle.be_shell.specs.Conversation.{said}
use Rattle.be_shell.proofs.TalkLemmas.{empty_more, talk_output}
use Rattle.be_shell.proofs.laws.talk_of_script_is_output.Goals as goal

pub returns-clause-whole : goal.returns-clause-whole
returns-clause-whole c = λ store script talk last h. (last, talk_output (lines_of script) (opening store) last talk h, refl)

pub returns-clause-ended : goal.returns-clause-ended
returns-clause-ended c = λ store script lines talk last e h. (
  last,
  subst (λ (ls : List (List ℕ)). Outputs (opening store) ls last (said talk)) (sym e) (empty_more lines (opening store) last (said talk) (talk_output lines (opening store) last talk h)),
  refl,
)
