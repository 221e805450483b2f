use Rattle.std.proofs.Common.{◌∷◌, ◌∙◌, sym, ap, take}
use Rattle.be_script_language.specs.Request.{lines_of}
use Rattle.be_script_runner.proofs.RunLemmas.{first_line, last_line}
use Rattle.be_script_runner.proofs.runs.split_line.Goals as goal

pub returns-in-Some-clause-first : goal.returns-in-Some-clause-first
returns-in-Some-clause-first c = first_line c.args.script.now c.in-Some.end (sym c.end_of_line.ensures ∙ c.in-Some.is)
    ∙ ap (λ rest. take c.in-Some.end c.args.script.now ∷ lines_of rest) (sym c.split_at-in-Some.ensures.back)
    ∙ ap (λ line. line ∷ lines_of c.split_at-in-Some.result.1.now) (sym c.split_at.ensures.front)

pub returns-in-None-clause-last : goal.returns-in-None-clause-last
returns-in-None-clause-last c = last_line c.args.script.now (sym c.end_of_line.ensures ∙ c.in-None.is)
