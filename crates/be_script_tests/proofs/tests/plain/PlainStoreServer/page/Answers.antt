use Rattle.std.proofs.Common.{subst}
use Rattle.be_value.specs.Refusal.{Answers}
use Rattle.be_volume.specs.Volume.{State}
use Rattle.be_script_language.specs.Page.{page_found}
use Rattle.be_script_runner.specs.Pages.{page_read}
use Rattle.be_script_runner.proofs.JoinLemmas.{joins_itself}
use Rattle.be_script_tests.proofs.tests.plain.PlainStoreServer.page.Goals as goal

pub returns-clause-joins : goal.returns-clause-joins
returns-clause-joins c = joins_itself c.args.self.now

pub returns-clause-answers : goal.returns-clause-answers
returns-clause-answers c =
    subst (λ (v : State). Answers page_found c.page_in.result (page_read v c.args.paging.now c.args.query)) c.viewed.ensures c.page_in.ensures
