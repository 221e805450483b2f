use Rattle.std.proofs.Common.{inl, refl, sym, subst}
use Rattle.std.specs.Prelude.{Result}
use Rattle.be_value.specs.declared.refusals.Refusal.{Refusal}
use Rattle.be_script_language.specs.Reply.{refused}
use Rattle.be_script_language.specs.Request.{page}
use Rattle.be_script_language.specs.View.{reply_of}
use Rattle.be_script_language.specs.declared.pages.Paging.{Paging}
use Rattle.be_script_runner.specs.View.{RepliesToAny}
use Rattle.be_script_runner.proofs.answers.page.Goals as goal

pub returns-in-Ok-clause-replies : goal.returns-in-Ok-clause-replies
returns-in-Ok-clause-replies g c =
    subst (λ (p : Result Paging Refusal). RepliesToAny (g.S.Server.shows c.page_of.new.server) (page p c.args.text.now) (reply_of c.page_of.result)) (sym c.in-Ok.is) c.page_of.ensures.replies

pub returns-in-Err-clause-replies : goal.returns-in-Err-clause-replies
returns-in-Err-clause-replies g c =
    subst (λ (p : Result Paging Refusal). RepliesToAny (g.S.Server.shows c.args.server.now) (page p c.args.text.now) (refused c.in-Err.refusal)) (sym c.in-Err.is) (λ client. inl refl)
