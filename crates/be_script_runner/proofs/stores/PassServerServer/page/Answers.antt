use Rattle.std.proofs.Common.{ap, subst}
use Rattle.be_value.specs.Refusal.{Answers}
use Rattle.be_volume.specs.Volume.{State}
use Rattle.be_script_language.specs.Page.{page_found}
use Rattle.be_script_runner.specs.Pages.{page_read}
use Rattle.be_script_runner.specs.Served.{Seated}
use Rattle.be_script_runner.proofs.CallLemmas.{leads_read}
use Rattle.be_script_runner.proofs.PassLemmas.{is_pinned_to}
use Rattle.be_script_runner.proofs.StateTextLemmas.{pinned_view}
use Rattle.be_script_runner.proofs.stores.PassServerServer.page.Goals as goal

pub read_page-page-requires-clause-pinned : goal.read_page-page-requires-clause-pinned
read_page-page-requires-clause-pinned c = is_pinned_to c.self.inside.pass.knows c.begin_read-made.new.self.knows (ap (λ (s : Seated). s.knows) c.self.view_is) c.begin_read-made.ensures.pinned

pub returns-clause-answers : goal.returns-clause-answers
returns-clause-answers c =
    subst (λ (v : State). Answers page_found c.read_page-page.result (page_read v c.args.paging.now c.args.query))
    (pinned_view c.self.inside.pass.knows c.begin_read-made.new.self.knows c.read_page-page.new.pass.knows c.end_read.new.self.knows c.begin_read-made.result
    (ap (λ (s : Seated). s.knows) c.self.view_is) c.begin_read-made.ensures.pinned c.read_page-page.ensures.pass.1 c.begin_read-made.ensures.same_view c.end_read.ensures.unpinned)
    c.read_page-page.ensures.page

pub invariant_of-self : goal.invariant_of-self
invariant_of-self c = (
  c.read_page-page.ensures.pass.0,
  leads_read c.self.inside.first.value.knows c.self.inside.pass.knows c.read_page-page.new.pass.knows c.self.invariant.1 c.read_page-page.ensures.pass.1,
)
