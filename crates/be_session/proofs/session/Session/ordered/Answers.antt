use Rattle.std.proofs.Common.{rules, arith}
use Rattle.std.proofs.lemmas.Grind.{common_steps}
use Rattle.be_paged_reading.specs.Cells.{name_in}
use Rattle.be_store.specs.Passes.{volume_pinned}
use Rattle.be_table.specs.Seats.{pinned_number}
use Rattle.be_session.specs.Ordering.{IsNoPage}
use Rattle.be_session.proofs.Pages.{unread_at}
use Rattle.be_session.proofs.session.Session.ordered.Goals as goal

pub returns-clause-err : goal.returns-clause-err
returns-clause-err c = unread_at (IsNoPage (volume_pinned c.args.self.now.knows) c.args.live.now.query (name_in c.args.order.by.now) c.args.order.descending c.args.order.most c.args.cursor.now)
    (pinned_number c.args.self.now.knows.phase) c.in-Some.field-0 (search rules) c.page_by.result (grind (arith, common_steps))
