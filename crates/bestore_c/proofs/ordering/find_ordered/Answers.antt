use Rattle.std.proofs.Common.{ℕ, inr, subst}
use Rattle.be_paged_reading.specs.Cells.{name_in}
use Rattle.be_session.specs.Ordering.{IsNoPage}
use Rattle.be_session.specs.Sitting.{IsUnread}
use Rattle.be_store.specs.Passes.{volume_pinned}
use Rattle.be_table.specs.Seats.{pinned_number}
use Rattle.bestore_c.proofs.ordering.find_ordered.Goals as goal

pub returns-in-Err-clause-asked : goal.returns-in-Err-clause-asked
returns-in-Err-clause-asked c =
    let e = c.in-Err.fault in
    let unread = subst (λ (most : ℕ). IsUnread (pinned_number c.args.session.now.knows.phase)
    (IsNoPage (volume_pinned c.args.session.now.knows) c.args.prepared.now.live.query (name_in c.args.order.by.now) c.args.order.descending most c.args.cursor.now e) e)
    c.requires.most c.in-Err.ensures.err in
    (c.find_ordered.ensures.same, inr (e, (c.refuse.ensures, c.in-Err.ensures.kept.1), unread))
