use Rattle.std.proofs.Common.{arith, inl, inr, subst, sym}
use Rattle.be_kept.proofs.Histories.{history_after}
use Rattle.be_kept.specs.History.{HasHistory}
use Rattle.be_kept.specs.Rows.{written}
use Rattle.be_kept.proofs.opening.append_and_crash.Goals as goal

pub returns-clause-history : goal.returns-clause-history
returns-clause-history g c clean past more has count are =
    let old = c.args.store.now in
    let new = g.S.Store.view c.crash_and_reopen.new.self in
    let reopened = c.in_ok-crash_and_reopen.ensures in
    let was_open = c.requires.open (omega (arith, reopened.clean, c.append.ensures.clean, clean)) in
    elim (c.append.ensures.crash (omega (arith, reopened.clean, clean)) new.committed (reopened.found clean)) [
      | inl before ↦ inl (subst (HasHistory past) (sym (g.met.S.Store.settled old _ was_open before)) has)
      | inr after ↦ inr (rw after (history_after past more c.args.number (written c.args.entries.now) (g.S.Store.view old).committed has count are))
    ]
