use Rattle.std.proofs.Common.{◌≡◌, false, [], ◌∷◌, length, count_by, refl, Some, map, sym, ap, ◌∙◌, ◌≤◌, subst, arith}
use Rattle.atomic_table.specs.Table.{rest}
use Rattle.be_table.specs.declared.pass.Knowledge.{Knowledge}
use Rattle.be_table.specs.Place.{Work}
use Rattle.be_table.specs.Rule.{writer_state_places, pass_of}
use Rattle.be_table.proofs.Frames.{Me1}
use Rattle.be_pages.specs.Place.{is_retired, undone_place}
use Rattle.be_table.specs.Steps.{without_lock, with_history}
use Rattle.be_table.specs.Working.{HasWorked}
use Rattle.be_table.proofs.Traces.{pass_history}
use Rattle.be_table.proofs.WriterStates.{left-undo}
use Rattle.be_table.proofs.Locks.{unlocks_as}
use Rattle.be_table.proofs.Opened.{seen_length}
use Rattle.be_table.proofs.Reported.{reported_as, left_pass}
use Rattle.be_table.proofs.writing.Writing.unlock.Goals as goal

pub store-requires : goal.store-requires
store-requires c =
    let i = c.self.invariant in let e = c.exchange.ensures in
    let w = c.self.inside in (
      e.0 ∙ i.table_is ∙ sym (ap (λ t. t.id) c.table.view_is),
      omega (arith, c.table.invariant.0),
      unlocks_as _ _ _ (pass_of w.base.me.0) [] _ c.rest.new.self (e.3 ∙ ap (λ (m : Me1). (m.0, (0, Some c.rest.new.self) ∷ rest m.1)) i.me_is) i.writes (ap (λ j. j.entries) c.rest.ensures.0 ∙ i.journal) (ap (λ j. j.limit) c.rest.ensures.0 ∙ i.limit ∙ ap (λ l. l.commits) (sym i.limits_are)) (c.rest.ensures.1 ∙ i.page) (c.rest.ensures.2 ∙ ap (map undone_place) i.places)
          (subst (λ n. n ≤ count_by is_retired (writer_state_places c.rest.new.self)) (sym c.rest.ensures.3) (left-undo w.writer_state.left (writer_state_places w.writer_state) (writer_state_places c.rest.new.self) c.rest.ensures.2 i.left)),
    )

pub of-requires-clause-reported : goal.of-requires-clause-reported
of-requires-clause-reported c =
    let i = c.self.invariant in let w = c.self.inside in let a = pass_of w.base.me.0 in
    let t = c.store.ensures.2 in
    reported_as (without_lock (with_history a t.0)) c.store.new.seat.me w.marks.number c.len.result
    (ap (λ m. pass_of m.0) t.3 ∙ ap (λ m. without_lock (with_history (pass_of m.0) t.0)) c.exchange.ensures.3)
    (record { number_is = i.number_is; seen_is = sym (seen_length a.seen) ∙ sym (ap length i.journal) ∙ sym c.len.ensures.len; writes = refl; pass = left_pass (with_history a t.0) (pass_history a t.0 i.pass) })

pub returns-clause-worked : goal.returns-clause-worked
returns-clause-worked c =
    subst (λ (x : Knowledge). x.published ≡ false → HasWorked x.limits x.number x.history) (ap (λ (x : Work). x.knows) c.self.view_is) c.self.invariant.worked
