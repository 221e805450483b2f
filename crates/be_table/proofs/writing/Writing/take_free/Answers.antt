use Rattle.std.proofs.Common.{◌≡◌, ℕ, ◌+◌, ◌<◌, [], ◌∷◌, None, length, slice_set, sym, ap, ◌∙◌, subst}
use Rattle.std.proofs.Common.{length-set}
use Rattle.be_pages.specs.declared.page_pool.Place.TheVariants.{Reserved}
use Rattle.be_table.specs.Setting.{Setting as Limits}
use Rattle.be_table.specs.declared.pass.Knowledge.{Knowledge}
use Rattle.be_pages.specs.Place.{is_retired}
use Rattle.be_table.specs.Rule.{alone, entries, writer_state_places, page_at, pass_of}
use Rattle.be_table.specs.Seats.{pin_of}
use Rattle.be_table.specs.Steps.{IsPass, takes_page, take_moves, with_history}
use Rattle.be_table.specs.Working.{HasWorked}
use Rattle.be_table.proofs.WriterStates.{left-set}
use Rattle.be_table.proofs.Opened.{going_pass}
use Rattle.be_table.proofs.Traces.{pass_history}
use Rattle.be_table.proofs.Worked.{reasons_none, take_needs, take_work, worked_more}
use Rattle.be_table.proofs.writing.Writing.take_free.Goals as goal

pub invariant_of-self-2 : goal.invariant_of-self-2
invariant_of-self-2 c =
    let i = c.self.invariant in let w = c.self.inside in let a = pass_of w.base.me.0 in
    let p = c.in_ok-page.page in
    let b = takes_page (with_history a (pass_of c.report_taken.new.base.me.0).history) p in
    let m : c.report_taken.new.base.me ≡ (alone b, (0, None) ∷ []) = c.report_taken.ensures.me ∙ ap (λ l. (alone b, l)) (ap (λ m. m.1) i.me_is) in
    let k : pass_of c.report_taken.new.base.me.0 ≡ b = ap (λ m. pass_of m.0) m in
    let taken = c.in_ok-page.ensures.some in
    record {
      table_is = c.report_taken.ensures.seat.0 ∙ i.table_is;
      me_is = m ∙ sym (ap (λ (x : Knowledge). (alone x, (0, None) ∷ [])) k);
      number_is = ap (λ (x : Knowledge). x.number) k ∙ i.number_is;
      limits_are = ap (λ (x : Knowledge). x.limits) k ∙ i.limits_are;
      small = i.small;
      writes = ap (λ (x : Knowledge). x.writes) k ∙ i.writes;
      journal = i.journal ∙ sym (ap (λ (x : Knowledge). entries x.seen) k);
      page = i.page ∙ sym (ap (λ (x : Knowledge). page_at x.seen (length x.seen)) k);
      places = taken ∙ ap (λ l. slice_set l p Reserved) i.places ∙ sym (ap (λ (x : Knowledge). x.places) k);
      count = ap length taken ∙ length-set _ p Reserved ∙ i.count;
      size = ap (λ (x : Knowledge). length x.words) k ∙ i.size;
      turn = ap (λ (x : Knowledge). x.scanned) k ∙ i.turn;
      pin = i.pin ∙ sym (ap (λ (x : Knowledge). pin_of x.phase x.seen) k);
      pass = subst IsPass (sym k) (pass_history (record a { places = slice_set a.places p Reserved; steps = a.steps + 1 }) (pass_of c.report_taken.new.base.me.0).history
          (going_pass a a.scanned a.least (slice_set a.places p Reserved) a.words a.held (a.steps + 1) i.pass));
      limit = i.limit;
      left = left-set w.writer_state.left (writer_state_places w.writer_state) _ p Reserved taken c.in_ok-page.ensures.free.0 (ap is_retired c.in_ok-page.ensures.free.1) i.left;
      room = λ some. let r = i.room some in (r.0, subst (λ (x : Knowledge). length x.seen < w.table.now.limits.commits) (sym k) r.1);
      worked = λ unpublished. subst (λ (x : Limits × ℕ). HasWorked x.0 x.1 (pass_of c.report_taken.new.base.me.0).history) (λ n. (sym (ap (λ (x : Knowledge). x.limits) k) n, sym (ap (λ (x : Knowledge). x.number) k) n))
          (worked_more a.limits a.number a.history (take_moves a p) (pass_of c.report_taken.new.base.me.0).history (take_work a p)
          (reasons_none a.limits a.number a.history (take_moves a p) (pass_of c.report_taken.new.base.me.0).history (take_needs a.limits a p) c.report_taken.ensures.moves)
          (i.worked (ap (λ (x : Knowledge). x.published) (sym k) ∙ unpublished)));
    }
