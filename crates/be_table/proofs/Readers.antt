-- Pinned readers.
use Rattle.std.proofs.Common.{◌≡◌, ℕ, ◌<◌, ◌+◌, [], IsTrue, sym, ap, ◌∙◌, subst}
use Rattle.be_pages.specs.Pages.{is_readable}
use Rattle.be_table.specs.declared.marks.Marks.{Marks}
use Rattle.be_table.specs.declared.pass.Knowledge.{Knowledge}
use Rattle.be_table.specs.declared.pinned.PinnedLook.TheInside.{Inside}
use Rattle.be_table.specs.Reading.{pinned_page_state}
use Rattle.be_table.specs.Readers.{IsReader}
use Rattle.be_table.specs.Rule.{alone, one_step_on, pass_of}
use Rattle.be_table.specs.Seats.{IsReported, pin_of}
use Rattle.be_table.specs.Steps.{IsPass}
use Rattle.be_table.proofs.Pins.{page_inside, readable_pin}
use Rattle.be_table.proofs.Reported.{reported_as, stepped_pass}

-- a readable page is a page of the table
pub readable_inside : (a : Knowledge) (q : ℕ) → IsPass a → IsTrue (is_readable (pinned_page_state a q)) → q < a.limits.pages
readable_inside a q h r = let p = readable_pin a q r in page_inside a p.0 p.1 q h p.2 p.3

-- a reader continues after a read
pub read_on : (w v : Inside) → IsReader w → v.table.now ≡ w.table.now → v.marks ≡ w.marks → v.base.table_id ≡ w.base.table_id → v.base.me ≡ (alone (one_step_on (pass_of w.base.me.0)), []) → IsReader v
read_on w v i table marks id me =
    let a : Knowledge = pass_of w.base.me.0 in
    let k : pass_of v.base.me.0 ≡ one_step_on a = ap (λ m. pass_of m.0) me in
    record {
      table_is = id ∙ i.table_is ∙ sym (ap (λ t. t.id) table);
      me_is = me ∙ ap (λ (x : Knowledge). (alone x, [])) (sym k);
      limits_are = ap (λ (x : Knowledge). x.limits) k ∙ i.limits_are ∙ sym (ap (λ t. t.limits) table);
      small = subst (λ (m : Marks). m.number < 64) (sym marks) i.small;
      reported = subst (λ (m : Marks). IsReported (pass_of v.base.me.0) m.number m.seen) (sym marks)
          (reported_as (one_step_on a) v.base.me w.marks.number w.marks.seen k
          (record { number_is = i.reported.number_is; seen_is = i.reported.seen_is; writes = i.reported.writes; pass = stepped_pass a (a.steps + 1) i.reported.pass }));
      pin = ap (λ (m : Marks). m.pin) marks ∙ i.pin ∙ sym (ap (λ (x : Knowledge). pin_of x.phase x.seen) k);
    }
