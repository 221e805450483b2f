use Rattle.std.proofs.Common.{[], ◌≡◌, sym, ap, ◌∙◌}
use Rattle.be_table.specs.declared.pass.Knowledge.{Knowledge}
use Rattle.be_table.specs.Rule.{alone, pass_of}
use Rattle.be_table.specs.Seats.{pin_of}
use Rattle.be_table.proofs.Reported.{reported_as}
use Rattle.be_table.proofs.pinned.PinnedLook.of.Goals as goal

pub invariant_of-result : goal.invariant_of-result
invariant_of-result c =
    let p = c.into_base-base.ensures.pass in let t = c.into_base-base.ensures.reported in
    let k : pass_of c.into_base-base.result.0.me.0 ≡ c.args.seat.knows = ap (λ m. pass_of m.0) p.1 in
    record {
      table_is = p.0 ∙ c.requires.1;
      me_is = p.1 ∙ ap (λ (x : Knowledge). (alone x, [])) (sym k);
      limits_are = ap (λ (x : Knowledge). x.limits) k ∙ c.requires.2;
      small = t.0;
      reported = reported_as c.args.seat.knows c.into_base-base.result.0.me c.into_base-base.result.1.number c.into_base-base.result.1.seen k t.1;
      pin = c.into_base-base.ensures.pin ∙ sym (ap (λ (x : Knowledge). pin_of x.phase x.seen) k);
    }
