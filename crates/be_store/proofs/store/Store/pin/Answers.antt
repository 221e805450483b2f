use Rattle.std.proofs.Common.{ap, ◌∙◌, subst}
use Rattle.be_table.specs.Setting.{Setting as Limits}
use Rattle.be_table.specs.Place.{Opened}
use Rattle.be_table.specs.Works.{IsSeatOf}
use Rattle.be_store.proofs.Alone.{settled_pin, pins_seen}
use Rattle.be_store.proofs.store.Store.pin.Goals as goal

pub returns-clause-pass : goal.returns-clause-pass
returns-clause-pass c =
    let passes = λ (l : Limits). l.passes in
    let same = ap (λ (t : Opened). t.limits.passes) c.self.view_is in (
      subst (λ (t : Opened). IsSeatOf t c.look_again.new.seat) c.self.view_is c.look_again.ensures.seat,
      settled_pin c.args.self.now.limits.passes c.look-number.result c.look-number.new.seat.knows c.announce.new.seat.knows c.look_again.new.seat.knows
          c.look-number.ensures.sees.pass (ap passes c.look-number.ensures.seat.2 ∙ same) (ap passes c.look_again.ensures.seat.2 ∙ same) c.look-number.ensures.result c.announce.ensures.pass c.look_again.ensures.pass,
    )

pub returns-clause-pin : goal.returns-clause-pin
returns-clause-pin c =
    pins_seen _ _ c.args.pass.now.knows c.look-number.new.seat.knows c.announce.new.seat.knows c.look_again.new.seat.knows
    c.look-number.ensures.sees c.announce.ensures.pass c.announce.ensures.moves c.look_again.ensures.pass c.look_again.ensures.number
