use Rattle.std.proofs.Common.{◌<◌, ◌∙◌, arith, length, subst, sym}
use Rattle.be_session.specs.Sitting.{MayWaitAt}
use Rattle.be_session.proofs.Spare.{may_wait}
use Rattle.be_session.proofs.shared.Shared.give_back.Goals as goal

pub put-requires : goal.put-requires
put-requires c =
    let low : c.number.result < length c.self.inside.slots.items = omega (arith, c.seen_is_legal.ensures.number, c.self.invariant.1, c.number.ensures) in
    subst (λ s. MayWaitAt s c.of-returned.result.0.pass) (sym c.index-slot.ensures)
    (may_wait c.self.inside.store c.self.inside.slots.items c.number.result c.index-slot.result.now c.of-returned.result.0.pass c.self.invariant low
    (c.of-returned.ensures.number ∙ sym c.number.ensures) c.of-returned.ensures.waits)
