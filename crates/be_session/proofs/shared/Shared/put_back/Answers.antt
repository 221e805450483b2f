use Rattle.std.proofs.Common.{◌<◌, arith, length, subst, sym}
use Rattle.be_table.specs.Place.{Opened}
use Rattle.be_session.specs.Sitting.{IsUnpinnedOf, MayWaitAt}
use Rattle.be_session.proofs.Spare.{may_wait}
use Rattle.be_session.proofs.shared.Shared.put_back.Goals as goal

pub put-requires : goal.put-requires
put-requires c =
    let low : c.number.result < length c.self.inside.slots.items = omega (arith, c.number.ensures.below, c.self.invariant.1) in
    subst (λ s. MayWaitAt s c.args.returned.pass) (sym c.index-slot.ensures)
    (may_wait c.self.inside.store c.self.inside.slots.items c.number.result c.index-slot.result.now c.args.returned.pass c.self.invariant low
    (sym c.number.ensures.number) (subst (λ (o : Opened). IsUnpinnedOf o c.args.returned.pass) (sym c.self.view_is) c.requires))
