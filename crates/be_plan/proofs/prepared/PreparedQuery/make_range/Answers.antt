use Rattle.be_plan.proofs.prepared.PreparedQuery.make_range.Goals as goal

pub invariant_of-self : goal.invariant_of-self
invariant_of-self c = (c.self.invariant.0, c.range_decides.ensures c.if-range_decides.true)
