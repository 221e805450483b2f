use Rattle.be_value.specs.declared.values.Value.TheVariants.{Cstr}
use Rattle.be_plan.proofs.narrowing.narrow_by_text.Given as goal

abbrev pub ghost-narrow_by : goal.ghost-narrow_by
ghost-narrow_by a = Cstr a.front.now
