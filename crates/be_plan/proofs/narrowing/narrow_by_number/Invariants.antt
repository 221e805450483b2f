use Rattle.be_query.specs.View.{literal}
use Rattle.be_volume.specs.Query.{literal_number}
use Rattle.be_plan.proofs.Integers.{number_value}
use Rattle.be_plan.proofs.narrowing.narrow_by_number.Given as goal

abbrev pub ghost-narrow_by_integer : goal.ghost-narrow_by_integer
ghost-narrow_by_integer a = number_value a.kind (literal_number (literal a.comparison.now.literal))
