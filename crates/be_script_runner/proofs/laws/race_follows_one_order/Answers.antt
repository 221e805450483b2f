use Rattle.std.proofs.Common.{refl}
use Rattle.be_table.specs.Setting.{begins_empty}
use Rattle.be_script_runner.proofs.OrderLemmas.{follows_one_order}
use Rattle.be_script_runner.proofs.laws.race_follows_one_order.Goals as goal

pub returns : goal.returns
returns c limits scripts out race = follows_one_order (begins_empty limits) scripts race.journal race.passes race.replies refl race.served race.order
