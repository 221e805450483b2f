use Rattle.std.proofs.Common.{inr}
use Rattle.bestore_c.proofs.drafts.read_changed.Goals as goal

pub returns-in-Ok-clause-shown : goal.returns-in-Ok-clause-shown
returns-in-Ok-clause-shown c = inr (
  c.in-Ok.ensures.value.0,
  c.in-Ok.found,
  c.show.ensures.shown c.args.change.now.number,
  c.in-Ok.ensures.value.1,
)
