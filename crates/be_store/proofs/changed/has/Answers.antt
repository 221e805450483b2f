use Rattle.std.proofs.Common.{◌∙◌}
use Rattle.be_store.proofs.Among.{search_reports}
use Rattle.be_store.proofs.changed.has.Goals as goal

pub returns : goal.returns
returns c = c.is_ok.ensures.value ∙ search_reports c.args.numbers.now c.args.number c.binary_search.result c.binary_search.ensures.position c.requires
