use Rattle.std.proofs.Common.{arith}
use Rattle.be_paged_reading.proofs.Asking.Counting.{uncounted}
use Rattle.be_paged_reading.proofs.CatalogPairs.Validity.{values_valid}
use Rattle.be_paged_reading.proofs.facts.count_anew.Goals as goal

pub returns-then-node-version-clause-count : goal.returns-then-node-version-clause-count
returns-then-node-version-clause-count g c = λ volume reported. uncounted volume c.args.node c.args.version.now.next reported.sound reported.encodes.next (omega arith)

pub returns-clause-count : goal.returns-clause-count
returns-clause-count g c = λ volume reported. c.attribute_count.ensures.count volume.nodes reported.encodes.catalog (values_valid volume reported.sound) (reported.sound.few_attributes c.args.node)
