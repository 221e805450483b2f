use Rattle.be_paged_reading.proofs.CatalogPairs.Places.{known_is}
use Rattle.be_paged_reading.proofs.asked.known_of.Goals as goal

pub returns-in-Some : goal.returns-in-Some
returns-in-Some c = λ page_state words root asked. known_is page_state words root c.args.node c.args.name.now c.args.asked.now _ c.in-Some.is (cc) (cc) asked
