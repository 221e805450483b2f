use Rattle.be_paged_reading.specs.Page.{contents_of}
use Rattle.be_paged_reading.proofs.Stored.PageIndices.{found_known}
use Rattle.be_paged_reading.proofs.on_page.find_to_know.Goals as goal

pub returns-clause-known : goal.returns-clause-known
returns-clause-known g c = found_known (contents_of (g.L.Look.words c.find_index-index.new.look c.args.page)).entries c.args.name.now c.find_index-index.result c.find_index-index.ensures.found
