use Rattle.be_core.specs.Machine.{has}
use Rattle.be_table.specs.Versions.{at_start}
use Rattle.be_table.proofs.Shares.{encoded_counted}
use Rattle.be_table.proofs.counting.encoded_counts.Goals as goal

pub returns : goal.returns
returns c = λ pages words page n volume s. encoded_counted pages words page n _ volume s (c.version_pages.ensures (λ q. at_start (has pages q)) words page volume s.version)
