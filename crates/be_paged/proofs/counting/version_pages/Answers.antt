use Rattle.be_paged.proofs.Sizes.Items.{version_size}
use Rattle.be_paged.proofs.counting.version_pages.Goals as goal

pub returns : goal.returns
returns c = version_size
