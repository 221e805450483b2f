use Rattle.be_paged_tests.proofs.tests.costs.count_answer.Goals as goal

pub source-reader-requires : goal.source-reader-requires
source-reader-requires g c = record { version = (g.volume, rw c.new.ensures c.requires.1) }
