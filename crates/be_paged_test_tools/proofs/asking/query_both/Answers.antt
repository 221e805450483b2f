use Rattle.be_paged_test_tools.proofs.asking.query_both.Goals as goal

pub source-reader-requires : goal.source-reader-requires
source-reader-requires g c = record { version = (c.args.plain.now, c.requires.version) }
