use Rattle.be_paged_building_tests.proofs.tests.give.Goals as goal

pub returns-in-Some-clause-builds : goal.returns-in-Some-clause-builds
returns-in-Some-clause-builds g c = (c.in_ok-index.ensures.ok (g.R.Look.page_state c.args.room.now) (g.R.Look.words c.args.room.now) c.requires.builds).1
