use Rattle.be_paged_building_tests.proofs.tests.built.Goals as goal

pub loop-i-preserved : goal.loop-i-preserved
loop-i-preserved g c = (c.in_ok-index.ensures.ok (g.R.Look.page_state c.new.new.room) (g.R.Look.words c.new.new.room) c.loop-i.invariant).1

pub returns : goal.returns
returns g c = record { version = (c.in_ok-version.version.1.value, c.in_ok-version.ensures.ok) }
