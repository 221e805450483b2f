use Rattle.be_script_runner.proofs.JoinLemmas.{joins_itself}
use Rattle.be_script_tests.proofs.tests.plain.PlainStoreServer.query.Goals as goal

pub returns-clause-joins : goal.returns-clause-joins
returns-clause-joins c = joins_itself c.args.self.now
