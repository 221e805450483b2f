use Rattle.std.proofs.Common.{[], refl}
use Rattle.be_shell_tests.proofs.tests.StrictPeer.say.Goals as goal

pub returns-then-fails_at-clause-cut : goal.returns-then-fails_at-clause-cut
returns-then-fails_at-clause-cut c = ([], (c.args.reply.now, refl), tt)
