use Rattle.std.proofs.Common.{length}
use Rattle.be_shell.proofs.ScreenLemmas.{HasSaid}
use Rattle.be_shell.proofs.screens.say_shown.Given as goal

abbrev pub invariant-loop-rest : goal.invariant-loop-rest
invariant-loop-rest g l = HasSaid g.P.Peer.does l.fn.peer l.peer l.fn.bytes l.rest

abbrev pub decreases-loop-rest : goal.decreases-loop-rest
decreases-loop-rest g l = length l.rest
