use Rattle.std.proofs.Common.{◌≡◌, ◌≤◌, ◌+◌, length}
use Rattle.be_script_runner.specs.Run.{Wrote}
use Rattle.be_script_runner.specs.Strict.{HasAccepted}
use Rattle.be_script_runner.specs.View.{session, queued_ops}
use Rattle.be_script_runner.proofs.strict_runs.run_lines.Given as goal

abbrev pub invariant-loop-line : goal.invariant-loop-line
invariant-loop-line g l = record {
  counted : l.number + length l.rest ≤ 1 + length l.script;
  few : length (queued_ops l.client) ≤ 64;
  stays : g.S.Server.kept l.server ≡ g.S.Server.kept l.fn.server;
  so_far : Wrote (g.W.Write.contents l.fn.writer) (g.W.Write.contents l.writer)
      (HasAccepted (g.S.Server.shows l.fn.server) l.script (session (g.S.Server.shows l.server) l.client) l.rest l.number);
}

abbrev pub decreases-loop-line : goal.decreases-loop-line
decreases-loop-line g l = length l.rest
