use Rattle.std.proofs.Common.{◌≡◌, ◌≤◌, ◌<◌, ◌+◌, ℕ, length}
use Rattle.be_script_runner.specs.Gates.{IsNext, line_count}
use Rattle.be_script_runner.specs.Run.{Wrote, HasReplied}
use Rattle.be_script_runner.specs.View.{session, queued_ops}
use Rattle.be_script_runner.proofs.runs.run_lines.Given as goal

abbrev pub invariant-loop-line : goal.invariant-loop-line
invariant-loop-line g l = record {
  counted : l.number + length l.rest ≤ 1 + length l.script;
  numbered : l.number + line_count l.rest ≡ line_count l.script + 1;
  next : IsNext (g.G.Gate.ended l.gate l.pass) l.number;
  reported : (line : ℕ) → 1 ≤ line → line < l.number → g.G.Gate.begun l.gate l.pass line × g.G.Gate.ended l.gate l.pass line;
  few : length (queued_ops l.client) ≤ 64;
  stays : g.S.Server.kept l.server ≡ g.S.Server.kept l.fn.server;
  so_far : Wrote (g.W.Write.contents l.fn.writer) (g.W.Write.contents l.writer)
      (HasReplied (g.S.Server.shows l.fn.server) l.script (session (g.S.Server.shows l.server) l.client) l.rest);
}

abbrev pub decreases-loop-line : goal.decreases-loop-line
decreases-loop-line g l = length l.rest
