use Rattle.std.proofs.Common.{◌≡◌, ◌≤◌, ◌<◌, ◌+◌, ℕ, Some, length}
use Rattle.be_store.specs.Passes.{IsPassOf}
use Rattle.be_script_runner.specs.Gates.{IsNext, line_count}
use Rattle.be_script_runner.specs.Lines.{HasAnswered}
use Rattle.be_script_runner.specs.Run.{Wrote}
use Rattle.be_script_runner.specs.Served.{known}
use Rattle.be_script_runner.specs.View.{session, queued_ops}
use Rattle.be_script_runner.proofs.passes.serve_lines.Given as goal

abbrev pub invariant-loop-line : goal.invariant-loop-line
invariant-loop-line g l = record {
  counted : l.number + length l.rest ≤ 1 + length l.script;
  numbered : l.number + line_count l.rest ≡ line_count l.script + 1;
  next : IsNext (g.G.Gate.ended l.gate l.place) l.number;
  reported : (line : ℕ) → 1 ≤ line → line < l.number → g.G.Gate.begun l.gate l.place line × g.G.Gate.ended l.gate l.place line;
  few : length (queued_ops l.client) ≤ 64;
  of : IsPassOf l.store l.current;
  same : l.current.knows.number ≡ l.fn.pass.knows.number;
  so_far : Wrote (Some l.fn.replies.items) (Some l.replies.items)
      (HasAnswered l.fn.pass.knows l.script l.current.knows (session (known l.current.knows) l.client) l.rest);
}

abbrev pub decreases-loop-line : goal.decreases-loop-line
decreases-loop-line g l = length l.rest
