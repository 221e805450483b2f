use Rattle.std.proofs.Common.{ℕ, ◌+◌, ◌≤◌, ◌^◌, vec_len}
use Rattle.std.specs.Io.KnownBytes.{Consumes}
use Rattle.be_script_runner.proofs.runs.read_script.Given as goal

abbrev pub invariant-loop-reads : goal.invariant-loop-reads
invariant-loop-reads g l = record {
  taken : Consumes (g.R.ScriptReader.remaining l.fn.reader) (g.R.ScriptReader.remaining l.reader) l.script.items;
  fits : vec_len l.script ≤ 2 ^ 20;
  each : l._reads ≤ vec_len l.script;
  counted : (before : ℕ) → g.R.ScriptReader.was_read l.fn.reader before → g.R.ScriptReader.was_read l.reader (before + l._reads);
}
