use Rattle.std.proofs.Common.{◌≡◌, ◌++◌, length, take, length-append, length-take-le, vec_len, arith}
use Rattle.be_script_runner.proofs.ReadLemmas.{few_reads, read_none}
use Rattle.be_script_runner.proofs.RunLemmas.{read_both}
use Rattle.be_script_runner.proofs.runs.read_script.Goals as goal

pub returns-in-Err-clause-err : goal.returns-in-Err-clause-err
returns-in-Err-clause-err g c =
    let items = c.loop-reads.script.items in (
      items,
      read_none (g.R.ScriptReader.remaining c.args.reader.now) (g.R.ScriptReader.remaining c.loop-reads.reader) (g.R.ScriptReader.remaining c.read_once.new.self) items c.loop-reads.invariant.taken c.in-Err.ensures.bytes,
      omega (arith, c.loop-reads.invariant.fits, c.loop-reads.script.ok.0),
    )

pub returns-then-is_err-clause-err : goal.returns-then-is_err-clause-err
returns-then-is_err-clause-err g c =
    let items = c.loop-reads.script.items in
    let more = take c.in-Ok.n c.read_once.new.buf in
    let exact : length more ≡ c.in-Ok.n = length-take-le c.in-Ok.n c.read_once.new.buf (omega (arith, c.in-Ok.ensures.bound)) in (
      items ++ more,
      read_both (g.R.ScriptReader.remaining c.args.reader.now) (g.R.ScriptReader.remaining c.loop-reads.reader) (g.R.ScriptReader.remaining c.read_once.new.self) items more
          c.loop-reads.invariant.taken c.in-Ok.ensures.bytes.0,
      omega (arith, length-append items more, exact, c.loop-reads.script.ok.0),
    )

pub returns-then-len-n-gt-MAX_SCRIPT-clause-err : goal.returns-then-len-n-gt-MAX_SCRIPT-clause-err
returns-then-len-n-gt-MAX_SCRIPT-clause-err g c =
    let items = c.loop-reads.script.items in
    let more = take c.in-Ok.n c.read_once.new.buf in
    let exact : length more ≡ c.in-Ok.n = length-take-le c.in-Ok.n c.read_once.new.buf (omega (arith, c.in-Ok.ensures.bound)) in (
      items ++ more,
      read_both (g.R.ScriptReader.remaining c.args.reader.now) (g.R.ScriptReader.remaining c.loop-reads.reader) (g.R.ScriptReader.remaining c.read_once.new.self) items more
          c.loop-reads.invariant.taken c.in-Ok.ensures.bytes.0,
      omega (arith, length-append items more, exact, c.loop-reads.script.ok.0),
    )

pub returns-in-Err-clause-reads : goal.returns-in-Err-clause-reads
returns-in-Err-clause-reads g c =
    few_reads (g.R.ScriptReader.was_read c.args.reader.now) (g.R.ScriptReader.was_read c.loop-reads.reader) (g.R.ScriptReader.was_read c.read_once.new.self) c.loop-reads._reads
    (vec_len c.loop-reads.script) c.loop-reads.invariant.each c.loop-reads.invariant.fits c.loop-reads.invariant.counted c.read_once.ensures.counted

pub returns-in-Ok-eq0-clause-reads : goal.returns-in-Ok-eq0-clause-reads
returns-in-Ok-eq0-clause-reads g c =
    few_reads (g.R.ScriptReader.was_read c.args.reader.now) (g.R.ScriptReader.was_read c.loop-reads.reader) (g.R.ScriptReader.was_read c.read_once.new.self) c.loop-reads._reads
    (vec_len c.loop-reads.script) c.loop-reads.invariant.each c.loop-reads.invariant.fits c.loop-reads.invariant.counted c.read_once.ensures.counted

pub returns-then-len-n-gt-MAX_SCRIPT-clause-reads : goal.returns-then-len-n-gt-MAX_SCRIPT-clause-reads
returns-then-len-n-gt-MAX_SCRIPT-clause-reads g c =
    few_reads (g.R.ScriptReader.was_read c.args.reader.now) (g.R.ScriptReader.was_read c.loop-reads.reader) (g.R.ScriptReader.was_read c.read_once.new.self) c.loop-reads._reads
    (vec_len c.loop-reads.script) c.loop-reads.invariant.each c.loop-reads.invariant.fits c.loop-reads.invariant.counted c.read_once.ensures.counted

pub returns-then-is_err-clause-reads : goal.returns-then-is_err-clause-reads
returns-then-is_err-clause-reads g c =
    few_reads (g.R.ScriptReader.was_read c.args.reader.now) (g.R.ScriptReader.was_read c.loop-reads.reader) (g.R.ScriptReader.was_read c.read_once.new.self) c.loop-reads._reads
    (vec_len c.loop-reads.script) c.loop-reads.invariant.each c.loop-reads.invariant.fits c.loop-reads.invariant.counted c.read_once.ensures.counted
