use Rattle.std.proofs.Common.{take}
use Rattle.std.specs.String.{string_bytes}
use Rattle.be_ways.specs.Text.{AreLines}
use Rattle.be_ways.proofs.text.ways_text.Given as goal

abbrev pub invariant-loop-way : goal.invariant-loop-way
invariant-loop-way l = AreLines (take l.way-index l.ways) (string_bytes l.text)
