use Rattle.std.proofs.Common.{slice_index}
use Rattle.be_tree_reading.specs.Page.{bytes_at}
use Rattle.be_tree_reading.proofs.Padded.{AreAlike}
use Rattle.be_paged_reading.proofs.entry.Entry.compare.Given as goal

-- The words compared so far are equal.
abbrev pub invariant-loop-j : goal.invariant-loop-j
invariant-loop-j l = AreAlike (bytes_at (slice_index l.self-inside.words) 0 l.self-inside.len) l.text l.j
