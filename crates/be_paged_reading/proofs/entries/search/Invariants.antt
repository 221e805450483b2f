use Rattle.std.proofs.Common.{◌≡◌, ℕ, ◌<◌, slice_index_or}
use Rattle.std.specs.declared.cmp.Ordering.TheVariants.{Less}
use Rattle.be_volume.specs.Maps.{name_cmp}
use Rattle.be_paged_reading.specs.Entry.{Entry}
use Rattle.be_paged_reading.proofs.entries.search.Given as goal

abbrev pub invariant-loop-i : goal.invariant-loop-i
invariant-loop-i l = (j : ℕ) (d : Entry) → j < l.i → name_cmp (slice_index_or l.entries j d).name l.name ≡ Less
