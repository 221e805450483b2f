use Rattle.std.proofs.Common.{◌≡◌, length}
use Rattle.std.specs.Vec.Iter.{into_iter_items, into_iter_len}
use Rattle.be_paged_building.proofs.Finishing.{IsFinishing}
use Rattle.be_paged_building.proofs.building.VolumeBuilder.finish.Given as goal

-- the indices before this one have their trees
abbrev pub invariant-loop-list : goal.invariant-loop-list
invariant-loop-list g l = record {
  finishes : IsFinishing g.R.Look.kept g.R.Look.page_state g.R.Look.words l.fn.self l.fn.self.volume.value l.root l.entries.items l.at (into_iter_items l.list-iterator) l.fn.room l.room;
  len : into_iter_len l.list-iterator ≡ length (into_iter_items l.list-iterator);
}
