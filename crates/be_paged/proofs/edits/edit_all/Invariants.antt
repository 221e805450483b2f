use Rattle.std.proofs.Common.{◌≡◌, ◌+◌, ◌≤◌, All, IsOk, take, length}
use Rattle.be_volume.specs.Sound.{IsSound}
use Rattle.be_volume.specs.Volume.{State, steps}
use Rattle.be_paged.specs.Changes.{Changes, Reaches, SetsSameValue}
use Rattle.be_paged_reading.specs.Page.{contents}
use Rattle.be_paged_reading.specs.Place.{IsAsked}
use Rattle.be_paged_reading.specs.Version.{Encodes}
use Rattle.be_paged.proofs.edits.edit_all.Given as goal

-- the operations so far have been applied
abbrev pub invariant-loop-op : goal.invariant-loop-op
invariant-loop-op g l = record {
  changes : Changes g.R.Look.kept g.R.Look.page_state g.R.Look.words (contents l.initial.version) (contents l.version) l.initial.room l.room;
  steps : (volume : State) → Encodes (g.R.Look.words l.initial.room) (contents l.initial.version) volume → IsSound volume → IsOk (steps volume l.ops) →
      Reaches (g.R.Look.words l.room) (contents l.version) volume (take l.op-index l.ops) l.dones.items;
  stays : (volume : State) → Encodes (g.R.Look.words l.initial.room) (contents l.initial.version) volume → IsSound volume → All (SetsSameValue volume) l.ops →
      Encodes (g.R.Look.words l.room) (contents l.version) volume × (l.version.entries.items ≡ l.initial.version.entries.items);
  next : l.version.next ≤ l.initial.version.next + l.op-index;
  counted : length l.dones.items ≡ l.op-index;
  asked : IsAsked (g.R.Look.page_state l.room) (g.R.Look.words l.room) l.version.catalog l.first;
}
