use Rattle.std.proofs.Common.{◌≡◌, ◌<◌, ◌+◌, ◌^◌, IsOk}
use Rattle.be_volume.specs.Sound.{IsSound}
use Rattle.be_volume.specs.Volume.{State, step}
use Rattle.be_volume.specs.declared.ops.Op.TheVariants.{Drop}
use Rattle.be_paged.specs.Changes.{Changes, IsThinned}
use Rattle.be_paged_reading.specs.Page.{contents}
use Rattle.be_paged_reading.specs.Version.{Encodes}
use Rattle.be_paged.specs.Stops.{Gains}
use Rattle.be_paged.proofs.edits.unset_all.Given as goal

-- each iteration has removed one attribute
abbrev pub invariant-loop : goal.invariant-loop
invariant-loop g l = record {
  changes : Changes g.R.Look.kept g.R.Look.page_state g.R.Look.words (contents l.initial.version) (contents l.version) l.initial.room l.room;
  gains : Gains 0 (g.R.Look.words l.initial.room) (g.R.Look.words l.room) (contents l.initial.version) (contents l.version);
  next : l.version.next ≡ l.initial.version.next;
  thinned : (volume : State) → Encodes (g.R.Look.words l.initial.room) (contents l.initial.version) volume → IsSound volume → volume.next + 1 < 2 ^ 64 → IsOk (step volume (Drop l.node)) →
      IsThinned (g.R.Look.words l.room) (contents l.version) volume l.node l.counter;
}
