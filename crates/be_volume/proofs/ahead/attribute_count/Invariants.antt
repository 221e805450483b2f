use Rattle.std.proofs.Common.{◌≡◌, ◌≤◌, ◌<◌, ◌^◌, ◌+◌, take}
use Rattle.std.specs.FinMap as map
use Rattle.be_volume.specs.Maps.{attributes_of}
use Rattle.be_volume.specs.Ahead.{state_after}
use Rattle.be_volume.proofs.ahead.attribute_count.Given as goal

abbrev pub invariant-loop-i : goal.invariant-loop-i
invariant-loop-i g l = record {
  stays : g.F.Facts.kept l.facts ≡ g.F.Facts.kept l.initial.facts;
  answers : g.F.Facts.answers_for l.facts g.volume;
  next : l.next ≡ (state_after g.volume (take l.i l.before)).next;
  bound : l.next ≤ g.volume.next + l.i;
  count : l.count ≡ map.len (attributes_of (state_after g.volume (take l.i l.before)).nodes l.node);
  fits : l.count < 2 ^ 64;
}

abbrev pub ghost-sets_again : goal.ghost-sets_again
ghost-sets_again g a = g.volume
