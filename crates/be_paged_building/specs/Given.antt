-- What a builder is given, one after another.
use Rattle.std.specs.Prelude.{ℕ, ◌+◌, List, Bool, if◌then◌else◌}
use Rattle.std.specs.FinMap as map
use Rattle.be_value.specs.declared.values.Kind.{Kind}
use Rattle.be_value.specs.declared.values.Value.{Value}
use Rattle.be_volume.specs.Indices.{with_pair}
use Rattle.be_volume.specs.Maps.{with_attribute}
use Rattle.be_volume.specs.Volume.{State}

-- the volume with an index that has no pairs
abbrev pub with_index : State → List ℕ → Kind → State
with_index volume name kind = record {
  next = volume.next;
  nodes = volume.nodes;
  indices = map.insert volume.indices name (record { kind = kind; pairs = map.empty });
}

-- the volume with a node that has no attributes, and whose number is the last one
abbrev pub with_node : State → ℕ → State
with_node volume node = record {
  next = node + 1;
  nodes = map.insert volume.nodes node map.empty;
  indices = volume.indices;
}

-- the volume with an attribute of a node, which the index of its name has if it is held
abbrev pub with_held : State → ℕ → List ℕ → Value → (held : Bool) → State
with_held volume node name value held = record {
  next = volume.next;
  nodes = with_attribute volume.nodes node name value;
  indices = if held then with_pair volume.indices name node value else volume.indices;
}

-- the volume with another next number
abbrev pub with_next : State → ℕ → State
with_next volume next = record { next = next; nodes = volume.nodes; indices = volume.indices }
