-- Which nodes operations change.
use Rattle.std.specs.Prelude.{◌≡◌, ◌<◌, ℕ, true, false, List, length, get_or, Some, None}
use Rattle.std.specs.Option.{option_map_or}
use Rattle.std.specs.declared.option.Option.{Option}
use Rattle.be_journal.specs.declared.entries.Entry.{Entry}
use Rattle.be_volume.specs.declared.ops.Done.{Done}
use Rattle.be_volume.specs.declared.ops.Done.TheVariants.{Node, Unit as Nothing}
use Rattle.be_volume.specs.declared.ops.Op.{Op}
use Rattle.be_volume.specs.declared.ops.Op.TheVariants.{New, Drop, Set, Unset, MkIndex, RmIndex}
use Rattle.be_store.specs.Live.{is_among}

-- The node in an outcome.
abbrev pub node_made : Done → Option ℕ
node_made (Node node) = Some node
node_made Nothing = None

-- The node that an operation changes, which for a new node comes from the outcome. Operations on an
-- index change no node.
abbrev pub node_named : Op → Done → Option ℕ
node_named New done = node_made done
node_named (Drop node) done = Some node
node_named (Set node name value) done = Some node
node_named (Unset node name) done = Some node
node_named (MkIndex name kind) done = None
node_named (RmIndex name) done = None

-- An operation with this outcome changes one of these nodes.
abbrev pub IsNamedAmong : List ℕ → Op → Done → Type 0
IsNamedAmong nodes op done = option_map_or (is_among nodes) (node_named op done) false ≡ true

-- Each of the operations, with its outcome, changes one of these nodes.
abbrev pub AreNamedAmong : List ℕ → List Op → List Done → Type 0
AreNamedAmong nodes ops dones = (k : ℕ) (op : Op) (done : Done) → k < length ops
    → op ≡ get_or ops k op → done ≡ get_or dones k done → IsNamedAmong nodes op done

-- Each operation of the entry changes one of these nodes.
abbrev pub NamesAmong : List ℕ → Entry → Type 0
NamesAmong nodes entry = AreNamedAmong nodes entry.ops entry.dones
