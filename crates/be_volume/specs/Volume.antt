-- A volume, and how each operation changes it.
use Rattle.std.specs.Prelude.{◌≡◌, ◌⊎◌, ℕ, ◌+◌, not, ◌&&◌, nat_le, if◌then◌else◌, refl, List, []}
use Rattle.std.specs.Prelude.{◌∷◌, ◌++◌, fold, IsOk}
use Rattle.std.specs.Result.{result_map_both}
use Rattle.std.specs.Coded.{Coded, code_by, coded_ℕ, coded×}
use Rattle.std.specs.FinMap as map
use Rattle.std.specs.declared.result.Result.{Result}
use Rattle.std.specs.declared.result.Result.TheVariants.{Ok, Err}
use Rattle.be_value.specs.Value.{is_indexable}
use Rattle.be_value.specs.declared.refusals.Refusal.{Refusal}
use Rattle.be_value.specs.declared.refusals.Refusal.TheVariants.{NoNode, NoAttr, NoSuchIndex}
use Rattle.be_value.specs.declared.refusals.Refusal.TheVariants.{TooManyAttrs, IndexExists}
use Rattle.be_value.specs.declared.refusals.Refusal.TheVariants.{TooManyIndices, NotIndexable}
use Rattle.be_value.specs.declared.refusals.Refusal.TheVariants.{OutOfMemory}
use Rattle.be_volume.specs.Maps.{Nodes, attributes_of, with_attribute, coded_nodes}
use Rattle.be_volume.specs.Indices.{Indices, coded_indices, with_pair, without_pair, without_node}
use Rattle.be_volume.specs.declared.ops.Op.{Op}
use Rattle.be_volume.specs.declared.ops.Op.TheVariants.{New, Set, MkIndex, Drop, Unset, RmIndex}
use Rattle.be_volume.specs.declared.ops.Done.{Done}
use Rattle.be_volume.specs.declared.ops.Done.TheVariants.{Node, Unit as Nothing}

-- The number of the next new node, the attributes of each node, and the indices.
pub record State : Type 0 where
  pub next : ℕ
  pub nodes : Nodes
  pub indices : Indices

abbrev pub coded_state : Coded State
coded_state = code_by _ (coded× coded_ℕ (coded× coded_nodes coded_indices))
    (λ s. (s.next, (s.nodes, s.indices)))
    (λ p. record { next = p.0; nodes = p.1.0; indices = p.1.1 }) (λ _. refl)

-- a volume before any operation
abbrev pub empty : State
empty = record { next = 1; nodes = map.empty; indices = map.empty }

-- An operation's outcome and the state after it, or its first error.
abbrev pub step : State → Op → Result (State × Done) Refusal
step s New = Ok (
  record {
    next = s.next
        + 1;
    nodes = map.insert s.nodes s.next map.empty;
    indices = s.indices;
  },
  Node s.next,
)
step s (Set node name value) =
    if not (map.contains_key s.nodes node) then Err NoNode
    else if not (map.contains_key (attributes_of s.nodes node) name)
    && nat_le 64 (map.len (attributes_of s.nodes node)) then Err TooManyAttrs
    else Ok (
      record {
        next = s.next;
        nodes = with_attribute s.nodes node name value;
        indices = with_pair s.indices name node value;
      },
      Nothing,
    )
step s (MkIndex name kind) =
    if map.contains_key s.indices name then Err IndexExists
    else if nat_le 32 (map.len s.indices) then Err TooManyIndices
    else if not (is_indexable kind) then Err NotIndexable
    else Ok (
      record {
        next = s.next;
        nodes = s.nodes;
        indices = map.insert s.indices name (record { kind = kind; pairs = map.empty });
      },
      Nothing,
    )
step s (Drop node) =
    if not (map.contains_key s.nodes node) then Err NoNode
    else Ok (
      record {
        next = s.next;
        nodes = map.remove s.nodes node;
        indices = without_node s.indices node;
      },
      Nothing,
    )
step s (Unset node name) =
    if not (map.contains_key s.nodes node) then Err NoNode
    else if not (map.contains_key (attributes_of s.nodes node) name) then Err NoAttr
    else Ok (
      record {
        next = s.next;
        nodes = map.insert s.nodes node
            (map.remove (attributes_of s.nodes node) name);
        indices = without_pair s.indices name node;
      },
      Nothing,
    )
step s (RmIndex name) =
    if not (map.contains_key s.indices name) then Err NoSuchIndex
    else Ok (
      record { next = s.next; nodes = s.nodes; indices = map.remove s.indices name },
      Nothing,
    )

-- one more operation, after those that were accepted
abbrev pub advance : Result (State × List Done) Refusal → Op → Result (State × List Done) Refusal
advance (Err e) op = Err e
advance (Ok reached) op = result_map_both (λ answer. (answer.0, reached.1 ++ answer.1 ∷ []))
    (λ e. e) (step reached.0 op)

-- The outcomes of operations and the state after them, or the error of the first that is refused.
abbrev pub steps : State → List Op → Result (State × List Done) Refusal
steps s ops = fold advance (Ok (s, [])) ops

-- A list of operations is accepted if the steps accept it, and leads to the state after them.
-- Otherwise nothing changes, and the error is that of the steps, or OutOfMemory if they accept.
abbrev pub Writes : {X : Type 0} → (X → List Done) → State → List Op → Result X Refusal → State
    → Type 0
Writes outcomes_of old ops (Ok answer) new = steps old ops ≡ Ok (new, outcomes_of answer)
Writes outcomes_of old ops (Err e) new = (new ≡ old)
    × (((e ≡ OutOfMemory) × IsOk (steps old ops)) ⊎ (steps old ops ≡ Err e))

-- As in `Writes`, but without memory limits: if the steps accept the list, it is accepted and leads
-- to the state after them; otherwise its error is theirs, and nothing changes.
abbrev pub Replays : {X : Type 0} → (X → List Done) → State → List Op → Result X Refusal → State
    → Type 0
Replays outcomes_of old ops (Ok answer) new = steps old ops ≡ Ok (new, outcomes_of answer)
Replays outcomes_of old ops (Err e) new = (new ≡ old) × (steps old ops ≡ Err e)
