-- The errors after which a builder takes more.
use Rattle.std.proofs.Common.{◌≡◌, ◌⊎◌, ℕ, List, Bool, inl, inr}
use Rattle.be_paged_building.specs.Building.{IsNoRoom}
use Rattle.be_paged_building.specs.Errors.{AttributeError, FinishError, HeldError, IndexError, NodeError}
use Rattle.be_store_building.specs.Failing.{IsLast}
use Rattle.be_value.specs.declared.refusals.Refusal.{Refusal}
use Rattle.be_value.specs.declared.refusals.Refusal.TheVariants.{Full, IndexExists, NoAttr, NoNode, NoSuchIndex, NotIndexable, OutOfMemory, TooManyAttrs, TooManyIndices}
use Rattle.be_value.specs.declared.values.Kind.{Kind}
use Rattle.be_value.specs.declared.values.Value.{Value}
use Rattle.be_volume.specs.Volume.{State}

no_node : {e : Refusal} → e ≡ NoNode → IsLast e → ⊥
no_node is (inl last) = cc
no_node is (inr last) = let f = last.1 in cc

no_kind : {e : Refusal} → e ≡ NotIndexable → IsLast e → ⊥
no_kind is (inl last) = cc
no_kind is (inr last) = let f = last.1 in cc

pub index_mild : (volume : State) (name : List ℕ) (kind : Kind) (e : Refusal) → IndexError volume name kind e → IsLast e → ⊥
index_mild volume name kind e (inl late) last = no_node late.1 last
index_mild volume name kind e (inr (none, inl fits)) last = no_kind fits.1 last
index_mild volume name kind e (inr (none, inr (fits, inl few))) last = many few.1 last
  where
    many : e ≡ TooManyIndices → IsLast e → ⊥
    many is (inl other) = cc
    many is (inr other) = let f = other.1 in cc
index_mild volume name kind e (inr (none, inr (fits, inr (few, above)))) last = there above.1 last
  where
    there : e ≡ IndexExists → IsLast e → ⊥
    there is (inl other) = cc
    there is (inr other) = let f = other.1 in cc

pub node_mild : (volume : State) (node : ℕ) (e : Refusal) → NodeError volume node e → IsLast e → ⊥
node_mild volume node e error last = no_node error.1 last

held_mild : (volume : State) (name : List ℕ) (value : Value) (e : Refusal) → HeldError volume name value e → IsLast e → ⊥
held_mild volume name value e (inl none) last = no_index none.1 last
  where
    no_index : e ≡ NoSuchIndex → IsLast e → ⊥
    no_index is (inl other) = cc
    no_index is (inr other) = let f = other.1 in cc
held_mild volume name value e (inr (there, kind)) last = no_kind kind.1 last

pub attribute_mild : (volume : State) (node : ℕ) (name : List ℕ) (value : Value) (held : Bool) (e : Refusal) → AttributeError volume node name value held e → IsLast e → ⊥
attribute_mild volume node name value held e (inl none) last = no_node none.1 last
attribute_mild volume node name value held e (inr (there, inl few)) last = many few.1 last
  where
    many : e ≡ TooManyAttrs → IsLast e → ⊥
    many is (inl other) = cc
    many is (inr other) = let f = other.1 in cc
attribute_mild volume node name value held e (inr (there, inr (few, inl above))) last = no_attribute above.1 last
  where
    no_attribute : e ≡ NoAttr → IsLast e → ⊥
    no_attribute is (inl other) = cc
    no_attribute is (inr other) = let f = other.1 in cc
attribute_mild volume node name value held e (inr (there, inr (few, inr (above, wrong)))) last = held_mild volume name value e wrong.1 last

-- after OutOfMemory or Full, building can't go on
pub memory_last : (e : Refusal) → e ≡ OutOfMemory → IsLast e
memory_last e is = inl is

pub room_last : (full : ℕ → Type 0) (large : Type 0) (e : Refusal) → IsNoRoom full large e → IsLast e
room_last full large e (inl memory) = inl memory
room_last full large e (inr none) = inr (none.0.0, none.0.1)
