-- Facts about a sound volume.
use Rattle.std.proofs.Common.{◌≡◌, ℕ, refl, List, [], ◌∷◌, Some, None, Ok, is_some, ap, arith}
use Rattle.std.specs.declared.option.Option.{Option}
use Rattle.std.specs.FinMap as fin
use Rattle.be_value.specs.Name.{name_from}
use Rattle.be_volume.specs.Maps.{Attributes}
use Rattle.be_volume.specs.Volume.{State}
use Rattle.be_volume.specs.Sound.{IsSound}
use Rattle.be_paged_reading.specs.Reading.{AreValid}

pub values_valid : (s : State) → IsSound s → AreValid s.nodes
values_valid s sound node name value e = sound.attributes node name value e

-- The next node doesn't exist yet.
pub none_at_next : (s : State) → IsSound s → fin.get s.nodes s.next ≡ None
none_at_next s sound = by (fin.get s.nodes s.next) refl
  where
    by : (a : Option Attributes) → fin.get s.nodes s.next ≡ a → a ≡ None
    by None e = refl
    by (Some a) e = absurd (omega (arith, sound.nodes s.next (ap is_some e)))

-- A name isn't empty.
pub named : (name : List ℕ) → name_from name ≡ Ok name → name ≡ [] → ⊥
named [] valid e = cc
named (c ∷ name) valid e = cc
