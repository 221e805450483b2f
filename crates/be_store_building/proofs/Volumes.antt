-- A volume keeps its numbers while it is given.
use Rattle.std.proofs.Common.{◌≡◌, ℕ, ◌+◌, ◌<◌, ◌≤◌, List, Bool, true, false, is_some, refl, sym, ap, ◌∙◌, arith}
use Rattle.std.specs.Cmp.{nat_cmp_total}
use Rattle.std.specs.FinMap as fin
use Rattle.std.specs.FinMap.{nat_cmp-IsAntisymmetric}
use mathlib.Core.Bool.{false≢true}
use Rattle.be_paged_building.specs.Building.{MayBeNode, MayHave}
use Rattle.be_paged_building.specs.Given.{with_held, with_index, with_next, with_node}
use Rattle.be_paged_reading.proofs.CatalogPairs.Items.{get_other}
use Rattle.be_value.specs.declared.values.Kind.{Kind}
use Rattle.be_value.specs.declared.values.Value.{Value}
use Rattle.be_volume.specs.Maps.{attributes_of}
use Rattle.be_volume.specs.Volume.{State}
use Rattle.be_volume_state.specs.Rebuilding.{IsNumbered}

pub index_numbered : (volume : State) (name : List ℕ) (kind : Kind) → IsNumbered volume → IsNumbered (with_index volume name kind)
index_numbered volume name kind is = record { begins = is.begins; no_zero = is.no_zero }

pub node_numbered : (volume : State) (node : ℕ) → IsNumbered volume → MayBeNode volume node → IsNumbered (with_node volume node)
node_numbered volume node is may = record {
  begins = omega arith;
  no_zero = ap is_some (get_other nat_cmp_total nat_cmp-IsAntisymmetric volume.nodes node fin.empty 0 (λ e. absurd (omega (arith, e, is.begins, may.0)))) ∙ is.no_zero;
}

pub held_numbered : (volume : State) (node : ℕ) (name : List ℕ) (value : Value) (held : Bool) → IsNumbered volume → MayHave volume node name value held → IsNumbered (with_held volume node name value held)
held_numbered volume node name value held is may = record {
  begins = is.begins;
  no_zero = ap is_some (get_other nat_cmp_total nat_cmp-IsAntisymmetric volume.nodes node (fin.insert (attributes_of volume.nodes node) name value) 0
      (λ e. false≢true (sym is.no_zero ∙ ap (fin.contains_key volume.nodes) e ∙ may.there))) ∙ is.no_zero;
}

pub next_numbered : (volume : State) (next : ℕ) → IsNumbered volume → volume.next ≤ next → IsNumbered (with_next volume next)
next_numbered volume next is more = record { begins = omega (arith, is.begins, more); no_zero = is.no_zero }
