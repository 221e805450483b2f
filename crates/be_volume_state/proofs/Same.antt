-- Volumes with the same observations are equal.
use Rattle.std.proofs.Common.{◌≡◌, ℕ, List, refl, ap, Some, None, is_some}
use Rattle.std.proofs.lemmas.Option.{same_Some}
use Rattle.std.specs.Option.{option_and_then, option_map}
use Rattle.std.specs.Cmp.{nat_cmp_total}
use Rattle.std.specs.declared.option.Option.{Option}
use Rattle.std.specs.FinMap as fin
use Rattle.std.specs.FinMap.{nat_cmp-IsAntisymmetric}
use Rattle.be_volume.specs.Maps.{Attributes}
use Rattle.be_volume.specs.Reading.{attribute, index_kind}
use Rattle.be_volume.specs.Volume.{State}
use Rattle.be_volume.specs.declared.maps.Index.{Index}
use Rattle.be_volume.proofs.MapLemmas.{names_total, exact_names}
use Rattle.be_volume_state.specs.Rebuilding.{pair_at}

same_attributes : (x y : Option Attributes) → is_some x ≡ is_some y →
    ((q : List ℕ) → option_and_then (λ (a : Attributes). fin.get a q) x ≡ option_and_then (λ (a : Attributes). fin.get a q) y) → x ≡ y
same_attributes None None h f = refl
same_attributes None (Some b) h f = cc
same_attributes (Some a) None h f = cc
same_attributes (Some a) (Some b) h f = ap Some (fin.same_map names_total exact_names a b f)

same_parts : (i j : Index) → i.kind ≡ j.kind → i.pairs ≡ j.pairs → i ≡ j
same_parts i j k p = λ z. record { kind = k z; pairs = p z }

same_index : (x y : Option Index) → option_map (λ (i : Index). i.kind) x ≡ option_map (λ (i : Index). i.kind) y →
    ((m : ℕ) → option_and_then (λ (i : Index). fin.get i.pairs m) x ≡ option_and_then (λ (i : Index). fin.get i.pairs m) y) → x ≡ y
same_index None None h f = refl
same_index None (Some j) h f = cc
same_index (Some i) None h f = cc
same_index (Some i) (Some j) h f = ap Some (same_parts i j (same_Some _ _ h) (fin.same_map nat_cmp_total nat_cmp-IsAntisymmetric i.pairs j.pairs f))

pub same_volume : (t s : State) → t.next ≡ s.next → ((m : ℕ) → fin.contains_key t.nodes m ≡ fin.contains_key s.nodes m) →
    ((m : ℕ) (q : List ℕ) → attribute t m q ≡ attribute s m q) → ((q : List ℕ) → index_kind t q ≡ index_kind s q) →
    ((q : List ℕ) (m : ℕ) → pair_at t q m ≡ pair_at s q m) → t ≡ s
same_volume t s next there attributes kinds pairs =
    let nodes : t.nodes ≡ s.nodes = fin.same_map nat_cmp_total nat_cmp-IsAntisymmetric t.nodes s.nodes (λ m. same_attributes (fin.get t.nodes m) (fin.get s.nodes m) (there m) (attributes m)) in
    let indices : t.indices ≡ s.indices = fin.same_map names_total exact_names t.indices s.indices (λ q. same_index (fin.get t.indices q) (fin.get s.indices q) (kinds q) (pairs q)) in
    λ z. record { next = next z; nodes = nodes z; indices = indices z }
