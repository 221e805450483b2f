-- A builder that has been given nothing.
use Rattle.std.proofs.Common.{◌≡◌, ℕ, List, [], ◌∷◌, All, None, length, unwrap_or, ap, sym, subst, ◌∙◌, refl, arith}
use Rattle.std.proofs.lemmas.List.Elements.{All-nil}
use Rattle.std.specs.Option.{option_and_then, option_map}
use Rattle.std.specs.Ordering.{nat_cmp}
use Rattle.std.specs.declared.option.Option.{Option}
use Rattle.std.specs.FinMap as fin
use Rattle.be_paged_building.specs.Building.{AreCollected}
use Rattle.be_paged_reading.specs.Catalog.{IsCatalog, IsCatalogKey, payload_of, stored}
use Rattle.be_paged_reading.specs.Entry.{Entry}
use Rattle.be_value.specs.declared.values.Value.{Value}
use Rattle.be_volume.specs.Maps.{Attributes, attributes_of, name_cmp}
use Rattle.be_volume.specs.Sound.{IsName}
use Rattle.be_volume.specs.declared.maps.Index.{Index}

none_stored : (node : ℕ) (name : List ℕ) → stored fin.empty node name ≡ None
none_stored node [] = ap (option_map (λ (a : Attributes). [])) (fin.get-empty nat_cmp node)
none_stored node (c ∷ name) = ap (λ (a : Option Attributes). option_map payload_of (option_and_then (λ (attributes : Attributes). fin.get attributes (c ∷ name)) a)) (fin.get-empty nat_cmp node)

pub begun_catalog : IsCatalog [] fin.empty
begun_catalog = record { each = λ node name fits. sym (none_stored node name); only = All-nil (λ pair. IsCatalogKey pair.key) }

pub no_attributes : attributes_of fin.empty 0 ≡ fin.empty
no_attributes = ap (λ (a : Option Attributes). unwrap_or a fin.empty) (fin.get-empty nat_cmp 0)

pub nothing_count : 0 ≡ fin.len (attributes_of fin.empty 0)
nothing_count = sym (ap fin.len no_attributes ∙ fin.len-empty name_cmp Value)

no_items : {A : Type 0} (xs : List A) → length xs ≡ 0 → xs ≡ []
no_items [] h = refl
no_items (x ∷ xs) h = absurd (omega arith)

pub begun_indices : (es : List Entry) (ks : List (List (List ℕ))) → es ≡ [] → ks ≡ [] → AreCollected es ks (fin.entries (fin.empty {X = Index} {R = name_cmp}))
begun_indices es ks none nothing =
    let is : fin.entries (fin.empty {X = Index} {R = name_cmp}) ≡ [] = no_items (fin.entries (fin.empty {X = Index} {R = name_cmp})) (sym (fin.len-entries (fin.empty {X = Index} {R = name_cmp})) ∙ fin.len-empty name_cmp Index) in
    subst (λ xs. AreCollected xs ks (fin.entries (fin.empty {X = Index} {R = name_cmp}))) (sym none)
    (subst (λ ys. AreCollected [] ys (fin.entries (fin.empty {X = Index} {R = name_cmp}))) (sym nothing) (subst (AreCollected [] []) (sym is) tt))

pub begun_names : (es : List Entry) → es ≡ [] → All (λ entry. IsName entry.name) es
begun_names es none = subst (All (λ entry. IsName entry.name)) (sym none) (All-nil (λ entry. IsName entry.name))
