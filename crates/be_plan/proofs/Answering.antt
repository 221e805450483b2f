-- If its picks cover the query, a walk collects exactly the scan.
use Rattle.std.proofs.Common.{◌≡◌, ◌<◌, ◌+◌, IsTrue, ℕ, zero, suc, slice_index, Bool, true, false, List, [], ◌∷◌, length, nat_eq, refl, sym, ap, ◌∙◌, arith, Some, None, filter, is_some, if◌then◌else◌}
use Rattle.std.specs.Prelude.{slice_get}
use Rattle.std.specs.List.{Contains, list_any, list_all}
use Rattle.std.specs.List.Sorted.{IsStrictlyIncreasing}
use Rattle.std.specs.Option.{option_map_or, option_and_then}
use Rattle.std.specs.FinMap as map
use Rattle.std.specs.declared.option.Option.{Option}
use Rattle.std.specs.declared.result.Result.TheVariants.{Ok, Err}
use Rattle.be_value.specs.declared.refusals.Refusal.TheVariants.{NotCovered}
use Rattle.be_value.specs.declared.values.Value.{Value}
use Rattle.be_query.specs.Grammar.{Formula, Leaf, And, Or, comparisons}
use Rattle.be_volume.specs.Maps.{Attributes}
use Rattle.be_volume.specs.Query.{covered, holds, sat, sees, seen_in, scan, has_index}
use Rattle.be_volume.specs.Reading.{attribute}
use Rattle.be_volume.specs.Volume.{State}
use Rattle.be_volume.specs.declared.maps.Index.{Index}
use Rattle.be_plan.specs.Cover.{leaves, covers, covers_part, rests_on}
use Rattle.be_volume.specs.Sound.{IsSound, IsPaired}
use Rattle.be_plan.specs.Walk.{HasReached}
use Rattle.be_plan.specs.Covering.{IsPart}
use Rattle.be_plan.proofs.Ways.{Way, way, is_covered, or_cases, and_first, and_second, nat_is}
use Rattle.be_plan.proofs.Rising.{in_by_place, contains_of_is_in, same_rising, in_filter, from_filter, rises_filter, rises_increasing, rises_keys}

-- A node with an attribute exists.
pub has_attribute : (s : State) (node : ℕ) (name : List ℕ) (value : Value) → attribute s node name ≡ Some value → map.contains_key s.nodes node ≡ true
has_attribute s node name value h = by (map.get s.nodes node) h
  where
    by : (found : Option Attributes) → option_and_then (λ attributes. map.get attributes name) found ≡ Some value → is_some found ≡ true
    by None e = cc
    by (Some a) e = refl

-- A node for which a name sees a value exists.
seen_there : (s : State) → IsSound s → (node : ℕ) (name : List ℕ) (value : Value) → sees s node name ≡ Some value → map.contains_key s.nodes node ≡ true
seen_there s sound node name value seen = by (map.get s.indices name) refl seen
  where
    by : (i : Option Index) → map.get s.indices name ≡ i → seen_in i (attribute s node name) node ≡ Some value → map.contains_key s.nodes node ≡ true
    by None e t = has_attribute s node name value t
    by (Some index) e t =
        let p : IsPaired s name index.kind node value = sound.pairs name index node value e t in
        has_attribute s node name value p.attribute_is

-- A node that satisfies a formula exists.
pub true_there : (s : State) → IsSound s → (f : Formula) (n : ℕ) → sat s f n ≡ true → map.contains_key s.nodes n ≡ true
true_there s sound (Leaf name op literal) n h = by (sees s n name) refl h
  where
    by : (o : Option Value) → sees s n name ≡ o → option_map_or (λ value. holds op value literal) o false ≡ true → map.contains_key s.nodes n ≡ true
    by None e t = cc
    by (Some value) e t = seen_there s sound n name value e
true_there s sound (And a b) n h = true_there s sound a n (and_first (sat s a n) (sat s b n) h)
true_there s sound (Or a b) n h = or_cases (sat s a n) (sat s b n) h (map.contains_key s.nodes n ≡ true) (true_there s sound a n) (true_there s sound b n)

-- All nodes that match a covered query, in order, are its scan.
pub found_all : (s : State) (f : Formula) (found : List ℕ) → IsSound s → covered s f ≡ true → IsStrictlyIncreasing found →
    ((n : ℕ) → Contains found n → sat s f n ≡ true) → ((n : ℕ) → sat s f n ≡ true → Contains found n) → scan s f ≡ Ok found
found_all s f found sound rests rising only has =
    ap (λ b. if b then Ok (filter (sat s f) (map.keys s.nodes)) else Err NotCovered) rests
    ∙ ap Ok (same_rising (filter (sat s f) (map.keys s.nodes)) found (rises_filter (sat s f) (map.keys s.nodes) (rises_keys s.nodes)) (rises_increasing found rising)
    (λ n h. in_by_place found n (has n (from_filter (sat s f) (map.keys s.nodes) n h).1))
    (λ n h.
    let holds_n : sat s f n ≡ true = only n (contains_of_is_in found n h) in
    in_filter (sat s f) (map.keys s.nodes) n (sym (map.contains_key-keys s.nodes n) ∙ true_there s sound f n holds_n) holds_n))

-- Every node that matches the query is reached through one of the picks that cover it.
pub all_reached : (s : State) (f : Formula) (picks found : List ℕ) → covers_part picks 0 f ≡ true → ((p : ℕ) → list_any (nat_eq p) picks ≡ true → HasReached s f p found) →
    (n : ℕ) → sat s f n ≡ true → Contains found n
all_reached s f picks found covers reached n h =
    let part : IsPart f 0 f = λ i lt. let e : 0 + i ≡ i = omega arith in ap (slice_get (leaves f)) e in
    let w : Way s picks f n 0 f = way s n picks f 0 f part covers h in
    reached w.pick w.is_pick n (record { picked = w.picked; there = w.there; value = w.value; seen = w.seen; allows = w.allows w.picked.name w.value w.seen }) h

-- If picks cover a query, the indices cover it.
pub covered_by : (s : State) (f : Formula) (picks : List ℕ) → list_all (rests_on (has_index s) f) picks ≡ true → covers_part picks 0 f ≡ true → covered s f ≡ true
covered_by s f picks rest covers =
    let part : IsPart f 0 f = λ i lt. let e : 0 + i ≡ i = omega arith in ap (slice_get (leaves f)) e in
    is_covered s picks f rest 0 f part covers

-- What holds for every element holds for the element at this position.
pub at_place : (p : ℕ → Bool) (picks : List ℕ) (k : ℕ) → list_all p picks ≡ true → k < length picks → p (slice_index picks k) ≡ true
at_place p [] k h lt = absurd (omega arith)
at_place p (x ∷ picks) zero h lt = and_first (p x) (list_all p picks) h
at_place p (x ∷ picks) (suc k) h lt = at_place p picks k (and_second (p x) (list_all p picks) h) (omega arith)

-- The position of a pick in the list.
pub pick_place : (picks : List ℕ) (p : ℕ) → list_any (nat_eq p) picks ≡ true → (k : ℕ) × k < length picks × slice_index picks k ≡ p
pick_place [] p h = cc
pick_place (x ∷ picks) p h =
    or_cases (nat_eq p x) (list_any (nat_eq p) picks) h ((k : ℕ) × k < length (x ∷ picks) × slice_index (x ∷ picks) k ≡ p)
    (λ e. (0, omega arith, sym (nat_is p x e)))
    (λ e. let later : (k : ℕ) × k < length picks × slice_index picks k ≡ p = pick_place picks p e in (suc later.0, omega (arith, later.1), later.2))

-- An empty list of picks covers nothing.
pub some_pick : (picks : List ℕ) (at : ℕ) (f : Formula) → covers_part picks at f ≡ true → 0 < length picks
some_pick [] at f h = absurd (nothing at f h)
  where
    nothing : (at : ℕ) (f : Formula) → covers_part [] at f ≡ true → ⊥
    nothing at (Leaf name op literal) h = cc
    nothing at (And a b) h = or_cases (covers_part [] at a) (covers_part [] (at + comparisons a) b) h ⊥ (nothing at a) (nothing (at + comparisons a) b)
    nothing at (Or a b) h = nothing at a (and_first (covers_part [] at a) (covers_part [] (at + comparisons a) b) h)
some_pick (x ∷ picks) at f h = omega arith

-- What it means that picks cover a query, with other names for the picks and the query.
pub covers_parts : (s : State) (picks ps : List ℕ) (f h : Formula) → picks ≡ ps → f ≡ h → IsTrue (covers (has_index s) picks f) →
    (list_all (rests_on (has_index s) h) ps ≡ true) × (covers_part ps 0 h ≡ true)
covers_parts s picks ps f h e d c =
    let all : covers (has_index s) ps h ≡ true = ap (λ p. covers (has_index s) p h) (sym e) ∙ ap (λ g. covers (has_index s) picks g) (sym d) ∙ c in
    (and_first (list_all (rests_on (has_index s) h) ps) (covers_part ps 0 h) all, and_second (list_all (rests_on (has_index s) h) ps) (covers_part ps 0 h) all)
