-- Whether a node exists and how many attributes it has, determined by a walk from its mark.
use Rattle.std.proofs.Common.{◌≡◌, ℕ, zero, ◌<◌, ◌≤◌, ◌^◌, Bool, true, false, cond, List, [], ◌∷◌, length, drop, All, Some, None, ap, sym, subst, ◌∙◌, refl, arith, is_some, unwrap_or}
use Rattle.std.specs.Int.{to_be_bytes, w64}
use Rattle.std.specs.List.{slice_get}
use Rattle.std.specs.Option.{option_map}
use Rattle.std.specs.Ordering.{is_eq}
use Rattle.std.specs.Cmp.{tied_itself}
use Rattle.std.specs.declared.cmp.Ordering.{Ordering}
use Rattle.std.specs.declared.cmp.Ordering.TheVariants.{Less, Equal, Greater}
use Rattle.std.specs.declared.option.Option.{Option}
use Rattle.std.specs.FinMap as fin
use Rattle.be_tree_reading.specs.Pair.{Pair}
use Rattle.be_tree_reading.specs.Key.{key_cmp, payload_at, IsRising}
use Rattle.be_tree_reading.specs.Range.{is_from, pairs_from}
use Rattle.be_tree_reading.proofs.Order.{key_exact, key_total, AllAbove_trans, payload_at_above}
use Rattle.be_tree_reading.proofs.Ranges.{from_equal, from_less}
use Rattle.be_volume.specs.Maps.{Nodes, Attributes, attributes_of, name_cmp}
use Rattle.be_volume.specs.Sound.{IsSound}
use Rattle.be_volume.specs.Volume.{State}
use Rattle.be_value.specs.declared.values.Value.{Value}
use Rattle.be_paged_reading.specs.Catalog.{IsCatalog, IsCatalogKey}
use Rattle.be_paged_reading.specs.Facts.{count_of}
use Rattle.be_paged_reading.specs.Reading.{AreValid, front_of_node}
use Rattle.be_paged_reading.proofs.Asking.SourceKeys.{beyond_next}
use Rattle.be_paged_reading.proofs.Asking.Walks.{counted}
use Rattle.be_paged_reading.proofs.CatalogPairs.FactValues.{node_there}
use Rattle.be_paged_reading.proofs.CatalogPairs.Segments.{all_from, payload_from, rising_from}

never : {A : Type 0} → false ≡ true → A
never e = cc

same_some : {A : Type 0} (a b : A) → Some a ≡ Some b → a ≡ b
same_some a b e = cc

none_some : {A B : Type 0} (x : B) → None ≡ Some x → A
none_some x e = absurd (clash e)
  where
    clash : None ≡ Some x → ⊥
    clash e = cc

tied : (o : Ordering) → is_eq o ≡ true → o ≡ Equal
tied Less e = cc
tied Equal e = refl
tied Greater e = cc

absent : (nodes : Nodes) (node : ℕ) → fin.contains_key nodes node ≡ false → None ≡ count_of nodes node
absent nodes node = by (fin.get nodes node)
  where
    by : (a : Option Attributes) → is_some a ≡ false → None ≡ option_map (λ (b : Attributes). fin.len b) a
    by None h = refl
    by (Some a) h = never (sym h)

present : (nodes : Nodes) (node count : ℕ) → fin.contains_key nodes node ≡ true → count ≡ fin.len (attributes_of nodes node) → Some count ≡ count_of nodes node
present nodes node count = by (fin.get nodes node)
  where
    by : (a : Option Attributes) → is_some a ≡ true → count ≡ fin.len (unwrap_or a fin.empty) → Some count ≡ option_map (λ (b : Attributes). fin.len b) a
    by None h e = never h
    by (Some a) h e = ap Some e

-- The count for a node says whether the node exists, and how many attributes it has.
pub count_there : (nodes : Nodes) (node : ℕ) → is_some (count_of nodes node) ≡ fin.contains_key nodes node
count_there nodes node = by (fin.get nodes node)
  where
    by : (a : Option Attributes) → is_some (option_map (λ (b : Attributes). fin.len b) a) ≡ is_some a
    by None = refl
    by (Some a) = refl

pub count_all : (nodes : Nodes) (node : ℕ) → unwrap_or (count_of nodes node) 0 ≡ fin.len (attributes_of nodes node)
count_all nodes node = by (fin.get nodes node)
  where
    by : (a : Option Attributes) → unwrap_or (option_map (λ (b : Attributes). fin.len b) a) 0 ≡ fin.len (unwrap_or a fin.empty)
    by None = sym (fin.len-empty name_cmp Value)
    by (Some a) = refl

-- A number that hasn't been assigned yet belongs to no node.
pub uncounted : (s : State) (node next : ℕ) → IsSound s → next ≡ s.next → next ≤ node → None ≡ count_of s.nodes node
uncounted s node next sound same past = absent s.nodes node (by (fin.contains_key s.nodes node) refl)
  where
    by : (b : Bool) → fin.contains_key s.nodes node ≡ b → b ≡ false
    by true e = absurd (omega (arith, sound.nodes node e, same, past))
    by false e = refl

-- If a node was counted as having no attributes, it has none.
pub bare_counted : (s : State) (node : ℕ) (count : Option ℕ) → count ≡ count_of s.nodes node → unwrap_or count 0 ≡ 0 → fin.len (attributes_of s.nodes node) ≡ 0
bare_counted s node count is none = sym (count_all s.nodes node) ∙ ap (λ (n : Option ℕ). unwrap_or n 0) (sym is) ∙ none

module _ (ps : List Pair) (nodes : Nodes) (node : ℕ) (mark : List ℕ) (fits : node < 2 ^ 64) (is_mark : mark ≡ to_be_bytes w64 node) (rising : IsRising ps) (catalog : IsCatalog ps nodes) where
  marked : (now : List Pair) → now ≡ pairs_from ps mark false → is_some (payload_at now mark) ≡ fin.contains_key nodes node
  marked now lies = ap (λ (xs : List Pair). is_some (payload_at xs mark)) lies
      ∙ ap is_some (payload_from mark mark false ps ∙ ap (λ b. cond b (payload_at ps mark) None) (from_equal mark false mark (tied_itself key_total mark)))
      ∙ node_there ps nodes node mark catalog fits is_mark

  -- There is no pair at or after the mark.
  pub none_at_end : (now : List Pair) → now ≡ pairs_from ps mark false → now ≡ [] → None ≡ count_of nodes node
  none_at_end now lies empty = absent nodes node (sym (marked now lies) ∙ ap (λ (xs : List Pair). is_some (payload_at xs mark)) empty)

  -- The first pair at or after the mark has another key.
  pub none_elsewhere : (now : List Pair) (x : Pair) (same : Bool) → now ≡ pairs_from ps mark false → slice_get now 0 ≡ Some x → same ≡ is_eq (key_cmp x.key mark) → same ≡ false → None ≡ count_of nodes node
  none_elsewhere [] x same lies first is other = none_some x first
  none_elsewhere (y ∷ ys) x same lies first is other =
      absent nodes node (sym (marked (y ∷ ys) lies) ∙ ap is_some (payload_at_above mark (y ∷ ys) (greater, AllAbove_trans y.key mark ys greater rises.0)))
    where
      rises : IsRising (y ∷ ys)
      rises = subst IsRising (sym lies) (rising_from mark false ps rising)

      from : is_from mark false y.key ≡ true
      from = (subst (λ (zs : List Pair). All (λ (z : Pair). IsCatalogKey z.key × (is_from mark false z.key ≡ true)) zs) (sym lies) (all_from (λ (z : Pair). IsCatalogKey z.key) mark false ps catalog.only) zero y (omega arith)).1

      untied : is_eq (key_cmp y.key mark) ≡ false
      untied = ap (λ (z : Pair). is_eq (key_cmp z.key mark)) (same_some y x first) ∙ sym is ∙ other

      greater : key_cmp y.key mark ≡ Greater
      greater = by (key_cmp y.key mark) refl
        where
          by : (o : Ordering) → key_cmp y.key mark ≡ o → o ≡ Greater
          by Less t = never (sym (from_less mark false y.key t) ∙ from)
          by Equal t = never (sym untied ∙ ap is_eq t)
          by Greater t = refl

  -- The node's attributes follow its mark.
  pub counted_after : AreValid nodes → (now rest : List Pair) (x : Pair) (same : Bool) (count : ℕ) → now ≡ pairs_from ps mark false → slice_get now 0 ≡ Some x → rest ≡ drop 1 now
      → same ≡ is_eq (key_cmp x.key mark) → same ≡ true → fin.len (attributes_of nodes node) ≤ 64 → (length (front_of_node node rest) ≤ 64 → count ≡ length (front_of_node node rest)) → Some count ≡ count_of nodes node
  counted_after valid now rest x same count lies first left is here few counts =
      let key = key_exact x.key mark (tied (key_cmp x.key mark) (sym is ∙ here)) in
      let beyond = left ∙ beyond_next ps rising mark false now mark lies (sym (ap (option_map (λ (z : Pair). z.key)) first ∙ ap Some key)) in
      let all = ap (λ (xs : List Pair). length (front_of_node node xs)) beyond ∙ ap (λ (k : List ℕ). length (front_of_node node (pairs_from ps k true))) is_mark
      ∙ counted ps nodes node fits rising catalog valid ∙ sym (fin.len-entries (attributes_of nodes node)) in
      present nodes node count (sym (marked now lies) ∙ has now x first key) (counts (omega (arith, all, few)) ∙ all)
    where
      has : (now : List Pair) (x : Pair) → slice_get now 0 ≡ Some x → x.key ≡ mark → is_some (payload_at now mark) ≡ true
      has [] x first key = none_some x first
      has (y ∷ ys) x first key =
          let same = ap (λ (z : Pair). z.key) (same_some y x first) ∙ key in
          ap (λ o. is_some (cond (is_eq o) (Some y.payload) (payload_at ys mark))) (ap (λ (k : List ℕ). key_cmp k mark) same ∙ tied_itself key_total mark)
