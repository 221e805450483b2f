-- Entries, the keys that are collected for them, and the indices of a volume.
use Rattle.std.proofs.Common.{◌≡◌, ℕ, zero, suc, ◌<◌, ◌≤◌, Bool, true, false, cond, List, [], ◌∷◌, ◌++◌, length, map, get_or, All, Some, None, is_some, ap, sym, subst, ◌∙◌, refl, arith, T, ◌&&◌}
use Rattle.std.proofs.Math.ListN.{set}
use Rattle.std.specs.Ordering.{is_eq, is_lt}
use Rattle.std.specs.Cmp.{tied_itself}
use Rattle.std.specs.declared.cmp.Ordering.{Ordering}
use Rattle.std.specs.declared.cmp.Ordering.TheVariants.{Less, Equal, Greater}
use Rattle.std.specs.FinMap.{is_sorted}
use Rattle.std.specs.FinMap.Entries.{find, put, by_order, below_all}
use Rattle.be_volume.specs.Maps.{name_cmp}
use Rattle.be_volume.specs.declared.maps.Index.{Index}
use Rattle.be_paged_reading.specs.Entry.{Entry}
use Rattle.be_paged_reading.specs.Page.{IsNamedAt, IsGapAt}
use Rattle.be_paged_reading.specs.Catalog.{IsIndexOf}
use Rattle.be_paged_reading.specs.Version.{AreEntriesOf, IsEntryOf}
use Rattle.be_paged_reading.proofs.IndexEntries.Indexing.{flip, names_exact, names_total}
use Rattle.be_tree_reading.specs.Tree.{pairs}
use Rattle.be_paged_building.specs.Building.{AreCollected, IsCollected}
use Rattle.be_paged_building.specs.Keys.{AreKeysOf}

abbrev Lists : Type 0
Lists = List (List (List ℕ))

abbrev Listed : Type 0
Listed = List (List ℕ × Index)

pub same_lengths : (es : List Entry) (ks : Lists) (is : Listed) → AreCollected es ks is → (length ks ≡ length es) × (length is ≡ length es)
same_lengths [] [] [] h = (refl, refl)
same_lengths [] [] (i ∷ is) h = absurd h
same_lengths [] (k ∷ ks) is h = absurd h
same_lengths (e ∷ es) [] is h = absurd h
same_lengths (e ∷ es) (k ∷ ks) [] h = absurd h
same_lengths (e ∷ es) (k ∷ ks) (i ∷ is) h = let rest = same_lengths es ks is h.1 in (ap suc rest.0, ap suc rest.1)

pub record Found (es : List Entry) (ks : Lists) (is : Listed) (name : List ℕ) (at : ℕ) : Type 0 where
  pub index : Index
  pub found : find name_cmp name is ≡ Some index
  pub kind : (d : Entry) → (get_or es at d).kind ≡ index.kind
  pub keys : (d : List (List ℕ)) → AreKeysOf (get_or ks at d) index
  pub short : (d : List (List ℕ)) → All (λ k. length k ≤ 264) (get_or ks at d)

-- the index that is named at a position
pub named_found : (es : List Entry) (ks : Lists) (is : Listed) (name : List ℕ) (at : ℕ) → AreCollected es ks is → IsNamedAt es name at → Found es ks is name at
named_found [] ks is name at h named = absurd (omega (arith, named.in_range))
named_found (e ∷ es) [] is name at h named = absurd h
named_found (e ∷ es) (k ∷ ks) [] name at h named = absurd h
named_found (e ∷ es) (k ∷ ks) (x ∷ is) name zero h named =
    let same : x.0 ≡ name = sym h.0.name_is ∙ named.here e in
    record {
      index = x.1;
      found = ap (λ n. cond (is_eq (name_cmp name n)) (Some x.1) (find name_cmp name is)) same ∙ ap (λ r. cond (is_eq r) (Some x.1) (find name_cmp name is)) (tied_itself names_total name);
      kind = λ d. h.0.kind_is;
      keys = λ d. h.0.keys_are;
      short = λ d. h.0.short;
    }
named_found (e ∷ es) (k ∷ ks) (x ∷ is) name (suc at) h named =
    let rest = named_found es ks is name at h.1 (record { in_range = omega (arith, named.in_range); below = λ j d lt. named.below (suc j) d (omega (arith, lt)); here = named.here }) in
    let over : name_cmp name x.0 ≡ Greater = flip x.0 name Less (ap (λ n. name_cmp n name) (sym h.0.name_is) ∙ named.below zero e (omega arith)) in
    record {
      index = rest.index;
      found = ap (λ r. cond (is_eq r) (Some x.1) (find name_cmp name is)) over ∙ rest.found;
      kind = rest.kind;
      keys = rest.keys;
      short = rest.short;
    }

second : (a b : Bool) → T (a && b) → T b
second true b p = p
second false b p = absurd p

first : (a b : Bool) → T (a && b) → T a
first true b p = tt
first false b p = absurd p

less : (o : Ordering) → T (is_lt o) → o ≡ Less
less Less p = refl
less Equal p = absurd p
less Greater p = absurd p

above_none : (name x : List ℕ) (is : Listed) → name_cmp name x ≡ Less → T (below_all name_cmp x is) → find name_cmp name is ≡ None
above_none name x [] lt sorted = refl
above_none name x (y ∷ is) lt sorted =
    ap (λ r. cond (is_eq r) (Some y.1) (find name_cmp name is)) (names_total.trans name x y.0 lt (less (name_cmp x y.0) (first _ _ sorted))) ∙ above_none name x is lt (second _ _ sorted)

-- if the name would be inserted here, no index has it
pub gap_none : (es : List Entry) (ks : Lists) (is : Listed) (name : List ℕ) (at : ℕ) → AreCollected es ks is → T (is_sorted name_cmp is) → IsGapAt es name at → find name_cmp name is ≡ None
gap_none [] [] [] name at h sorted gap = refl
gap_none [] [] (x ∷ is) name at h sorted gap = absurd h
gap_none [] (k ∷ ks) is name at h sorted gap = absurd h
gap_none (e ∷ es) [] is name at h sorted gap = absurd h
gap_none (e ∷ es) (k ∷ ks) [] name at h sorted gap = absurd h
gap_none (e ∷ es) (k ∷ ks) (x ∷ is) name zero h sorted gap =
    let under : name_cmp name x.0 ≡ Less = flip x.0 name Greater (ap (λ n. name_cmp n name) (sym h.0.name_is) ∙ gap.above e (omega arith)) in
    ap (λ r. cond (is_eq r) (Some x.1) (find name_cmp name is)) under ∙ above_none name x.0 is under (first _ _ sorted)
gap_none (e ∷ es) (k ∷ ks) (x ∷ is) name (suc at) h sorted gap =
    let over : name_cmp name x.0 ≡ Greater = flip x.0 name Less (ap (λ n. name_cmp n name) (sym h.0.name_is) ∙ gap.below zero e (omega arith)) in
    ap (λ r. cond (is_eq r) (Some x.1) (find name_cmp name is)) over
    ∙ gap_none es ks is name at h.1 (second _ _ sorted) (record { in_range = omega (arith, gap.in_range); below = λ j d lt. gap.below (suc j) d (omega (arith, lt)); above = λ d lt. gap.above d (omega (arith, lt)) })

-- an index is added after the others
pub collected_end : (es : List Entry) (ks : Lists) (is : Listed) (name : List ℕ) (index : Index) (entry : Entry) (keys : List (List ℕ)) → AreCollected es ks is
    → ((j : ℕ) (d : Entry) → j < length es → name_cmp (get_or es j d).name name ≡ Less) → IsCollected entry keys name index → AreCollected (es ++ entry ∷ []) (ks ++ keys ∷ []) (put name_cmp name index is)
collected_end [] [] [] name index entry keys h below one = (one, tt)
collected_end [] [] (x ∷ is) name index entry keys h below one = absurd h
collected_end [] (k ∷ ks) is name index entry keys h below one = absurd h
collected_end (e ∷ es) [] is name index entry keys h below one = absurd h
collected_end (e ∷ es) (k ∷ ks) [] name index entry keys h below one = absurd h
collected_end (e ∷ es) (k ∷ ks) (x ∷ is) name index entry keys h below one =
    let over : name_cmp name x.0 ≡ Greater = flip x.0 name Less (ap (λ n. name_cmp n name) (sym h.0.name_is) ∙ below zero e (omega arith)) in
    let rest = collected_end es ks is name index entry keys h.1 (λ j d lt. below (suc j) d (omega (arith, lt))) one in
    subst (λ r. AreCollected (e ∷ (es ++ entry ∷ [])) (k ∷ (ks ++ keys ∷ [])) (by_order r ((name, index) ∷ x ∷ is) ((x.0, index) ∷ is) (x ∷ put name_cmp name index is))) (sym over) (h.0, rest)

-- each entry's name is that of an index
pub entry_there : (es : List Entry) (ks : Lists) (is : Listed) → AreCollected es ks is → (j : ℕ) (d : Entry) → j < length es → is_some (find name_cmp (get_or es j d).name is) ≡ true
entry_there [] ks is h j d lt = absurd (omega (arith, lt))
entry_there (e ∷ es) [] is h j d lt = absurd h
entry_there (e ∷ es) (k ∷ ks) [] h j d lt = absurd h
entry_there (e ∷ es) (k ∷ ks) (x ∷ is) h zero d lt =
    ap (λ n. is_some (cond (is_eq (name_cmp n x.0)) (Some x.1) (find name_cmp n is))) h.0.name_is ∙ ap (λ r. is_some (cond (is_eq r) (Some x.1) (find name_cmp x.0 is))) (tied_itself names_total x.0)
entry_there (e ∷ es) (k ∷ ks) (x ∷ is) h (suc j) d lt = by (is_eq (name_cmp (get_or es j d).name x.0)) (entry_there es ks is h.1 j d (omega (arith, lt)))
  where
    by : (b : Bool) → is_some (find name_cmp (get_or es j d).name is) ≡ true → is_some (cond b (Some x.1) (find name_cmp (get_or es j d).name is)) ≡ true
    by true rest = refl
    by false rest = rest

-- each index's name is below one that is above those of the entries
pub indices_below : (es : List Entry) (ks : Lists) (is : Listed) (name : List ℕ) → AreCollected es ks is → ((j : ℕ) (d : Entry) → j < length es → name_cmp (get_or es j d).name name ≡ Less)
    → (other : List ℕ) → is_some (find name_cmp other is) ≡ true → name_cmp other name ≡ Less
indices_below [] [] [] name h below other there = absurd (never there)
  where
    never : false ≡ true → ⊥
    never e = cc
indices_below [] [] (x ∷ is) name h below other there = absurd h
indices_below [] (k ∷ ks) is name h below other there = absurd h
indices_below (e ∷ es) [] is name h below other there = absurd h
indices_below (e ∷ es) (k ∷ ks) [] name h below other there = absurd h
indices_below (e ∷ es) (k ∷ ks) (x ∷ is) name h below other there = by (name_cmp other x.0) refl there (indices_below es ks is name h.1 (λ j d lt. below (suc j) d (omega (arith, lt))) other)
  where
    by : (o : Ordering) → name_cmp other x.0 ≡ o → is_some (cond (is_eq o) (Some x.1) (find name_cmp other is)) ≡ true → (is_some (find name_cmp other is) ≡ true → name_cmp other name ≡ Less) → name_cmp other name ≡ Less
    by Less e found rest = rest found
    by Equal same found rest = ap (λ n. name_cmp n name) (names_exact other x.0 same ∙ sym h.0.name_is) ∙ below zero e (omega arith)
    by Greater e found rest = rest found

-- an index gets other keys
pub collected_named : (es : List Entry) (ks : Lists) (is : Listed) (name : List ℕ) (index : Index) (keys : List (List ℕ)) (at : ℕ) → AreCollected es ks is → IsNamedAt es name at
    → ((d : Entry) → (get_or es at d).kind ≡ index.kind) → AreKeysOf keys index → All (λ k. length k ≤ 264) keys → AreCollected es (set ks at keys) (put name_cmp name index is)
collected_named [] ks is name index keys at h named kind keys_are short = absurd (omega (arith, named.in_range))
collected_named (e ∷ es) [] is name index keys at h named kind keys_are short = absurd h
collected_named (e ∷ es) (k ∷ ks) [] name index keys at h named kind keys_are short = absurd h
collected_named (e ∷ es) (k ∷ ks) (x ∷ is) name index keys zero h named kind keys_are short =
    let same : name ≡ x.0 = sym (named.here e) ∙ h.0.name_is in
    let tied : name_cmp name x.0 ≡ Equal = ap (λ n. name_cmp n x.0) same ∙ tied_itself names_total x.0 in
    subst (λ r. AreCollected (e ∷ es) (keys ∷ ks) (by_order r ((name, index) ∷ x ∷ is) ((x.0, index) ∷ is) (x ∷ put name_cmp name index is))) (sym tied)
    (record { name_is = h.0.name_is; kind_is = kind e; root = h.0.root; keys_are = keys_are; short = short }, h.1)
collected_named (e ∷ es) (k ∷ ks) (x ∷ is) name index keys (suc at) h named kind keys_are short =
    let over : name_cmp name x.0 ≡ Greater = flip x.0 name Less (ap (λ n. name_cmp n name) (sym h.0.name_is) ∙ named.below zero e (omega arith)) in
    let rest = collected_named es ks is name index keys at h.1 (record { in_range = omega (arith, named.in_range); below = λ j d lt. named.below (suc j) d (omega (arith, lt)); here = named.here }) kind keys_are short in
    subst (λ r. AreCollected (e ∷ es) (k ∷ set ks at keys) (by_order r ((name, index) ∷ x ∷ is) ((x.0, index) ∷ is) (x ∷ put name_cmp name index is))) (sym over) (h.0, rest)

-- The first of the indices that have no tree yet.
pub record First (es : List Entry) (k : List (List ℕ)) (ks : Lists) (is : Listed) : Type 0 where
  pub entry : Entry
  pub entries : List Entry
  pub index : List ℕ × Index
  pub indices : Listed
  pub entries_are : es ≡ entry ∷ entries
  pub indices_are : is ≡ index ∷ indices
  pub one : IsCollected entry k index.0 index.1
  pub rest : AreCollected entries ks indices

pub first_of : (es : List Entry) (k : List (List ℕ)) (ks : Lists) (is : Listed) → AreCollected es (k ∷ ks) is → First es k ks is
first_of [] k ks is h = absurd h
first_of (e ∷ es) k ks [] h = absurd h
first_of (e ∷ es) k ks (i ∷ is) h = record { entry = e; entries = es; index = i; indices = is; entries_are = refl; indices_are = refl; one = h.0; rest = h.1 }

-- all indices have their trees
pub none_left : (es : List Entry) (is : Listed) → AreCollected es [] is → (es ≡ []) × (is ≡ [])
none_left [] [] h = (refl, refl)
none_left [] (i ∷ is) h = absurd h
none_left (e ∷ es) is h = absurd h

pub entries_end : (w : ℕ → ℕ → ℕ) (es : List Entry) (is : Listed) (entry : Entry) (index : List ℕ × Index) → AreEntriesOf w es is → IsEntryOf w entry index.0 index.1 → AreEntriesOf w (es ++ entry ∷ []) (is ++ index ∷ [])
entries_end w [] [] entry index h one = (one, tt)
entries_end w [] (i ∷ is) entry index h one = absurd h
entries_end w (e ∷ es) [] entry index h one = absurd h
entries_end w (e ∷ es) (i ∷ is) entry index h one = (h.0, entries_end w es is entry index h.1 one)

-- entries describe the same indices while the pairs of their trees are unchanged
pub entries_same : (v w : ℕ → ℕ → ℕ) (es : List Entry) (is : Listed) → AreEntriesOf v es is → All (λ r. pairs w r ≡ pairs v r) (map (λ e. e.root) es) → AreEntriesOf w es is
entries_same v w [] [] h same = tt
entries_same v w [] (i ∷ is) h same = h
entries_same v w (e ∷ es) [] h same = h
entries_same v w (e ∷ es) (i ∷ is) h same = (
  record { name_is = h.0.name_is; kind_is = h.0.kind_is; keys = subst (λ xs. IsIndexOf xs i.1) (sym (same zero zero (omega arith))) h.0.keys },
  entries_same v w es is h.1 (λ j d lt. same (suc j) d (omega (arith, lt))),
)
