-- How the entries of a version correspond to the indices of its volume.
use Rattle.std.proofs.Common.{◌≡◌, ℕ, zero, suc, ◌+◌, ◌<◌, Bool, true, false, cond, List, [], ◌∷◌, ◌++◌, length, map, take, drop, get_or, All, Some, None, ap, sym, subst, ◌∙◌, refl, arith, T, ◌&&◌}
use Rattle.std.proofs.Common.{inl, inr}
use Rattle.std.proofs.lemmas.Bool.{cases_lt}
use Rattle.std.proofs.lemmas.List.{get_or_default}
use Rattle.std.specs.Ordering.{is_eq, is_lt, ordering_reverse}
use Rattle.std.specs.Cmp.{IsTotalOrder, tied_itself}
use Rattle.std.specs.Cmp.Lexicographic.{nat_list_cmp_total}
use Rattle.std.specs.declared.cmp.Ordering.{Ordering}
use Rattle.std.specs.declared.cmp.Ordering.TheVariants.{Less, Equal, Greater}
use Rattle.std.specs.Option.{option_map}
use Rattle.std.specs.FinMap as fin
use Rattle.std.specs.FinMap.{FinMap, IsAntisymmetric, nat_cmp-IsAntisymmetric, slice_cmp-IsAntisymmetric, is_sorted}
use Rattle.std.specs.FinMap.Entries.{find, put, by_order, below_all}
use Rattle.be_tree_reading.specs.Tree.{pages}
use Rattle.be_value.specs.declared.values.Kind.{Kind}
use Rattle.be_volume.specs.Maps.{name_cmp}
use Rattle.be_volume.specs.declared.maps.Index.{Index}
use Rattle.be_paged_reading.specs.Entry.{Entry}
use Rattle.be_paged_reading.specs.Page.{IsNamedAt, IsGapAt}
use Rattle.be_tree_reading.specs.Forest.{pages_of}
use Rattle.be_paged_reading.specs.Version.{IsEntryOf, AreEntriesOf}
use Rattle.be_tree_reading.proofs.Trees.{all_cons}

pub names_exact : IsAntisymmetric name_cmp
names_exact = slice_cmp-IsAntisymmetric nat_cmp-IsAntisymmetric

pub names_total : IsTotalOrder name_cmp
names_total = nat_list_cmp_total

pub flip : (a b : List ℕ) (r : Ordering) → name_cmp a b ≡ r → name_cmp b a ≡ ordering_reverse r
flip a b r e = names_total.antisymm b a ∙ ap ordering_reverse e

pub entries_len : (w : ℕ → ℕ → ℕ) (es : List Entry) (is : List (List ℕ × Index)) → AreEntriesOf w es is → length es ≡ length is
entries_len w [] [] h = refl
entries_len w [] (i ∷ is) h = absurd h
entries_len w (e ∷ es) [] h = absurd h
entries_len w (e ∷ es) (i ∷ is) h = ap suc (entries_len w es is h.1)

pub record Found (w : ℕ → ℕ → ℕ) (es : List Entry) (is : List (List ℕ × Index)) (name : List ℕ) (i : ℕ) : Type 0 where
  pub index : Index
  pub found : find name_cmp name is ≡ Some index
  pub entry : (d : Entry) → IsEntryOf w (get_or es i d) name index

pub named_found : (w : ℕ → ℕ → ℕ) (es : List Entry) (is : List (List ℕ × Index)) (name : List ℕ) (i : ℕ) → AreEntriesOf w es is → IsNamedAt es name i → Found w es is name i
named_found w [] is name i h at = absurd (omega (arith, at.in_range))
named_found w (e ∷ es) [] name i h at = absurd h
named_found w (e ∷ es) (x ∷ is) name zero h at =
    let same : x.0 ≡ name = sym h.0.name_is ∙ at.here e in
    record {
      index = x.1;
      found = ap (λ n. cond (is_eq (name_cmp name n)) (Some x.1) (find name_cmp name is)) same ∙ ap (λ r. cond (is_eq r) (Some x.1) (find name_cmp name is)) (tied_itself names_total name);
      entry = λ d. subst (λ n. IsEntryOf w e n x.1) same h.0;
    }
named_found w (e ∷ es) (x ∷ is) name (suc i) h at =
    let rest = named_found w es is name i h.1 (record { in_range = omega (arith, at.in_range); below = λ j d lt. at.below (suc j) d (omega (arith, lt)); here = at.here }) in
    let over : name_cmp name x.0 ≡ Greater = flip x.0 name Less (ap (λ n. name_cmp n name) (sym h.0.name_is) ∙ at.below zero e (omega arith)) in
    record {
      index = rest.index;
      found = ap (λ r. cond (is_eq r) (Some x.1) (find name_cmp name is)) over ∙ rest.found;
      entry = rest.entry;
    }

second : (a b : Bool) → T (a && b) → T b
second true b p = p
second false b p = absurd p

first : (a b : Bool) → T (a && b) → T a
first true b p = tt
first false b p = absurd p

less : (o : Ordering) → T (is_lt o) → o ≡ Less
less Less p = refl
less Equal p = absurd p
less Greater p = absurd p

above_none : (name : List ℕ) (x : List ℕ) (is : List (List ℕ × Index)) → name_cmp name x ≡ Less → T (below_all name_cmp x is) → find name_cmp name is ≡ None
above_none name x [] lt sorted = refl
above_none name x (y ∷ is) lt sorted =
    ap (λ r. cond (is_eq r) (Some y.1) (find name_cmp name is)) (names_total.trans name x y.0 lt (less (name_cmp x y.0) (first _ _ sorted))) ∙ above_none name x is lt (second _ _ sorted)

pub gap_none : (w : ℕ → ℕ → ℕ) (es : List Entry) (is : List (List ℕ × Index)) (name : List ℕ) (i : ℕ) → AreEntriesOf w es is → T (is_sorted name_cmp is) → IsGapAt es name i → find name_cmp name is ≡ None
gap_none w [] [] name i h sorted at = refl
gap_none w [] (x ∷ is) name i h sorted at = absurd h
gap_none w (e ∷ es) [] name i h sorted at = absurd h
gap_none w (e ∷ es) (x ∷ is) name zero h sorted at =
    let under : name_cmp name x.0 ≡ Less = flip x.0 name Greater (ap (λ n. name_cmp n name) (sym h.0.name_is) ∙ at.above e (omega arith)) in
    ap (λ r. cond (is_eq r) (Some x.1) (find name_cmp name is)) under ∙ above_none name x.0 is under (first _ _ sorted)
gap_none w (e ∷ es) (x ∷ is) name (suc i) h sorted at =
    let over : name_cmp name x.0 ≡ Greater = flip x.0 name Less (ap (λ n. name_cmp n name) (sym h.0.name_is) ∙ at.below zero e (omega arith)) in
    ap (λ r. cond (is_eq r) (Some x.1) (find name_cmp name is)) over
    ∙ gap_none w es is name i h.1 (second _ _ sorted) (record { in_range = omega (arith, at.in_range); below = λ j d lt. at.below (suc j) d (omega (arith, lt)); above = λ d lt. at.above d (omega (arith, lt)) })

pub gap_entries : (w : ℕ → ℕ → ℕ) (es : List Entry) (is : List (List ℕ × Index)) (name : List ℕ) (index : Index) (new : Entry) (i : ℕ) → AreEntriesOf w es is → IsGapAt es name i → IsEntryOf w new name index
    → AreEntriesOf w (take i es ++ new ∷ drop i es) (put name_cmp name index is)
gap_entries w [] (x ∷ is) name index new i h at here = absurd h
gap_entries w (e ∷ es) [] name index new i h at here = absurd h
gap_entries w [] [] name index new zero h at here = (here, tt)
gap_entries w [] [] name index new (suc i) h at here = absurd (omega (arith, at.in_range))
gap_entries w (e ∷ es) (x ∷ is) name index new zero h at here =
    let under : name_cmp name x.0 ≡ Less = flip x.0 name Greater (ap (λ n. name_cmp n name) (sym h.0.name_is) ∙ at.above e (omega arith)) in
    subst (λ r. AreEntriesOf w (new ∷ e ∷ es) (by_order r ((name, index) ∷ x ∷ is) ((x.0, index) ∷ is) (x ∷ put name_cmp name index is))) (sym under) (here, h)
gap_entries w (e ∷ es) (x ∷ is) name index new (suc i) h at here =
    let over : name_cmp name x.0 ≡ Greater = flip x.0 name Less (ap (λ n. name_cmp n name) (sym h.0.name_is) ∙ at.below zero e (omega arith)) in
    let rest = gap_entries w es is name index new i h.1 (record { in_range = omega (arith, at.in_range); below = λ j d lt. at.below (suc j) d (omega (arith, lt)); above = λ d lt. at.above d (omega (arith, lt)) }) here in
    subst (λ r. AreEntriesOf w (e ∷ (take i es ++ new ∷ drop i es)) (by_order r ((name, index) ∷ x ∷ is) ((x.0, index) ∷ is) (x ∷ put name_cmp name index is))) (sym over) (h.0, rest)

pub inserted_pages : (w : ℕ → ℕ → ℕ) (es : List Entry) (new : Entry) (i : ℕ) → new.root ≡ 0
    → pages_of w (map (λ e. e.root) (take i es ++ new ∷ drop i es)) ≡ pages_of w (map (λ e. e.root) es)
inserted_pages w es new zero zero_root = ap (λ (r : ℕ). pages w r ++ pages_of w (map (λ e. e.root) es)) zero_root
inserted_pages w [] new (suc i) zero_root = ap (λ (r : ℕ). pages w r ++ []) zero_root
inserted_pages w (e ∷ es) new (suc i) zero_root = ap (λ ps. pages w e.root ++ ps) (inserted_pages w es new i zero_root)

pub inserted_all : (P : Entry → Type 0) (es : List Entry) (new : Entry) (i : ℕ) → P new → All P es → All P (take i es ++ new ∷ drop i es)
inserted_all P es new zero p all = all_cons P new es p all
inserted_all P [] new (suc i) p all = all_cons P new [] p all
inserted_all P (e ∷ es) new (suc i) p all = all_cons P e (take i es ++ new ∷ drop i es) (all zero e (omega arith)) (inserted_all P es new i p (λ j d lt. all (suc j) d (omega (arith, lt))))

pub inserted_roots : (P : ℕ → Type 0) (es : List Entry) (new : Entry) (i : ℕ) → P new.root → All P (map (λ e. e.root) es) → All P (map (λ e. e.root) (take i es ++ new ∷ drop i es))
inserted_roots P es new zero p all = all_cons P new.root (map (λ e. e.root) es) p all
inserted_roots P [] new (suc i) p all = all_cons P new.root [] p all
inserted_roots P (e ∷ es) new (suc i) p all = all_cons P e.root (map (λ e. e.root) (take i es ++ new ∷ drop i es)) (all zero e.root (omega arith)) (inserted_roots P es new i p (λ j d lt. all (suc j) d (omega (arith, lt))))

pub entry_compared : (es : List Entry) (i : ℕ) (e : Entry) (name : List ℕ) (r : Ordering) → e ≡ get_or es i e → name_cmp e.name name ≡ r → i < length es → (d : Entry) → name_cmp (get_or es i d).name name ≡ r
entry_compared es i e name r is cmp lt d = ap (λ (x : Entry). name_cmp x.name name) (sym (is ∙ get_or_default es i e d lt)) ∙ cmp

pub below_next : (es : List Entry) (name : List ℕ) (i : ℕ) → ((j : ℕ) (d : Entry) → j < i → name_cmp (get_or es j d).name name ≡ Less) → ((d : Entry) → name_cmp (get_or es i d).name name ≡ Less)
    → (j : ℕ) (d : Entry) → j < i + 1 → name_cmp (get_or es j d).name name ≡ Less
below_next es name i below here j d lt = elim (cases_lt j i) [
  | inl less ↦ below j d less
  | inr above ↦
      let e : i ≡ j = omega (arith, above, lt) in
      subst (λ k. name_cmp (get_or es k d).name name ≡ Less) e (here d)
]

abbrev Indices : Type 0
Indices = FinMap name_cmp Index

pub kind_found : (w : ℕ → ℕ → ℕ) (es : List Entry) (m : Indices) (name : List ℕ) (i : ℕ) (d : Entry) → AreEntriesOf w es (fin.entries m) → IsNamedAt es name i → Some (get_or es i d).kind ≡ option_map (λ index. index.kind) (fin.get m name)
kind_found w es m name i d h at =
    let there = named_found w es (fin.entries m) name i h at in
    ap Some (there.entry d).kind_is ∙ ap (option_map (λ (index : Index). index.kind)) (sym (fin.get-entries m name ∙ there.found))

pub kind_absent : (w : ℕ → ℕ → ℕ) (es : List Entry) (m : Indices) (name : List ℕ) (i : ℕ) → AreEntriesOf w es (fin.entries m) → IsGapAt es name i → None ≡ option_map (λ (index : Index). index.kind) (fin.get m name)
kind_absent w es m name i h at = ap (option_map (λ (index : Index). index.kind)) (sym (fin.get-entries m name ∙ gap_none w es (fin.entries m) name i h (fin.entries_sorted m) at))

-- The names of the entries are in ascending order.
abbrev pub NamesRise : List Entry → Type 0
NamesRise es = (i j : ℕ) (d : Entry) → i < j → j < length es → name_cmp (get_or es i d).name (get_or es j d).name ≡ Less

each_above : (w : ℕ → ℕ → ℕ) (es : List Entry) (is : List (List ℕ × Index)) (name : List ℕ) → AreEntriesOf w es is → T (below_all name_cmp name is) → (j : ℕ) (d : Entry) → j < length es → name_cmp name (get_or es j d).name ≡ Less
each_above w [] is name h below j d lt = absurd (omega (arith, lt))
each_above w (e ∷ es) [] name h below j d lt = absurd h
each_above w (e ∷ es) (x ∷ is) name h below zero d lt = ap (name_cmp name) h.0.name_is ∙ less (name_cmp name x.0) (first _ _ below)
each_above w (e ∷ es) (x ∷ is) name h below (suc j) d lt = each_above w es is name h.1 (second _ _ below) j d (omega (arith, lt))

pub names_rise : (w : ℕ → ℕ → ℕ) (es : List Entry) (is : List (List ℕ × Index)) → AreEntriesOf w es is → T (is_sorted name_cmp is) → NamesRise es
names_rise w [] is h sorted i j d lt within = absurd (omega (arith, within))
names_rise w (e ∷ es) [] h sorted i j d lt within = absurd h
names_rise w (e ∷ es) (x ∷ is) h sorted i zero d lt within = absurd (omega (arith, lt))
names_rise w (e ∷ es) (x ∷ is) h sorted zero (suc j) d lt within =
    ap (λ n. name_cmp n (get_or es j d).name) h.0.name_is ∙ each_above w es is x.0 h.1 (first _ _ sorted) j d (omega (arith, within))
names_rise w (e ∷ es) (x ∷ is) h sorted (suc i) (suc j) d lt within = names_rise w es is h.1 (second _ _ sorted) i j d (omega (arith, lt)) (omega (arith, within))

-- The names and kinds of the entries are those of the indices.
abbrev pub listed_entry : Entry → List ℕ × Kind
listed_entry e = (e.name, e.kind)

abbrev pub listed_index : List ℕ × Index → List ℕ × Kind
listed_index i = (i.0, i.1.kind)

pub kinds_are : (w : ℕ → ℕ → ℕ) (es : List Entry) (is : List (List ℕ × Index)) → AreEntriesOf w es is → map listed_entry es ≡ map listed_index is
kinds_are w [] [] h = refl
kinds_are w [] (i ∷ is) h = absurd h
kinds_are w (e ∷ es) [] h = absurd h
kinds_are w (e ∷ es) (i ∷ is) h = join h.0.name_is h.0.kind_is (kinds_are w es is h.1)
  where
    join : {m n : List ℕ} {k l : Kind} {xs ys : List (List ℕ × Kind)} → m ≡ n → k ≡ l → xs ≡ ys → (m, k) ∷ xs ≡ (n, l) ∷ ys
    join p q r = cc
