-- Creating and removing an index in the entries of a version.
use Rattle.std.proofs.Common.{◌≡◌, ℕ, zero, suc, ◌+◌, ◌<◌, ◌≤◌, Bool, true, false, cond, not, List, [], ◌∷◌, ◌++◌, length, map, take, drop, All, Some, None, ap, sym, subst, ◌∙◌, refl, arith, is_some, nat_le, T, ◌&&◌, IsOk}
use Rattle.std.proofs.lemmas.Bool.Decides.{nat_tests}
use Rattle.std.specs.List.{filter}
use Rattle.std.specs.Ordering.{is_eq, is_lt, eq_by_cmp, nat_cmp, ordering_reverse}
use Rattle.std.specs.Cmp.{tied_itself, eq_by_cmp_equiv}
use Rattle.std.specs.declared.cmp.Ordering.{Ordering}
use Rattle.std.specs.declared.cmp.Ordering.TheVariants.{Less, Equal, Greater}
use Rattle.std.specs.FinMap as fin
use Rattle.std.specs.FinMap.{is_sorted, get-empty}
use Rattle.std.specs.FinMap.Entries.{below_all, find, where_key, is_sorted-where_key, find-where_key}
use Rattle.be_pages.specs.declared.room.PageState.{PageState}
use Rattle.be_pages.specs.Pages.{times, Swaps}
use Rattle.be_tree_reading.specs.Tree.{IsTree, pages, pairs}
use Rattle.be_tree_reading.specs.Forest.{pages_of}
use Rattle.be_tree_reading.proofs.Trees.{all_cons}
use Rattle.be_value.specs.declared.values.Kind.{Kind}
use Rattle.be_value.specs.declared.values.Value.{Value}
use Rattle.be_volume.specs.Indices.{Indices}
use Rattle.be_volume.specs.Maps.{name_cmp}
use Rattle.be_volume.specs.Sound.{IsName}
use Rattle.be_volume.specs.Volume.{State, step}
use Rattle.be_volume.specs.declared.ops.Done.TheVariants.{Unit as Nothing}
use Rattle.be_volume.specs.declared.ops.Op.TheVariants.{MkIndex, RmIndex}
use Rattle.be_volume.proofs.StepLemmas.{made, accepted}
use Rattle.be_volume.specs.declared.maps.Index.{Index}
use Rattle.be_volume.proofs.MapLemmas.{names_total, exact_names}
use Rattle.be_paged_reading.specs.Entry.{Entry}
use Rattle.be_paged_reading.specs.Page.{Contents, IsNamedAt, IsGapAt, roots}
use Rattle.be_paged_reading.specs.Catalog.{IsPairOf}
use Rattle.be_paged_reading.specs.Version.{IsEntryOf, AreEntriesOf, IsInHand, Encodes}
use Rattle.be_paged.specs.Changes.{Changes, Steps}
use Rattle.be_paged.proofs.Applying.Composing.{swaps_none}
use Rattle.be_paged.proofs.Applying.Stepping.{stepped_is}
use Rattle.be_paged_reading.proofs.IndexEntries.Indexing.{entries_len, named_found, gap_none, gap_entries, inserted_pages, inserted_all, inserted_roots}
use Rattle.be_tree_reading.proofs.Trees.{trees_in_use}

abbrev pub new_index : Kind → Index
new_index kind = record { kind = kind; pairs = fin.empty }

no_pairs : {A : Type 0} (index : Index) → index.pairs ≡ fin.empty → (node : ℕ) (v : Value) → fin.get index.pairs node ≡ Some v → A
no_pairs index e node v at = absurd (clash v (sym (ap (λ m. fin.get m node) e ∙ get-empty nat_cmp node) ∙ at))
  where
    clash : (v : Value) → None ≡ Some v → ⊥
    clash v e = cc

new_entry : (w : ℕ → ℕ → ℕ) (entry : Entry) (name : List ℕ) (kind : Kind) → entry.name ≡ name → entry.kind ≡ kind → entry.root ≡ 0 → IsEntryOf w entry name (new_index kind)
new_entry w entry name kind n k r = record {
  name_is = n;
  kind_is = k;
  keys = record {
    each = λ node v at. no_pairs (new_index kind) refl node v at;
    only = subst (λ (root : ℕ). All (IsPairOf (new_index kind)) (pairs w root)) (sym r) (λ i d lt. absurd (omega (arith, lt)));
  };
}

inserted_length : (es : List Entry) (x : Entry) (i : ℕ) → length (take i es ++ x ∷ drop i es) ≤ length es + 1
inserted_length es x zero = omega arith
inserted_length [] x (suc i) = omega arith
inserted_length (e ∷ es) x (suc i) = omega (arith, inserted_length es x i)

-- contents with one more index, which has no pages
abbrev pub with_entry : Contents → ℕ → Entry → Contents
with_entry c i entry = record { next = c.next; catalog = c.catalog; entries = take i c.entries ++ entry ∷ drop i c.entries }

pub made_changes : {S K : Type 0} (kept_of : S → K) (page_state_of : S → ℕ → PageState) (words_of : S → ℕ → ℕ → ℕ) (room : S) (c : Contents) (i : ℕ) (entry : Entry) → IsInHand (page_state_of room) (words_of room) c
    → length c.entries < 32 → IsName entry.name → entry.root ≡ 0 → Changes kept_of page_state_of words_of c (with_entry c i entry) room room
made_changes kept_of page_state_of words_of room c i entry h less named r =
    let w = words_of room in
    let every : All (IsTree (page_state_of room) w) (map (λ e. e.root) c.entries) = λ j d lt. h.trees.each (suc j) d (omega (arith, lt)) in
    let same = ap (λ ps. pages w c.catalog ++ ps) (inserted_pages w c.entries entry i r) in
    record {
      in_hand = record {
        fits = h.fits;
        few = omega (arith, less, inserted_length c.entries entry i);
        named = inserted_all (λ e. IsName e.name) c.entries entry i named h.named;
        trees = record {
          each = all_cons (IsTree (page_state_of room) w) c.catalog _ (h.trees.each zero zero (omega arith))
              (inserted_roots (IsTree (page_state_of room) w) c.entries entry i (subst (IsTree (page_state_of room) w) (sym r) tt) every);
          once = λ q. omega (arith, ap (times q) same, h.trees.once q);
        };
      };
      swaps = subst (λ ps. Swaps kept_of page_state_of words_of (pages_of w (roots c)) ps room room) (sym same)
          (swaps_none kept_of page_state_of words_of (pages_of w (roots c)) room (λ q some. trees_in_use (page_state_of room) w (roots c) h.trees.each q some));
    }

pub made_encodes : (w : ℕ → ℕ → ℕ) (c : Contents) (volume : State) (name : List ℕ) (kind : Kind) (i : ℕ) (entry : Entry) → Encodes w c volume → IsGapAt c.entries name i → entry.name ≡ name → entry.kind ≡ kind → entry.root ≡ 0
    → Encodes w (with_entry c i entry) (record { next = volume.next; nodes = volume.nodes; indices = fin.insert volume.indices name (new_index kind) })
made_encodes w c volume name kind i entry encodes at n k r = record {
  next = encodes.next;
  catalog = encodes.catalog;
  indices = subst (AreEntriesOf w (take i c.entries ++ entry ∷ drop i c.entries)) (sym (fin.entries-insert names_total volume.indices name (new_index kind)))
      (gap_entries w c.entries (fin.entries volume.indices) name (new_index kind) entry i encodes.indices at (new_entry w entry name kind n k r));
}

-- removing an entry without pages
left_pages : (w : ℕ → ℕ → ℕ) (fs gs : List Entry) (e : Entry) → e.root ≡ 0 → pages_of w (map (λ x. x.root) (fs ++ e ∷ gs)) ≡ pages_of w (map (λ x. x.root) (fs ++ gs))
left_pages w [] gs e r = ap (λ (n : ℕ). pages w n ++ pages_of w (map (λ (x : Entry). x.root) gs)) r
left_pages w (f ∷ fs) gs e r = ap (λ ps. pages w f.root ++ ps) (left_pages w fs gs e r)

left_all : (P : Entry → Type 0) (fs gs : List Entry) (e : Entry) → All P (fs ++ e ∷ gs) → All P (fs ++ gs)
left_all P [] gs e all = λ i d lt. all (suc i) d (omega (arith, lt))
left_all P (f ∷ fs) gs e all = all_cons P f (fs ++ gs) (all zero f (omega arith)) (left_all P fs gs e (λ i d lt. all (suc i) d (omega (arith, lt))))

left_roots : (P : ℕ → Type 0) (fs gs : List Entry) (e : Entry) → All P (map (λ x. x.root) (fs ++ e ∷ gs)) → All P (map (λ x. x.root) (fs ++ gs))
left_roots P [] gs e all = λ i d lt. all (suc i) d (omega (arith, lt))
left_roots P (f ∷ fs) gs e all = all_cons P f.root (map (λ x. x.root) (fs ++ gs)) (all zero f.root (omega arith)) (left_roots P fs gs e (λ i d lt. all (suc i) d (omega (arith, lt))))

left_length : (fs gs : List Entry) (e : Entry) → length (fs ++ gs) ≤ length (fs ++ e ∷ gs)
left_length [] gs e = omega arith
left_length (f ∷ fs) gs e = omega (arith, left_length fs gs e)

pub left_changes : {S K : Type 0} (kept_of : S → K) (page_state_of : S → ℕ → PageState) (words_of : S → ℕ → ℕ → ℕ) (old new : S) (c : Contents) (next catalog : ℕ) (fs gs : List Entry) (e : Entry) → e.root ≡ 0
    → Changes kept_of page_state_of words_of c (record { next = next; catalog = catalog; entries = fs ++ e ∷ gs }) old new
    → Changes kept_of page_state_of words_of c (record { next = next; catalog = catalog; entries = fs ++ gs }) old new
left_changes kept_of page_state_of words_of old new c next catalog fs gs e r change =
    let w = words_of new in
    let h = change.in_hand in
    let same = ap (λ ps. pages w catalog ++ ps) (left_pages w fs gs e r) in
    record {
      in_hand = record {
        fits = h.fits;
        few = omega (arith, h.few, left_length fs gs e);
        named = left_all (λ x. IsName x.name) fs gs e h.named;
        trees = record {
          each = all_cons (IsTree (page_state_of new) w) catalog _ (h.trees.each zero zero (omega arith)) (left_roots (IsTree (page_state_of new) w) fs gs e (λ j d lt. h.trees.each (suc j) d (omega (arith, lt))));
          once = λ q. omega (arith, ap (times q) same, h.trees.once q);
        };
      };
      swaps = subst (λ ps. Swaps kept_of page_state_of words_of (pages_of (words_of old) (roots c)) ps old new) same change.swaps;
    }

-- the entries of a map without one of its names
turned : {A : Type 0} (b : Bool) (x y : A) → cond (not b) x y ≡ cond b y x
turned true x y = refl
turned false x y = refl

abbrev is_other : List ℕ → List ℕ → Bool
is_other name x = not (eq_by_cmp name_cmp name x)

entries_without : (m : Indices) (name : List ℕ) → fin.entries (fin.remove m name) ≡ filter (λ e. not (eq_by_cmp name_cmp name e.0)) (fin.entries m)
entries_without m name = ap fin.entries same ∙ fin.entries-from_sorted name_cmp others sorted
  where
    others : List (List ℕ × Index)
    others = where_key name_cmp (is_other name) (fin.entries m)

    sorted : T (is_sorted name_cmp (where_key name_cmp (is_other name) (fin.entries m)))
    sorted = is_sorted-where_key name_cmp (is_other name) (fin.entries m) (fin.entries_sorted m)

    alike : (q x : List ℕ) → name_cmp q x ≡ Equal → is_other name x ≡ is_other name q
    alike q x t = ap (is_other name) (sym (exact_names q x t))

    same : fin.remove m name ≡ fin.from_sorted (where_key name_cmp (is_other name) (fin.entries m))
    same = fin.same_map names_total exact_names _ _ (λ q. fin.get-remove names_total m name q
        ∙ sym (fin.get-from_sorted name_cmp (where_key name_cmp (is_other name) (fin.entries m)) q sorted ∙ find-where_key name_cmp (is_other name) q (alike q) (fin.entries m)
        ∙ turned (eq_by_cmp name_cmp name q) (find name_cmp q (fin.entries m)) None ∙ ap (λ b. cond b None (find name_cmp q (fin.entries m))) ((eq_by_cmp_equiv names_total).symm name q)
        ∙ ap (cond (eq_by_cmp name_cmp q name) None) (sym (fin.get-entries m q))))

second : (a b : Bool) → T (a && b) → T b
second true b p = p
second false b p = absurd p

first : (a b : Bool) → T (a && b) → T a
first true b p = tt
first false b p = absurd p

less : (o : Ordering) → T (is_lt o) → o ≡ Less
less Less p = refl
less Equal p = absurd p
less Greater p = absurd p

flip : (a b : List ℕ) (r : Ordering) → name_cmp a b ≡ r → name_cmp b a ≡ ordering_reverse r
flip a b r e = names_total.antisymm b a ∙ ap ordering_reverse e

-- names above a name differ from it
all_other : (name : List ℕ) (is : List (List ℕ × Index)) → T (below_all name_cmp name is) → filter (λ e. not (eq_by_cmp name_cmp name e.0)) is ≡ is
all_other name [] h = refl
all_other name (x ∷ is) h =
    ap (λ o. cond (not (is_eq o)) (x ∷ filter (λ (e : List ℕ × Index). not (eq_by_cmp name_cmp name e.0)) is) (filter (λ (e : List ℕ × Index). not (eq_by_cmp name_cmp name e.0)) is)) (less (name_cmp name x.0) (first _ _ h))
    ∙ ap (λ ys. x ∷ ys) (all_other name is (second _ _ h))

named_gone : (w : ℕ → ℕ → ℕ) (es : List Entry) (is : List (List ℕ × Index)) (name : List ℕ) (i : ℕ) → AreEntriesOf w es is → T (is_sorted name_cmp is) → IsNamedAt es name i
    → AreEntriesOf w (take i es ++ drop (suc i) es) (filter (λ e. not (eq_by_cmp name_cmp name e.0)) is)
named_gone w [] is name i h sorted at = absurd (omega (arith, at.in_range))
named_gone w (e ∷ es) [] name i h sorted at = absurd h
named_gone w (e ∷ es) (x ∷ is) name zero h sorted at =
    let same : name ≡ x.0 = sym (at.here e) ∙ h.0.name_is in
    let tied : name_cmp name x.0 ≡ Equal = ap (λ n. name_cmp n x.0) same ∙ tied_itself names_total x.0 in
    subst (λ o. AreEntriesOf w es (cond (not (is_eq o)) (x ∷ filter (λ (y : List ℕ × Index). not (eq_by_cmp name_cmp name y.0)) is) (filter (λ (y : List ℕ × Index). not (eq_by_cmp name_cmp name y.0)) is))) (sym tied)
    (subst (AreEntriesOf w es) (sym (all_other name is (subst (λ n. T (below_all name_cmp n is)) (sym same) (first _ _ sorted)))) h.1)
named_gone w (e ∷ es) (x ∷ is) name (suc i) h sorted at =
    let over : name_cmp name x.0 ≡ Greater = flip x.0 name Less (ap (λ n. name_cmp n name) (sym h.0.name_is) ∙ at.below zero e (omega arith)) in
    let rest = named_gone w es is name i h.1 (second _ _ sorted) (record { in_range = omega (arith, at.in_range); below = λ j d lt. at.below (suc j) d (omega (arith, lt)); here = at.here }) in
    subst (λ o. AreEntriesOf w (e ∷ (take i es ++ drop (suc i) es)) (cond (not (is_eq o)) (x ∷ filter (λ (y : List ℕ × Index). not (eq_by_cmp name_cmp name y.0)) is) (filter (λ (y : List ℕ × Index). not (eq_by_cmp name_cmp name y.0)) is))) (sym over) (h.0, rest)

pub gone_entries : (w : ℕ → ℕ → ℕ) (es : List Entry) (m : Indices) (name : List ℕ) (i : ℕ) → AreEntriesOf w es (fin.entries m) → IsNamedAt es name i → AreEntriesOf w (take i es ++ drop (suc i) es) (fin.entries (fin.remove m name))
gone_entries w es m name i h at = subst (AreEntriesOf w (take i es ++ drop (suc i) es)) (sym (entries_without m name)) (named_gone w es (fin.entries m) name i h (fin.entries_sorted m) at)

-- what a volume accepted for an operation on an index
pub made_steps : (w : ℕ → ℕ → ℕ) (c : Contents) (volume : State) (name : List ℕ) (kind : Kind) (i : ℕ) (entry : Entry) → Encodes w c volume → IsOk (step volume (MkIndex name kind)) → IsGapAt c.entries name i
    → entry.name ≡ name → entry.kind ≡ kind → entry.root ≡ 0 → Steps w (with_entry c i entry) volume (MkIndex name kind) Nothing
made_steps w c volume name kind i entry encodes ok at n k r = record {
  made = made volume (MkIndex name kind);
  stepped = stepped_is volume (MkIndex name kind) ok;
  encodes = made_encodes w c volume name kind i entry encodes at n k r;
}

never : {A : Type 0} → true ≡ false → A
never e = cc

pub not_there : {A : Type 0} (w : ℕ → ℕ → ℕ) (c : Contents) (volume : State) (name : List ℕ) (kind : Kind) (i : ℕ) → Encodes w c volume → IsOk (step volume (MkIndex name kind)) → IsNamedAt c.entries name i → A
not_there w c volume name kind i encodes ok at =
    let found = (accepted volume (MkIndex name kind) ok).found in
    never (sym (ap is_some (fin.get-entries volume.indices name ∙ (named_found w c.entries (fin.entries volume.indices) name i encodes.indices at).found)) ∙ found.0)

pub not_full : {A : Type 0} (w : ℕ → ℕ → ℕ) (c : Contents) (volume : State) (name : List ℕ) (kind : Kind) → Encodes w c volume → IsOk (step volume (MkIndex name kind)) → 32 ≤ length c.entries → A
not_full w c volume name kind encodes ok many =
    let found = (accepted volume (MkIndex name kind) ok).found in
    let count : fin.len volume.indices ≡ length c.entries = fin.len-entries volume.indices ∙ sym (entries_len w c.entries (fin.entries volume.indices) encodes.indices) in
    let full : nat_le 32 (fin.len volume.indices) ≡ true = ap (nat_le 32) count ∙ grind (arith, nat_tests, many) in
    never (sym full ∙ found.1)

pub is_there : {A : Type 0} (w : ℕ → ℕ → ℕ) (c : Contents) (volume : State) (name : List ℕ) (i : ℕ) → Encodes w c volume → IsOk (step volume (RmIndex name)) → IsGapAt c.entries name i → A
is_there w c volume name i encodes ok at =
    let found = (accepted volume (RmIndex name) ok).found in
    never (sym found ∙ ap is_some (fin.get-entries volume.indices name ∙ gap_none w c.entries (fin.entries volume.indices) name i encodes.indices (fin.entries_sorted volume.indices) at))

pub gone_steps : (v w : ℕ → ℕ → ℕ) (c : Contents) (volume : State) (name : List ℕ) (i : ℕ) → w ≡ v → Encodes v c volume → IsOk (step volume (RmIndex name)) → IsNamedAt c.entries name i
    → Steps w (record { next = c.next; catalog = c.catalog; entries = take i c.entries ++ drop (suc i) c.entries }) volume (RmIndex name) Nothing
gone_steps v w c volume name i same encodes ok at =
    let left : Contents = record { next = c.next; catalog = c.catalog; entries = take i c.entries ++ drop (suc i) c.entries } in
    record {
      made = made volume (RmIndex name);
      stepped = stepped_is volume (RmIndex name) ok;
      encodes = subst (λ (u : ℕ → ℕ → ℕ). Encodes u left (made volume (RmIndex name))) (sym same)
          (record { next = encodes.next; catalog = encodes.catalog; indices = gone_entries v c.entries volume.indices name i encodes.indices at });
    }
