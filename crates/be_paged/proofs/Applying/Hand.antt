-- Contents in hand when one of their trees is replaced.
use Rattle.std.proofs.Common.{◌≡◌, ℕ, zero, suc, ◌<◌, ◌^◌, List, [], ◌∷◌, ◌++◌, length, map, take, drop, get_or, All, ap, sym, subst, ◌∙◌, refl, arith}
use Rattle.std.proofs.lemmas.List.{map-append}
use Rattle.std.specs.Ordering.{ordering_reverse}
use Rattle.std.specs.Cmp.{tied_itself}
use Rattle.std.specs.declared.cmp.Ordering.{Ordering}
use Rattle.std.specs.declared.cmp.Ordering.TheVariants.{Less, Equal, Greater}
use Rattle.std.specs.FinMap as fin
use Rattle.std.specs.FinMap.Entries.{put, by_order}
use Rattle.be_pages.specs.declared.room.PageState.{PageState}
use Rattle.be_pages.specs.Pages.{Swaps}
use Rattle.be_tree_reading.specs.Tree.{IsTree, pairs, pages}
use Rattle.be_tree_reading.specs.Forest.{pages_of, AreTrees, Replaces}
use Rattle.be_tree_reading.proofs.TreeFacts.{in_three}
use Rattle.be_tree_reading.proofs.Trees.{all_cons, replaces}
use Rattle.be_volume.specs.Maps.{name_cmp, Nodes}
use Rattle.be_volume.specs.Sound.{IsName}
use Rattle.be_volume.specs.Volume.{State}
use Rattle.be_volume.specs.declared.maps.Index.{Index}
use Rattle.be_volume.proofs.MapLemmas.{names_total}
use Rattle.be_paged_reading.specs.Entry.{Entry}
use Rattle.be_paged_reading.specs.Page.{Contents, IsNamedAt}
use Rattle.be_paged_reading.specs.Catalog.{IsCatalog, IsIndexOf}
use Rattle.be_paged_reading.specs.Version.{IsEntryOf, AreEntriesOf, Encodes, IsInHand}
use Rattle.be_paged.specs.Changes.{Changes}

abbrev root_of : Entry → ℕ
root_of e = e.root

-- entries describe the same indices while the pairs of their trees are unchanged
pub entries_same : (v w : ℕ → ℕ → ℕ) (es : List Entry) (is : List (List ℕ × Index)) → AreEntriesOf v es is → All (λ r. pairs w r ≡ pairs v r) (map (λ e. e.root) es) → AreEntriesOf w es is
entries_same v w [] [] h same = tt
entries_same v w [] (i ∷ is) h same = h
entries_same v w (e ∷ es) [] h same = h
entries_same v w (e ∷ es) (i ∷ is) h same = (
  record { name_is = h.0.name_is; kind_is = h.0.kind_is; keys = subst (λ xs. IsIndexOf xs i.1) (sym (same zero zero (omega arith))) h.0.keys },
  entries_same v w es is h.1 (λ j d lt. same (suc j) d (omega (arith, lt))),
)

-- the entries, with the one at index i replaced
abbrev pub replaced : List Entry → ℕ → Entry → List Entry
replaced es i e = take i es ++ e ∷ drop (suc i) es

pub replaced_all : (P : Entry → Type 0) (es : List Entry) (i : ℕ) (e : Entry) → i < length es → P e → All P es → All P (replaced es i e)
replaced_all P [] i e lt p all = absurd (omega (arith, lt))
replaced_all P (x ∷ es) zero e lt p all = all_cons P e es p (λ j d l. all (suc j) d (omega (arith, l)))
replaced_all P (x ∷ es) (suc i) e lt p all = all_cons P x (replaced es i e) (all zero x (omega arith)) (replaced_all P es i e (omega (arith, lt)) p (λ j d l. all (suc j) d (omega (arith, l))))

pub replaced_len : (es : List Entry) (i : ℕ) (e : Entry) → i < length es → length (replaced es i e) ≡ length es
replaced_len [] i e lt = absurd (omega (arith, lt))
replaced_len (x ∷ es) zero e lt = refl
replaced_len (x ∷ es) (suc i) e lt = ap suc (replaced_len es i e (omega (arith, lt)))

pub roots_split : (es : List Entry) (i : ℕ) (d : Entry) → i < length es → map (λ e. e.root) es ≡ map (λ e. e.root) (take i es) ++ (get_or es i d).root ∷ map (λ e. e.root) (drop (suc i) es)
roots_split es i d lt = ap (map root_of) (in_three es i d lt) ∙ map-append root_of (take i es) (get_or es i d ∷ drop (suc i) es)

pub roots_replaced : (es : List Entry) (i : ℕ) (e : Entry) → map (λ e. e.root) (replaced es i e) ≡ map (λ e. e.root) (take i es) ++ e.root ∷ map (λ e. e.root) (drop (suc i) es)
roots_replaced es i e = map-append root_of (take i es) (e ∷ drop (suc i) es)

flip : (a b : List ℕ) (r : Ordering) → name_cmp a b ≡ r → name_cmp b a ≡ ordering_reverse r
flip a b r e = names_total.antisymm b a ∙ ap ordering_reverse e

-- the index with this name gets other pairs
pub named_put : (v w : ℕ → ℕ → ℕ) (es : List Entry) (is : List (List ℕ × Index)) (name : List ℕ) (index : Index) (new : Entry) (i : ℕ) → AreEntriesOf v es is → IsNamedAt es name i
    → All (λ r. pairs w r ≡ pairs v r) (map (λ e. e.root) (take i es)) → All (λ r. pairs w r ≡ pairs v r) (map (λ e. e.root) (drop (suc i) es)) → IsEntryOf w new name index
    → AreEntriesOf w (take i es ++ new ∷ drop (suc i) es) (put name_cmp name index is)
named_put v w [] is name index new i h at front back here = absurd (omega (arith, at.in_range))
named_put v w (e ∷ es) [] name index new i h at front back here = absurd h
named_put v w (e ∷ es) (x ∷ is) name index new zero h at front back here =
    let same : name ≡ x.0 = sym (at.here e) ∙ h.0.name_is in
    let tied : name_cmp name x.0 ≡ Equal = ap (λ n. name_cmp n x.0) same ∙ tied_itself names_total x.0 in
    subst (λ r. AreEntriesOf w (new ∷ es) (by_order r ((name, index) ∷ x ∷ is) ((x.0, index) ∷ is) (x ∷ put name_cmp name index is))) (sym tied)
    (subst (λ n. IsEntryOf w new n index) same here, entries_same v w es is h.1 back)
named_put v w (e ∷ es) (x ∷ is) name index new (suc i) h at front back here =
    let over : name_cmp name x.0 ≡ Greater = flip x.0 name Less (ap (λ n. name_cmp n name) (sym h.0.name_is) ∙ at.below zero e (omega arith)) in
    let rest = named_put v w es is name index new i h.1 (record { in_range = omega (arith, at.in_range); below = λ j d lt. at.below (suc j) d (omega (arith, lt)); here = at.here }) (λ j d lt. front (suc j) d (omega (arith, lt))) back here in
    let first : IsEntryOf w e x.0 x.1 = record { name_is = h.0.name_is; kind_is = h.0.kind_is; keys = subst (λ xs. IsIndexOf xs x.1) (sym (front zero zero (omega arith))) h.0.keys } in
    subst (λ r. AreEntriesOf w (e ∷ (take i es ++ new ∷ drop (suc i) es)) (by_order r ((name, index) ∷ x ∷ is) ((x.0, index) ∷ is) (x ∷ put name_cmp name index is))) (sym over) (first, rest)

module _ {S K : Type 0} (kept_of : S → K) (page_state_of : S → ℕ → PageState) (words_of : S → ℕ → ℕ → ℕ) (old new : S) (c : Contents) (h : IsInHand (page_state_of old) (words_of old) c) where
  -- the catalog's tree is replaced
  module _ (root : ℕ) (tree : IsTree (page_state_of new) (words_of new) root) (swaps : Swaps kept_of page_state_of words_of (pages (words_of old) c.catalog) (pages (words_of new) root) old new) where
    pub catalog_replaces : Replaces kept_of page_state_of words_of [] (map (λ e. e.root) c.entries) c.catalog root old new
    catalog_replaces = replaces kept_of page_state_of words_of old new [] (map (λ e. e.root) c.entries) c.catalog root h.trees tree swaps

    pub catalog_changes : (next : ℕ) → next < 2 ^ 64 → Changes kept_of page_state_of words_of c (record { next = next; catalog = root; entries = c.entries }) old new
    catalog_changes next fits = record { in_hand = record { fits = fits; few = h.few; named = h.named; trees = catalog_replaces.trees }; swaps = catalog_replaces.swaps }

    pub catalog_encodes : (volume : State) (next made_next : ℕ) (nodes : Nodes) → next ≡ made_next → Encodes (words_of old) c volume → IsCatalog (pairs (words_of new) root) nodes
        → Encodes (words_of new) (record { next = next; catalog = root; entries = c.entries }) (record { next = made_next; nodes = nodes; indices = volume.indices })
    catalog_encodes volume next made_next nodes same encodes catalog = record {
      next = same;
      catalog = catalog;
      indices = entries_same (words_of old) (words_of new) c.entries _ encodes.indices catalog_replaces.back_pairs;
    }

  -- an index's tree is replaced
  module _ (i : ℕ) (e d : Entry) (lt : i < length c.entries) (tree : IsTree (page_state_of new) (words_of new) e.root)
      (swaps : Swaps kept_of page_state_of words_of (pages (words_of old) (get_or c.entries i d).root) (pages (words_of new) e.root) old new) where
    front : List ℕ
    front = c.catalog ∷ map (λ e. e.root) (take i c.entries)

    back : List ℕ
    back = map (λ e. e.root) (drop (suc i) c.entries)

    pub entry_replaces : Replaces kept_of page_state_of words_of (c.catalog ∷ map (λ e. e.root) (take i c.entries)) (map (λ e. e.root) (drop (suc i) c.entries)) (get_or c.entries i d).root e.root old new
    entry_replaces = replaces kept_of page_state_of words_of old new (c.catalog ∷ map (λ e. e.root) (take i c.entries)) (map (λ e. e.root) (drop (suc i) c.entries)) (get_or c.entries i d).root e.root
        (subst (λ rs. AreTrees (page_state_of old) (words_of old) (c.catalog ∷ rs)) (roots_split c.entries i d lt) h.trees) tree swaps

    pub entry_changes : IsName e.name → Changes kept_of page_state_of words_of c (record { next = c.next; catalog = c.catalog; entries = replaced c.entries i e }) old new
    entry_changes named =
        let same = roots_replaced c.entries i e in
        record {
          in_hand = record {
            fits = h.fits;
            few = omega (arith, h.few, replaced_len c.entries i e lt);
            named = replaced_all (λ x. IsName x.name) c.entries i e lt named h.named;
            trees = subst (λ rs. AreTrees (page_state_of new) (words_of new) (c.catalog ∷ rs)) (sym same) entry_replaces.trees;
          };
          swaps = subst (λ rs. Swaps kept_of page_state_of words_of (pages_of (words_of old) (c.catalog ∷ rs)) (pages_of (words_of new) (c.catalog ∷ map (λ e. e.root) (replaced c.entries i e))) old new)
              (sym (roots_split c.entries i d lt))
              (subst (λ rs. Swaps kept_of page_state_of words_of (pages_of (words_of old) (c.catalog ∷ (map (λ e. e.root) (take i c.entries) ++ (get_or c.entries i d).root ∷ map (λ e. e.root) (drop (suc i) c.entries)))) (pages_of (words_of new) (c.catalog ∷ rs)) old new)
              (sym same) entry_replaces.swaps);
        }

    pub entry_encodes : (volume : State) (name : List ℕ) (index : Index) → Encodes (words_of old) c volume → IsNamedAt c.entries name i → e.name ≡ name → e.kind ≡ index.kind → IsIndexOf (pairs (words_of new) e.root) index
        → Encodes (words_of new) (record { next = c.next; catalog = c.catalog; entries = replaced c.entries i e }) (record { next = volume.next; nodes = volume.nodes; indices = fin.insert volume.indices name index })
    entry_encodes volume name index encodes at name_is kind_is keys = record {
      next = encodes.next;
      catalog = subst (λ xs. IsCatalog xs volume.nodes) (sym (entry_replaces.front_pairs zero zero (omega arith))) encodes.catalog;
      indices = subst (AreEntriesOf (words_of new) (replaced c.entries i e)) (sym (fin.entries-insert names_total volume.indices name index))
          (named_put (words_of old) (words_of new) c.entries (fin.entries volume.indices) name index e i encodes.indices at
          (λ j x l. entry_replaces.front_pairs (suc j) x (omega (arith, l))) entry_replaces.back_pairs (record { name_is = name_is; kind_is = kind_is; keys = keys }));
    }
