-- Where attributes are in the catalog tree, as found by lookups and walks.
use Rattle.std.proofs.Common.{◌≡◌, ℕ, ◌+◌, ◌≤◌, Bool, true, false, cond, List, [], ◌∷◌, drop, IsTrue, Some, None, is_some, ap, sym, subst, ◌∙◌, refl}
use Rattle.std.specs.List.{slice_get}
use Rattle.std.specs.Option.{IfSome, IfNone, option_or}
use Rattle.std.specs.Ordering.{is_eq}
use Rattle.std.specs.Cmp.{tied_itself}
use Rattle.std.specs.Cmp.Lexicographic.{pointwise, texts_ties}
use Rattle.std.specs.declared.cmp.Ordering.{Ordering}
use Rattle.std.specs.declared.cmp.Ordering.TheVariants.{Less, Equal, Greater}
use Rattle.std.specs.declared.option.Option.{Option}
use Rattle.std.specs.Prelude.{nat_eq}
use Rattle.std.proofs.lemmas.Map.Lookups.{exact_bytes}
use Rattle.be_pages.specs.declared.room.PageState.{PageState}
use Rattle.be_pages.specs.Pages.{is_readable}
use Rattle.be_tree_reading.specs.Key.{payload_at}
use Rattle.be_tree_reading.specs.Page.{IsItem, IsReadableAt, item_at}
use Rattle.be_tree_reading.specs.Pair.{Pair}
use Rattle.be_tree_reading.specs.Range.{is_from, pairs_from}
use Rattle.be_tree_reading.specs.Tree.{pairs}
use Rattle.be_tree_reading.proofs.Order.{key_total}
use Rattle.be_volume.specs.Maps.{name_cmp}
use Rattle.be_paged_reading.specs.Catalog.{catalog_key}
use Rattle.be_paged_reading.specs.Place.{IsPlaceOf, IsFoundAt, IsAsked}
use Rattle.be_paged_reading.specs.Reading.{is_of, front_of_node}
use Rattle.be_paged_reading.specs.declared.asked.Asked.{Asked}
use Rattle.be_paged_reading.proofs.CatalogPairs.Segments.{is_node, payload_from}

-- What was found remains true after pages were only read.
pub found_since : (s t : ℕ → PageState) (v w : ℕ → ℕ → ℕ) (root : ℕ) (key : List ℕ) (found : Option (ℕ × ℕ)) → t ≡ s → w ≡ v → IsFoundAt s v root key found → IsFoundAt t w root key found
found_since s t v w root key found page_state words h =
    subst (λ (u : ℕ → PageState). IsFoundAt u w root key found) (sym page_state) (subst (λ (x : ℕ → ℕ → ℕ). IsFoundAt s x root key found) (sym words) h)

-- What a descent found.
pub found_there : (found : Option (ℕ × ℕ)) (payload : ℕ × ℕ → List ℕ) (there : Option (List ℕ)) → IfNone found (there ≡ None) → IfSome found (λ at. there ≡ Some (payload at)) → is_some found ≡ is_some there
found_there None payload there none some = sym (ap is_some none)
found_there (Some at) payload there none some = sym (ap is_some some)

pub place_found : (s t : ℕ → PageState) (v w : ℕ → ℕ → ℕ) (root : ℕ) (key : List ℕ) (found : Option (ℕ × ℕ)) → t ≡ s → w ≡ v
    → IfNone found (payload_at (pairs v root) key ≡ None) → IfSome found (λ at. payload_at (pairs v root) key ≡ Some (item_at (v at.0) at.1).payload)
    → IfSome found (λ at. IsTrue (is_readable (s at.0))) → IfSome found (λ at. at.1 + 42 ≤ 512) → IfSome found (λ at. IsItem (v at.0) at.1) → IsFoundAt t w root key found
place_found s t v w root key None page_state words none some readable in_page fits = found_since s t v w root key None page_state words none
place_found s t v w root key (Some at) page_state words none some readable in_page fits =
    found_since s t v w root key (Some at) page_state words (record { item = (readable, (in_page, fits)); there = some })

-- An attribute is remembered unless another one already is.
pub asked_or : (s : ℕ → PageState) (w : ℕ → ℕ → ℕ) (root : ℕ) (asked : Option Asked) (last : Asked) → IsAsked s w root asked → IsFoundAt s w root (catalog_key last.node last.name) last.place → IsAsked s w root (option_or asked (Some last))
asked_or s w root None last first second = second
asked_or s w root (Some a) last first second = first

-- Names that are equal byte by byte are equal.
pub same_name : (a b : List ℕ) → pointwise nat_eq a b ≡ true → a ≡ b
same_name a b e = exact_bytes a b (tied (name_cmp a b) (sym (texts_ties a b) ∙ e))
  where
    tied : (o : Ordering) → is_eq o ≡ true → o ≡ Equal
    tied Less e = cc
    tied Equal e = refl
    tied Greater e = cc

-- What is remembered about an attribute is known about it.
pub known_is : (s : ℕ → PageState) (w : ℕ → ℕ → ℕ) (root node : ℕ) (name : List ℕ) (asked : Option Asked) (last : Asked) → asked ≡ Some last → last.node ≡ node → pointwise nat_eq last.name name ≡ true
    → IsAsked s w root asked → IsFoundAt s w root (catalog_key node name) last.place
known_is s w root node name asked last is of named reported =
    let found = subst (IsAsked s w root) is reported in
    let key = ap (λ (n : ℕ). catalog_key n last.name) of ∙ ap (catalog_key node) (same_name last.name name named) in
    subst (λ (k : List ℕ). IsFoundAt s w root k last.place) key found

none_some : {A : Type 0} (x : Pair) → None ≡ Some x → A
none_some x e = absurd (clash e)
  where
    clash : None ≡ Some x → ⊥
    clash e = cc

-- The first pair from a key on is in the list.
pub first_lies : (xs : List Pair) (from : List ℕ) (after : Bool) (now : List Pair) (x : Pair) → now ≡ pairs_from xs from after → slice_get now 0 ≡ Some x → payload_at xs x.key ≡ Some x.payload
first_lies xs from after [] x is e = none_some x e
first_lies xs from after (y ∷ ys) x is e = subst (λ (z : Pair). payload_at xs z.key ≡ Some z.payload) (same y x e) (chosen (is_from from after y.key) (payload_at xs y.key) (sym (payload_from from y.key after xs) ∙ here))
  where
    same : (a b : Pair) → Some a ≡ Some b → a ≡ b
    same a b e = cc

    here : payload_at (pairs_from xs from after) y.key ≡ Some y.payload
    here = ap (λ (zs : List Pair). payload_at zs y.key) (sym is) ∙ ap (λ o. cond (is_eq o) (Some y.payload) (payload_at ys y.key)) (tied_itself key_total y.key)

    chosen : (b : Bool) (p : Option (List ℕ)) → cond b p None ≡ Some y.payload → p ≡ Some y.payload
    chosen true p e = e
    chosen false p e = absurd (clash e)
      where
        clash : None ≡ Some y.payload → ⊥
        clash e = cc

-- If the list begins with a pair of the node, that pair is the first of the list, and its key
-- begins with the node.
first_front : (node : ℕ) (xs : List Pair) (x : Pair) → slice_get (front_of_node node xs) 0 ≡ Some x → (slice_get xs 0 ≡ Some x) × (is_of node x.key ≡ true)
first_front node [] x e = none_some x e
first_front node (y ∷ ys) x e = by (is_of node y.key) refl e
  where
    same : (a b : Pair) → Some a ≡ Some b → a ≡ b
    same a b e = cc

    by : (b : Bool) → is_of node y.key ≡ b → slice_get (cond b (y ∷ front_of_node node ys) []) 0 ≡ Some x → (slice_get (y ∷ ys) 0 ≡ Some x) × (is_of node x.key ≡ true)
    by true of e = (e, ap (λ (z : Pair). is_of node z.key) (sym (same y x e)) ∙ of)
    by false of e = none_some x e

-- The first attribute that a walk over a node's attributes visits is at its name in the tree.
pub place_walked : (s t : ℕ → PageState) (v w : ℕ → ℕ → ℕ) (root node : ℕ) (from : List ℕ) (after : Bool) (now : List Pair) (found : Option (List ℕ × (ℕ × ℕ))) → t ≡ s → w ≡ v → now ≡ pairs_from (pairs v root) from after
    → IfSome found (λ f. slice_get (front_of_node node now) 0 ≡ Some (item_at (v f.1.0) f.1.1)) → IfSome found (λ f. f.0 ≡ drop 8 (item_at (v f.1.0) f.1.1).key)
    → IfSome found (λ f. IsReadableAt s v f.1.0 f.1.1) → IfSome found (λ f. IsPlaceOf t w root (catalog_key node f.0) f.1.0 f.1.1)
place_walked s t v w root node from after now None page_state words lies met beyond fits = tt
place_walked s t v w root node from after now (Some f) page_state words lies met beyond fits =
    let item = item_at (v f.1.0) f.1.1 in
    let front = first_front node now item met in
    let key = is_node node item.key front.1 ∙ ap (catalog_key node) (sym beyond) in
    found_since s t v w root (catalog_key node f.0) (Some f.1) page_state words (record {
      item = fits;
      there = ap (payload_at (pairs v root)) (sym key) ∙ first_lies (pairs v root) from after now item lies front.0;
    })
