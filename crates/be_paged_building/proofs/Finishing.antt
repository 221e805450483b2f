-- The trees of the indices, which are built one after another.
use Rattle.std.proofs.Common.{◌≡◌, ℕ, zero, suc, ◌+◌, ◌<◌, ◌≤◌, List, [], ◌∷◌, ◌++◌, All, length, map, get_or, ap, sym, subst, ◌∙◌, refl, arith, append-nil, append_assoc}
use Rattle.std.proofs.lemmas.List.{length-append, map-append}
use Rattle.std.proofs.lemmas.List.Elements.{All-cons, All-nil}
use Rattle.std.specs.FinMap as fin
use Rattle.be_pages.specs.declared.room.PageState.{PageState}
use Rattle.be_pages.specs.declared.room.PageState.TheVariants.{Taken}
use Rattle.be_pages.specs.Pages.{Swaps, times}
use Rattle.be_paged_building.specs.Building.{AreCollected, Builds, IsTooLarge, pages_held}
use Rattle.be_paged_building.specs.Given.{with_next}
use Rattle.be_paged_building.specs.Keys.{AreFewestFor, BecomesKeys, HaveKeys, IsShortFor}
use Rattle.be_paged_building.specs.declared.building.VolumeBuilder.{VolumeBuilder}
use Rattle.be_paged_building.proofs.Collected.{First, entries_end, entries_same, first_of}
use Rattle.be_paged_building.proofs.Counts.{catalog_few, hand_more}
use Rattle.be_paged_building.proofs.KeysOf.{indexed_keys, keys_indexed}
use Rattle.be_paged_building.proofs.Room.{catalog_tree, reach_size, taken_stays, version_large}
use Rattle.be_paged_reading.specs.Catalog.{IsCatalog}
use Rattle.be_paged_reading.specs.Entries.{with_root}
use Rattle.be_paged_reading.specs.Entry.{Entry}
use Rattle.be_paged_reading.specs.Page.{contents_of}
use Rattle.be_paged_reading.specs.Version.{AreEntriesOf, IsEntryOf}
use Rattle.be_paged_reading.proofs.IndexEntries.Indexing.{entries_len}
use Rattle.be_tree.specs.Building.{AreFewest, IsShort, pages_taken, pairs_given}
use Rattle.be_tree.specs.Counting.{HasInHand}
use Rattle.be_tree_reading.specs.Forest.{AreTrees, KeepsTree, pages_of}
use Rattle.be_tree_reading.specs.Tree.{BecomesTree, IsTree, pages, pairs}
use Rattle.be_tree_reading.proofs.Trees.{AreBeside, replaces, root_once, tree_beside, tree_rising, trees_beside}
use Rattle.be_volume.specs.Sound.{IsName, IsSound}
use Rattle.be_volume.specs.Volume.{State}
use Rattle.be_volume.specs.declared.maps.Index.{Index}

abbrev Listed : Type 0
Listed = List (List ℕ × Index)

abbrev pub root_of : Entry → ℕ
root_of e = e.root

abbrev pub roots_of : List Entry → List ℕ
roots_of es = map root_of es

-- an empty tree adds nothing
pages_zero : (w : ℕ → ℕ → ℕ) (rs : List ℕ) → pages_of w (rs ++ 0 ∷ []) ≡ pages_of w rs
pages_zero w [] = refl
pages_zero w (r ∷ rs) = ap (λ ps. pages w r ++ ps) (pages_zero w rs)

pages_end : (w : ℕ → ℕ → ℕ) (rs : List ℕ) (r : ℕ) → pages_of w (rs ++ r ∷ []) ≡ pages_of w rs ++ pages w r
pages_end w [] r = append-nil (pages w r)
pages_end w (x ∷ rs) r = ap (λ ps. pages w x ++ ps) (pages_end w rs r) ∙ sym (append_assoc (pages w x) (pages_of w rs) (pages w r))

all_end : (P : ℕ → Type 0) (rs : List ℕ) (r : ℕ) → All P rs → P r → All P (rs ++ r ∷ [])
all_end P [] r all one zero d lt = one
all_end P [] r all one (suc i) d lt = absurd (omega (arith, lt))
all_end P (x ∷ rs) r all one zero d lt = all zero x (omega arith)
all_end P (x ∷ rs) r all one (suc i) d lt = all_end P rs r (λ j e l. all (suc j) e (omega (arith, l))) one i d (omega (arith, lt))

set_split : (done : List Entry) (e : Entry) (rest : List Entry) (d : Entry) (root : ℕ) → with_root (done ++ e ∷ rest) (length done) (get_or (done ++ e ∷ rest) (length done) d) root ≡ (done ++ record { name = e.name; kind = e.kind; root = root } ∷ []) ++ rest
set_split [] e rest d root = refl
set_split (x ∷ done) e rest d root = ap (λ es. x ∷ es) (set_split done e rest d root)

all_split : (P : Entry → Type 0) (done : List Entry) (e f : Entry) (rest : List Entry) → (P e → P f) → All P (done ++ e ∷ rest) → All P ((done ++ f ∷ []) ++ rest)
all_split P [] e f rest h all zero d lt = h (all zero e (omega arith))
all_split P [] e f rest h all (suc i) d lt = all (suc i) d (omega (arith, lt))
all_split P (x ∷ done) e f rest h all zero d lt = all zero x (omega arith)
all_split P (x ∷ done) e f rest h all (suc i) d lt = all_split P done e f rest h (λ j g l. all (suc j) g (omega (arith, l))) i d (omega (arith, lt))

-- the entries of another version, up to that of an index
record Splits (page_state : ℕ → PageState) (words : ℕ → ℕ → ℕ) (es : List Entry) (front : Listed) (index : List ℕ × Index) : Type 0 where
  before : List Entry
  entry : Entry
  trees : All (IsTree page_state words) (roots_of before)
  tree : IsTree page_state words entry.root
  encoded : AreEntriesOf words before front
  is_entry : IsEntryOf words entry index.0 index.1
  size : length (pages_of words (roots_of before)) + length (pages words entry.root) ≤ length (pages_of words (roots_of es))

splits : (page_state : ℕ → PageState) (words : ℕ → ℕ → ℕ) (es : List Entry) (front : Listed) (index : List ℕ × Index) (back : Listed) → All (IsTree page_state words) (roots_of es) → AreEntriesOf words es (front ++ index ∷ back)
    → Splits page_state words es front index
splits page_state words [] [] index back trees h = absurd h
splits page_state words [] (x ∷ front) index back trees h = absurd h
splits page_state words (e ∷ es) [] index back trees h = record {
  before = [];
  entry = e;
  trees = All-nil (IsTree page_state words);
  tree = trees zero zero (omega arith);
  encoded = tt;
  is_entry = h.0;
  size = omega (arith, length-append (pages words e.root) (pages_of words (roots_of es)));
}
splits page_state words (e ∷ es) (x ∷ front) index back trees h =
    let rest = splits page_state words es front index back (λ i d lt. trees (suc i) d (omega (arith, lt))) h.1 in
    record {
      before = e ∷ rest.before;
      entry = rest.entry;
      trees = All-cons (IsTree page_state words) e.root (roots_of rest.before) (trees zero zero (omega arith)) rest.trees;
      tree = rest.tree;
      encoded = (h.0, rest.encoded);
      is_entry = rest.is_entry;
      size = omega (arith, rest.size, length-append (pages words e.root) (pages_of words (roots_of es)), length-append (pages words e.root) (pages_of words (roots_of rest.before)));
    }

module _ {S K : Type 0} (kept_of : S → K) (page_state_of : S → ℕ → PageState) (words_of : S → ℕ → ℕ → ℕ) where
  -- one more tree
  module _ (mid new : S) (rs : List ℕ) (r : ℕ) (trees : AreTrees (page_state_of mid) (words_of mid) rs) (tree : IsTree (page_state_of new) (words_of new) r)
      (swaps : Swaps kept_of page_state_of words_of [] (pages (words_of new) r) mid new) where
    with_zero : AreTrees (page_state_of mid) (words_of mid) (rs ++ 0 ∷ [])
    with_zero = record {
      each = all_end (IsTree (page_state_of mid) (words_of mid)) rs 0 trees.each tt;
      once = λ q. subst (λ ps. times q ps ≤ 1) (sym (pages_zero (words_of mid) rs)) (trees.once q);
    }

    pub more_trees : AreTrees (page_state_of new) (words_of new) (rs ++ r ∷ [])
    more_trees = (replaces kept_of page_state_of words_of mid new rs [] 0 r with_zero tree swaps).trees

    pub beside : AreBeside (page_state_of mid) (page_state_of new) (words_of mid) (words_of new) rs
    beside = trees_beside kept_of page_state_of words_of mid new [] (pages (words_of new) r) swaps rs trees.each (λ q lt. refl)

    pub more_hand : (page : ℕ) → HasInHand (page_state_of mid) (page ∷ pages_of (words_of mid) rs) → HasInHand (page_state_of new) (page ∷ pages_of (words_of new) (rs ++ r ∷ []))
    more_hand page has = hand_more kept_of page_state_of words_of (page ∷ []) (pages_of (words_of mid) (rs ++ 0 ∷ [])) (pages_of (words_of new) (rs ++ r ∷ [])) mid new
        (replaces kept_of page_state_of words_of mid new rs [] 0 r with_zero tree swaps).swaps
        (subst (λ ps. HasInHand (page_state_of mid) (page ∷ ps)) (sym (pages_zero (words_of mid) rs)) has)

  -- the first indices have their trees
  pub record IsFinishing (builder : VolumeBuilder) (volume : State) (root : ℕ) (entries : List Entry) (at : ℕ) (left : List (List (List ℕ))) (start now : S) : Type 0 where
    pub done : List Entry
    pub rest : List Entry
    pub front : Listed
    pub back : Listed
    pub entries_are : entries ≡ done ++ rest
    pub at_is : at ≡ length done
    pub indices_are : fin.entries volume.indices ≡ front ++ back
    pub encoded : AreEntriesOf (words_of now) done front
    pub collected : AreCollected rest left back
    pub trees : AreTrees (page_state_of now) (words_of now) (root ∷ roots_of done)
    pub catalog : IsCatalog (pairs (words_of now) root) volume.nodes
    pub hand : HasInHand (page_state_of start) (pages_held (words_of start) builder) → HasInHand (page_state_of now) (builder.page ∷ pages_of (words_of now) (root ∷ roots_of done))
    pub catalog_fewest : (page_state : ℕ → PageState) (words : ℕ → ℕ → ℕ) (other : ℕ) → IsTree page_state words other → IsCatalog (pairs words other) volume.nodes → length (pages (words_of now) root) ≤ length (pages words other)
    pub fewest : (page_state : ℕ → PageState) (words : ℕ → ℕ → ℕ) (others : List Entry) → All (IsTree page_state words) (roots_of others) → AreEntriesOf words others front
        → length (pages_of (words_of now) (roots_of done)) ≤ length (pages_of words (roots_of others))
    pub named : All (λ e. IsName e.name) entries
    pub page : page_state_of now builder.page ≡ Taken
    pub kept : kept_of now ≡ kept_of start

  -- the catalog has its tree
  module _ (builder : VolumeBuilder) (volume : State) (root : ℕ) (start now : S) (builds : Builds (page_state_of start) (words_of start) builder volume)
      (tree : BecomesTree kept_of page_state_of words_of (pages_taken (words_of start) builder.catalog) (pairs_given (words_of start) builder.catalog) root start now)
      (few : AreFewest (length (pages (words_of now) root)) (length (pairs_given (words_of start) builder.catalog))) where
    pub begins : IsFinishing builder volume root builder.entries.items 0 builder.keys.items start now
    begins = record {
      done = [];
      rest = builder.entries.items;
      front = [];
      back = fin.entries volume.indices;
      entries_are = refl;
      at_is = refl;
      indices_are = refl;
      encoded = tt;
      collected = builds.indices;
      trees = record {
        each = All-cons (IsTree (page_state_of now) (words_of now)) root [] tree.tree (All-nil (IsTree (page_state_of now) (words_of now)));
        once = λ q. subst (λ ps. times q ps ≤ 1) (sym (append-nil (pages (words_of now) root))) (root_once (page_state_of now) (words_of now) root tree.tree q);
      };
      catalog = subst (λ xs. IsCatalog xs volume.nodes) (sym tree.has_pairs) builds.pairs;
      hand = λ has. subst (λ ps. HasInHand (page_state_of now) (builder.page ∷ ps)) (sym (append-nil (pages (words_of now) root)))
          (hand_more kept_of page_state_of words_of (builder.page ∷ []) (pages_taken (words_of start) builder.catalog) (pages (words_of now) root) start now tree.swaps has);
      catalog_fewest = λ page_state words other is catalog. few page_state words other is
          (catalog_few (pairs_given (words_of start) builder.catalog) (pairs words other) volume.nodes builds.pairs catalog builds.catalog.begun.rising (tree_rising page_state words other is));
      fewest = λ page_state words others are encoded. omega arith;
      named = builds.named;
      page = taken_stays kept_of page_state_of words_of (pages_taken (words_of start) builder.catalog) (pages (words_of now) root) start now builder.page tree.swaps builds.page;
      kept = tree.swaps.kept;
    }

  -- no page is left for the catalog
  pub no_catalog : (builder : VolumeBuilder) (volume : State) (next : ℕ) (start now : S) → Builds (page_state_of start) (words_of start) builder volume
      → IsShort (length (pages_taken (words_of start) builder.catalog)) (length (pairs_given (words_of start) builder.catalog)) (page_state_of start) (page_state_of now)
      → IsTooLarge (with_next volume next) (pages_held (words_of start) builder) (page_state_of start) (page_state_of now)
  no_catalog builder volume next start now builds short =
      version_large builder.page (pages_taken (words_of start) builder.catalog) (length (pairs_given (words_of start) builder.catalog)) (page_state_of start) (page_state_of now) (with_next volume next) short
      (λ ys rising catalog. catalog_few (pairs_given (words_of start) builder.catalog) ys volume.nodes builds.pairs catalog builds.catalog.begun.rising rising)

  module _ (builder : VolumeBuilder) (volume : State) (root : ℕ) (entries : List Entry) (at : ℕ) (list : List (List ℕ)) (left : List (List (List ℕ))) (start mid new : S)
      (f : IsFinishing builder volume root entries at (list ∷ left) start mid) where
    head : First f.rest list left f.back
    head = first_of f.rest list left f.back f.collected

    at_head : entries ≡ f.done ++ head.entry ∷ head.entries
    at_head = f.entries_are ∙ ap (λ xs. f.done ++ xs) head.entries_are

    at_index : fin.entries volume.indices ≡ f.front ++ head.index ∷ head.indices
    at_index = f.indices_are ∙ ap (λ xs. f.front ++ xs) head.indices_are

    pub list_short : All (λ k. length k ≤ 264) list
    list_short = head.one.short

    pub at_within : at < length entries
    at_within = omega (arith, f.at_is, ap length at_head, length-append f.done (head.entry ∷ head.entries))

    pub at_few : IsSound volume → at < 32
    at_few sound = omega (
      arith,
      f.at_is,
      entries_len (words_of mid) f.done f.front f.encoded,
      ap length at_index,
      length-append f.front (head.index ∷ head.indices),
      fin.len-entries volume.indices,
      sound.few_indices,
    )

    -- the next index gets its tree
    module _ (k : ℕ) (built : BecomesKeys kept_of page_state_of words_of list k mid new) (few : AreFewestFor (length (pages (words_of new) k)) list) where
      abbrev entry : Entry
      entry = record { name = head.entry.name; kind = head.entry.kind; root = k }

      have : HaveKeys list (pairs (words_of new) k)
      have = subst (HaveKeys list) (sym built.becomes.has_pairs) built.keys_are

      is_entry : IsEntryOf (words_of new) entry head.index.0 head.index.1
      is_entry = record { name_is = head.one.name_is; kind_is = head.one.kind_is; keys = keys_indexed list head.index.1 (pairs (words_of new) k) head.one.keys_are have }

      swaps : Swaps kept_of page_state_of words_of [] (pages (words_of new) k) mid new
      swaps = built.becomes.swaps

      all : AreBeside (page_state_of mid) (page_state_of new) (words_of mid) (words_of new) (root ∷ roots_of f.done)
      all = beside mid new (root ∷ roots_of f.done) k f.trees built.becomes.tree swaps

      before : AreBeside (page_state_of mid) (page_state_of new) (words_of mid) (words_of new) (roots_of f.done)
      before = trees_beside kept_of page_state_of words_of mid new [] (pages (words_of new) k) swaps (roots_of f.done) (λ i d lt. f.trees.each (suc i) d (omega (arith, lt))) (λ q lt. refl)

      catalog : KeepsTree (page_state_of new) (words_of mid) (words_of new) root
      catalog = tree_beside kept_of page_state_of words_of [] (pages (words_of new) k) mid new root swaps (f.trees.each zero zero (omega arith)) (λ q lt. refl)

      ends : roots_of (f.done ++ entry ∷ []) ≡ roots_of f.done ++ k ∷ []
      ends = map-append root_of f.done (entry ∷ [])

      more_pages : pages_of (words_of new) (roots_of f.done ++ k ∷ []) ≡ pages_of (words_of mid) (roots_of f.done) ++ pages (words_of new) k
      more_pages = pages_end (words_of new) (roots_of f.done) k ∙ ap (λ ps. ps ++ pages (words_of new) k) before.same_pages

      fewer : (page_state : ℕ → PageState) (words : ℕ → ℕ → ℕ) (others : List Entry) → All (IsTree page_state words) (roots_of others) → AreEntriesOf words others (f.front ++ head.index ∷ [])
          → length (pages_of (words_of new) (roots_of (f.done ++ entry ∷ []))) ≤ length (pages_of words (roots_of others))
      fewer page_state words others are encoded =
          let s = splits page_state words others f.front head.index [] are encoded in
          omega (
            arith,
            ap (λ rs. length (pages_of (words_of new) rs)) ends,
            ap length more_pages,
            length-append (pages_of (words_of mid) (roots_of f.done)) (pages (words_of new) k),
            f.fewest page_state words s.before s.trees s.encoded,
            few page_state words s.entry.root s.tree (indexed_keys list head.index.1 (pairs words s.entry.root) head.one.keys_are s.is_entry.keys),
            s.size,
          )

      pub proceeds : (items : List Entry) (d : Entry) → items ≡ with_root entries at (get_or entries at d) k → IsFinishing builder volume root items (at + 1) left start new
      proceeds items d set =
          let now : items ≡ (f.done ++ entry ∷ []) ++ head.entries =
          set ∙ ap (λ es. with_root es at (get_or es at d) k) at_head ∙ ap (λ n. with_root (f.done ++ head.entry ∷ head.entries) n (get_or (f.done ++ head.entry ∷ head.entries) n d) k) f.at_is
          ∙ set_split f.done head.entry head.entries d k in
          record {
            done = f.done ++ entry ∷ [];
            rest = head.entries;
            front = f.front ++ head.index ∷ [];
            back = head.indices;
            entries_are = now;
            at_is = omega (arith, f.at_is, length-append f.done (entry ∷ []));
            indices_are = f.indices_are ∙ ap (λ xs. f.front ++ xs) head.indices_are ∙ sym (append_assoc f.front (head.index ∷ []) head.indices);
            encoded = entries_end (words_of new) f.done f.front entry head.index (entries_same (words_of mid) (words_of new) f.done f.front f.encoded before.same_pairs) is_entry;
            collected = head.rest;
            trees = subst (λ rs. AreTrees (page_state_of new) (words_of new) (root ∷ rs)) (sym ends) (more_trees mid new (root ∷ roots_of f.done) k f.trees built.becomes.tree swaps);
            catalog = subst (λ xs. IsCatalog xs volume.nodes) (sym catalog.same_pairs) f.catalog;
            hand = λ has. subst (λ rs. HasInHand (page_state_of new) (builder.page ∷ pages_of (words_of new) (root ∷ rs))) (sym ends) (more_hand mid new (root ∷ roots_of f.done) k f.trees built.becomes.tree swaps builder.page (f.hand has));
            catalog_fewest = λ page_state words other is same. omega (arith, ap length catalog.same_pages, f.catalog_fewest page_state words other is same);
            fewest = fewer;
            named = subst (All (λ e. IsName e.name)) (sym now) (all_split (λ e. IsName e.name) f.done head.entry entry head.entries (λ n. n) (subst (All (λ e. IsName e.name)) at_head f.named));
            page = taken_stays kept_of page_state_of words_of [] (pages (words_of new) k) mid new builder.page swaps f.page;
            kept = swaps.kept ∙ f.kept;
          }

    -- no page is left for it
    pub no_index : (next : ℕ) → IsShortFor list (page_state_of mid) (page_state_of new) → IsTooLarge (with_next volume next) (pages_held (words_of start) builder) (page_state_of start) (page_state_of new)
    no_index next short has page_state words page version n =
        let c = contents_of (words page) in
        let are : AreEntriesOf words c.entries (f.front ++ head.index ∷ head.indices) = subst (AreEntriesOf words c.entries) (f.indices_are ∙ ap (λ xs. f.front ++ xs) head.indices_are) version.encodes.indices in
        let trees : All (IsTree page_state words) (roots_of c.entries) = λ i d lt. version.in_hand.trees.each (suc i) d (omega (arith, lt)) in
        let s = splits page_state words c.entries f.front head.index head.indices trees are in
        omega (
          arith,
          short (builder.page ∷ pages_of (words_of mid) (root ∷ roots_of f.done)) (f.hand has) page_state words s.entry.root s.tree (indexed_keys list head.index.1 (pairs words s.entry.root) head.one.keys_are s.is_entry.keys) n,
          length-append (pages (words_of mid) root) (pages_of (words_of mid) (roots_of f.done)),
          f.catalog_fewest page_state words c.catalog (catalog_tree page_state words page (with_next volume next) version) version.encodes.catalog,
          f.fewest page_state words s.before s.trees s.encoded,
          s.size,
          reach_size words page,
        )
