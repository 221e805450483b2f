-- What a write holds when it stops because no page is free.
use Rattle.std.proofs.Common.{◌≡◌, ◌⊎◌, ℕ, zero, suc, ◌+◌, ◌*◌, ◌<◌, ◌≤◌, ◌^◌, Bool, true, false, cond, List, [], ◌∷◌, ◌++◌, map, take, drop, get_or, length, All, Some, None, is_some, Ok, Err, OnErr, Result, ap, ◌∙◌, refl, inl, inr, arith}
use Rattle.std.proofs.Math.Nat.{pow-le-pow_right}
use Rattle.std.proofs.lemmas.List.{length-append, length-map}
use Rattle.std.proofs.lemmas.List.Concat.{flat_map-append}
use Rattle.std.specs.FinMap as fin
use Rattle.std.specs.Option.{IfSome}
use Rattle.std.specs.Ordering.{is_eq}
use Rattle.std.specs.declared.cmp.Ordering.{Ordering}
use Rattle.std.specs.declared.cmp.Ordering.TheVariants.{Less, Equal, Greater}
use Rattle.std.specs.declared.option.Option.{Option}
use Rattle.be_value.specs.declared.values.Kind.{Kind}
use Rattle.be_value.specs.declared.values.Value.{Value}
use Rattle.be_pages.specs.declared.room.PageState.{PageState}
use Rattle.be_pages.specs.Pages.{IsUnchanged, Swaps}
use Rattle.be_tree.specs.Counting.{CanBeHigh, HasInHand, TakesFewer, in_hand, most_taken, one_of, pairs_of_all}
use Rattle.be_tree_reading.specs.Forest.{pages_of, Replaces}
use Rattle.be_tree_reading.specs.Key.{key_cmp, put, put_before, without}
use Rattle.be_tree_reading.specs.Pair.{Pair}
use Rattle.be_tree_reading.specs.Tree.{IsTree, level_of_root, pages, pairs}
use Rattle.be_tree.proofs.Sizes.InHand.{hand_size, hand_swaps}
use Rattle.be_tree.proofs.Sizes.Trees.{forest_size, tree_high}
use Rattle.be_tree_reading.proofs.Trees.{tree_rising}
use Rattle.be_value.specs.declared.refusals.Refusal.{Refusal}
use Rattle.be_volume.specs.Ahead.{reached, state_after}
use Rattle.be_volume.specs.Items.{StaysWithin, items}
use Rattle.be_volume.specs.Volume.{State, steps}
use Rattle.be_volume.specs.declared.ops.Done.{Done}
use Rattle.be_volume.specs.declared.ops.Op.{Op}
use Rattle.be_paged.specs.Changes.{Changes, key_put, key_taken}
use Rattle.be_paged_reading.specs.Entry.{Entry}
use Rattle.be_paged_reading.specs.Page.{Contents, roots}
use Rattle.be_paged.specs.Stops.{Gains, Stops, StopsNear, StopsTree, TakesFew, pair_count}
use Rattle.be_paged_reading.specs.Version.{IsInHand, Encodes}
use Rattle.be_paged.proofs.Applying.Composing.{changes_none, changes_since, changes_trans, tree_stays}
use Rattle.be_paged.proofs.Applying.Hand.{catalog_changes, catalog_replaces, entry_changes, entry_replaces, replaced, replaced_len, roots_replaced, roots_split}
use Rattle.be_paged.proofs.IndexEntries.Repairs.{Leaves}
use Rattle.be_paged.proofs.Sizes.Items.{catalog_size, indices_size}

-- the number of pairs after a key is inserted or removed
put_size : (pair : Pair) (xs : List Pair) → length (put pair xs) ≤ length xs + 1
put_size pair [] = omega arith
put_size pair (x ∷ xs) = by (key_cmp x.key pair.key) (put_size pair xs)
  where
    by : (o : Ordering) → length (put pair xs) ≤ length xs + 1 → length (put_before o pair x xs (put pair xs)) ≤ length (x ∷ xs) + 1
    by Less le = omega (arith, le)
    by Equal le = omega arith
    by Greater le = omega arith

without_size : (k : List ℕ) (xs : List Pair) → length (without k xs) ≤ length xs
without_size k [] = omega arith
without_size k (x ∷ xs) = by (is_eq (key_cmp x.key k)) (without_size k xs)
  where
    by : (b : Bool) → length (without k xs) ≤ length xs → length (cond b (without k xs) (x ∷ without k xs)) ≤ length (x ∷ xs)
    by true le = omega (arith, le)
    by false le = omega (arith, le)

pub taken_size : (key : Option (List ℕ)) (xs : List Pair) → length (key_taken key xs) ≤ length xs
taken_size None xs = omega arith
taken_size (Some k) xs = without_size k xs

-- a key is inserted only if there is a value
pub entered_size : (kind : Kind) (node : ℕ) (value : Option Value) (key : Option (List ℕ)) (xs : List Pair) → IfSome key (Leaves kind node value) → length (key_put key xs) ≤ length xs + one_of (is_some value)
entered_size kind node value None xs h = omega arith
entered_size kind node value (Some k) xs h = omega (arith, put_size (record { key = k; payload = [] }) xs, ap (λ (v : Option Value). one_of (is_some v)) h.1)

pub put_pairs : (pair : Pair) (xs ys : List Pair) → ys ≡ put pair xs → length ys ≤ length xs + 1
put_pairs pair xs ys e = omega (arith, put_size pair xs, ap length e)

pub without_pairs : (k : List ℕ) (xs ys : List Pair) → ys ≡ without k xs → length ys ≤ length xs + 0
without_pairs k xs ys e = omega (arith, without_size k xs, ap length e)

-- the number of pairs in several trees
three_size : (w : ℕ → ℕ → ℕ) (front back : List ℕ) (r : ℕ) → length (pairs_of_all w (front ++ r ∷ back)) ≡ length (pairs_of_all w front) + (length (pairs w r) + length (pairs_of_all w back))
three_size w front back r =
    omega (
      arith,
      ap length (flat_map-append (λ root. pairs w root) front (r ∷ back)),
      length-append (pairs_of_all w front) (pairs_of_all w (r ∷ back)),
      length-append (pairs w r) (pairs_of_all w back),
    )

same_size : (v w : ℕ → ℕ → ℕ) (rs : List ℕ) → All (λ r. pairs w r ≡ pairs v r) rs → length (pairs_of_all w rs) ≡ length (pairs_of_all v rs)
same_size v w [] same = refl
same_size v w (r ∷ rs) same =
    omega (
      arith,
      ap length (same zero zero (omega arith)),
      same_size v w rs (λ i d lt. same (suc i) d (omega (arith, lt))),
      length-append (pairs w r) (pairs_of_all w rs),
      length-append (pairs v r) (pairs_of_all v rs),
    )

-- one of the trees has no more pairs than all of them together
part_size : (w : ℕ → ℕ → ℕ) (front back : List ℕ) (r : ℕ) → length (pairs w r) ≤ length (pairs_of_all w (front ++ r ∷ back))
part_size w front back r = omega (arith, three_size w front back r)

high_within : (level a b : ℕ) → a ≤ b → CanBeHigh level a → CanBeHigh level b
high_within level a b le (inl e) = inl e
high_within level a b le (inr enough) = inr (omega (arith, le, enough))

-- a tree is no higher than its number of pairs allows
not_higher : (level high count : ℕ) → CanBeHigh level count → count < 2 * 6 ^ suc high → level ≤ high
not_higher level high count (inl e) lt = omega (arith, e)
not_higher level high count (inr enough) lt = by (compare level high)
  where
    compare : (a b : ℕ) → (a ≤ b) ⊎ (suc b ≤ a)
    compare zero b = inl (omega arith)
    compare (suc a) zero = inr (omega arith)
    compare (suc a) (suc b) = elim (compare a b) [
      | inl le ↦ inl (omega (arith, le))
      | inr le ↦ inr (omega (arith, le))
    ]

    by : (level ≤ high) ⊎ (suc high ≤ level) → level ≤ high
    by (inl le) = le
    by (inr le) = absurd (omega (arith, enough, lt, pow-le-pow_right {n = 6} (omega arith) le))

module _ {S K : Type 0} (kept_of : S → K) (page_state_of : S → ℕ → PageState) (words_of : S → ℕ → ℕ → ℕ) where
  replaced_size : (front back : List ℕ) (root new_root more : ℕ) (old new : S) → Replaces kept_of page_state_of words_of front back root new_root old new
      → length (pairs (words_of new) new_root) ≤ length (pairs (words_of old) root) + more
      → length (pairs_of_all (words_of new) (front ++ new_root ∷ back)) ≤ length (pairs_of_all (words_of old) (front ++ root ∷ back)) + more
  replaced_size front back root new_root more old new r le =
      omega (
        arith,
        le,
        three_size (words_of new) front back new_root,
        three_size (words_of old) front back root,
        same_size (words_of old) (words_of new) front r.front_pairs,
        same_size (words_of old) (words_of new) back r.back_pairs,
      )

  -- a refused change finds the tree unchanged
  pub tree_stops : (root : ℕ) (old new : S) → IsTree (page_state_of old) (words_of old) root → TakesFewer (most_taken (level_of_root (words_of old) root)) (page_state_of old) (page_state_of new)
      → StopsTree kept_of page_state_of words_of root old new
  tree_stops root old new tree takes = record {
    between = old;
    now = root;
    tree = tree;
    swaps = (tree_stays kept_of page_state_of words_of root old tree).swaps;
    few = omega arith;
    takes = takes;
  }

  -- one change after another
  pub stops_trans : (most indices : ℕ) (a b : Contents) (old mid new : S) → Changes kept_of page_state_of words_of a b old mid → Stops kept_of page_state_of words_of most indices b mid new
      → Stops kept_of page_state_of words_of most indices a old new
  stops_trans most indices a b old mid new first s = record {
    between = s.between;
    now = s.now;
    changes = changes_trans kept_of page_state_of words_of a b s.now old mid s.between first s.changes;
    few = s.few;
    few_indices = s.few_indices;
    level = s.level;
    can_be_high = s.can_be_high;
    takes = s.takes;
  }

  pub stops_within : (most indices more_most more_indices : ℕ) (a : Contents) (old new : S) → most ≤ more_most → indices ≤ more_indices → Stops kept_of page_state_of words_of most indices a old new
      → Stops kept_of page_state_of words_of more_most more_indices a old new
  stops_within most indices more_most more_indices a old new le les s = record {
    between = s.between;
    now = s.now;
    changes = s.changes;
    few = omega (arith, s.few, le);
    few_indices = omega (arith, s.few_indices, les);
    level = s.level;
    can_be_high = high_within s.level most more_most le s.can_be_high;
    takes = s.takes;
  }

  -- a change that stops after another one has gained some pairs
  pub stops_after : (gained less more : ℕ) (a b : Contents) (old mid new : S) → Changes kept_of page_state_of words_of a b old mid → Gains gained (words_of old) (words_of mid) a b → gained + less ≤ more
      → StopsNear kept_of page_state_of words_of less b mid new → StopsNear kept_of page_state_of words_of more a old new
  stops_after gained less more a b old mid new first gains le s =
      stops_trans (pair_count (words_of old) a + more) (length a.entries) a b old mid new first
      (stops_within (pair_count (words_of mid) b + less) (length b.entries) (pair_count (words_of old) a + more) (length a.entries) b mid new (omega (arith, gains.0, le)) (omega (arith, gains.1)) s)

  -- a change that stops after some reads
  pub stops_since : (more : ℕ) (a : Contents) (old read new : S) → IsInHand (page_state_of read) (words_of read) a → IsUnchanged kept_of page_state_of words_of old read
      → StopsNear kept_of page_state_of words_of more a read new → StopsNear kept_of page_state_of words_of more a old new
  stops_since more a old read new h same s =
      stops_after 0 more more a a old read new (changes_since kept_of page_state_of words_of a a old read read same (changes_none kept_of page_state_of words_of a read h)) (gains_read a old read same) (omega arith) s
    where
      gains_read : (a : Contents) (old read : S) → IsUnchanged kept_of page_state_of words_of old read → Gains 0 (words_of old) (words_of read) a a
      gains_read a old read same = (omega (arith, ap (λ w. pair_count w a) same.words), refl)

  module _ (old new : S) (c : Contents) (h : IsInHand (page_state_of old) (words_of old) c) where
    -- a change to the catalog's tree
    pub catalog_gains : (root more next : ℕ) → IsTree (page_state_of new) (words_of new) root → Swaps kept_of page_state_of words_of (pages (words_of old) c.catalog) (pages (words_of new) root) old new
        → length (pairs (words_of new) root) ≤ length (pairs (words_of old) c.catalog) + more
        → Gains more (words_of old) (words_of new) c (record { next = next; catalog = root; entries = c.entries })
    catalog_gains root more next tree swaps le =
        (replaced_size [] (map (λ e. e.root) c.entries) c.catalog root more old new (catalog_replaces kept_of page_state_of words_of old new c h root tree swaps) le, refl)

    -- a change to an index's tree
    pub entry_gains : (i more : ℕ) (e d : Entry) → i < length c.entries → IsTree (page_state_of new) (words_of new) e.root
        → Swaps kept_of page_state_of words_of (pages (words_of old) (get_or c.entries i d).root) (pages (words_of new) e.root) old new
        → length (pairs (words_of new) e.root) ≤ length (pairs (words_of old) (get_or c.entries i d).root) + more
        → Gains more (words_of old) (words_of new) c (record { next = c.next; catalog = c.catalog; entries = replaced c.entries i e })
    entry_gains i more e d lt tree swaps le =
        let front = c.catalog ∷ map (λ (e : Entry). e.root) (take i c.entries) in
        let back = map (λ (e : Entry). e.root) (drop (suc i) c.entries) in
        let size = replaced_size front back (get_or c.entries i d).root e.root more old new (entry_replaces kept_of page_state_of words_of old new c h i e d lt tree swaps) le in (
          omega (
            arith,
            size,
            ap (λ rs. length (pairs_of_all (words_of old) (c.catalog ∷ rs))) (roots_split c.entries i d lt),
            ap (λ rs. length (pairs_of_all (words_of new) (c.catalog ∷ rs))) (roots_replaced c.entries i e),
          ),
          replaced_len c.entries i e lt,
        )

  module _ (old new : S) (c : Contents) (h : IsInHand (page_state_of old) (words_of old) c) where
    pub catalog_stops : StopsTree kept_of page_state_of words_of c.catalog old new → StopsNear kept_of page_state_of words_of 0 c old new
    catalog_stops s =
        let gains = catalog_gains old s.between c h s.now 0 c.next s.tree s.swaps (omega (arith, s.few)) in
        record {
          between = s.between;
          now = record { next = c.next; catalog = s.now; entries = c.entries };
          changes = catalog_changes kept_of page_state_of words_of old s.between c h s.now s.tree s.swaps c.next h.fits;
          few = gains.0;
          few_indices = omega arith;
          level = level_of_root (words_of s.between) s.now;
          can_be_high = high_within _ _ _ (omega (arith, gains.0, part_size (words_of s.between) [] (map (λ (e : Entry). e.root) c.entries) s.now)) (tree_high (page_state_of s.between) (words_of s.between) s.now s.tree);
          takes = s.takes;
        }

    pub entry_stops : (i : ℕ) (d : Entry) → i < length c.entries → StopsTree kept_of page_state_of words_of (get_or c.entries i d).root old new → StopsNear kept_of page_state_of words_of 0 c old new
    entry_stops i d lt s =
        let e : Entry = record { name = (get_or c.entries i d).name; kind = (get_or c.entries i d).kind; root = s.now } in
        let gains = entry_gains old s.between c h i 0 e d lt s.tree s.swaps (omega (arith, s.few)) in
        let front = c.catalog ∷ map (λ (x : Entry). x.root) (take i c.entries) in
        let back = map (λ (x : Entry). x.root) (drop (suc i) c.entries) in
        let all = ap (λ rs. length (pairs_of_all (words_of s.between) (c.catalog ∷ rs))) (roots_replaced c.entries i e) in
        record {
          between = s.between;
          now = record { next = c.next; catalog = c.catalog; entries = replaced c.entries i e };
          changes = entry_changes kept_of page_state_of words_of old s.between c h i e d lt s.tree s.swaps (h.named i d lt);
          few = gains.0;
          few_indices = omega (arith, gains.1);
          level = level_of_root (words_of s.between) s.now;
          can_be_high = high_within _ _ _ (omega (arith, gains.0, all, part_size (words_of s.between) front back s.now)) (tree_high (page_state_of s.between) (words_of s.between) s.now s.tree);
          takes = s.takes;
        }

  -- the number of pages held when a write stops
  pub few_at_stop : (most indices high : ℕ) (before : Contents) (old new : S) → Stops kept_of page_state_of words_of (most + 1) indices before old new → most + 1 < 2 * 6 ^ suc high → HasInHand (page_state_of old) []
      → (n : ℕ) → 5 * in_hand n (page_state_of new) ≤ most + 4 * indices + 10 * high + 15
  few_at_stop most indices high before old new s lt none n =
      let rs = roots s.now in
      let has = hand_swaps kept_of page_state_of words_of (pages_of (words_of old) (roots before)) (pages_of (words_of s.between) rs) old s.between s.changes.swaps (λ q taken. absurd (omega (arith, none q taken))) in
      omega (
        arith,
        hand_size (page_state_of s.between) (pages_of (words_of s.between) rs) has n,
        forest_size (page_state_of s.between) (words_of s.between) rs s.changes.in_hand.trees.each,
        s.few,
        s.few_indices,
        length-map s.now.entries (λ e. e.root),
        s.takes n,
        not_higher s.level high (most + 1) s.can_be_high lt,
      )

-- contents in hand have no more pairs than the volume has items, and the same number of indices
pub record AreAll (words : ℕ → ℕ → ℕ) (c : Contents) (volume : State) : Type 0 where
  pub pairs_few : pair_count words c ≤ items volume
  pub indices_are : length c.entries ≡ fin.len volume.indices

pub all_encoded : (page_state : ℕ → PageState) (words : ℕ → ℕ → ℕ) (c : Contents) (volume : State) → IsInHand page_state words c → Encodes words c volume → AreAll words c volume
all_encoded page_state words c volume h encodes =
    let trees = h.trees.each in
    let catalog = catalog_size (pairs words c.catalog) volume.nodes (tree_rising page_state words c.catalog (trees 0 0 (omega arith))) encodes.catalog in
    let indices = indices_size page_state words c.entries (fin.entries volume.indices) (λ j d lt. trees (suc j) d (omega (arith, lt))) encodes.indices in
    record {
      pairs_few = omega (arith, catalog, indices.pairs_count, length-append (pairs words c.catalog) (pairs_of_all words (map (λ e. e.root) c.entries)));
      indices_are = omega (arith, indices.count, fin.len-entries volume.indices);
    }

pub gains_trans : (first last more : ℕ) (u v w : ℕ → ℕ → ℕ) (a b c : Contents) → Gains first u v a b → Gains last v w b c → first + last ≤ more → Gains more u w a c
gains_trans first last more u v w a b c g h le = (omega (arith, g.0, h.0, le), h.1 ∙ g.1)

pub gains_none : (words : ℕ → ℕ → ℕ) (more : ℕ) (c : Contents) → Gains more words words c c
gains_none words more c = (omega arith, refl)

-- the volume that a list of operations reaches is within the bounds
reached_within : (volume made : State) (ops : List Op) (i most indices : ℕ) (dones : List Done) → steps volume (take i ops) ≡ Ok (made, dones) → i ≤ length ops → StaysWithin most indices volume ops
    → (items made ≤ most) × (fin.len made.indices ≤ indices)
reached_within volume made ops i most indices dones stepped le stays =
    let is : state_after volume (take i ops) ≡ made = ap (reached volume) stepped in
    let at = stays i le in (
      omega (arith, at.0, ap items is),
      omega (arith, at.1, ap (λ (s : State). fin.len s.indices) is),
    )

-- a call that takes nothing
pub fewer_same : (s t : ℕ → PageState) → t ≡ s → TakesFewer 1 s t
fewer_same s t e n = omega (arith, ap (in_hand n) e)

-- a list that takes nothing
pub few_unchanged : (volume : State) (ops : List Op) (old new : ℕ → PageState) → new ≡ old → TakesFew volume ops old new
few_unchanged volume ops old new same most indices high stays lt none n = omega (arith, hand_size old [] none n, ap (in_hand n) same)

module _ {S K : Type 0} (kept_of : S → K) (page_state_of : S → ℕ → PageState) (words_of : S → ℕ → ℕ → ℕ) where
  pub stops_more : (less more : ℕ) (a : Contents) (old new : S) → less ≤ more → StopsNear kept_of page_state_of words_of less a old new → StopsNear kept_of page_state_of words_of more a old new
  stops_more less more a old new le s = stops_within kept_of page_state_of words_of (pair_count (words_of old) a + less) (length a.entries) (pair_count (words_of old) a + more) (length a.entries) a old new (omega (arith, le)) (omega arith) s

  pub result_stops : {A : Type 0} (less more : ℕ) (a : Contents) (old new : S) (r : Result A Refusal) → less ≤ more → OnErr r (StopsNear kept_of page_state_of words_of less a old new)
      → OnErr r (StopsNear kept_of page_state_of words_of more a old new)
  result_stops less more a old new (Ok x) le h = tt
  result_stops less more a old new (Err e) le h = stops_more less more a old new le h

  -- one operation of a list stops
  pub list_stops : (volume made : State) (ops : List Op) (i most indices : ℕ) (dones : List Done) (a b : Contents) (old mid new : S) → Changes kept_of page_state_of words_of a b old mid → Encodes (words_of mid) b made
      → steps volume (take i ops) ≡ Ok (made, dones) → i ≤ length ops → StaysWithin most indices volume ops → StopsNear kept_of page_state_of words_of 1 b mid new
      → Stops kept_of page_state_of words_of (most + 1) indices a old new
  list_stops volume made ops i most indices dones a b old mid new first encodes stepped le stays s =
      let at = reached_within volume made ops i most indices dones stepped le stays in
      let all = all_encoded (page_state_of mid) (words_of mid) b made first.in_hand encodes in
      stops_trans kept_of page_state_of words_of (most + 1) indices a b old mid new first
      (stops_within kept_of page_state_of words_of (pair_count (words_of mid) b + 1) (length b.entries) (most + 1) indices b mid new (omega (arith, at.0, all.pairs_few)) (omega (arith, at.1, all.indices_are)) s)

  -- all operations of a list are applied, but no page is free for the version page
  pub few_at_end : (volume made : State) (ops : List Op) (dones : List Done) (a b : Contents) (old mid new : S) → Changes kept_of page_state_of words_of a b old mid → Encodes (words_of mid) b made → steps volume ops ≡ Ok (made, dones)
      → TakesFewer 1 (page_state_of mid) (page_state_of new) → TakesFew volume ops (page_state_of old) (page_state_of new)
  few_at_end volume made ops dones a b old mid new first encodes stepped takes most indices high stays lt none n =
      let whole : steps volume (take (length ops) ops) ≡ Ok (made, dones) = ap (steps volume) (take_whole ops) ∙ stepped in
      let at = reached_within volume made ops (length ops) most indices dones whole (omega arith) stays in
      let all = all_encoded (page_state_of mid) (words_of mid) b made first.in_hand encodes in
      let has = hand_swaps kept_of page_state_of words_of (pages_of (words_of old) (roots a)) (pages_of (words_of mid) (roots b)) old mid first.swaps (λ q taken. absurd (omega (arith, none q taken))) in
      omega (
        arith,
        hand_size (page_state_of mid) (pages_of (words_of mid) (roots b)) has n,
        forest_size (page_state_of mid) (words_of mid) (roots b) first.in_hand.trees.each,
        at.0,
        at.1,
        all.pairs_few,
        all.indices_are,
        length-map b.entries (λ e. e.root),
        takes n,
      )
    where
      take_whole : (xs : List Op) → take (length xs) xs ≡ xs
      take_whole [] = refl
      take_whole (x ∷ xs) = ap (λ ys. x ∷ ys) (take_whole xs)
