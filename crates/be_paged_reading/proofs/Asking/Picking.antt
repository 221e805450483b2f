-- The nodes of the keys that pass a test: how far an ordered walk has progressed.
use Rattle.std.proofs.Common.{◌≡◌, ℕ, zero, suc, ◌+◌, ◌-◌, ◌<◌, ◌≤◌, Bool, true, false, cond, List, [], ◌∷◌, ◌++◌, length, drop, get_or, take, ap, sym, subst, ◌∙◌, refl, arith, append_assoc, if◌then◌else◌}
use Rattle.std.specs.List.{flat_map}
use Rattle.std.specs.declared.option.Option.{Option}
use Rattle.std.proofs.lemmas.List.{append-nil, drop_all, drop_more, get_or-reverse, length-reverse, take-append-le, take_all}
use Rattle.std.proofs.lemmas.List.Elements.{All-filter}
use Rattle.be_value.specs.declared.values.Kind.TheVariants as kinds
use Rattle.be_query.specs.Grammar.{Leaf}
use Rattle.be_volume.specs.Keys.{IsKey}
use Rattle.be_volume.specs.Query.{sat}
use Rattle.be_volume.specs.Sound.{IsSound}
use Rattle.be_volume.specs.Volume.{State}
use Rattle.be_plan.specs.KeyTests.{passes_key, passes_node, reads_texts}
use Rattle.be_plan.specs.declared.keytests.KeyTest.{KeyTest}
use Rattle.be_plan.specs.declared.keytests.KeyTest.TheVariants.{Marked, Text}
use Rattle.be_tree_reading.specs.Pair.{Pair}
use Rattle.be_tree_reading.specs.Range.{is_from, number_of}
use Rattle.be_tree_reading.specs.Walk.{StaysFalse, from_start, is_on_way, on_way}
use Rattle.be_tree_reading.specs.Way.{is_until, pairs_until}
use Rattle.be_tree_reading.specs.declared.way.Way.{Way}
use Rattle.be_tree_reading.specs.Tree.{pairs}
use Rattle.be_paged_reading.specs.Entry.{Entry}
use Rattle.be_paged_reading.specs.Page.{Contents, IsNamedAt}
use Rattle.be_paged_reading.specs.Version.{Encodes}
use Rattle.be_paged_reading.proofs.Asking.PassingNodes.{keys_texts, passes_if}
use Rattle.be_paged_reading.proofs.Asking.RangeNodes.{keys_long}
use Rattle.be_paged_reading.specs.KeyTests.{AreTestable, IsTestable, node_if, passing_on}

-- From the start of a way on, the pairs of a tree contain what the test reads.
pub begun_testable : (test : KeyTest) (back strict : Bool) (low : List ℕ) (high : Option (List ℕ)) (xs : List Pair) → AreTestable test xs → AreTestable test (from_start back strict low high xs)
begun_testable test false strict low high xs texts = All-filter (λ (x : Pair). is_from low strict x.key) (λ (x : Pair). IsTestable test x.key) xs texts
begun_testable test true strict low high xs texts = λ i d lt.
    let ys = pairs_until xs high strict in
    let below : i < length ys = omega (arith, lt, length-reverse ys) in
    subst (λ (x : Pair). IsTestable test x.key) (sym (get_or-reverse ys i d below))
    (All-filter (λ (x : Pair). is_until high strict x.key) (λ (x : Pair). IsTestable test x.key) xs texts (length ys - 1 - i) d (omega (arith, below)))

-- The keys of an index contain what a test for its kind reads.
module _ (w : ℕ → ℕ → ℕ) (c : Contents) (volume : State) (name : List ℕ) (i : ℕ) (d : Entry) (encodes : Encodes w c volume) (at : IsNamedAt c.entries name i) (sound : IsSound volume) where
  pub keys_testable : (test : KeyTest) → (reads_texts test ≡ true → (get_or c.entries i d).kind ≡ kinds.Cstr) → AreTestable test (pairs w (get_or c.entries i d).root)
  keys_testable (Text test) of_texts = keys_texts w c volume name i d encodes at sound (of_texts refl)
  keys_testable (Marked marks) of_texts = keys_long w c volume name i d encodes at

  -- A test has the same result for a key as for the key's node.
  pub passes_as_node : (test : KeyTest) → (reads_texts test ≡ true → (get_or c.entries i d).kind ≡ kinds.Cstr) → (low : List ℕ) (high : Option (List ℕ)) (k : List ℕ) (n : ℕ) (h : IsKey volume name k) → h.node ≡ n →
      passes_key test k n ≡ passes_node volume name test n
  passes_as_node (Text test) of_texts low high k n h node =
      passes_if w c volume name i d encodes at sound (of_texts refl) test.now.0 test.now.1 low high k h ∙ ap (sat volume (Leaf name test.now.0 test.now.1)) node
  passes_as_node (Marked marks) of_texts low high k n h node = refl

module _ (test : KeyTest) (way : Way) where
  abbrev node : Pair → List ℕ
  node x = node_if test x

  abbrev nodes : List Pair → List ℕ
  nodes xs = passing_on test way xs

  -- The nodes of two parts.
  pub two_parts : (xs ys : List Pair) → nodes (xs ++ ys) ≡ nodes xs ++ nodes ys
  two_parts [] ys = refl
  two_parts (x ∷ xs) ys = by (is_on_way way x.key) (two_parts xs ys)
    where
      by : (b : Bool) → nodes (xs ++ ys) ≡ nodes xs ++ nodes ys →
          flat_map node (cond b (x ∷ on_way way (xs ++ ys)) (on_way way (xs ++ ys))) ≡ flat_map node (cond b (x ∷ on_way way xs) (on_way way xs)) ++ nodes ys
      by true rest = ap (λ ns. node x ++ ns) rest ∙ sym (append_assoc (node x) (nodes xs) (nodes ys))
      by false rest = rest

  -- The nodes of a pair on the way, and of the pairs from one past its end on.
  on_more : (x : Pair) (xs : List Pair) → is_on_way way x.key ≡ true → nodes (x ∷ xs) ≡ node x ++ nodes xs
  on_more x xs on = ap (λ b. flat_map node (cond b (x ∷ on_way way xs) (on_way way xs))) on

  none_on : (xs ys : List Pair) (i : ℕ) (d : Pair) → i < length xs → is_on_way way (get_or xs i d).key ≡ false → StaysFalse (is_on_way way) (xs ++ ys) → nodes (drop i xs ++ ys) ≡ []
  none_on [] ys i d lt off stays = absurd (omega (arith, lt))
  none_on (x ∷ xs) ys zero d lt off stays = ap (λ b. flat_map node (cond b (x ∷ on_way way (xs ++ ys)) (on_way way (xs ++ ys)))) off ∙ ap (flat_map node) (stays.0 off)
  none_on (x ∷ xs) ys (suc i) d lt off stays = none_on xs ys i d (omega (arith, lt)) off stays.1

  -- A pair contributes at most one node.
  pub one_at_most : (x : Pair) → length (node x) ≤ 1
  one_at_most x = by (passes_key test x.key (number_of x.key))
    where
      by : (b : Bool) → length (if b then number_of x.key ∷ [] else []) ≤ 1
      by true = omega arith
      by false = omega arith

  -- A list to which the nodes of a leaf's first pairs were added.
  module _ (before found : List ℕ) (zs : List Pair) (i : ℕ) (parts : before ++ nodes zs ≡ found ++ nodes (drop i zs)) where
    with_rest : (rest : List Pair) → before ++ nodes (zs ++ rest) ≡ found ++ nodes (drop i zs ++ rest)
    with_rest rest =
        ap (λ ns. before ++ ns) (two_parts zs rest)
        ∙ sym (append_assoc before (nodes zs) (nodes rest))
        ∙ ap (λ ns. ns ++ nodes rest) parts
        ∙ append_assoc found (nodes (drop i zs)) (nodes rest)
        ∙ ap (λ ns. found ++ ns) (sym (two_parts (drop i zs) rest))

    pub one_tested : (d : Pair) (now : List ℕ) → i < length zs → is_on_way way (get_or zs i d).key ≡ true → now ≡ found ++ node (get_or zs i d) → before ++ nodes zs ≡ now ++ nodes (drop (i + 1) zs)
    one_tested d now lt on added =
        let x = get_or zs i d in
        let ys = drop (i + 1) zs in
        parts
        ∙ ap (λ xs. found ++ nodes xs) (drop_more zs i d lt)
        ∙ ap (λ ns. found ++ ns) (on_more x ys on)
        ∙ sym (append_assoc found (node x) (nodes ys))
        ∙ ap (λ ns. ns ++ nodes ys) (sym added)

    pub all_tested : length zs ≤ i → found ≡ before ++ nodes zs
    all_tested le = sym (parts ∙ ap (λ xs. found ++ nodes xs) (drop_all i zs le) ∙ append-nil found)

    module _ (most : ℕ) (few : length found ≤ most) (rest : List Pair) where
      -- The list is full.
      pub is_full : most ≤ length found → found ≡ take most (before ++ nodes (zs ++ rest))
      is_full enough = sym (ap (take most) (with_rest rest) ∙ take-append-le most found (nodes (drop i zs ++ rest)) enough ∙ take_all most found few)

      -- No later pair is on the way.
      pub is_past : (d : Pair) → i < length zs → is_on_way way (get_or zs i d).key ≡ false → StaysFalse (is_on_way way) (zs ++ rest) → found ≡ take most (before ++ nodes (zs ++ rest))
      is_past d lt off stays = sym (ap (take most) (with_rest rest ∙ ap (λ ns. found ++ ns) (none_on zs rest i d lt off stays) ∙ append-nil found) ∙ take_all most found few)
