use Rattle.std.proofs.Common.{◌≡◌, ◌≢◌, ℕ, suc, ◌+◌, ◌≤◌, [], ◌∷◌, ◌++◌, All, get_or, length, map, ap, sym, subst, ◌∙◌, refl, rules, arith}
use Rattle.std.specs.Ordering.{is_lt}
use Rattle.std.proofs.lemmas.Fn.{always_returns_same}
use Rattle.std.proofs.lemmas.List.{get_or_default}
use Rattle.std.proofs.lemmas.List.Sorted.{ranks_by}
use Rattle.std.specs.List.Sorted.{IsPermutation, IsSortedBy}
use Rattle.be_pages.specs.Pages.{Swaps, untouched}
use Rattle.be_paged_building.specs.Keys.{AreFewestFor, BecomesKeys, HaveKeys, IsShortFor}
use Rattle.be_paged_building.proofs.Counts.{short_for}
use Rattle.be_paged_building.specs.Place.{IsPlace, key_in, rank_in}
use Rattle.be_paged_building.specs.declared.keys.Place.{Place}
use Rattle.be_paged_building.proofs.Lists.{HaveFirst, first_few, fit_sorted, pushed_few, put_again, put_all, put_more, put_none, put_rising}
use Rattle.be_paged_building.proofs.Ranks.{all_moved, keys_sorted}
use Rattle.be_tree.specs.Building.{AreFewest, IsBuilder, IsShort, pages_taken, pairs_given}
use Rattle.be_tree.specs.declared.building.TreeBuilder.{TreeBuilder}
use Rattle.be_tree.proofs.Builds.Levels.{as_refused, err_as, if_ok_as}
use Rattle.be_tree.proofs.Shape.Parts.{on_err}
use Rattle.be_tree_reading.specs.Key.{key_cmp, IsRising}
use Rattle.be_tree_reading.specs.Tree.{BecomesTree, pages, pairs as tree_pairs}
use Rattle.be_tree_reading.proofs.Trees.{tree_rising}
use Rattle.be_tree_reading.proofs.Frame.{start_trans, swaps_start, swaps_trans}
use Rattle.be_tree_reading.proofs.Order.{key_total}
use Rattle.be_paged_building.proofs.keys.Keys.build.Goals as goal
use Rattle.be_paged_building.proofs.keys.Keys.build.Goals.{then-not-is_again+in_ok-push, else-not-is_again}

pub loop-i-init : goal.loop-i-init
loop-i-init g c = record {
  builds = c.new-tree.ensures.builds (g.R.Look.page_state c.args.room.now) (g.R.Look.words c.args.room.now);
  puts = subst (HaveFirst c.as_slice-bytes.result.now c.as_slice-places.result.now 0) (sym (c.new-tree.ensures.empty (g.R.Look.words c.args.room.now))) (put_none c.as_slice-bytes.result.now c.as_slice-places.result.now);
  swaps = subst (λ ps. Swaps g.R.Look.kept g.R.Look.page_state g.R.Look.words [] ps c.args.room.now c.args.room.now) (sym (c.new-tree.ensures.no_pages (g.R.Look.words c.args.room.now))) (record { kept = refl; each = λ q. untouched refl });
}

pub push-requires-clause-key_fits : goal.push-requires-clause-key_fits
push-requires-clause-key_fits g c =
    let bytes = c.as_slice-bytes.result.now in
    let places = c.as_slice-places.result.now in
    let old = c.self.inside.places.items in
    let blank : Place = record { first = 0; from = 0; len = 0 } in
    let view : c.args.self ≡ map (key_in bytes) old = sym (ap (λ bs. map (key_in bs) old) c.as_slice-bytes.ensures.value ∙ c.self.view_is) in
    let moved = subst (λ ps. IsPermutation old ps) (sym c.as_slice-places.ensures.value) c.sort_unstable_by.ensures.permutation in
    let is : c.key_at.result.now ≡ key_in bytes (get_or places c.loop-i.i blank) = c.key_at.ensures ∙ ap (key_in bytes) (get_or_default places c.loop-i.i _ blank c.loop-i-test.true) in
    subst (λ k. length k ≤ 264) (sym is) (fit_sorted (λ k. length k ≤ 264) bytes places old moved (subst (All (λ k. length k ≤ 264)) view c.requires.fit) c.loop-i.i blank c.loop-i-test.true)

pub push-requires-clause-fits : goal.push-requires-clause-fits
push-requires-clause-fits g c =
    let bytes = c.as_slice-bytes.result.now in
    let places = c.as_slice-places.result.now in
    let old = c.self.inside.places.items in
    let blank : Place = record { first = 0; from = 0; len = 0 } in
    let view : c.args.self ≡ map (key_in bytes) old = sym (ap (λ bs. map (key_in bs) old) c.as_slice-bytes.ensures.value ∙ c.self.view_is) in
    let moved = subst (λ ps. IsPermutation old ps) (sym c.as_slice-places.ensures.value) c.sort_unstable_by.ensures.permutation in
    let is : c.key_at.result.now ≡ key_in bytes (get_or places c.loop-i.i blank) = c.key_at.ensures ∙ ap (key_in bytes) (get_or_default places c.loop-i.i _ blank c.loop-i-test.true) in
    let short = fit_sorted (λ k. length k ≤ 264) bytes places old moved (subst (All (λ k. length k ≤ 264)) view c.requires.fit) c.loop-i.i blank c.loop-i-test.true in
    omega (arith, ap length is, short)

pub returns-in_err-push-clause-refused : goal.returns-in_err-push-clause-refused
unfolding key_cmp
returns-in_err-push-clause-refused g c =
    let bytes = c.as_slice-bytes.result.now in
    let places = c.as_slice-places.result.now in
    let old = c.self.inside.places.items in
    let i = c.loop-i.i in
    let lt = c.loop-i-test.true in
    let here = get_or places i (record { first = 0; from = 0; len = 0 }) in
    let mid = g.R.Look.words c.loop-i.room in
    let pairs = pairs_given mid c.loop-i.tree in
    let taken = pages_taken mid c.loop-i.tree in
    let view : c.args.self ≡ map (key_in bytes) old = sym (ap (λ bs. map (key_in bs) old) c.as_slice-bytes.ensures.value ∙ c.self.view_is) in
    let moved = subst (λ ps. IsPermutation old ps) (sym c.as_slice-places.ensures.value) c.sort_unstable_by.ensures.permutation in
    let is : (d : Place) → get_or places i d ≡ here = λ d. get_or_default places i d (record { first = 0; from = 0; len = 0 }) lt in
    let sorted : IsSortedBy (λ x y. is_lt (key_cmp (key_in bytes x) (key_in bytes y))) places = keys_sorted bytes places (all_moved (IsPlace bytes) places c.self.inside.places.items
    (subst (λ ps. IsPermutation c.self.inside.places.items ps) (sym c.as_slice-places.ensures.value) c.sort_unstable_by.ensures.permutation)
    (subst (λ bs. All (IsPlace bs) c.self.inside.places.items) (sym c.as_slice-bytes.ensures.value) c.self.invariant))
    (subst (IsSortedBy (λ x y. is_lt (key_cmp (rank_in bytes x) (rank_in bytes y)))) (sym c.as_slice-places.ensures.value)
    (c.sort_unstable_by.ensures.sorted (λ x y. is_lt (key_cmp (rank_in bytes x) (rank_in bytes y))) (ranks_by key_total (rank_in bytes))
    (always_returns_same _ (λ a r. is_lt r ≡ is_lt (key_cmp (rank_in bytes a.0.now) (rank_in bytes a.1.0.now))) _ (λ a r f k. search rules)))) in
    let new : (j : ℕ) (d : Place) → suc j ≡ i → key_in bytes (get_or places j d) ≢ key_in bytes here = λ j d e same. c.is_again.ensures.new c.if-not-is_again.true j d e (same ∙ ap (key_in bytes) (sym (is d))) in (
      on_err _ (start_trans g.R.Look.kept g.R.Look.page_state g.R.Look.words c.args.room.now c.loop-i.room c.push.new.room
          (swaps_start g.R.Look.kept g.R.Look.page_state g.R.Look.words [] taken c.args.room.now c.loop-i.room c.loop-i.invariant.swaps) c.in_err-push.ensures.refused.0),
      as_refused c.from_residual.result (g.R.Room.full c.push.new.room) (IsShort (length taken) (length pairs + 1) (g.R.Look.page_state c.loop-i.room) (g.R.Look.page_state c.push.new.room))
          (IsShortFor c.args.self (g.R.Look.page_state c.args.room.now) (g.R.Look.page_state c.push.new.room))
          (λ short. short_for g.R.Look.kept g.R.Look.page_state g.R.Look.words c.args.self taken (length pairs + 1) c.args.room.now c.loop-i.room c.push.new.room c.loop-i.invariant.swaps short
          (λ ys rising have. pushed_few bytes places i here pairs lt is c.loop-i.invariant.puts sorted new old ys moved c.loop-i.invariant.builds.begun.rising rising (subst (λ ks. HaveKeys ks ys) view have)))
          (search rules),
    )

pub returns-clause-refused : goal.returns-clause-refused
returns-clause-refused g c =
    let bytes = c.as_slice-bytes.result.now in
    let places = c.as_slice-places.result.now in
    let old = c.self.inside.places.items in
    let mid = g.R.Look.words c.loop-i.room in
    let pairs = pairs_given mid c.loop-i.tree in
    let taken = pages_taken mid c.loop-i.tree in
    let view : c.args.self ≡ map (key_in bytes) old = sym (ap (λ bs. map (key_in bs) old) c.as_slice-bytes.ensures.value ∙ c.self.view_is) in
    let moved = subst (λ ps. IsPermutation old ps) (sym c.as_slice-places.ensures.value) c.sort_unstable_by.ensures.permutation in (
      err_as c.finish.result
          (λ keeps. start_trans g.R.Look.kept g.R.Look.page_state g.R.Look.words c.args.room.now c.loop-i.room c.finish.new.room
          (swaps_start g.R.Look.kept g.R.Look.page_state g.R.Look.words [] taken c.args.room.now c.loop-i.room c.loop-i.invariant.swaps) keeps)
          c.finish.ensures.refused.0,
      as_refused c.finish.result (g.R.Room.full c.finish.new.room) (IsShort (length taken) (length pairs) (g.R.Look.page_state c.loop-i.room) (g.R.Look.page_state c.finish.new.room))
          (IsShortFor c.args.self (g.R.Look.page_state c.args.room.now) (g.R.Look.page_state c.finish.new.room))
          (λ short. short_for g.R.Look.kept g.R.Look.page_state g.R.Look.words c.args.self taken (length pairs) c.args.room.now c.loop-i.room c.finish.new.room c.loop-i.invariant.swaps short
          (λ ys rising have. first_few bytes places c.loop-i.i old pairs ys moved c.loop-i.invariant.puts c.loop-i.invariant.builds.begun.rising rising (subst (λ ks. HaveKeys ks ys) view have)))
          c.finish.ensures.refused.1,
    )

pub returns-clause-fewest : goal.returns-clause-fewest
returns-clause-fewest g c =
    let bytes = c.as_slice-bytes.result.now in
    let places = c.as_slice-places.result.now in
    let old = c.self.inside.places.items in
    let mid = g.R.Look.words c.loop-i.room in
    let pairs = pairs_given mid c.loop-i.tree in
    let view : c.args.self ≡ map (key_in bytes) old = sym (ap (λ bs. map (key_in bs) old) c.as_slice-bytes.ensures.value ∙ c.self.view_is) in
    let moved = subst (λ ps. IsPermutation old ps) (sym c.as_slice-places.ensures.value) c.sort_unstable_by.ensures.permutation in
    if_ok_as c.finish.result (λ root. AreFewest (length (pages (g.R.Look.words c.finish.new.room) root)) (length pairs))
    (λ root. AreFewestFor (length (pages (g.R.Look.words c.finish.new.room) root)) c.args.self)
    (λ root few page_state words other tree have. few page_state words other tree
    (first_few bytes places c.loop-i.i old pairs (tree_pairs words other) moved c.loop-i.invariant.puts c.loop-i.invariant.builds.begun.rising (tree_rising page_state words other tree) (subst (λ ks. HaveKeys ks (tree_pairs words other)) view have)))
    c.finish.ensures.fewest

pub returns-clause-ok : goal.returns-clause-ok
returns-clause-ok g c =
    let bytes = c.as_slice-bytes.result.now in
    let places = c.as_slice-places.result.now in
    let old = c.self.inside.places.items in
    let mid = g.R.Look.words c.loop-i.room in
    let pairs = pairs_given mid c.loop-i.tree in
    let view : map (key_in bytes) old ≡ c.args.self = ap (λ bs. map (key_in bs) old) c.as_slice-bytes.ensures.value ∙ c.self.view_is in
    let moved = subst (λ ps. IsPermutation old ps) (sym c.as_slice-places.ensures.value) c.sort_unstable_by.ensures.permutation in
    let all : c.loop-i.i ≡ length places = omega (arith, c.loop-i-test.false, c.loop-i.auto.i-end) in
    if_ok_as c.finish.result (λ root. BecomesTree g.R.Look.kept g.R.Look.page_state g.R.Look.words (pages_taken mid c.loop-i.tree) pairs root c.loop-i.room c.finish.new.room)
    (λ root. BecomesKeys g.R.Look.kept g.R.Look.page_state g.R.Look.words c.args.self root c.args.room.now c.finish.new.room)
    (λ root tree. record {
      pairs = pairs;
      keys_are = subst (λ ks. HaveKeys ks pairs) view (put_all bytes places old pairs moved (subst (λ n. HaveFirst bytes places n pairs) all c.loop-i.invariant.puts));
      becomes = record {
        tree = tree.tree;
        has_pairs = tree.has_pairs;
        swaps = swaps_trans g.R.Look.kept g.R.Look.page_state g.R.Look.words [] (pages_taken mid c.loop-i.tree) (pages (g.R.Look.words c.finish.new.room) root) c.args.room.now c.loop-i.room c.finish.new.room c.loop-i.invariant.swaps tree.swaps;
      };
    })
    c.finish.ensures.ok

pub push-requires-clause-rising : goal.push-requires-clause-rising
unfolding key_cmp
push-requires-clause-rising g c =
    let bytes = c.as_slice-bytes.result.now in
    let places = c.as_slice-places.result.now in
    let i = c.loop-i.i in
    let lt = c.loop-i-test.true in
    let here = get_or places i (record { first = 0; from = 0; len = 0 }) in
    let pairs = pairs_given (g.R.Look.words c.loop-i.room) c.loop-i.tree in
    let is : (d : Place) → get_or places i d ≡ here = λ d. get_or_default places i d (record { first = 0; from = 0; len = 0 }) lt in
    let sorted : IsSortedBy (λ x y. is_lt (key_cmp (key_in bytes x) (key_in bytes y))) places = keys_sorted bytes places (all_moved (IsPlace bytes) places c.self.inside.places.items
    (subst (λ ps. IsPermutation c.self.inside.places.items ps) (sym c.as_slice-places.ensures.value) c.sort_unstable_by.ensures.permutation)
    (subst (λ bs. All (IsPlace bs) c.self.inside.places.items) (sym c.as_slice-bytes.ensures.value) c.self.invariant))
    (subst (IsSortedBy (λ x y. is_lt (key_cmp (rank_in bytes x) (rank_in bytes y)))) (sym c.as_slice-places.ensures.value)
    (c.sort_unstable_by.ensures.sorted (λ x y. is_lt (key_cmp (rank_in bytes x) (rank_in bytes y))) (ranks_by key_total (rank_in bytes))
    (always_returns_same _ (λ a r. is_lt r ≡ is_lt (key_cmp (rank_in bytes a.0.now) (rank_in bytes a.1.0.now))) _ (λ a r f k. search rules)))) in
    let new : (j : ℕ) (d : Place) → suc j ≡ i → key_in bytes (get_or places j d) ≢ key_in bytes here = λ j d e same. c.is_again.ensures.new c.if-not-is_again.true j d e (same ∙ ap (key_in bytes) (sym (is d))) in
    let key : c.key_at.result.now ≡ key_in bytes here = c.key_at.ensures ∙ ap (key_in bytes) (is _) in
    subst (λ k. IsRising (pairs ++ record { key = k; payload = [] } ∷ [])) (sym key) (put_rising bytes places i here pairs lt is c.loop-i.invariant.puts sorted new c.loop-i.invariant.builds.begun.rising)

pub loop-i-preserved : goal.loop-i-preserved
unfolding key_cmp
loop-i-preserved g c =
    let bytes = c.as_slice-bytes.result.now in
    let places = c.as_slice-places.result.now in
    let i = c.loop-i.i in
    let lt = c.loop-i-test.true in
    let next : suc i ≡ i + 1 = omega arith in
    let here = get_or places i (record { first = 0; from = 0; len = 0 }) in
    let pairs = pairs_given (g.R.Look.words c.loop-i.room) c.loop-i.tree in
    let is : (d : Place) → get_or places i d ≡ here = λ d. get_or_default places i d (record { first = 0; from = 0; len = 0 }) lt in
    let sorted : IsSortedBy (λ x y. is_lt (key_cmp (key_in bytes x) (key_in bytes y))) places = keys_sorted bytes places (all_moved (IsPlace bytes) places c.self.inside.places.items
    (subst (λ ps. IsPermutation c.self.inside.places.items ps) (sym c.as_slice-places.ensures.value) c.sort_unstable_by.ensures.permutation)
    (subst (λ bs. All (IsPlace bs) c.self.inside.places.items) (sym c.as_slice-bytes.ensures.value) c.self.invariant))
    (subst (IsSortedBy (λ x y. is_lt (key_cmp (rank_in bytes x) (rank_in bytes y)))) (sym c.as_slice-places.ensures.value)
    (c.sort_unstable_by.ensures.sorted (λ x y. is_lt (key_cmp (rank_in bytes x) (rank_in bytes y))) (ranks_by key_total (rank_in bytes))
    (always_returns_same _ (λ a r. is_lt r ≡ is_lt (key_cmp (rank_in bytes a.0.now) (rank_in bytes a.1.0.now))) _ (λ a r f k. search rules)))) in
    elim c.if-not-is_again.branch [
      | then-not-is_again+in_ok-push w ↦
          let new : (j : ℕ) (d : Place) → suc j ≡ i → key_in bytes (get_or places j d) ≢ key_in bytes here = λ j d e same. c.is_again.ensures.new w.if-not-is_again.true j d e (same ∙ ap (key_in bytes) (sym (is d))) in
          let key : w.key_at.result.now ≡ key_in bytes here = w.key_at.ensures ∙ ap (key_in bytes) (is _) in
          let more = subst (λ (n : ℕ). HaveFirst bytes places n (pairs ++ record { key = key_in bytes here; payload = [] } ∷ [])) next (put_more bytes places i here pairs lt is c.loop-i.invariant.puts sorted new) in
          let all : pairs_given (g.R.Look.words w.push.new.room) w.push.new.self ≡ pairs ++ record { key = key_in bytes here; payload = [] } ∷ [] =
          w.in_ok-push.ensures.gains.has_pairs ∙ ap (λ k. pairs ++ record { key = k; payload = [] } ∷ []) key in
          let here_is = λ (P : g.row.R.Denot → TreeBuilder → Type 0) (p : P w.push.new.room w.push.new.self). subst (λ r. P r c.if-not-is_again.tree) (sym w.room-is) (subst (λ t. P w.push.new.room t) (sym w.tree-is) p) in
          record {
            builds = here_is (λ r t. IsBuilder (g.R.Look.page_state r) (g.R.Look.words r) t) w.in_ok-push.ensures.builds;
            puts = here_is (λ r t. HaveFirst bytes places (i + 1) (pairs_given (g.R.Look.words r) t)) (subst (HaveFirst bytes places (i + 1)) (sym all) more);
            swaps = here_is (λ r t. Swaps g.R.Look.kept g.R.Look.page_state g.R.Look.words [] (pages_taken (g.R.Look.words r) t) c.args.room.now r)
                (swaps_trans g.R.Look.kept g.R.Look.page_state g.R.Look.words [] (pages_taken (g.R.Look.words c.loop-i.room) c.loop-i.tree) (pages_taken (g.R.Look.words w.push.new.room) w.push.new.self) c.args.room.now c.loop-i.room w.push.new.room
                c.loop-i.invariant.swaps w.in_ok-push.ensures.gains.swaps);
          }
      | else-not-is_again w ↦
          let again = c.is_again.ensures.again w.if-not-is_again.false in
          let same = subst (λ (n : ℕ). HaveFirst bytes places n pairs) next
          (put_again bytes places i here pairs lt is c.loop-i.invariant.puts (again.0, (again.1.0, λ d. again.1.1 d ∙ ap (key_in bytes) (is d)))) in
          let here_is = λ (P : g.row.R.Denot → TreeBuilder → Type 0) (p : P c.loop-i.room c.loop-i.tree). subst (λ r. P r c.if-not-is_again.tree) (sym w.room-is) (subst (λ t. P c.loop-i.room t) (sym w.tree-is) p) in
          record {
            builds = here_is (λ r t. IsBuilder (g.R.Look.page_state r) (g.R.Look.words r) t) c.loop-i.invariant.builds;
            puts = here_is (λ r t. HaveFirst bytes places (i + 1) (pairs_given (g.R.Look.words r) t)) same;
            swaps = here_is (λ r t. Swaps g.R.Look.kept g.R.Look.page_state g.R.Look.words [] (pages_taken (g.R.Look.words r) t) c.args.room.now r) c.loop-i.invariant.swaps;
          }
    ]
