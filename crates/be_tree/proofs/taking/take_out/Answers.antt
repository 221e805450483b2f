use Rattle.std.proofs.Common.{◌≡◌, ℕ, true, ltb, ◌+◌, ◌<◌, [], IfOk, length, drop, ap, sym, subst, arith}
use Rattle.std.proofs.lemmas.Bool.Decides.{nat_tests}
use Rattle.std.proofs.lemmas.Result.{IfOk-weaker}
use Rattle.be_tree_reading.specs.Key.{without}
use Rattle.be_tree_reading.specs.Page.{items_of}
use Rattle.be_tree.specs.Path.{IsPathTo, minimum_at}
use Rattle.be_tree_reading.specs.Tree.{BecomesTree, pages, pairs}
use Rattle.be_tree_reading.proofs.Frame.{readable_kept}
use Rattle.be_tree.proofs.Leaves.{TakesAt, all_is, all_rise, keeps_front, length_spliced, path_read, takes_at, tree_since}
use Rattle.be_tree_reading.proofs.Items.{items_count}
use Rattle.be_tree.proofs.Removing.Removes.{rising_without}
use Rattle.be_tree.specs.Counting.{most_taken}
use Rattle.be_tree.proofs.Sizes.Refusals.{refuses_read}
use Rattle.be_tree.proofs.taking.take_out.Given.{Over}
use Rattle.be_tree.proofs.taking.take_out.Goals as goal
use Rattle.be_tree.proofs.taking.take_out.Goals.{After-count_of, Start}

above_zero : (n : ℕ) → ltb 0 n ≡ true → 0 < n
above_zero n e = grind (arith, nat_tests)

-- before the count was read
takes : (g : Over) (c : Start g) → TakesAt (g.R.Look.page_state c.args.room.now) (g.R.Look.words c.args.room.now) c.args.root c.args.path.now c.args.key.now c.args.at
takes g c = takes_at (g.R.Look.page_state c.args.room.now) (g.R.Look.words c.args.room.now) c.args.root c.args.path.now c.args.key.now c.args.at c.requires.path.leads c.requires.path.place_is

pub count_of-requires-clause-readable : goal.count_of-requires-clause-readable
count_of-requires-clause-readable g c =
    readable_kept (g.R.Look.page_state c.args.room.now c.args.path.now.leaf) (takes g (goal.at.count_of-requires-clause-readable g c).Start).leafy.tree.page_in_use

pub count_of-requires-clause-page : goal.count_of-requires-clause-page
count_of-requires-clause-page g c = (takes g (goal.at.count_of-requires-clause-page g c).Start).leafy.tree.node.is_page

-- and after it
path : (g : Over) (c : After-count_of g) → IsPathTo (g.R.Look.page_state c.count_of.new.look) (g.R.Look.words c.count_of.new.look) c.args.root c.args.key.now c.args.path.now
path g c = path_read g.R.Look.kept g.R.Look.page_state g.R.Look.words c.args.room.now c.count_of.new.look c.count_of.ensures.unchanged c.args.root c.args.key.now c.args.path.now c.requires.path.leads

after : (g : Over) (c : After-count_of g) → TakesAt (g.R.Look.page_state c.count_of.new.look) (g.R.Look.words c.count_of.new.look) c.args.root c.args.path.now c.args.key.now c.args.at
after g c = takes_at (g.R.Look.page_state c.count_of.new.look) (g.R.Look.words c.count_of.new.look) c.args.root c.args.path.now c.args.key.now c.args.at (path g c) c.requires.path.place_is

pub underflow-requires-clause-path : goal.underflow-requires-clause-path
underflow-requires-clause-path g c = record {
  leads = path g (goal.at.underflow-requires-clause-path g c).After-count_of;
  place_is = c.requires.path.place_is;
}

pub change_leaf-requires-clause-way : goal.change_leaf-requires-clause-way
change_leaf-requires-clause-way g c = (path g (goal.at.change_leaf-requires-clause-way g c).After-count_of).way

pub change_leaf-requires-clause-cut : goal.change_leaf-requires-clause-cut
change_leaf-requires-clause-cut g c =
    let at = (goal.at.change_leaf-requires-clause-cut g c).After-count_of in
    let leafy = (after g at).leafy in
    record {
      is_page = leafy.tree.node.is_page;
      in_use = leafy.tree.page_in_use;
      in_range = omega (arith, (after g at).in_range, items_count (g.R.Look.words c.count_of.new.look c.args.path.now.leaf));
      few = omega (arith, leafy.tree.node.is_page.few);
      ready = λ i d lt. absurd (omega (arith, lt));
      off = λ i d lt. absurd (omega (arith, lt));
      key_fits = omega (arith, ap length c.new-none.ensures.key);
    }

pub change_leaf-requires-clause-edit : goal.change_leaf-requires-clause-edit
change_leaf-requires-clause-edit g c =
    let at = (goal.at.change_leaf-requires-clause-edit g c).After-count_of in
    let key = c.args.key.now in
    let words = g.R.Look.words c.count_of.new.look in
    let items = items_of (words c.args.path.now.leaf) in
    let take_at = after g at in
    record {
      is_leaf = (path g at).is_leaf;
      enough = omega (
        arith,
        c.if-count_of-minimum_of_leaf.false,
        c.minimum_of_leaf.ensures,
        ap (λ xs. minimum_at xs 0) c.deref.ensures.0,
        length_spliced (record { at = c.args.at; gone = 1 }) items [] (omega (arith, take_at.in_range)),
        items_count (words c.args.path.now.leaf),
        c.count_of.ensures.count,
        ap (λ (w : ℕ → ℕ → ℕ). w c.args.path.now.leaf 1) c.count_of.ensures.unchanged.words,
      );
      least = λ e. keeps_front c.args.at items (drop (c.args.at + 1) items) (above_zero c.args.at e);
      rising = all_rise (without key) (rising_without key) (g.R.Look.page_state c.count_of.new.look) words c.args.root c.args.path.now.above.items c.args.path.now.leaf (record { at = c.args.at; gone = 1 }) [] take_at.leafy take_at.is;
    }

pub returns-clause-ok : goal.returns-clause-ok
returns-clause-ok g c =
    let at = (goal.at.returns-clause-ok g c).After-count_of in
    let key = c.args.key.now in
    let read = c.count_of.new.look in
    let words = g.R.Look.words read in
    let take_at = after g at in
    let all = all_is (without key) (rising_without key) (g.R.Look.page_state read) words c.args.root c.args.path.now.above.items c.args.path.now.leaf (record { at = c.args.at; gone = 1 }) [] take_at.leafy take_at.is in
    let becomes = λ (new : ℕ). BecomesTree g.R.Look.kept g.R.Look.page_state g.R.Look.words (pages words c.args.root) (without key (pairs words c.args.root)) new read c.change_leaf.new.room in
    IfOk-weaker c.change_leaf.result becomes (λ new. BecomesTree g.R.Look.kept g.R.Look.page_state g.R.Look.words (pages (g.R.Look.words c.args.room.now) c.args.root) (without key (pairs (g.R.Look.words c.args.room.now) c.args.root)) new c.args.room.now c.change_leaf.new.room)
    (λ new h. tree_since g.R.Look.kept g.R.Look.page_state g.R.Look.words c.args.room.now read c.count_of.ensures.unchanged (without key) c.args.root new c.change_leaf.new.room h)
    (subst (λ ps. IfOk c.change_leaf.result (λ new. BecomesTree g.R.Look.kept g.R.Look.page_state g.R.Look.words (pages words c.args.root) ps new read c.change_leaf.new.room)) (sym all) c.change_leaf.ensures.ok)

pub returns-then-count_of-minimum_of_leaf-clause-refused : goal.returns-then-count_of-minimum_of_leaf-clause-refused
returns-then-count_of-minimum_of_leaf-clause-refused g c =
    refuses_read g.R.Look.kept g.R.Look.page_state g.R.Look.words g.R.Room.full (most_taken (length c.args.path.now.above.items)) (most_taken (length c.args.path.now.above.items)) c.underflow.result c.args.room.now c.count_of.new.look c.underflow.new.room c.count_of.ensures.unchanged (omega arith) c.underflow.ensures.refused

pub returns-clause-refused : goal.returns-clause-refused
returns-clause-refused g c =
    refuses_read g.R.Look.kept g.R.Look.page_state g.R.Look.words g.R.Room.full (length c.args.path.now.above.items + 1) (most_taken (length c.args.path.now.above.items)) c.change_leaf.result c.args.room.now c.count_of.new.look c.change_leaf.new.room c.count_of.ensures.unchanged (omega arith) c.change_leaf.ensures.refused
