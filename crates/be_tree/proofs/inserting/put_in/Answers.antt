use Rattle.std.proofs.Common.{◌≡◌, ℕ, true, ltb, ◌+◌, ◌<◌, [], ◌∷◌, IfOk, ap, drop, sym, subst, arith, length}
use Rattle.std.proofs.lemmas.Bool.Decides.{nat_tests}
use Rattle.std.proofs.lemmas.Result.{IfOk-weaker}
use Rattle.be_tree.specs.declared.slot.Slot.TheVariants.{New}
use Rattle.be_tree_reading.specs.Key.{put}
use Rattle.be_tree_reading.specs.Page.{items_of}
use Rattle.be_tree.specs.Slot.{IsOff, IsReady}
use Rattle.be_tree.specs.Path.{IsPathTo}
use Rattle.be_tree_reading.specs.Tree.{BecomesTree, pages, pairs}
use Rattle.be_tree_reading.proofs.Frame.{readable_kept}
use Rattle.be_tree.proofs.Leaves.{PutsAt, all_is, all_rise, keeps_front, length_spliced, path_read, puts_in, tree_since}
use Rattle.be_tree_reading.proofs.Items.{items_count}
use Rattle.be_tree_reading.proofs.Putting.Puts.{rising_put}
use Rattle.be_tree.proofs.Shape.Parts.{all_one}
use Rattle.be_tree.specs.Counting.{most_taken}
use Rattle.be_tree.proofs.Sizes.Refusals.{refuses_read}
use Rattle.be_tree.proofs.inserting.put_in.Given.{Over}
use Rattle.be_tree.proofs.inserting.put_in.Goals as goal
use Rattle.be_tree.proofs.inserting.put_in.Goals.{After-count_of, Start}

above_zero : (n : ℕ) → ltb 0 n ≡ true → 0 < n
above_zero n e = grind (arith, nat_tests)

-- before the count was read
puts : (g : Over) (c : Start g) → PutsAt (g.R.Look.page_state c.args.room.now) (g.R.Look.words c.args.room.now) c.args.root c.args.path.now c.args.pair.now (record { at = c.args.at; gone = 0 })
puts g c = puts_in (g.R.Look.page_state c.args.room.now) (g.R.Look.words c.args.room.now) c.args.root c.args.path.now c.args.pair.now c.args.at c.requires.path.leads c.requires.path.place_is

pub count_of-requires-clause-readable : goal.count_of-requires-clause-readable
count_of-requires-clause-readable g c =
    readable_kept (g.R.Look.page_state c.args.room.now c.args.path.now.leaf) (puts g (goal.at.count_of-requires-clause-readable g c).Start).leafy.tree.page_in_use

pub count_of-requires-clause-page : goal.count_of-requires-clause-page
count_of-requires-clause-page g c = (puts g (goal.at.count_of-requires-clause-page g c).Start).leafy.tree.node.is_page

-- and after it
path : (g : Over) (c : After-count_of g) → IsPathTo (g.R.Look.page_state c.count_of.new.look) (g.R.Look.words c.count_of.new.look) c.args.root c.args.pair.now.key c.args.path.now
path g c = path_read g.R.Look.kept g.R.Look.page_state g.R.Look.words c.args.room.now c.count_of.new.look c.count_of.ensures.unchanged c.args.root c.args.pair.now.key c.args.path.now c.requires.path.leads

after : (g : Over) (c : After-count_of g) → PutsAt (g.R.Look.page_state c.count_of.new.look) (g.R.Look.words c.count_of.new.look) c.args.root c.args.path.now c.args.pair.now (record { at = c.args.at; gone = 0 })
after g c = puts_in (g.R.Look.page_state c.count_of.new.look) (g.R.Look.words c.count_of.new.look) c.args.root c.args.path.now c.args.pair.now c.args.at (path g c) c.requires.path.place_is

pub overflow-requires-clause-path : goal.overflow-requires-clause-path
overflow-requires-clause-path g c = record {
  leads = path g (goal.at.overflow-requires-clause-path g c).After-count_of;
  place_is = c.requires.path.place_is;
  key_fits = c.requires.path.key_fits;
}

pub change_leaf-requires-clause-way : goal.change_leaf-requires-clause-way
change_leaf-requires-clause-way g c = (path g (goal.at.change_leaf-requires-clause-way g c).After-count_of).way

pub change_leaf-requires-clause-cut : goal.change_leaf-requires-clause-cut
change_leaf-requires-clause-cut g c =
    let at = (goal.at.change_leaf-requires-clause-cut g c).After-count_of in
    let leafy = (after g at).leafy in
    let words = g.R.Look.words c.count_of.new.look c.args.path.now.leaf in
    record {
      is_page = leafy.tree.node.is_page;
      in_use = leafy.tree.page_in_use;
      in_range = omega (arith, (after g at).in_range, items_count words);
      few = omega (
        arith,
        leafy.tree.node.is_page.few,
        c.if-count_of-eq-MOST_ITEMS.false,
        c.count_of.ensures.count,
        ap (λ (w : ℕ → ℕ → ℕ). w c.args.path.now.leaf 1) c.count_of.ensures.unchanged.words,
      );
      ready = all_one (IsReady (g.R.Look.page_state c.count_of.new.look) (g.R.Look.words c.count_of.new.look)) New tt;
      off = all_one (IsOff c.args.path.now.leaf) New tt;
      key_fits = c.requires.path.key_fits;
    }

pub change_leaf-requires-clause-edit : goal.change_leaf-requires-clause-edit
change_leaf-requires-clause-edit g c =
    let at = (goal.at.change_leaf-requires-clause-edit g c).After-count_of in
    let pair = c.args.pair.now in
    let words = g.R.Look.words c.count_of.new.look in
    let items = items_of (words c.args.path.now.leaf) in
    let put_at = after g at in
    record {
      is_leaf = (path g at).is_leaf;
      enough = omega (arith, length_spliced (record { at = c.args.at; gone = 0 }) items (pair ∷ []) put_at.in_range, put_at.leafy.tree.node.enough);
      least = λ e. keeps_front c.args.at items (pair ∷ drop (c.args.at + 0) items) (above_zero c.args.at e);
      rising = all_rise (put pair) (rising_put pair) (g.R.Look.page_state c.count_of.new.look) words c.args.root c.args.path.now.above.items c.args.path.now.leaf (record { at = c.args.at; gone = 0 }) (pair ∷ []) put_at.leafy put_at.is;
    }

pub returns-clause-ok : goal.returns-clause-ok
returns-clause-ok g c =
    let at = (goal.at.returns-clause-ok g c).After-count_of in
    let pair = c.args.pair.now in
    let read = c.count_of.new.look in
    let words = g.R.Look.words read in
    let put_at = after g at in
    let all = all_is (put pair) (rising_put pair) (g.R.Look.page_state read) words c.args.root c.args.path.now.above.items c.args.path.now.leaf (record { at = c.args.at; gone = 0 }) (pair ∷ []) put_at.leafy put_at.is in
    let becomes = λ (new : ℕ). BecomesTree g.R.Look.kept g.R.Look.page_state g.R.Look.words (pages words c.args.root) (put pair (pairs words c.args.root)) new read c.change_leaf.new.room in
    IfOk-weaker c.change_leaf.result becomes (λ new. BecomesTree g.R.Look.kept g.R.Look.page_state g.R.Look.words (pages (g.R.Look.words c.args.room.now) c.args.root) (put pair (pairs (g.R.Look.words c.args.room.now) c.args.root)) new c.args.room.now c.change_leaf.new.room)
    (λ new h. tree_since g.R.Look.kept g.R.Look.page_state g.R.Look.words c.args.room.now read c.count_of.ensures.unchanged (put pair) c.args.root new c.change_leaf.new.room h)
    (subst (λ ps. IfOk c.change_leaf.result (λ new. BecomesTree g.R.Look.kept g.R.Look.page_state g.R.Look.words (pages words c.args.root) ps new read c.change_leaf.new.room)) (sym all) c.change_leaf.ensures.ok)

pub returns-then-count_of-eq-MOST_ITEMS-clause-refused : goal.returns-then-count_of-eq-MOST_ITEMS-clause-refused
returns-then-count_of-eq-MOST_ITEMS-clause-refused g c =
    refuses_read g.R.Look.kept g.R.Look.page_state g.R.Look.words g.R.Room.full (most_taken (length c.args.path.now.above.items)) (most_taken (length c.args.path.now.above.items)) c.overflow.result c.args.room.now c.count_of.new.look c.overflow.new.room c.count_of.ensures.unchanged (omega arith) c.overflow.ensures.refused

pub returns-clause-refused : goal.returns-clause-refused
returns-clause-refused g c =
    refuses_read g.R.Look.kept g.R.Look.page_state g.R.Look.words g.R.Room.full (length c.args.path.now.above.items + 1) (most_taken (length c.args.path.now.above.items)) c.change_leaf.result c.args.room.now c.count_of.new.look c.change_leaf.new.room c.count_of.ensures.unchanged (omega arith) c.change_leaf.ensures.refused
