use Rattle.std.proofs.Common.{◌≡◌, ◌∙◌, ◌+◌, ◌<◌, [], ◌∷◌, IfOk, get_or, length, drop, sym, subst, ap, arith}
use Rattle.std.specs.declared.cmp.Ordering.TheVariants.{Equal}
use Rattle.be_tree.specs.declared.slot.Slot.TheVariants.{New}
use Rattle.be_tree_reading.specs.Key.{key_cmp, put}
use Rattle.be_tree_reading.specs.Page.{item_at, item_place, items_of}
use Rattle.be_tree.specs.Slot.{IsOff, IsReady, pairs_of}
use Rattle.be_tree.specs.Splicing.{spliced}
use Rattle.be_tree_reading.specs.Tree.{BecomesTree, pages}
use Rattle.be_tree.proofs.Leaves.{ChangesLeaf, all_is, all_rise, keeps_equal, length_spliced, put_equal, put_leaf}
use Rattle.be_tree_reading.proofs.Items.{item_get, items_count}
use Rattle.be_tree_reading.proofs.Putting.Puts.{rising_put}
use Rattle.be_tree.proofs.Shape.Parts.{all_one}
use Rattle.be_tree.specs.Counting.{most_taken}
use Rattle.be_tree.proofs.Sizes.Refusals.{refuses_within}
use Rattle.be_tree.proofs.inserting.put_over.Given.{Over}
use Rattle.be_tree.proofs.inserting.put_over.Goals as goal
use Rattle.be_tree.proofs.inserting.put_over.Goals.{Start}

module _ (g : Over) (c : Start g) where
  leafy : ChangesLeaf (put c.args.pair.now) (g.R.Look.page_state c.args.room.now) (g.R.Look.words c.args.room.now) c.args.root c.args.path.now.above.items c.args.path.now.leaf
  leafy =
      put_leaf c.args.pair.now (g.R.Look.page_state c.args.room.now) (g.R.Look.words c.args.room.now) c.args.root c.args.path.now.above.items c.args.path.now.leaf c.requires.path.leads.way c.requires.path.leads.branches c.requires.path.leads.is_leaf

  found : (c.args.at < g.R.Look.words c.args.room.now c.args.path.now.leaf 1) × (key_cmp (item_at (g.R.Look.words c.args.room.now c.args.path.now.leaf) (item_place c.args.at)).key c.args.pair.now.key ≡ Equal)
  found =
      let words = g.R.Look.words c.args.room.now c.args.path.now.leaf in
      subst (λ r. IfOk r (λ at. (at < words 1) × (key_cmp (item_at words (item_place at)).key c.args.pair.now.key ≡ Equal))) c.requires.path.place_is c.requires.path.leads.found

  same : key_cmp (get_or (items_of (g.R.Look.words c.args.room.now c.args.path.now.leaf)) c.args.at c.args.pair.now).key c.args.pair.now.key ≡ Equal
  same = ap (λ x. key_cmp x.key c.args.pair.now.key) (item_get (g.R.Look.words c.args.room.now c.args.path.now.leaf) c.args.at c.args.pair.now found.0) ∙ found.1

  in_items : c.args.at < length (items_of (g.R.Look.words c.args.room.now c.args.path.now.leaf))
  in_items = omega (arith, found.0, items_count (g.R.Look.words c.args.room.now c.args.path.now.leaf))

  is : put c.args.pair.now (items_of (g.R.Look.words c.args.room.now c.args.path.now.leaf))
      ≡ spliced (record { at = c.args.at; gone = 1 }) (items_of (g.R.Look.words c.args.room.now c.args.path.now.leaf)) (pairs_of (g.R.Look.words c.args.room.now) c.args.pair.now (New ∷ []))
  is =
      let items = items_of (g.R.Look.words c.args.room.now c.args.path.now.leaf) in
      put_equal (g.R.Look.page_state c.args.room.now) (g.R.Look.words c.args.room.now) items leafy.tree.below c.args.pair.now c.args.at in_items same

pub change_leaf-requires-clause-cut : goal.change_leaf-requires-clause-cut
change_leaf-requires-clause-cut g c =
    let at = (goal.at.change_leaf-requires-clause-cut g c).Start in
    record {
      is_page = (leafy g at).tree.node.is_page;
      in_use = (leafy g at).tree.page_in_use;
      in_range = omega (arith, (found g at).0);
      few = omega (arith, (leafy g at).tree.node.is_page.few);
      ready = all_one (IsReady (g.R.Look.page_state c.args.room.now) (g.R.Look.words c.args.room.now)) New tt;
      off = all_one (IsOff c.args.path.now.leaf) New tt;
      key_fits = c.requires.path.key_fits;
    }

pub change_leaf-requires-clause-edit : goal.change_leaf-requires-clause-edit
change_leaf-requires-clause-edit g c =
    let at = (goal.at.change_leaf-requires-clause-edit g c).Start in
    let pair = c.args.pair.now in
    let items = items_of (g.R.Look.words c.args.room.now c.args.path.now.leaf) in
    record {
      is_leaf = c.requires.path.leads.is_leaf;
      enough = omega (arith, length_spliced (record { at = c.args.at; gone = 1 }) items (pair ∷ []) (omega (arith, in_items g at)), (leafy g at).tree.node.enough);
      least = λ e. keeps_equal c.args.at items (drop (c.args.at + 1) items) pair (in_items g at) (same g at);
      rising = all_rise (put pair) (rising_put pair) (g.R.Look.page_state c.args.room.now) (g.R.Look.words c.args.room.now) c.args.root c.args.path.now.above.items c.args.path.now.leaf (record { at = c.args.at; gone = 1 }) (pair ∷ []) (leafy g at) (is g at);
    }

pub returns-clause-ok : goal.returns-clause-ok
returns-clause-ok g c =
    let at = (goal.at.returns-clause-ok g c).Start in
    let pair = c.args.pair.now in
    let words = g.R.Look.words c.args.room.now in
    let all = all_is (put pair) (rising_put pair) (g.R.Look.page_state c.args.room.now) words c.args.root c.args.path.now.above.items c.args.path.now.leaf (record { at = c.args.at; gone = 1 }) (pair ∷ []) (leafy g at) (is g at) in
    subst (λ ps. IfOk c.change_leaf.result (λ new. BecomesTree g.R.Look.kept g.R.Look.page_state g.R.Look.words (pages words c.args.root) ps new c.args.room.now c.change_leaf.new.room)) (sym all) c.change_leaf.ensures.ok

pub returns-clause-refused : goal.returns-clause-refused
returns-clause-refused g c =
    refuses_within g.R.Look.kept g.R.Look.page_state g.R.Look.words g.R.Room.full (length c.args.path.now.above.items + 1) (most_taken (length c.args.path.now.above.items)) c.change_leaf.result c.args.room.now c.change_leaf.new.room (omega arith) c.change_leaf.ensures.refused
