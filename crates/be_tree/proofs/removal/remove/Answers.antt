use Rattle.std.proofs.Common.{◌≡◌, ℕ, List, None, refl, subst, sym, length, arith}
use Rattle.std.proofs.lemmas.Result.{IfOk-weaker}
use Rattle.be_tree_reading.specs.Pair.{Pair}
use Rattle.be_tree_reading.specs.Key.{payload_at, without}
use Rattle.be_tree_reading.specs.Tree.{BecomesTree, level_of_root, pages, pairs}
use Rattle.be_tree.proofs.Leaves.{path_absent, path_found, path_read, tree_since}
use Rattle.be_tree.proofs.Removing.Rests.{tree_same, tree_until, without_absent}
use Rattle.be_tree.specs.Counting.{most_taken}
use Rattle.be_tree.proofs.Sizes.InHand.{takes_same, takes_within}
use Rattle.be_tree.proofs.Sizes.Paths.{path_levels}
use Rattle.be_tree.proofs.Sizes.Refusals.{refuses_read, takes_since}
use Rattle.be_tree.proofs.removal.remove.Goals as goal

pub returns-then-root-eq0-clause-ok : goal.returns-then-root-eq0-clause-ok
returns-then-root-eq0-clause-ok g c =
    let old = c.args.room.now in
    let words = g.R.Look.words old in
    let k = c.args.key.now in
    let root = c.args.root in
    let none = subst (λ (r : ℕ). payload_at (pairs words r) k ≡ None) (sym c.if-root-eq0.true) refl in
    subst (λ (xs : List Pair). BecomesTree g.R.Look.kept g.R.Look.page_state g.R.Look.words (pages words root) xs root old old) (sym (without_absent k (pairs words root) none))
    (tree_same g.R.Look.kept g.R.Look.page_state g.R.Look.words root old c.requires.tree)

pub take_out-requires-clause-path : goal.take_out-requires-clause-path
take_out-requires-clause-path g c = record {
  leads = path_read g.R.Look.kept g.R.Look.page_state g.R.Look.words c.args.room.now c.find_path.new.look c.find_path.ensures.unchanged c.args.root c.args.key.now c.find_path.new.path c.find_path.ensures.path;
  place_is = c.in-Ok.is;
}

pub returns-in-Ok-clause-ok : goal.returns-in-Ok-clause-ok
returns-in-Ok-clause-ok g c =
    let old = c.args.room.now in
    let read = c.find_path.new.look in
    let new = c.take_out.new.room in
    let key = c.args.key.now in
    IfOk-weaker c.take_out.result (λ root. BecomesTree g.R.Look.kept g.R.Look.page_state g.R.Look.words (pages (g.R.Look.words read) c.args.root) (without key (pairs (g.R.Look.words read) c.args.root)) root read new)
    (λ root. BecomesTree g.R.Look.kept g.R.Look.page_state g.R.Look.words (pages (g.R.Look.words old) c.args.root) (without key (pairs (g.R.Look.words old) c.args.root)) root old new)
    (λ root h. tree_since g.R.Look.kept g.R.Look.page_state g.R.Look.words old read c.find_path.ensures.unchanged (without key) c.args.root root new h) c.take_out.ensures.ok

pub returns-in-Ok-clause-absent : goal.returns-in-Ok-clause-absent
returns-in-Ok-clause-absent g c = λ none.
    absurd (path_found (g.R.Look.page_state c.args.room.now) (g.R.Look.words c.args.room.now) c.args.root c.args.key.now c.find_path.new.path c.find_path.ensures.path c.in-Ok.at c.in-Ok.is none)

pub returns-in-Ok-clause-still : goal.returns-in-Ok-clause-still
returns-in-Ok-clause-still g c = λ none.
    absurd (path_found (g.R.Look.page_state c.args.room.now) (g.R.Look.words c.args.room.now) c.args.root c.args.key.now c.find_path.new.path c.find_path.ensures.path c.in-Ok.at c.in-Ok.is none)

pub returns-in-Ok-clause-err : goal.returns-in-Ok-clause-err
returns-in-Ok-clause-err g c =
    let b = most_taken (length c.find_path.new.path.above.items) in
    (refuses_read g.R.Look.kept g.R.Look.page_state g.R.Look.words g.R.Room.full b b c.take_out.result c.args.room.now c.find_path.new.look c.take_out.new.room c.find_path.ensures.unchanged (omega arith) c.take_out.ensures.refused).0

pub returns-in-Ok-clause-full : goal.returns-in-Ok-clause-full
returns-in-Ok-clause-full g c =
    c.take_out.ensures.refused.1

pub returns-in-Ok-clause-takes : goal.returns-in-Ok-clause-takes
returns-in-Ok-clause-takes g c =
    takes_since 0 (most_taken (length c.find_path.new.path.above.items)) (most_taken (level_of_root (g.R.Look.words c.args.room.now) c.args.root)) c.take_out.result (g.R.Look.page_state c.args.room.now) (g.R.Look.page_state c.find_path.new.look) (g.R.Look.page_state c.take_out.new.room) (takes_same (g.R.Look.page_state c.args.room.now) (g.R.Look.page_state c.find_path.new.look) c.find_path.ensures.unchanged.page_state)
    (omega (arith, path_levels (g.R.Look.page_state c.args.room.now) (g.R.Look.words c.args.room.now) c.args.root c.args.key.now c.find_path.new.path c.find_path.ensures.path)) c.take_out.ensures.refused.2

pub returns-in-Err-clause-takes : goal.returns-in-Err-clause-takes
returns-in-Err-clause-takes g c =
    (takes_within 0 (most_taken (level_of_root (g.R.Look.words c.args.room.now) c.args.root)) (g.R.Look.page_state c.args.room.now) (g.R.Look.page_state c.find_path.new.look) (omega arith) (takes_same (g.R.Look.page_state c.args.room.now) (g.R.Look.page_state c.find_path.new.look) c.find_path.ensures.unchanged.page_state), tt)

pub returns-then-root-eq0-clause-takes : goal.returns-then-root-eq0-clause-takes
returns-then-root-eq0-clause-takes g c =
    (takes_within 0 (most_taken (level_of_root (g.R.Look.words c.args.room.now) c.args.root)) (g.R.Look.page_state c.args.room.now) (g.R.Look.page_state c.args.room.now) (omega arith) (takes_same (g.R.Look.page_state c.args.room.now) (g.R.Look.page_state c.args.room.now) refl), tt)

pub returns-in-Err-clause-ok : goal.returns-in-Err-clause-ok
returns-in-Err-clause-ok g c =
    let old = c.args.room.now in
    let words = g.R.Look.words old in
    let k = c.args.key.now in
    let root = c.args.root in
    let none = path_absent (g.R.Look.page_state old) words root k c.find_path.new.path c.find_path.ensures.path c.in-Err.field-0 c.in-Err.is in
    tree_until g.R.Look.kept g.R.Look.page_state g.R.Look.words (pages words root) (without k (pairs words root)) root old old c.find_path.new.look c.find_path.ensures.unchanged
    (subst (λ (xs : List Pair). BecomesTree g.R.Look.kept g.R.Look.page_state g.R.Look.words (pages words root) xs root old old) (sym (without_absent k (pairs words root) none))
    (tree_same g.R.Look.kept g.R.Look.page_state g.R.Look.words root old c.requires.tree))
