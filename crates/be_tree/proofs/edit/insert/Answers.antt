use Rattle.std.proofs.Common.{subst, length, arith}
use Rattle.std.proofs.lemmas.Result.{IfOk-weaker}
use Rattle.be_tree_reading.specs.Pair.{Pair}
use Rattle.be_tree_reading.specs.Key.{put}
use Rattle.be_tree.specs.Path.{IsPathTo}
use Rattle.be_tree_reading.specs.Tree.{BecomesTree, level_of_root, pages, pairs}
use Rattle.be_tree.proofs.Leaves.{path_read, tree_since}
use Rattle.be_tree_reading.proofs.Shape.Roots.{same_pair}
use Rattle.be_tree.specs.Counting.{most_taken}
use Rattle.be_tree.proofs.Sizes.InHand.{takes_same}
use Rattle.be_tree.proofs.Sizes.Paths.{path_levels}
use Rattle.be_tree.proofs.Sizes.Refusals.{refuses_read, takes_more, takes_since}
use Rattle.be_tree.proofs.edit.insert.Goals as goal

pub put_on-requires-clause-path : goal.put_on-requires-clause-path
put_on-requires-clause-path g c =
    path_read g.R.Look.kept g.R.Look.page_state g.R.Look.words c.args.room.now c.find_path.new.look c.find_path.ensures.unchanged c.args.root c.new-pair.result.key c.find_path.new.path
    (subst (λ k. IsPathTo (g.R.Look.page_state c.args.room.now) (g.R.Look.words c.args.room.now) c.args.root k c.find_path.new.path) c.key.ensures c.find_path.ensures.path)

pub returns-clause-ok : goal.returns-clause-ok
returns-clause-ok g c =
    let old = c.args.room.now in
    let read = c.find_path.new.look in
    let new = c.put_on.new.room in
    let pair = c.new-pair.result in
    let given : Pair = record { key = c.args.key.now; payload = c.args.payload.now } in
    let is = same_pair pair c.args.key.now c.args.payload.now c.new-pair.ensures.key c.new-pair.ensures.payload in
    IfOk-weaker c.put_on.result (λ root. BecomesTree g.R.Look.kept g.R.Look.page_state g.R.Look.words (pages (g.R.Look.words read) c.args.root) (put pair (pairs (g.R.Look.words read) c.args.root)) root read new)
    (λ root. BecomesTree g.R.Look.kept g.R.Look.page_state g.R.Look.words (pages (g.R.Look.words old) c.args.root) (put given (pairs (g.R.Look.words old) c.args.root)) root old new)
    (λ root h. subst (λ p. BecomesTree g.R.Look.kept g.R.Look.page_state g.R.Look.words (pages (g.R.Look.words old) c.args.root) (put p (pairs (g.R.Look.words old) c.args.root)) root old new) is
    (tree_since g.R.Look.kept g.R.Look.page_state g.R.Look.words old read c.find_path.ensures.unchanged (put pair) c.args.root root new h)) c.put_on.ensures.ok

pub returns-clause-err : goal.returns-clause-err
returns-clause-err g c =
    let b = most_taken (length c.find_path.new.path.above.items) in
    (refuses_read g.R.Look.kept g.R.Look.page_state g.R.Look.words g.R.Room.full b b c.put_on.result c.args.room.now c.find_path.new.look c.put_on.new.room c.find_path.ensures.unchanged (omega arith) c.put_on.ensures.refused).0

pub returns-clause-full : goal.returns-clause-full
returns-clause-full g c =
    c.put_on.ensures.refused.1

pub returns-then-root-eq0-clause-takes : goal.returns-then-root-eq0-clause-takes
returns-then-root-eq0-clause-takes g c =
    takes_more 1 (most_taken (level_of_root (g.R.Look.words c.args.room.now) c.args.root)) c.write_first_root.result (g.R.Look.page_state c.args.room.now) (g.R.Look.page_state c.write_first_root.new.room) (omega arith) c.write_first_root.ensures.refused.2

pub returns-clause-takes : goal.returns-clause-takes
returns-clause-takes g c =
    takes_since 0 (most_taken (length c.find_path.new.path.above.items)) (most_taken (level_of_root (g.R.Look.words c.args.room.now) c.args.root)) c.put_on.result (g.R.Look.page_state c.args.room.now) (g.R.Look.page_state c.find_path.new.look) (g.R.Look.page_state c.put_on.new.room) (takes_same (g.R.Look.page_state c.args.room.now) (g.R.Look.page_state c.find_path.new.look) c.find_path.ensures.unchanged.page_state)
    (omega (
      arith,
      path_levels (g.R.Look.page_state c.args.room.now) (g.R.Look.words c.args.room.now) c.args.root c.new-pair.result.key c.find_path.new.path
          (subst (λ k. IsPathTo (g.R.Look.page_state c.args.room.now) (g.R.Look.words c.args.room.now) c.args.root k c.find_path.new.path) c.key.ensures c.find_path.ensures.path),
    ))
    c.put_on.ensures.refused.2
