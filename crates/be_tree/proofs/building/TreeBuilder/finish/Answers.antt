use Rattle.std.proofs.Common.{length, ap, sym, subst, rules}
use Rattle.be_tree.specs.Building.{IsShort, branches_of, pages_taken, pairs_given}
use Rattle.be_tree_reading.specs.Tree.{BecomesTree, pairs_below}
use Rattle.be_tree_reading.proofs.Frame.{start_trans, swaps_start}
use Rattle.be_tree.proofs.Builds.Leaves.{all_below, finished, short_above, taken_count}
use Rattle.be_tree.proofs.Builds.Levels.{as_refused, err_as, if_ok_as}
use Rattle.be_tree.proofs.Shape.Parts.{on_err}
use Rattle.be_tree.proofs.building.TreeBuilder.finish.Goals as goal

pub returns-in_err-write_rest-clause-refused : goal.returns-in_err-write_rest-clause-refused
returns-in_err-write_rest-clause-refused g c =
    let builder = c.args.self in
    let n = length (pairs_given (g.R.Look.words c.args.room.now) builder) in
    let s = g.R.Look.page_state c.args.room.now in
    let u = g.R.Look.page_state c.write_rest.new.room in (
      on_err _ c.in_err-write_rest.ensures.refused.0,
      as_refused c.from_residual.result (g.R.Room.full c.write_rest.new.room) (IsShort (length builder.leaves.items) n s u) (IsShort (length (pages_taken (g.R.Look.words c.args.room.now) builder)) n s u)
          (λ short. subst (λ m. IsShort m n s u) (sym (taken_count g.R.Look.kept g.R.Look.page_state g.R.Look.words builder c.args.room.now)) short) (search rules),
    )

pub returns-clause-ok : goal.returns-clause-ok
returns-clause-ok g c =
    let builder = c.args.self in
    let last = c.write_rest.new.self in
    let rest = c.in_ok-write_rest.ensures.ok in
    if_ok_as c.write_above.result
    (λ root. BecomesTree g.R.Look.kept g.R.Look.page_state g.R.Look.words (pages_taken (g.R.Look.words c.write_rest.new.room) last)
    (pairs_below 1 (g.R.Look.words c.write_rest.new.room) (branches_of (g.R.Look.words c.write_rest.new.room) last.leaves.items)) root c.write_rest.new.room c.write_above.new.room)
    (λ root. BecomesTree g.R.Look.kept g.R.Look.page_state g.R.Look.words (pages_taken (g.R.Look.words c.args.room.now) builder) (pairs_given (g.R.Look.words c.args.room.now) builder) root c.args.room.now c.write_above.new.room)
    (λ root tree. finished g.R.Look.kept g.R.Look.page_state g.R.Look.words builder last root c.args.room.now c.write_rest.new.room c.write_above.new.room rest.gains rest.none tree)
    c.write_above.ensures.ok

pub returns-clause-refused : goal.returns-clause-refused
returns-clause-refused g c =
    let builder = c.args.self in
    let last = c.write_rest.new.self in
    let rest = c.in_ok-write_rest.ensures.ok in
    let words = g.R.Look.words c.write_rest.new.room in
    let below = length (pairs_below 1 words (branches_of words last.leaves.items)) in
    let n = length (pairs_given (g.R.Look.words c.args.room.now) builder) in
    let s = g.R.Look.page_state c.args.room.now in
    let t = g.R.Look.page_state c.write_rest.new.room in
    let u = g.R.Look.page_state c.write_above.new.room in
    let all = all_below g.R.Look.kept g.R.Look.page_state g.R.Look.words builder last c.args.room.now c.write_rest.new.room rest.gains rest.none in (
      err_as c.write_above.result
          (λ keeps. start_trans g.R.Look.kept g.R.Look.page_state g.R.Look.words c.args.room.now c.write_rest.new.room c.write_above.new.room
          (swaps_start g.R.Look.kept g.R.Look.page_state g.R.Look.words (pages_taken (g.R.Look.words c.args.room.now) builder) (pages_taken words last) c.args.room.now c.write_rest.new.room rest.gains.swaps) keeps)
          c.write_above.ensures.refused.0,
      as_refused c.write_above.result (g.R.Room.full c.write_above.new.room) (IsShort (length last.leaves.items) below t u) (IsShort (length (pages_taken (g.R.Look.words c.args.room.now) builder)) n s u)
          (λ short. subst (λ m. IsShort m n s u) (sym (taken_count g.R.Look.kept g.R.Look.page_state g.R.Look.words builder c.args.room.now))
          (short_above (length builder.leaves.items) (length last.leaves.items) n s t u rest.takes (subst (λ m. IsShort (length last.leaves.items) m t u) (ap length all) short)))
          c.write_above.ensures.refused.1,
    )
