use Rattle.std.proofs.Common.{ℕ, ◌≤◌, ◌∙◌, ap, drop, length, Some, None, List, true, arith}
use Rattle.std.specs.FinMap as fin
use Rattle.std.specs.Int.{to_be_bytes, w64}
use Rattle.be_tree_reading.specs.Cursor.{remaining}
use Rattle.be_tree_reading.specs.Pair.{Pair}
use Rattle.be_tree_reading.specs.Range.{pairs_from}
use Rattle.be_tree_reading.specs.Tree.{pairs}
use Rattle.be_tree_reading.proofs.Frame.{unchanged_trans}
use Rattle.be_tree_reading.proofs.Trees.{tree_rising}
use Rattle.be_volume.specs.Maps.{attributes_of}
use Rattle.be_paged_reading.specs.Reading.{front_of_node}
use Rattle.be_paged_reading.proofs.Asking.Walks.{more_left, drop_next, counted, cursor_since, next_is, all_listed, all_passed, one_listed}
use Rattle.be_paged_reading.proofs.attributes.list_attributes.Goals as goal

pub loop-preserved : goal.loop-preserved
loop-preserved g c =
    let v = g.L.Look.words c.args.look.now in
    let mid = g.L.Look.words c.loop.look in
    let node = c.args.node in
    let items = pairs v c.args.catalog in
    let all = front_of_node node (pairs_from items (to_be_bytes w64 node) true) in
    let rising = tree_rising (g.L.Look.page_state c.args.look.now) v c.args.catalog c.requires.tree in
    let step = c.next_value.ensures.unchanged in
    record {
      cursor = cursor_since (g.L.Look.page_state c.loop.look) (g.L.Look.page_state c.next_value.new.look) mid (g.L.Look.words c.next_value.new.look) c.next_value.new.cursor step.page_state step.words c.next_value.ensures.cursor;
      rest = ap (λ (w : ℕ → ℕ → ℕ). front_of_node node (remaining w c.next_value.new.cursor)) step.words ∙ c.in-Some.ensures.rest ∙ ap (λ (xs : List Pair). drop 1 xs) c.loop.invariant.rest ∙ drop_next all c.loop.counter;
      passed = omega (arith, more_left all c.loop.counter (omega (arith, c.in-Some.ensures.more, ap length c.loop.invariant.rest)));
      listed = λ nodes catalog valid.
          c.in_ok-push.ensures.items ∙ one_listed (fin.entries (attributes_of nodes node)) c.loop.list.items c.loop.counter c.in-Some.attribute (c.loop.invariant.listed nodes catalog valid)
          (next_is items nodes node c.ranges.node.fits rising catalog valid c.loop.counter (Some c.in-Some.attribute) (front_of_node node (remaining mid c.loop.cursor)) c.loop.invariant.rest c.in-Some.ensures.value c.in-Some.ensures.none);
      unchanged = unchanged_trans g.L.Look.kept g.L.Look.page_state g.L.Look.words c.args.look.now c.loop.look c.next_value.new.look c.loop.invariant.unchanged step;
    }

pub returns-in_default-clause-list : goal.returns-in_default-clause-list
returns-in_default-clause-list g c = λ nodes catalog valid few.
    let v = g.L.Look.words c.args.look.now in
    let node = c.args.node in
    let items = pairs v c.args.catalog in
    let rising = tree_rising (g.L.Look.page_state c.args.look.now) v c.args.catalog c.requires.tree in
    let count = counted items nodes node c.ranges.node.fits rising catalog valid in
    let le : c.loop.counter ≤ length (fin.entries (attributes_of nodes node)) = omega (arith, count, c.loop.invariant.passed) in
    all_listed (fin.entries (attributes_of nodes node)) c.loop.list.items c.loop.counter (c.loop.invariant.listed nodes catalog valid) le
    (next_is items nodes node c.ranges.node.fits rising catalog valid c.loop.counter None (front_of_node node (remaining (g.L.Look.words c.loop.look) c.loop.cursor)) c.loop.invariant.rest c.in_default.ensures.value c.in_default.ensures.none)

pub returns-clause-list : goal.returns-clause-list
returns-clause-list g c = λ nodes catalog valid few.
    let v = g.L.Look.words c.args.look.now in
    let node = c.args.node in
    let items = pairs v c.args.catalog in
    let rising = tree_rising (g.L.Look.page_state c.args.look.now) v c.args.catalog c.requires.tree in
    let count = counted items nodes node c.ranges.node.fits rising catalog valid in
    all_passed (fin.entries (attributes_of nodes node)) c.loop.list.items c.loop.counter (c.loop.invariant.listed nodes catalog valid)
    (omega (arith, few, count, fin.len-entries (attributes_of nodes node), c.loop.invariant.passed, c.loop-test.false))
