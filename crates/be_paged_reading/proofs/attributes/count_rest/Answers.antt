use Rattle.std.proofs.Common.{◌≡◌, ℕ, ◌∙◌, ap, sym, drop, List, true, is_some, arith}
use Rattle.std.specs.List.{slice_get}
use Rattle.be_tree_reading.specs.Cursor.{remaining}
use Rattle.be_tree_reading.specs.Pair.{Pair}
use Rattle.be_tree_reading.proofs.Frame.{unchanged_trans}
use Rattle.be_paged_reading.specs.Reading.{front_of_node}
use Rattle.be_paged_reading.proofs.Asking.Walks.{none_left, one_left, drop_next, cursor_since}
use Rattle.be_paged_reading.proofs.attributes.count_rest.Goals as goal

pub loop-count-preserved : goal.loop-count-preserved
loop-count-preserved g c =
    let mid = g.L.Look.words c.loop-count.look in
    let node = c.args.node in
    let all = front_of_node node (remaining (g.L.Look.words c.args.look.now) c.args.cursor.now) in
    let step = c.pass_attribute.ensures.unchanged in
    let some : is_some (slice_get (drop c.loop-count.count all) 0) ≡ true = ap (λ (xs : List Pair). is_some (slice_get xs 0)) (sym c.loop-count.invariant.rest) ∙ sym c.pass_attribute.ensures.found ∙ c.if-not-pass_attribute.false in
    record {
      cursor = cursor_since (g.L.Look.page_state c.loop-count.look) (g.L.Look.page_state c.pass_attribute.new.look) mid (g.L.Look.words c.pass_attribute.new.look) c.pass_attribute.new.cursor step.page_state step.words c.pass_attribute.ensures.cursor;
      rest = ap (λ (w : ℕ → ℕ → ℕ). front_of_node node (remaining w c.pass_attribute.new.cursor)) step.words ∙ c.pass_attribute.ensures.rest c.if-not-pass_attribute.false ∙ ap (λ (xs : List Pair). drop 1 xs) c.loop-count.invariant.rest ∙ drop_next all c.loop-count.count;
      passed = omega (arith, one_left all c.loop-count.count some);
      unchanged = unchanged_trans g.L.Look.kept g.L.Look.page_state g.L.Look.words c.args.look.now c.loop-count.look c.pass_attribute.new.look c.loop-count.invariant.unchanged step;
    }

pub returns-then-not-pass_attribute-clause-count : goal.returns-then-not-pass_attribute-clause-count
returns-then-not-pass_attribute-clause-count g c = λ few.
    let all = front_of_node c.args.node (remaining (g.L.Look.words c.args.look.now) c.args.cursor.now) in
    none_left all c.loop-count.count c.loop-count.invariant.passed (ap (λ (xs : List Pair). is_some (slice_get xs 0)) (sym c.loop-count.invariant.rest) ∙ sym c.pass_attribute.ensures.found ∙ c.if-not-pass_attribute.true)

pub returns-clause-count : goal.returns-clause-count
returns-clause-count g c = λ few. omega (arith, few, c.loop-count.invariant.passed, c.loop-count-test.false)
