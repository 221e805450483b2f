use Rattle.std.proofs.Common.{ℕ, ◌++◌, ◌≤◌, length, ap, sym, subst, ◌∙◌, arith}
use Rattle.be_tree_reading.specs.Cursor.{IsPath, pairs_along}
use Rattle.be_tree_reading.specs.Page.{items_of}
use Rattle.be_tree_reading.proofs.Reading.Cursors.{along_push, path_front, past_end}
use Rattle.be_tree_reading.proofs.Frame.{unchanged_trans}
use Rattle.be_tree_reading.proofs.Items.{items_count}
use Rattle.be_tree_reading.proofs.cursor.Cursor.pop_spent.Goals as goal

pub returns-then-place-word-clause-parts : goal.returns-then-place-word-clause-parts
returns-then-place-word-clause-parts g c =
    let words = g.L.Look.words c.args.look.now in
    sym c.loop-place.invariant.same ∙ ap (pairs_along words) c.in-Some.ensures.items ∙ along_push words c.pop.new.self.items c.in-Some.place

pub loop-place-preserved : goal.loop-place-preserved
loop-place-preserved g c =
    let words = g.L.Look.words c.args.look.now in
    let place = c.in-Some.place in
    let parts = c.in-Some.ensures.items in
    let end : length (items_of (words place.page)) ≤ place.next =
    omega (arith, c.if-place-word.false, c.word.ensures.value, ap (λ (w : ℕ → ℕ → ℕ). w place.page 1) c.loop-place.invariant.unchanged.words, items_count (words place.page)) in
    record {
      path = path_front (g.L.Look.page_state c.args.look.now) words c.pop.new.self.items place (subst (IsPath (g.L.Look.page_state c.args.look.now) words) parts c.loop-place.invariant.path);
      same = sym (ap (λ xs. xs ++ pairs_along words c.pop.new.self.items) (past_end words place end))
          ∙ sym (ap (pairs_along words) parts ∙ along_push words c.pop.new.self.items place) ∙ c.loop-place.invariant.same;
      unchanged = unchanged_trans g.L.Look.kept g.L.Look.page_state g.L.Look.words c.args.look.now c.loop-place.look c.word.new.self c.loop-place.invariant.unchanged
          (record { kept = c.word.ensures.kept; page_state = c.word.ensures.page_state; words = c.word.ensures.words });
    }
