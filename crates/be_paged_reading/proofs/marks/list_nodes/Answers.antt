use Rattle.std.proofs.Common.{◌≡◌, ◌∙◌, ◌∷◌, ◌++◌, ◌≤◌, ℕ, List, [], length, take, ap, sym, arith}
use Rattle.std.proofs.Math.Seq.{take-append_seam}
use Rattle.std.proofs.lemmas.List.{append-nil, append_assoc, length-append, take_all}
use Rattle.be_tree_reading.specs.Cursor.{remaining}
use Rattle.be_tree_reading.proofs.Frame.{unchanged_trans}
use Rattle.be_paged_reading.specs.Nodes.{marked}
use Rattle.be_paged_reading.proofs.Asking.Walks.{cursor_since}
use Rattle.be_paged_reading.proofs.marks.list_nodes.Goals as goal

pub loop-preserved : goal.loop-preserved
loop-preserved g c =
    let mid = g.L.Look.words c.loop.look in
    let list = c.loop.list.items in
    let node = c.in-Some.node in
    let cursor = c.next_mark.new.cursor in
    let step = c.next_mark.ensures.unchanged in
    record {
      cursor = cursor_since (g.L.Look.page_state c.loop.look) (g.L.Look.page_state c.next_mark.new.look) mid (g.L.Look.words c.next_mark.new.look) cursor step.page_state step.words c.next_mark.ensures.cursor;
      parts = ap (λ (w : ℕ → ℕ → ℕ). c.push.new.self.items ++ marked (remaining w cursor)) step.words
          ∙ ap (λ (ns : List ℕ). ns ++ marked (remaining mid cursor)) c.in_ok-push.ensures.items
          ∙ append_assoc list (node ∷ []) (marked (remaining mid cursor))
          ∙ ap (λ (ns : List ℕ). list ++ ns) (sym c.in-Some.ensures.node)
          ∙ c.loop.invariant.parts;
      count = omega (arith, ap length c.in_ok-push.ensures.items, length-append list (node ∷ []), c.loop.invariant.count);
      within = omega (arith, c.loop-test.true);
      unchanged = unchanged_trans g.L.Look.kept g.L.Look.page_state g.L.Look.words c.args.look.now c.loop.look c.next_mark.new.look c.loop.invariant.unchanged step;
    }

pub returns-in_default-clause-list : goal.returns-in_default-clause-list
returns-in_default-clause-list g c =
    let list = c.loop.list.items in
    let few : length list ≤ c.args.most = omega (arith, c.loop.invariant.count, c.loop.invariant.within) in
    sym (take_all c.args.most list few)
    ∙ ap (take c.args.most) (sym (append-nil list) ∙ ap (λ (ns : List ℕ). list ++ ns) (sym c.in_default.ensures.none) ∙ c.loop.invariant.parts)

pub returns-clause-list : goal.returns-clause-list
returns-clause-list g c =
    let list = c.loop.list.items in
    let rest = marked (remaining (g.L.Look.words c.loop.look) c.loop.cursor) in
    let full : length list ≡ c.args.most = omega (arith, c.loop.invariant.count, c.loop.invariant.within, c.loop-test.false) in
    sym (take-append_seam list rest) ∙ ap (λ (n : ℕ). take n (list ++ rest)) full ∙ ap (take c.args.most) c.loop.invariant.parts
