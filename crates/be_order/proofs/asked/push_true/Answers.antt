use Rattle.std.proofs.Common.{◌∙◌, ◌++◌, ◌∷◌, [], ap, sym, append_assoc, filter, get_or, take}
use Rattle.std.proofs.lemmas.List.{take_more}
use Rattle.std.proofs.lemmas.List.Elements.{filter-append}
use Rattle.be_query.specs.View.{formula}
use Rattle.be_volume.specs.Query.{sat}
use Rattle.be_order.proofs.asked.push_true.Goals as goal

pub loop-node-preserved : goal.loop-node-preserved
loop-node-preserved g c =
    let nodes = c.args.nodes.now in
    let i = c.loop-node.node-index in
    let p = sat g.volume (formula c.args.left.tree.now) in
    let old = c.args.found.now.items in
    let node = get_or nodes i 0 in
    record {
      found = c.in_ok-push_if_true.ensures.found
          ∙ ap (λ l. l ++ filter p (node ∷ [])) c.loop-node.invariant.found
          ∙ append_assoc old (filter p (take i nodes)) (filter p (node ∷ []))
          ∙ ap (λ l. old ++ l) (sym (filter-append p (take i nodes) (node ∷ [])))
          ∙ ap (λ l. old ++ filter p l) (sym (take_more nodes i 0 c.loop-node-test.true));
      stays = c.push_if_true.ensures.stays ∙ c.loop-node.invariant.stays;
      answers = c.push_if_true.ensures.answers;
    }
