use Rattle.std.proofs.Common.{◌≡◌, ◌∙◌, ◌++◌, ap, arith, filter, inl, inr, subst, Bool}
use Rattle.std.specs.Option.{option_copied}
use Rattle.std.specs.Prelude.{IfSome}
use Rattle.std.specs.declared.option.Option.{Option}
use Rattle.be_query.specs.View.{formula}
use Rattle.be_volume.specs.Query.{sat}
use Rattle.be_order.specs.Asked.{IsPart, true_after}
use Rattle.be_order.specs.Ordered.{cursor_bytes}
use Rattle.be_order.proofs.IndexParts.{joined, none_left, stepped}
use Rattle.be_order.proofs.asked.ask_parts.Goals as goal

pub returns-then-not-more-clause-front : goal.returns-then-not-more-clause-front
returns-then-not-more-clause-front g c = λ _.
    let s = g.volume in
    let f = formula c.args.left.tree.now in
    let by = c.args.walk.keys.name.now in
    let low = c.args.walk.keys.low.now in
    let high = option_copied c.args.walk.keys.high in
    let d = c.args.walk.descending in
    let at = cursor_bytes c.loop.at in
    let next = cursor_bytes c.next_part.new.cursor in
    let found = c.push_true.new.found in
    let more = c.in-Some.more in
    let nodes = c.next_part.new.nodes.items in
    let piece : found.items ≡ c.loop.found.items ++ filter (sat s f) nodes =
    c.in_ok-push_true.ensures.found ∙ ap (λ l. c.loop.found.items ++ filter (sat s f) l) c.as_slice.ensures.value in
    let part : IsPart s by low high d c.args.pace.part at next nodes more = subst (λ (w : Option Bool). IfSome w (IsPart s by low high d c.args.pace.part at next nodes)) c.in-Some.is c.in_ok-walked.ensures.part in
    let parts = joined _ c.loop.found.items (true_after s f by low high d at) (filter (sat s f) nodes) (true_after s f by low high d next) found.items c.loop.invariant.parts (stepped s f by low high d c.args.pace.part at next nodes more part) piece in
    record { rest = true_after s f by low high d next; parts = parts; enough = inl (none_left s f by low high d c.args.pace.part at next nodes more part c.if-not-more.true) }

pub returns-then-len-most-clause-front : goal.returns-then-len-most-clause-front
returns-then-len-most-clause-front g c = λ _.
    let s = g.volume in
    let f = formula c.args.left.tree.now in
    let by = c.args.walk.keys.name.now in
    let low = c.args.walk.keys.low.now in
    let high = option_copied c.args.walk.keys.high in
    let d = c.args.walk.descending in
    let at = cursor_bytes c.loop.at in
    let next = cursor_bytes c.next_part.new.cursor in
    let found = c.push_true.new.found in
    let more = c.in-Some.more in
    let nodes = c.next_part.new.nodes.items in
    let piece : found.items ≡ c.loop.found.items ++ filter (sat s f) nodes =
    c.in_ok-push_true.ensures.found ∙ ap (λ l. c.loop.found.items ++ filter (sat s f) l) c.as_slice.ensures.value in
    let part : IsPart s by low high d c.args.pace.part at next nodes more = subst (λ (w : Option Bool). IfSome w (IsPart s by low high d c.args.pace.part at next nodes)) c.in-Some.is c.in_ok-walked.ensures.part in
    let parts = joined _ c.loop.found.items (true_after s f by low high d at) (filter (sat s f) nodes) (true_after s f by low high d next) found.items c.loop.invariant.parts (stepped s f by low high d c.args.pace.part at next nodes more part) piece in
    record { rest = true_after s f by low high d next; parts = parts; enough = inr (omega (arith, c.if-len-most.true, c.len.ensures, found.ok.0)) }

pub loop-preserved : goal.loop-preserved
loop-preserved g c =
    let s = g.volume in
    let f = formula c.args.left.tree.now in
    let by = c.args.walk.keys.name.now in
    let low = c.args.walk.keys.low.now in
    let high = option_copied c.args.walk.keys.high in
    let d = c.args.walk.descending in
    let at = cursor_bytes c.loop.at in
    let next = cursor_bytes c.next_part.new.cursor in
    let found = c.push_true.new.found in
    let more = c.in-Some.more in
    let nodes = c.next_part.new.nodes.items in
    let piece : found.items ≡ c.loop.found.items ++ filter (sat s f) nodes =
    c.in_ok-push_true.ensures.found ∙ ap (λ l. c.loop.found.items ++ filter (sat s f) l) c.as_slice.ensures.value in
    let part : IsPart s by low high d c.args.pace.part at next nodes more = subst (λ (w : Option Bool). IfSome w (IsPart s by low high d c.args.pace.part at next nodes)) c.in-Some.is c.in_ok-walked.ensures.part in
    let parts = joined _ c.loop.found.items (true_after s f by low high d at) (filter (sat s f) nodes) (true_after s f by low high d next) found.items c.loop.invariant.parts (stepped s f by low high d c.args.pace.part at next nodes more part) piece in
    record { parts = parts; stays = c.push_true.ensures.stays ∙ c.next_part.ensures.stays ∙ c.loop.invariant.stays; answers = c.push_true.ensures.answers }
