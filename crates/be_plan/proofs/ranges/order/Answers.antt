use Rattle.std.proofs.Common.{◌≡◌, ◌∙◌, ◌++◌, sym, ap, length, arith}
use Rattle.std.specs.Ordering.{ordering_then}
use Rattle.be_volume.specs.Maps.{name_cmp}
use Rattle.be_plan.proofs.Parts.{shorter, in_parts}
use Rattle.be_plan.proofs.ranges.order.Goals as goal

pub returns-then-bytes-front : goal.returns-then-bytes-front
returns-then-bytes-front c = c.cmp.ensures ∙ sym (shorter c.args.bytes.now c.args.front.now c.args.end.now (omega arith))

pub returns : goal.returns
returns c =
    let head = c.split_at.result.0.now in
    let tail = c.split_at.result.1.now in
    let front = c.args.front.now in
    let end = c.args.end.now in
    let long : length head ≡ length front = c.split_at.ensures.front_len in
    c.then.ensures ∙ ap (λ o. ordering_then o c.cmp-3.result) c.cmp-2.ensures ∙ ap (ordering_then (name_cmp head front)) c.cmp-3.ensures
    ∙ sym (in_parts head tail front end long) ∙ ap (λ b. name_cmp b (front ++ end)) (sym c.split_at.ensures.by_index.0)
