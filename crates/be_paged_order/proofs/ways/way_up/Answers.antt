use Rattle.std.proofs.Common.{◌∙◌, false, refl, sym}
use Rattle.std.specs.Option.{option_copied}
use Rattle.be_paged_order.proofs.WayKeys.{plain_all, up_all, up_only, up_whole}
use Rattle.be_paged_order.proofs.ways.way_up.Goals as goal

pub returns-then-is_at_or_after : goal.returns-then-is_at_or_after
returns-then-is_at_or_after c =
    let high = option_copied c.args.high in
    let e = sym c.is_at_or_after.ensures ∙ c.if-is_at_or_after.true in
    record { back_is = refl; only = λ k. up_only c.args.low.now high c.args.cursor.now k e; all = λ k. up_all c.args.low.now high c.args.cursor.now k }

pub returns : goal.returns
returns c =
    let high = option_copied c.args.high in
    let e = sym c.is_at_or_after.ensures ∙ c.if-is_at_or_after.false in
    record { back_is = refl; only = λ k. up_whole c.args.low.now high c.args.cursor.now k e; all = λ k within after. plain_all false c.args.low.now high k within }
