use Rattle.std.proofs.Common.{◌∙◌, refl, sym, true}
use Rattle.std.specs.Option.{option_copied}
use Rattle.be_paged_order.proofs.WayKeys.{down_all, down_only, down_whole, plain_all}
use Rattle.be_paged_order.proofs.ways.way_down.Goals as goal

pub returns-then-is_up_to : goal.returns-then-is_up_to
returns-then-is_up_to c =
    let high = option_copied c.args.high in
    let e = sym c.is_up_to.ensures ∙ c.if-is_up_to.true in
    record { back_is = refl; only = λ k. down_only c.args.low.now c.args.cursor.now k high e; all = λ k. down_all c.args.low.now c.args.cursor.now k high }

pub returns : goal.returns
returns c =
    let high = option_copied c.args.high in
    let e = sym c.is_up_to.ensures ∙ c.if-is_up_to.false in
    record { back_is = refl; only = λ k. down_whole c.args.low.now c.args.cursor.now k high e; all = λ k within after. plain_all true c.args.low.now high k within }
