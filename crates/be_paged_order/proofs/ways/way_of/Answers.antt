use Rattle.std.proofs.Common.{ap, refl}
use Rattle.std.specs.Option.{option_copied}
use Rattle.be_order.specs.Ordered.{cursor_bytes, is_after}
use Rattle.be_paged_order.proofs.WayKeys.{plain_all, plain_only}
use Rattle.be_paged_order.proofs.ways.way_of.Goals as goal

pub returns-in-None : goal.returns-in-None
returns-in-None c =
    let d = c.args.keys.descending in
    let low = c.args.keys.keys.low.now in
    let high = option_copied c.args.keys.keys.high in
    record { back_is = refl; only = λ k h. (plain_only d low high k h, ap (λ o. is_after d (cursor_bytes o) k) c.in-None.is); all = λ k within after. plain_all d low high k within }
