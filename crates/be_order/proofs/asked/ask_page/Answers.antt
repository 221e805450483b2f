use Rattle.std.proofs.Common.{◌≡◌, ℕ, List, ap, arith, length, nat_lt, subst}
use Rattle.std.specs.Option.{option_copied}
use Rattle.std.specs.declared.option.Option.{Option}
use Rattle.be_query.specs.View.{formula}
use Rattle.be_order.specs.Asked.{HasFront, true_after}
use Rattle.be_order.specs.Ordered.{cursor_bytes}
use Rattle.be_order.proofs.IndexParts.{asked_page, front_held}
use Rattle.be_order.proofs.asked.ask_page.Goals as goal

pub returns-clause-page : goal.returns-clause-page
returns-clause-page g c = λ f covers bounding.
    let s = g.volume in
    let left = formula c.args.left.tree.now in
    let by = c.args.walk.keys.name.now in
    let low = c.args.walk.keys.low.now in
    let high = option_copied c.args.walk.keys.high in
    let d = c.args.walk.descending in
    let most = c.args.most in
    let cursor = cursor_bytes c.args.cursor.now in
    let got = c.ask_parts.new.found in
    let count : c.len.result ≡ length got.items = omega (arith, c.len.ensures, got.ok.0) in
    let front = subst (λ (k : Option (List ℕ)). HasFront most (true_after s left by low high d k) got.items) c.copy_of-from.ensures (c.in_ok-ask_parts.ensures.front c.if-not-branch.false) in
    asked_page s (g.met.S.Source.sound c.args.source.now s c.requires.1.0) by c.args.walk.kind c.requires.1.1.1 d low high f left bounding covers cursor
    (cursor_bytes c.keep_first.new.cursor) most got.items c.keep_first.new.found.items front c.keep_first.ensures.kept (λ e. ap cursor_bytes (c.keep_first.ensures.empty e)) (λ n front e. c.keep_first.ensures.last n front e)
    (nat_lt most c.len.result) (ap (nat_lt most) count)

pub keep_first-requires : goal.keep_first-requires
keep_first-requires g c κs within =
    let s = g.volume in
    let walk = c.args.walk in
    let left = formula c.args.left.tree.now in
    let by = walk.keys.name.now in
    let low = walk.keys.low.now in
    let high = option_copied walk.keys.high in (
      within,
      (
        c.ask_parts.ensures.answers,
        front_held s (g.met.S.Source.sound c.args.source.now s c.requires.1.0) by walk.kind c.requires.1.1.1 walk.descending low high left (cursor_bytes c.copy_of-from.result) c.args.most c.ask_parts.new.found.items
            (c.in_ok-ask_parts.ensures.front c.if-not-branch.false),
      ),
    )
