use Rattle.std.proofs.Common.{◌≡◌, ℕ, suc, [], ap, arith, length, nat_lt, subst}
use Rattle.std.specs.Option.{option_copied}
use Rattle.be_order.specs.Ordered.{cursor_bytes}
use Rattle.be_order.specs.Walks.{HasWalked, IsPassing}
use Rattle.be_order.proofs.IndexParts.{asked_page, passing_held, tested_front}
use Rattle.be_order.proofs.tested.test_page.Goals as goal

pub returns-clause-page : goal.returns-clause-page
returns-clause-page g c = λ rest is_for f covers bounding.
    let s = g.volume in
    let sound = g.met.S.Source.sound c.args.source.now s c.requires.1.0 in
    let by = c.args.walk.keys.name.now in
    let low = c.args.walk.keys.low.now in
    let high = option_copied c.args.walk.keys.high in
    let d = c.args.walk.descending in
    let most = c.args.most in
    let cursor = cursor_bytes c.args.cursor.now in
    let got = c.first_passing.new.found in
    let count : c.len.result ≡ length got.items = omega (arith, c.len.ensures, got.ok.0) in
    let one_more : c.in-Some.one_more ≡ suc most = omega (arith, c.in-Some.ensures) in
    let walked = subst (λ (n : ℕ). HasWalked (IsPassing s by low high c.args.test) d cursor n [] got.items) one_more (c.in_ok-first_passing.ensures.tested c.if-not-branch.false s c.requires.1.0) in
    let front = tested_front s sound by c.args.walk.kind c.requires.1.1 d low high c.args.test rest is_for cursor most got.items walked in
    asked_page s sound by c.args.walk.kind c.requires.1.1 d low high f rest bounding covers cursor
    (cursor_bytes c.keep_first.new.cursor) most got.items c.keep_first.new.found.items front c.keep_first.ensures.kept (λ e. ap cursor_bytes (c.keep_first.ensures.empty e)) (λ n front e. c.keep_first.ensures.last n front e)
    (nat_lt most c.len.result) (ap (nat_lt most) count)

pub keep_first-requires : goal.keep_first-requires
keep_first-requires g c κs within =
    let s = g.volume in
    let walk = c.args.walk in (
      within,
      (
        c.first_passing.ensures.answers s c.requires.1.0,
        passing_held s walk.keys.name.now walk.keys.low.now (option_copied walk.keys.high) walk.descending (cursor_bytes c.args.cursor.now) c.args.test c.in-Some.one_more c.first_passing.new.found.items
            (c.in_ok-first_passing.ensures.tested c.if-not-branch.false s c.requires.1.0),
      ),
    )
