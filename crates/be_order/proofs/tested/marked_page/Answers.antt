use Rattle.std.proofs.Common.{Bool}
use Rattle.std.specs.Cmp.{both_ways}
use Rattle.std.specs.Option.{option_copied}
use Rattle.be_query.specs.Grammar.{Formula}
use Rattle.be_order.specs.Asked.{IsPageOfRest, Lists}
use Rattle.be_order.specs.Ordered.{cursor_bytes}
use Rattle.be_order.proofs.Tests.{page_follows}
use Rattle.be_order.proofs.tested.marked_page.Goals as goal

pub returns-clause-page : goal.returns-clause-page
returns-clause-page g c =
    let s = g.volume in
    let walk = c.args.walk in
    let by = walk.keys.name.now in
    let is_page = λ (f : Formula) (more : Bool). IsPageOfRest s f by walk.kind walk.keys.low.now (option_copied walk.keys.high) walk.descending c.args.most (cursor_bytes c.args.cursor.now)
    c.test_page.new.found.items (cursor_bytes c.test_page.new.cursor) more in
    page_follows _ (λ more. (rest : Formula) → Lists s rest c.args.nodes.now → is_page rest more) c.test_page.result
    (λ more page rest lists. page rest (λ n. both_ways _ _ (λ e. lists.only n (c.in-Some.ensures.only n e)) (λ e. c.in-Some.ensures.has n (lists.all n e))))
    c.test_page.ensures.page
