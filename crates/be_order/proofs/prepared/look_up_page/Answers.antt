use Rattle.std.proofs.Common.{Bool, IfSome, List, ℕ, subst, sym}
use Rattle.std.specs.Option.{option_copied}
use Rattle.std.specs.declared.option.Option.{Option}
use Rattle.be_query.specs.Grammar.{Formula}
use Rattle.be_query.specs.View.{formula}
use Rattle.be_order.specs.Asked.{IsPageOfRest, Lists}
use Rattle.be_order.specs.Ordered.{cursor_bytes}
use Rattle.be_order.proofs.prepared.look_up_page.Goals as goal

pub returns-in-Some-looked_up-clause-page : goal.returns-in-Some-looked_up-clause-page
returns-in-Some-looked_up-clause-page g c =
    let s = g.volume in
    let walk = c.args.walk in
    let rest = formula c.args.tree.now in
    let page = subst (λ (came : Option Bool). IfSome came (λ more. (f : Formula) → Lists s f c.deref.result.now
    → IsPageOfRest s f walk.keys.name.now walk.kind walk.keys.low.now (option_copied walk.keys.high) walk.descending c.args.most (cursor_bytes c.args.cursor.now) c.marked_page.new.found.items
    (cursor_bytes c.marked_page.new.cursor) more)) c.in-Some-looked_up.is c.in_ok-looked_up.ensures.page in
    page rest (subst (λ (nodes : List ℕ). Lists s rest nodes) (sym c.deref.ensures.value) c.in-Some.ensures.lists)
