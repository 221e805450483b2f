use Rattle.std.proofs.Common.{◌≡◌, Bool, None, Ok, arith, false, length, subst}
use Rattle.std.specs.Option.{IfSome}
use Rattle.std.specs.declared.option.Option.{Option}
use Rattle.be_query.specs.View.{formula}
use Rattle.be_order.specs.Ordered.{cursor_bytes, page, page_with}
use Rattle.be_order.proofs.Enough.{some_paged}
use Rattle.be_order.proofs.sides.some_on_page.Goals as goal

pub returns-clause-some : goal.returns-clause-some
returns-clause-some g c = λ full.
    let s = g.volume in
    let f = formula c.args.tree.now in
    let found = c.page_beside.new.found.items in
    let next = cursor_bytes c.page_beside.new.cursor in
    let P : Option Bool → Type 0 = λ r. IfSome r (λ more. page s f c.args.by.now false None c.args.most ≡ Ok (page_with found next more)) in
    let paged = subst P c.in-Some.is c.in_ok-asked.ensures.page in
    let count : length found ≡ c.args.most = omega arith in
    some_paged s (g.met.S.Source.sound c.args.source.now s c.requires.1.0) c.args.by.now c.args.kind c.requires.1.1.1 f c.args.most found next c.in-Some.field-0 paged count
