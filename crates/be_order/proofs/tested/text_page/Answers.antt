use Rattle.std.proofs.Common.{◌≡◌, ◌∙◌, ℕ, Bool, ap, sym}
use Rattle.std.specs.Option.{option_copied}
use Rattle.be_query.specs.Grammar.{Formula, Leaf, Literal}
use Rattle.be_query.specs.View.{formula}
use Rattle.be_query.specs.declared.tree.Cmp.{Cmp}
use Rattle.be_volume.specs.Query.{sat}
use Rattle.be_order.specs.Asked.{IsPageOfRest}
use Rattle.be_order.specs.Ordered.{cursor_bytes}
use Rattle.be_order.proofs.Tests.{page_follows}
use Rattle.be_order.proofs.tested.text_page.Goals as goal

pub returns-clause-page : goal.returns-clause-page
returns-clause-page g c =
    let s = g.volume in
    let walk = c.args.walk in
    let by = walk.keys.name.now in
    let rest = formula c.args.tree.now in
    let is_page = λ (f : Formula) (more : Bool). IsPageOfRest s f by walk.kind walk.keys.low.now (option_copied walk.keys.high) walk.descending c.args.most (cursor_bytes c.args.cursor.now)
    c.test_page.new.found.items (cursor_bytes c.test_page.new.cursor) more in
    let is_for : (n : ℕ) → sat s (Leaf by c.in_ok-test.test.0 c.in_ok-test.test.1) n ≡ sat s rest n =
    λ n. ap (λ (f : Formula). sat s f n) (ap (λ (t : Cmp × Literal). Leaf by t.0 t.1) c.in_ok-test.ensures.ok ∙ sym c.in-Some.ensures.leaf) in
    page_follows _ (is_page rest) c.test_page.result (λ more page. page rest is_for) c.test_page.ensures.page
