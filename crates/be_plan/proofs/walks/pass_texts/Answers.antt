use Rattle.std.proofs.Common.{◌≡◌, ◌∙◌, ap, sym}
use Rattle.std.specs.Result.{IfOk}
use Rattle.std.specs.declared.result.Result.{Result}
use Rattle.std.specs.declared.result.Result.TheVariants.{Ok, Err}
use Rattle.be_query.specs.Grammar.{Leaf, Literal}
use Rattle.be_query.specs.View.{formula}
use Rattle.be_query.specs.declared.tree.Cmp.{Cmp}
use Rattle.be_plan.specs.Narrow.{high_of}
use Rattle.be_plan.proofs.Collecting.{collects_none}
use Rattle.be_plan.proofs.Left.{adds_left, has_left}
use Rattle.be_plan.proofs.walks.pass_texts.Goals as goal

tested : {A E : Type 0} {P Q : A → Type 0} (r : Result A E) → ((a : A) → P a → Q a) → IfOk r P → IfOk r Q
tested (Ok a) f h = f a h
tested (Err e) f h = h

pub nodes_passing-requires : goal.nodes_passing-requires
nodes_passing-requires g c = (g.volume, c.requires.1.0)

pub returns-in_default-clause-collects : goal.returns-in_default-clause-collects
returns-in_default-clause-collects g c = collects_none g.volume (formula c.args.walk.tree.now) c.args.found.now.items

pub returns-in_err-test-clause-collects : goal.returns-in_err-test-clause-collects
returns-in_err-test-clause-collects g c = collects_none g.volume (formula c.args.walk.tree.now) c.args.found.now.items

pub returns-clause-collects : goal.returns-clause-collects
returns-clause-collects g c =
    let name = c.args.walk.index.name.now in
    let test = c.in_ok-test.test in
    let asked : formula c.args.rest.now ≡ Leaf name test.0 test.1 = c.in-Some.ensures.leaf ∙ ap (λ (t : Cmp × Literal). Leaf name t.0 t.1) (sym c.in_ok-test.ensures.ok) in
    let own : Leaf c.keys.result.name.now test.0 test.1 ≡ formula c.args.rest.now = ap (λ m. Leaf m test.0 test.1) c.keys.ensures.name ∙ sym asked in
    adds_left g.volume (g.met.S.Source.sound c.args.source.now g.volume c.requires.1.0) (formula c.args.walk.tree.now) (formula c.args.rest.now) _ name _ c.args.walk.range.now.low.items _
    (high_of c.args.walk.range.now) _ c.args.walk.index.kind c.requires.1.1.kind_is c.requires.1.1.leaves own c.keys.ensures.name c.keys.ensures.low c.keys.ensures.high
    c.args.found.now.items c.nodes_passing.new.found.items c.nodes_passing.ensures.keeps (c.nodes_passing.ensures.only g.volume c.requires.1.0)

pub returns-clause-has : goal.returns-clause-has
returns-clause-has g c =
    let name = c.args.walk.index.name.now in
    let test = c.in_ok-test.test in
    let asked : formula c.args.rest.now ≡ Leaf name test.0 test.1 = c.in-Some.ensures.leaf ∙ ap (λ (t : Cmp × Literal). Leaf name t.0 t.1) (sym c.in_ok-test.ensures.ok) in
    let own : Leaf c.keys.result.name.now test.0 test.1 ≡ formula c.args.rest.now = ap (λ m. Leaf m test.0 test.1) c.keys.ensures.name ∙ sym asked in
    tested c.nodes_passing.result (λ a has yes.
    has_left g.volume (g.met.S.Source.sound c.args.source.now g.volume c.requires.1.0) (formula c.args.walk.tree.now) (formula c.args.rest.now) _ name _ c.args.walk.range.now.low.items _
    (high_of c.args.walk.range.now) _ c.args.walk.index.kind c.requires.1.1.kind_is c.requires.1.1.leaves own c.keys.ensures.name c.keys.ensures.low c.keys.ensures.high
    c.nodes_passing.new.found.items (has yes g.volume c.requires.1.0)) c.nodes_passing.ensures.has
