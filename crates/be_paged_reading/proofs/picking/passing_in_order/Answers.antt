use Rattle.std.proofs.Common.{◌≡◌, ◌∙◌, ℕ, List, take, ap, sym, subst}
use Rattle.std.specs.Option.{option_copied}
use Rattle.std.proofs.lemmas.Result.{IfOk-weaker}
use Rattle.be_tree_reading.specs.Pair.{Pair}
use Rattle.be_tree_reading.specs.Tree.{pairs}
use Rattle.be_tree_reading.specs.Walk.{StaysFalse, ahead, is_on_way, on_way}
use Rattle.be_tree_reading.specs.Way.{walk_of}
use Rattle.be_tree_reading.proofs.Reading.Starts.{root_rising}
use Rattle.be_tree_reading.proofs.Walks.{begun_on_way, begun_stays, walk_read}
use Rattle.be_paged_reading.specs.KeyTests.{AreTestable, nodes_passing}
use Rattle.be_paged_reading.proofs.Asking.Picking.{begun_testable}
use Rattle.be_paged_reading.proofs.picking.passing_in_order.Goals as goal

pub pick_all-requires-clause-walk : goal.pick_all-requires-clause-walk
pick_all-requires-clause-walk g c =
    walk_read (g.L.Look.page_state c.args.look.now) (g.L.Look.page_state c.begin-walk.new.look) (g.L.Look.words c.args.look.now) (g.L.Look.words c.begin-walk.new.look) c.begin-walk.result
    c.begin-walk.ensures.unchanged.page_state c.begin-walk.ensures.unchanged.words c.begin-walk.ensures.walk

pub pick_all-requires-clause-testable : goal.pick_all-requires-clause-testable
pick_all-requires-clause-testable g c =
    let words = g.L.Look.words c.args.look.now in
    let way = c.args.way in
    subst (λ (w : ℕ → ℕ → ℕ). AreTestable c.args.test (ahead w c.begin-walk.result)) (sym c.begin-walk.ensures.unchanged.words)
    (subst (AreTestable c.args.test) (sym c.begin-walk.ensures.ahead) (begun_testable c.args.test way.back way.strict way.low.now (option_copied way.high) (pairs words c.args.root) c.requires.testable))

pub pick_all-requires-clause-ends : goal.pick_all-requires-clause-ends
pick_all-requires-clause-ends g c =
    let words = g.L.Look.words c.args.look.now in
    let way = c.args.way in
    subst (λ (w : ℕ → ℕ → ℕ). StaysFalse (is_on_way way) (ahead w c.begin-walk.result)) (sym c.begin-walk.ensures.unchanged.words)
    (subst (StaysFalse (is_on_way way)) (sym c.begin-walk.ensures.ahead)
    (begun_stays way.back way.strict way.low.now (option_copied way.high) (pairs words c.args.root) (root_rising c.args.root (g.L.Look.page_state c.args.look.now) words c.requires.tree)))

pub returns-clause-found : goal.returns-clause-found
returns-clause-found g c =
    let words = g.L.Look.words c.args.look.now in
    let way = c.args.way in
    let nodes = λ (xs : List Pair). nodes_passing c.args.test xs in
    let now = c.pick_all.new.found.items in
    let same : on_way way (ahead (g.L.Look.words c.begin-walk.new.look) c.begin-walk.result) ≡ walk_of way (pairs words c.args.root) =
    ap (λ (w : ℕ → ℕ → ℕ). on_way way (ahead w c.begin-walk.result)) c.begin-walk.ensures.unchanged.words
    ∙ ap (λ (xs : List Pair). on_way way xs) c.begin-walk.ensures.ahead
    ∙ begun_on_way way.back way.strict way.low.now (option_copied way.high) (pairs words c.args.root) in
    IfOk-weaker c.pick_all.result
    (λ _. now ≡ take c.args.most (nodes (on_way way (ahead (g.L.Look.words c.begin-walk.new.look) c.begin-walk.result))))
    (λ _. now ≡ take c.args.most (nodes (walk_of way (pairs words c.args.root))))
    (λ _ h. h ∙ ap (λ (xs : List Pair). take c.args.most (nodes xs)) same)
    c.pick_all.ensures.found
