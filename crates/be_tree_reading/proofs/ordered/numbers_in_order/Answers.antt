use Rattle.std.proofs.Common.{◌≡◌, ◌∙◌, ◌++◌, ℕ, List, take, ap, sym, subst}
use Rattle.std.specs.Option.{option_copied}
use Rattle.std.proofs.lemmas.Result.{IfOk-weaker}
use Rattle.be_pages.specs.declared.room.PageState.{PageState}
use Rattle.be_tree_reading.specs.Pair.{Pair}
use Rattle.be_tree_reading.specs.Range.{AreLong, HasFirst}
use Rattle.be_tree_reading.specs.Tree.{pairs}
use Rattle.be_tree_reading.specs.Walk.{StaysFalse, ahead, is_on_way, on_way}
use Rattle.be_tree_reading.specs.Way.{IsLastOf, numbers_in, walk_of}
use Rattle.be_tree_reading.proofs.Reading.Starts.{root_rising}
use Rattle.be_tree_reading.proofs.Walks.{begun_long, begun_on_way, begun_stays, walk_read}
use Rattle.be_tree_reading.proofs.ordered.numbers_in_order.Given.{Over}
use Rattle.be_tree_reading.proofs.ordered.numbers_in_order.Goals as goal
use Rattle.be_tree_reading.proofs.ordered.numbers_in_order.Goals.{After-begin-walk}

pub push_ahead-requires-clause-walk : goal.push_ahead-requires-clause-walk
push_ahead-requires-clause-walk g c =
    walk_read (g.L.Look.page_state c.args.look.now) (g.L.Look.page_state c.begin-walk.new.look) (g.L.Look.words c.args.look.now) (g.L.Look.words c.begin-walk.new.look) c.begin-walk.result
    c.begin-walk.ensures.unchanged.page_state c.begin-walk.ensures.unchanged.words c.begin-walk.ensures.walk

pub push_ahead-requires-clause-long : goal.push_ahead-requires-clause-long
push_ahead-requires-clause-long g c =
    let words = g.L.Look.words c.args.look.now in
    let way = c.args.way in
    subst (λ (w : ℕ → ℕ → ℕ). AreLong (ahead w c.begin-walk.result)) (sym c.begin-walk.ensures.unchanged.words)
    (subst AreLong (sym c.begin-walk.ensures.ahead) (begun_long way.back way.strict way.low.now (option_copied way.high) (pairs words c.args.root) c.requires.long))

pub push_ahead-requires-clause-ends : goal.push_ahead-requires-clause-ends
push_ahead-requires-clause-ends g c =
    let words = g.L.Look.words c.args.look.now in
    let way = c.args.way in
    subst (λ (w : ℕ → ℕ → ℕ). StaysFalse (is_on_way way) (ahead w c.begin-walk.result)) (sym c.begin-walk.ensures.unchanged.words)
    (subst (StaysFalse (is_on_way way)) (sym c.begin-walk.ensures.ahead)
    (begun_stays way.back way.strict way.low.now (option_copied way.high) (pairs words c.args.root) (root_rising c.args.root (g.L.Look.page_state c.args.look.now) words c.requires.tree)))

-- what is ahead at the beginning, up to the end of the way, is the whole walk
same : (g : Over) (c : After-begin-walk g) → on_way c.args.way (ahead (g.L.Look.words c.begin-walk.new.look) c.begin-walk.result) ≡ walk_of c.args.way (pairs (g.L.Look.words c.args.look.now) c.args.root)
same g c =
    let words = g.L.Look.words c.args.look.now in
    let way = c.args.way in
    ap (λ (w : ℕ → ℕ → ℕ). on_way way (ahead w c.begin-walk.result)) c.begin-walk.ensures.unchanged.words
    ∙ ap (λ (xs : List Pair). on_way way xs) c.begin-walk.ensures.ahead
    ∙ begun_on_way way.back way.strict way.low.now (option_copied way.high) (pairs words c.args.root)

pub returns-clause-first : goal.returns-clause-first
returns-clause-first g c =
    subst (λ (xs : List Pair). HasFirst c.args.found.now.items (numbers_in (take c.args.most xs)) c.push_ahead.new.found.items) (same g (goal.at.returns-clause-first g c).After-begin-walk) c.push_ahead.ensures.first

pub returns-clause-found : goal.returns-clause-found
returns-clause-found g c =
    let at = (goal.at.returns-clause-found g c).After-begin-walk in
    let before = c.args.found.now.items in
    let now = c.push_ahead.new.found.items in
    IfOk-weaker c.push_ahead.result
    (λ _. now ≡ before ++ numbers_in (take c.args.most (on_way c.args.way (ahead (g.L.Look.words c.begin-walk.new.look) c.begin-walk.result))))
    (λ _. now ≡ before ++ numbers_in (take c.args.most (walk_of c.args.way (pairs (g.L.Look.words c.args.look.now) c.args.root))))
    (λ _ h. h ∙ ap (λ (xs : List Pair). before ++ numbers_in (take c.args.most xs)) (same g at))
    c.push_ahead.ensures.found

pub returns-clause-last : goal.returns-clause-last
returns-clause-last g c =
    let at = (goal.at.returns-clause-last g c).After-begin-walk in
    let page_state = g.L.Look.page_state c.args.look.now in
    let words = g.L.Look.words c.args.look.now in
    IfOk-weaker c.push_ahead.result
    (λ place. IsLastOf (g.L.Look.page_state c.begin-walk.new.look) (g.L.Look.words c.begin-walk.new.look) place (take c.args.most (on_way c.args.way (ahead (g.L.Look.words c.begin-walk.new.look) c.begin-walk.result))))
    (λ place. IsLastOf page_state words place (take c.args.most (walk_of c.args.way (pairs words c.args.root))))
    (λ place h. subst (λ (w : ℕ → ℕ → ℕ). IsLastOf page_state w place (take c.args.most (walk_of c.args.way (pairs words c.args.root)))) c.begin-walk.ensures.unchanged.words
    (subst (λ (s : ℕ → PageState). IsLastOf s (g.L.Look.words c.begin-walk.new.look) place (take c.args.most (walk_of c.args.way (pairs words c.args.root)))) c.begin-walk.ensures.unchanged.page_state
    (subst (λ (xs : List Pair). IsLastOf (g.L.Look.page_state c.begin-walk.new.look) (g.L.Look.words c.begin-walk.new.look) place (take c.args.most xs)) (same g at) h)))
    c.push_ahead.ensures.last
