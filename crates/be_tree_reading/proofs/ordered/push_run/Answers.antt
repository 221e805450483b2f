use Rattle.std.proofs.Common.{◌≡◌, ◌∙◌, ◌<◌, ◌≤◌, List, [], length, get_or, take, drop, refl, ap, sym, subst, arith}
use Rattle.std.proofs.lemmas.List.{append-nil, drop_all, get_or-take, length-take-le}
use Rattle.be_tree_reading.specs.Pair.{Pair}
use Rattle.be_tree_reading.specs.Range.{number_of}
use Rattle.be_tree_reading.specs.Walk.{items_ahead}
use Rattle.be_tree_reading.specs.Way.{numbers_in}
use Rattle.be_tree_reading.proofs.Frame.{unchanged_trans}
use Rattle.be_tree_reading.proofs.Reading.LastBytes.{got_all}
use Rattle.be_tree_reading.proofs.Walks.{IsPlaceAhead, ahead_is, got_item, place_ahead}
use Rattle.be_tree_reading.proofs.ordered.push_run.Given.{Over}
use Rattle.be_tree_reading.proofs.ordered.push_run.Goals as goal
use Rattle.be_tree_reading.proofs.ordered.push_run.Goals.{After-place-at}

pub loop-i-init : goal.loop-i-init
loop-i-init g c = record { has = record { got = []; parts = refl; is = sym (append-nil c.args.found.now.items) }; unchanged = record { kept = refl; page_state = refl; words = refl } }

pub place-at-requires : goal.place-at-requires
place-at-requires g c =
    ahead_is (g.L.Look.page_state c.args.look.now) (g.L.Look.words c.args.look.now) c.args.leaf c.loop-i.i c.requires.leaf (omega (arith, c.loop-i-test.true, c.requires.in_range))

here : (g : Over) (c : After-place-at g) → IsPlaceAhead (g.L.Look.page_state c.loop-i.look) (g.L.Look.words c.loop-i.look) (g.L.Look.words c.args.look.now) c.args.leaf c.loop-i.i c.place-at.result
here g c =
    let i = c.loop-i.invariant in
    place_ahead (g.L.Look.page_state c.args.look.now) (g.L.Look.page_state c.loop-i.look) (g.L.Look.words c.args.look.now) (g.L.Look.words c.loop-i.look) c.args.leaf c.loop-i.i c.place-at.result
    i.unchanged.page_state i.unchanged.words c.place-at.ensures c.requires.leaf (omega (arith, c.loop-i-test.true, c.requires.in_range))

pub number_at-number-requires-clause-readable : goal.number_at-number-requires-clause-readable
number_at-number-requires-clause-readable g c = (here g (goal.at.number_at-number-requires-clause-readable g c).After-place-at).readable.0

pub number_at-number-requires-clause-in_page : goal.number_at-number-requires-clause-in_page
number_at-number-requires-clause-in_page g c = (here g (goal.at.number_at-number-requires-clause-in_page g c).After-place-at).readable.1.0

pub number_at-number-requires-clause-item : goal.number_at-number-requires-clause-item
number_at-number-requires-clause-item g c = (here g (goal.at.number_at-number-requires-clause-item g c).After-place-at).readable.1.1

pub number_at-number-requires-clause-long : goal.number_at-number-requires-clause-long
number_at-number-requires-clause-long g c =
    let d : Pair = record { key = []; payload = [] } in
    subst (λ (x : Pair). 8 ≤ length x.key) (sym ((here g (goal.at.number_at-number-requires-clause-long g c).After-place-at).same d))
    (c.requires.long c.loop-i.i d (omega (arith, c.loop-i-test.true, c.requires.in_range)))

pub loop-i-preserved : goal.loop-i-preserved
loop-i-preserved g c =
    let d : Pair = record { key = []; payload = [] } in
    let zs = items_ahead (g.L.Look.words c.args.look.now) c.args.leaf in
    let run = take c.args.count zs in
    let taken : length run ≡ c.args.count = length-take-le c.args.count zs c.requires.in_range in
    let lt : c.loop-i.i < length run = omega (arith, taken, c.loop-i-test.true) in
    let number : c.number_at-number.result ≡ number_of (get_or run c.loop-i.i d).key =
    c.number_at-number.ensures.number
    ∙ ap (λ (x : Pair). number_of x.key) ((here g (goal.at.loop-i-preserved g c).After-place-at).same d ∙ sym (get_or-take c.args.count zs c.loop-i.i d (omega (arith, c.loop-i-test.true)))) in
    record {
      has = got_item c.args.found.now.items (numbers_in run) c.loop-i.found.items c.push.new.self.items run c.loop-i.i c.number_at-number.result d c.loop-i.invariant.has lt number c.in_ok-push.ensures.items;
      unchanged = unchanged_trans g.L.Look.kept g.L.Look.page_state g.L.Look.words c.args.look.now c.loop-i.look c.number_at-number.new.look c.loop-i.invariant.unchanged c.number_at-number.ensures.unchanged;
    }

pub returns-clause-found : goal.returns-clause-found
returns-clause-found g c =
    let zs = items_ahead (g.L.Look.words c.args.look.now) c.args.leaf in
    let run = take c.args.count zs in
    let none : drop c.loop-i.i run ≡ [] = drop_all c.loop-i.i run (omega (arith, length-take-le c.args.count zs c.requires.in_range, c.loop-i-test.false)) in
    got_all c.args.found.now.items (numbers_in run) (numbers_in (drop c.loop-i.i run)) c.loop-i.found.items (ap (λ (xs : List Pair). numbers_in xs) none) c.loop-i.invariant.has
