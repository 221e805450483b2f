use Rattle.std.proofs.Common.{◌≡◌, ℕ, ◌+◌, ◌∙◌, drop, sym, ap, arith}
use Rattle.be_tree_reading.specs.Page.{item_at, items_of}
use Rattle.be_tree_reading.specs.Range.{pairs_from}
use Rattle.be_tree_reading.proofs.Items.{item_get, items_count}
use Rattle.be_tree_reading.proofs.Searching.{equal_skips, equal_takes, gap_rest}
use Rattle.be_tree_reading.proofs.cursor.leaf_from.Goals as goal

pub item_number-number-requires : goal.item_number-number-requires
item_number-number-requires g c = omega (arith, c.in-Ok.ensures.found.is_place)

pub item_number-before-requires : goal.item_number-before-requires
item_number-before-requires g c = omega (arith, c.in-Err.ensures.absent.is_place)

pub returns-then-after-clause-in_range : goal.returns-then-after-clause-in_range
returns-then-after-clause-in_range g c =
    let of = c.in-Ok.ensures.found in
    omega (arith, c.item_number-number.ensures, of.is_place, of.in_range, items_count (g.L.Look.words c.args.look.now c.args.page))

pub returns-else-after-clause-in_range : goal.returns-else-after-clause-in_range
returns-else-after-clause-in_range g c =
    let of = c.in-Ok.ensures.found in
    omega (arith, c.item_number-number.ensures, of.is_place, of.in_range, items_count (g.L.Look.words c.args.look.now c.args.page))

pub returns-then-after-clause-rest : goal.returns-then-after-clause-rest
returns-then-after-clause-rest g c =
    let words = g.L.Look.words c.args.look.now c.args.page in
    let of = c.in-Ok.ensures.found in
    let item = item_at words c.in-Ok.at in
    let number : c.item_number-number.result + 1 ≡ of.number + 1 = omega (arith, c.item_number-number.ensures, of.is_place) in
    ap (λ (n : ℕ). drop n (items_of words)) number
    ∙ equal_skips (items_of words) c.requires.tree.below.rising c.args.from.now of.number item (item_get words of.number item of.in_range ∙ ap (item_at words) (sym of.is_place))
    (omega (arith, of.in_range, items_count words)) of.same
    ∙ ap (pairs_from (items_of words) c.args.from.now) (sym c.if-after.true)

pub returns-else-after-clause-rest : goal.returns-else-after-clause-rest
returns-else-after-clause-rest g c =
    let words = g.L.Look.words c.args.look.now c.args.page in
    let of = c.in-Ok.ensures.found in
    let item = item_at words c.in-Ok.at in
    let number : c.item_number-number.result ≡ of.number = omega (arith, c.item_number-number.ensures, of.is_place) in
    ap (λ (n : ℕ). drop n (items_of words)) number
    ∙ equal_takes (items_of words) c.requires.tree.below.rising c.args.from.now of.number item (item_get words of.number item of.in_range ∙ ap (item_at words) (sym of.is_place))
    (omega (arith, of.in_range, items_count words)) of.same
    ∙ ap (pairs_from (items_of words) c.args.from.now) (sym c.if-after.false)

pub returns-in-Err-clause-in_range : goal.returns-in-Err-clause-in_range
returns-in-Err-clause-in_range g c =
    let of = c.in-Err.ensures.absent in
    omega (arith, c.item_number-before.ensures, of.is_place, of.is_gap.in_range)

pub returns-in-Err-clause-rest : goal.returns-in-Err-clause-rest
returns-in-Err-clause-rest g c =
    let words = g.L.Look.words c.args.look.now c.args.page in
    let of = c.in-Err.ensures.absent in
    let number : c.item_number-before.result ≡ of.number = omega (arith, c.item_number-before.ensures, of.is_place) in
    ap (λ (n : ℕ). drop n (items_of words)) number
    ∙ gap_rest (items_of words) c.requires.tree.below.rising c.args.from.now c.args.after of.number (item_at words 2) of.is_gap c.requires.tree.node.enough
