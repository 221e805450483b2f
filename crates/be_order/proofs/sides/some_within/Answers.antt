use Rattle.std.proofs.Common.{◌≡◌, ◌∙◌, ◌++◌, None, arith, ap, false, length}
use Rattle.std.proofs.lemmas.Bool.{eqb-true}
use Rattle.std.specs.Option.{option_copied}
use Rattle.be_query.specs.View.{formula}
use Rattle.be_order.specs.Ordered.{nodes_of}
use Rattle.be_order.specs.Walks.{HasWalked, IsEntry}
use Rattle.be_order.proofs.Enough.{some_walked}
use Rattle.be_order.proofs.sides.some_within.Goals as goal

pub returns-then-walked-clause-some : goal.returns-then-walked-clause-some
returns-then-walked-clause-some g c = λ full.
    let s = g.volume in
    let by = c.args.keys.name.now in
    let low = c.args.keys.low.now in
    let high = option_copied c.args.keys.high in
    let found = c.first_nodes.new.found in
    let walked : HasWalked (IsEntry s by low high) false None c.args.most c.clear.new.self.items found.items = c.in_ok-walked.ensures.walked c.if-walked.true s c.requires.1.0 in
    let same : c.len.result ≡ c.args.most = eqb-true c.len.result c.args.most full in
    let count : length found.items ≡ c.args.most = omega (arith, same, c.len.ensures, found.ok.0) in
    some_walked s (g.met.S.Source.sound c.args.source.now s c.requires.1.0) by c.args.kind c.requires.1.1.0 (formula c.args.tree.now) c.args.most low high found.items c.requires.1.1.1
    (record { entries = walked.entries; first = walked.first; added = walked.added ∙ ap (λ l. l ++ nodes_of walked.entries) c.clear.ensures.items }) count
