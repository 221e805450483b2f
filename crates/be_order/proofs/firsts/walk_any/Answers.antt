use Rattle.std.proofs.Common.{◌∙◌, ◌++◌, ap}
use Rattle.std.specs.Option.{option_copied}
use Rattle.be_order.specs.Ordered.{nodes_of}
use Rattle.be_order.specs.Walks.{HasWalked, IsEntry}
use Rattle.std.proofs.Common.{None, false}
use Rattle.be_order.proofs.Anys.{any_walked}
use Rattle.be_order.proofs.firsts.walk_any.Goals as goal

pub returns-clause-any : goal.returns-clause-any
returns-clause-any g c = λ walks f on decides.
    let s = g.volume in
    let by = c.args.keys.name.now in
    let low = c.args.keys.low.now in
    let high = option_copied c.args.keys.high in
    let found = c.first_nodes.new.found in
    let walked : HasWalked (IsEntry s by low high) false None c.args.most c.clear.new.self.items found.items = c.in_ok-walked.ensures.walked walks s c.requires.1.0 in
    any_walked s (g.met.S.Source.sound c.args.source.now s c.requires.1.0) f by c.args.kind c.requires.1.1 on low high decides c.args.most walked.entries walked.first
    found.items (walked.added ∙ ap (λ l. l ++ nodes_of walked.entries) c.clear.ensures.items)
