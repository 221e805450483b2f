use Rattle.std.specs.Option.{option_copied}
use Rattle.be_order.specs.Ordered.{cursor_bytes}
use Rattle.be_paged_order.proofs.WalkedKeys.{numbers_walked}
use Rattle.be_paged_order.proofs.pages.OrderedPagesOrderedSource.first_nodes.Goals as goal

pub returns-clause-walked : goal.returns-clause-walked
returns-clause-walked g c = λ walks volume of.
    let reader = c.args.self.now.reader in
    let keys = c.args.keys in
    numbers_walked (g.L.Look.page_state reader.look) (g.L.Look.words reader.look) reader.page volume of.version keys.keys.name.now keys.keys.low.now (option_copied keys.keys.high) keys.descending
    (cursor_bytes keys.cursor.now) c.way_of.result c.way_of.ensures c.args.most c.args.found.now.items c.numbers_in_order.new.found.items c.in_ok-numbers_in_order.ensures.added
