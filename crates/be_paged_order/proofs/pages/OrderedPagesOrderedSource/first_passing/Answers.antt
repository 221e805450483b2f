use Rattle.std.proofs.Common.{◌≡◌, [], true}
use Rattle.std.specs.Option.{option_copied}
use Rattle.std.proofs.lemmas.Result.{IfOk-weaker}
use Rattle.be_order.specs.Ordered.{cursor_bytes}
use Rattle.be_order.specs.Walks.{HasWalked, IsPassing}
use Rattle.be_paged_reading.specs.Page.{contents_of}
use Rattle.be_paged_reading.specs.Source.{HasPassing, SourceOf}
use Rattle.be_volume.specs.Volume.{State}
use Rattle.be_paged_order.proofs.WalkedKeys.{passing_walked}
use Rattle.be_paged_order.proofs.pages.OrderedPagesOrderedSource.first_passing.Goals as goal

pub returns-clause-tested : goal.returns-clause-tested
returns-clause-tested g c =
    let reader = c.args.self.now.reader in
    let page_state = g.L.Look.page_state reader.look in
    let words = g.L.Look.words reader.look in
    let keys = c.args.keys in
    let name = keys.keys.name.now in
    let low = keys.keys.low.now in
    let high = option_copied keys.keys.high in
    let test = c.args.test in
    let cursor = cursor_bytes keys.cursor.now in
    let nodes = c.passing_in_order.new.found.items in
    IfOk-weaker c.passing_in_order.result
    (λ tested. tested ≡ true → HasPassing words (contents_of (words reader.page)).entries name c.way_of.result test c.args.most nodes)
    (λ tested. tested ≡ true → (volume : State) → SourceOf page_state words reader.page reader.known reader.cursor reader.place reader.last.0 reader.last.1 volume
    → HasWalked (IsPassing volume name low high test) keys.descending cursor c.args.most [] nodes)
    (λ tested has e volume of. passing_walked page_state words reader.page volume of.version name low high test keys.descending cursor c.way_of.result c.way_of.ensures c.args.most nodes (has e))
    c.passing_in_order.ensures.passing
