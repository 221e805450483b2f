use Rattle.std.proofs.Common.{ap, arith, nat_le}
use Rattle.std.proofs.lemmas.Bool.{leb-false}
use Rattle.std.specs.Option.{option_copied}
use Rattle.be_order.specs.Ordered.{cursor_bytes}
use Rattle.be_order.proofs.IndexParts.{is_part, walked_held}
use Rattle.be_order.proofs.asked.next_part.Goals as goal

pub returns-clause-part : goal.returns-clause-part
returns-clause-part g c =
    let s = g.volume in
    let count = c.args.count in
    let found = c.first_nodes.new.found in
    is_part s (g.met.S.Source.sound c.args.source.now s c.requires.1.0) c.args.walk.keys.name.now c.args.walk.kind c.requires.1.1 c.args.walk.descending c.args.walk.keys.low.now (option_copied c.args.walk.keys.high) (cursor_bytes c.args.cursor.now) (cursor_bytes c.keep_first.new.cursor)
    count c.clear.new.self.items found.items c.keep_first.new.found.items (c.in_ok-first_nodes.ensures.walked c.if-not-branch.false s c.requires.1.0) c.clear.ensures.items
    c.keep_first.ensures.kept (λ e. ap cursor_bytes (c.keep_first.ensures.empty e)) (λ n front e. c.keep_first.ensures.last n front e) (nat_le count c.len.result)
    (λ e. let less = leb-false count c.len.result e in omega (arith, c.len.ensures, found.ok.0, less))

pub keep_first-requires : goal.keep_first-requires
keep_first-requires g c κs within =
    let s = g.volume in
    let walk = c.args.walk in (
      within,
      (
        c.first_nodes.ensures.answers s c.requires.1.0,
        walked_held s walk.keys.name.now walk.keys.low.now (option_copied walk.keys.high) walk.descending (cursor_bytes c.args.cursor.now) c.args.count c.clear.new.self.items c.first_nodes.new.found.items
            (c.in_ok-first_nodes.ensures.walked c.if-not-branch.false s c.requires.1.0) c.clear.ensures.items,
      ),
    )
