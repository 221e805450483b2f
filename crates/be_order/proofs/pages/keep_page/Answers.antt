use Rattle.std.proofs.Common.{◌≡◌, ◌∙◌, ap, sym, arith, length, nat_lt}
use Rattle.std.specs.List.{flat_map}
use Rattle.be_order.specs.Ordered.{after, bytes_of, cursor_at, cursor_bytes, keyed, keys_of}
use Rattle.be_order.proofs.PageKeys.{kept_long, page_made}
use Rattle.be_order.proofs.pages.keep_page.Goals as goal

pub put_nodes-requires : goal.put_nodes-requires
put_nodes-requires g c =
    let s = g.volume in
    let d = c.args.order.descending in
    let cursor = cursor_bytes c.args.cursor.now in
    let by = c.args.index.name.now in
    let keys = c.in_ok-keys.ensures.keys ∙ ap (λ l. keys_of (after d cursor (flat_map (keyed s by) l))) c.deref.ensures.value in
    kept_long s (g.met.S.Source.sound c.args.source.now s c.requires.1.0) by c.args.index.kind c.requires.1.1 d cursor c.args.found.now.items c.in_ok-keys.keys.items c.put_keys_in_order.new.keys.items
    keys c.put_keys_in_order.ensures.keeps c.put_keys_in_order.ensures.only c.args.order.most c.deref-2.result.now (c.deref-2.ensures.value ∙ c.truncate.ensures.items)

pub returns-clause-page : goal.returns-clause-page
returns-clause-page g c =
    let s = g.volume in
    let d = c.args.order.descending in
    let cursor = cursor_bytes c.args.cursor.now in
    let by = c.args.index.name.now in
    let keys = c.in_ok-keys.ensures.keys ∙ ap (λ l. keys_of (after d cursor (flat_map (keyed s by) l))) c.deref.ensures.value in
    let last = c.put_keys_in_order.new.keys in
    let count : c.len.result ≡ length last.items = omega (arith, c.len.ensures, last.ok.0) in
    page_made s (g.met.S.Source.sound c.args.source.now s c.requires.1.0) by c.args.index.kind c.requires.1.1 d cursor c.args.found.now.items c.in_ok-keys.keys.items last.items
    keys c.put_keys_in_order.ensures.keeps c.put_keys_in_order.ensures.only c.args.order.most c.deref-2.result.now (c.deref-2.ensures.value ∙ c.truncate.ensures.items)
    c.put_nodes.new.found.items (cursor_bytes c.move_cursor.new.cursor) (nat_lt c.args.order.most c.len.result) c.put_keys_in_order.ensures.rising
    c.in_ok-put_nodes.ensures
    (c.move_cursor.ensures ∙ ap (λ l. cursor_at cursor (bytes_of l)) (sym c.deref-2.ensures.value))
    (ap (nat_lt c.args.order.most) count)
