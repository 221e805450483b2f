use Rattle.std.proofs.Common.{◌≡◌, arith}
use Rattle.std.proofs.lemmas.List.{get_or_default}
use Rattle.be_pages.specs.PageSet.{place_in}
use Rattle.be_pages.proofs.PageSets.{hasnot_if, room_left, counted_in, listed_in}
use Rattle.be_pages.proofs.page_set.PageSet.insert.Goals as goal

pub index_mut-requires : goal.index_mut-requires
index_mut-requires c =
    let s = c.args.self.now in
    let not : place_in s.places.items c.args.page ≡ 0 = omega (arith, get_or_default s.places.items c.args.page 0 c.index.result.now c.requires, c.index.ensures, c.if-index-gt0.false) in
    omega (arith, room_left s.places.items c.args.page c.requires (hasnot_if s.places.items c.args.page not), s.counted, s.same, s.places.ok.0)

pub invariant_of-self : goal.invariant_of-self
invariant_of-self c =
    let s = c.args.self.now in
    let not : place_in s.places.items c.args.page ≡ 0 = omega (arith, get_or_default s.places.items c.args.page 0 c.index.result.now c.requires, c.index.ensures, c.if-index-gt0.false) in
    let out = hasnot_if s.places.items c.args.page not in
    record {
      same = s.same;
      counted = omega (arith, counted_in s.places.items c.args.page s.len c.requires out, s.counted);
      listed = listed_in s.list.items s.places.items s.len c.args.page
          (omega (arith, room_left s.places.items c.args.page c.requires out, s.counted, s.same, s.places.ok.0, s.list.ok.0)) c.requires not s.listed;
    }
