use Rattle.std.proofs.Common.{◌≡◌, ◌-◌, ◌<◌, ◌≤◌, ◌∙◌, length, arith}
use Rattle.std.proofs.lemmas.List.{get_or_default}
use Rattle.std.proofs.lemmas.List.Sums.{count_by-le-length}
use Rattle.be_pages.specs.PageSet.{is_place, page_at, place_in}
use Rattle.be_pages.proofs.PageSets.{has_if, placed_if, flagged_below, last_place, listed_without, has_without, counted_without}
use Rattle.be_pages.proofs.page_set.PageSet.remove.Goals as goal

pub index_mut-requires-2 : goal.index_mut-requires-2
index_mut-requires-2 c =
    let s = c.args.self.now in
    let k = c.index-place.result.now in
    let l = c.index-last.result.now in
    let place : k ≡ place_in s.places.items c.args.page = c.index-place.ensures ∙ get_or_default s.places.items c.args.page _ 0 (flagged_below s.places.items c.args.page c.requires) in
    let has : 0 < k = omega (arith, place, placed_if s.places.items c.args.page c.requires) in
    let some : 0 < s.len = omega (arith, has, place, s.listed.inside c.args.page (omega (arith, place, has))) in
    let le : s.len ≤ length s.list.items = omega (arith, s.counted, s.same, s.places.ok.0, s.list.ok.0, count_by-le-length is_place s.places.items) in
    let last : l ≡ page_at s.list.items (s.len - 1) = c.index-last.ensures ∙ get_or_default s.list.items (s.len - 1) _ 0 (omega (arith, some, le)) in
    omega (
      arith,
      some,
      last_place s.list.items s.places.items s.len c.args.page k l place has last le s.listed,
      s.places.ok.0,
      flagged_below s.places.items l (has_if s.places.items l (omega (arith, some, last_place s.list.items s.places.items s.len c.args.page k l place has last le s.listed))),
    )

pub invariant_of-self : goal.invariant_of-self
invariant_of-self c =
    let s = c.args.self.now in
    let k = c.index-place.result.now in
    let l = c.index-last.result.now in
    let place : k ≡ place_in s.places.items c.args.page = c.index-place.ensures ∙ get_or_default s.places.items c.args.page _ 0 (flagged_below s.places.items c.args.page c.requires) in
    let has : 0 < k = omega (arith, place, placed_if s.places.items c.args.page c.requires) in
    let some : 0 < s.len = omega (arith, has, place, s.listed.inside c.args.page (omega (arith, place, has))) in
    let le : s.len ≤ length s.list.items = omega (arith, s.counted, s.same, s.places.ok.0, s.list.ok.0, count_by-le-length is_place s.places.items) in
    let last : l ≡ page_at s.list.items (s.len - 1) = c.index-last.ensures ∙ get_or_default s.list.items (s.len - 1) _ 0 (omega (arith, some, le)) in
    record {
      same = s.same;
      counted = omega (arith, counted_without s.list.items s.places.items s.len c.args.page k l place has last le s.listed, s.counted);
      listed = listed_without s.list.items s.places.items s.len c.args.page k l place has last le s.listed;
    }

pub returns-clause-has : goal.returns-clause-has
returns-clause-has c =
    let s = c.args.self.now in
    let k = c.index-place.result.now in
    let l = c.index-last.result.now in
    let place : k ≡ place_in s.places.items c.args.page = c.index-place.ensures ∙ get_or_default s.places.items c.args.page _ 0 (flagged_below s.places.items c.args.page c.requires) in
    let has : 0 < k = omega (arith, place, placed_if s.places.items c.args.page c.requires) in
    let some : 0 < s.len = omega (arith, has, place, s.listed.inside c.args.page (omega (arith, place, has))) in
    let le : s.len ≤ length s.list.items = omega (arith, s.counted, s.same, s.places.ok.0, s.list.ok.0, count_by-le-length is_place s.places.items) in
    let last : l ≡ page_at s.list.items (s.len - 1) = c.index-last.ensures ∙ get_or_default s.list.items (s.len - 1) _ 0 (omega (arith, some, le)) in
    has_without s.list.items s.places.items s.len c.args.page k l place has last le s.listed
