use Rattle.std.proofs.Common.{◌≡◌, ◌<◌, ◌∙◌, ℕ, List, sym, ap, subst, arith, length, map, slice_set}
use Rattle.std.proofs.lemmas.List.{length-map}
use Rattle.be_pages.specs.declared.page_pool.Place.{Place}
use Rattle.be_pages.specs.declared.page_pool.Place.TheVariants.{Free, Reserved}
use Rattle.be_pages.specs.PagePool.{places}
use Rattle.be_pages.specs.Place.{place_of, swept_place}
use Rattle.be_pages.proofs.Marks.{if_none, none_free, seen, seen_set, taken_counted}
use Rattle.be_pages.proofs.page_pool.PagePool.take.Goals as goal

pub invariant_of-self : goal.invariant_of-self
invariant_of-self c =
    let pool = c.supply.new.self in
    record { counted = pool.counted ∙ sym (taken_counted pool.mark pool.lists.places.items c.take.new.self.places.items c.take.result c.take.ensures.free c.take.ensures.some c.take.ensures.same) }

pub returns : goal.returns
unfolding places
returns c =
    let pool = c.supply.new.self in
    let m = pool.mark in
    let P = pool.lists.places.items in
    let p = c.in_ok-page.page in
    let is = c.in_ok-page.ensures.free in
    let same = c.supply.ensures.same in
    record {
      free = (
        omega (arith, is.0, length-map P (swept_place m), ap length same),
        ap (λ (xs : List Place). place_of xs p) (sym same) ∙ seen m P p ∙ ap (swept_place m) is.1,
      );
      some = ap (map (swept_place m)) c.in_ok-page.ensures.some ∙ seen_set m P p Reserved ∙ ap (λ (xs : List Place). slice_set xs p Reserved) same;
      none = tt;
      same = tt;
    }

pub returns-in_err-page-clause-none : goal.returns-in_err-page-clause-none
unfolding places
returns-in_err-page-clause-none c =
    let pool = c.supply.new.self in
    if_none c.from_residual.result (subst (λ (xs : List Place). (q : ℕ) → q < length xs → place_of xs q ≡ Free → ⊥) c.supply.ensures.same
    (none_free pool.mark pool.expired pool.lists.places.items pool.counted c.supply.ensures.left c.in_err-page.ensures.none))

pub returns-in_err-page-clause-same : goal.returns-in_err-page-clause-same
unfolding places
returns-in_err-page-clause-same c =
    if_none c.from_residual.result (ap (map (swept_place c.supply.new.self.mark)) c.in_err-page.ensures.same ∙ c.supply.ensures.same)
