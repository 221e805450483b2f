use Rattle.std.proofs.Common.{ℕ, subst}
use Rattle.std.specs.Option.{IfSome}
use Rattle.std.specs.declared.option.Option.{Option}
use Rattle.be_paged_reading.specs.Place.{IsFoundAt}
use Rattle.be_paged_reading.proofs.CatalogPairs.Places.{place_found}
use Rattle.be_paged_reading.proofs.reading.place_of.Goals as goal

pub returns-in-Some-clause-found : goal.returns-in-Some-clause-found
returns-in-Some-clause-found g c =
    subst (λ (known : Option (Option (ℕ × ℕ))). IfSome known (IsFoundAt (g.L.Look.page_state c.args.look.now) (g.L.Look.words c.args.look.now) c.args.catalog c.args.key.now)) c.in-Some.is c.requires.known

pub returns-in-None-clause-found : goal.returns-in-None-clause-found
returns-in-None-clause-found g c =
    place_found (g.L.Look.page_state c.args.look.now) (g.L.Look.page_state c.find_place.new.look) (g.L.Look.words c.args.look.now) (g.L.Look.words c.find_place.new.look) c.args.catalog c.args.key.now c.find_place.result
    c.find_place.ensures.unchanged.page_state c.find_place.ensures.unchanged.words c.find_place.ensures.none c.find_place.ensures.some c.find_place.ensures.readable c.find_place.ensures.in_page c.find_place.ensures.fits
