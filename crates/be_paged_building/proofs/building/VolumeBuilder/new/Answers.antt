use Rattle.std.proofs.Common.{[], sym, subst, refl, arith}
use Rattle.std.specs.FinMap as fin
use Rattle.be_pages.specs.declared.room.PageState.TheVariants.{Taken}
use Rattle.be_paged_building.specs.Building.{AreUpTo}
use Rattle.be_paged_building.proofs.Beginning.{begun_catalog, begun_indices, begun_names, no_attributes, nothing_count}
use Rattle.be_paged_building.proofs.Room.{as_given}
use Rattle.be_paged_reading.specs.Catalog.{IsCatalog, catalog_key}
use Rattle.be_tree.proofs.Nodes.PageStates.{changed_state}
use Rattle.be_volume.specs.Volume.{empty}
use Rattle.be_volume.proofs.Soundness.{empty_sound}
use Rattle.be_paged_building.proofs.building.VolumeBuilder.new.Goals as goal

pub returns-clause-ok : goal.returns-clause-ok
returns-clause-ok g c =
    let s = g.R.Look.page_state c.take.new.self in
    let w = g.R.Look.words c.take.new.self in
    as_given s w _ empty c.blank.ensures (record {
      catalog = c.new.ensures.builds s w;
      pairs = subst (λ xs. IsCatalog xs fin.empty) (sym (c.new.ensures.empty w)) begun_catalog;
      highest = subst (AreUpTo (catalog_key 0 [])) (sym (c.new.ensures.empty w)) (λ k lt. tt);
      fits = omega arith;
      next = refl;
      node = (λ e. refl, λ some. absurd (omega (arith, some)));
      count = nothing_count;
      name = no_attributes;
      indices = begun_indices c.new-2.result.items c.new-3.result.items c.new-2.ensures c.new-3.ensures.items;
      named = begun_names c.new-2.result.items c.new-2.ensures;
      sound = empty_sound;
      page = changed_state (g.R.Look.page_state c.args.room.now) s c.in_ok-page.page Taken c.in_ok-page.ensures.ok;
    })
