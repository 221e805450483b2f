use Rattle.std.proofs.Common.{◌≡◌, [], ◌∷◌, ◌<◌, List, IsTrue, length, ap, sym, subst, ◌∙◌, refl, rules, arith}
use Rattle.std.specs.Vec.Iter.{into_iter_items}
use Rattle.be_paged_building.specs.Building.{IsTooLarge, pages_held}
use Rattle.be_paged_building.specs.Given.{with_next}
use Rattle.be_paged_building.specs.Keys.{IsShortFor}
use Rattle.be_paged_building.proofs.Finishing.{IsFinishing, at_few, at_within, begins, list_short, no_catalog, no_index, proceeds}
use Rattle.be_paged_building.proofs.Room.{no_room}
use Rattle.be_paged_building.proofs.Storing.{stored, stored_hand}
use Rattle.be_pages.specs.Pages.{is_taken}
use Rattle.be_paged_reading.specs.Entry.{Entry}
use Rattle.be_paged_reading.specs.Version.{IsVersion}
use Rattle.be_tree.specs.Building.{IsShort, pages_taken, pairs_given}
use Rattle.be_value.specs.declared.values.Kind.TheVariants.{Cstr}
use Rattle.be_paged_building.proofs.building.VolumeBuilder.finish.Goals as goal

nothing_left : {X : Type 0} (l : List X) → length l ≡ 0 → l ≡ []
nothing_left [] h = refl
nothing_left (x ∷ xs) h = absurd (omega arith)

pub returns-in_err-root-clause-refused : goal.returns-in_err-root-clause-refused
returns-in_err-root-clause-refused g c =
    let b = c.args.self in
    let s = g.R.Look.page_state c.args.room.now in
    let w = g.R.Look.words c.args.room.now in
    let t = g.R.Look.page_state c.finish.new.room in
    no_room b b _ c.from_residual.result (g.R.Room.full c.finish.new.room) (IsShort (length (pages_taken w b.catalog)) (length (pairs_given w b.catalog)) s t)
    (IsTooLarge (with_next b.volume.value c.args.next) (pages_held w b) s t) c.args.room.now c.finish.new.room
    (no_catalog g.R.Look.kept g.R.Look.page_state g.R.Look.words b b.volume.value c.args.next c.args.room.now c.finish.new.room c.requires.builds) (search rules)

pub loop-list-init : goal.loop-list-init
loop-list-init g c =
    let b = c.args.self in
    record {
      finishes = subst (λ ks. IsFinishing g.R.Look.kept g.R.Look.page_state g.R.Look.words b b.volume.value c.in_ok-root.root b.entries.items 0 ks c.args.room.now c.finish.new.room) (sym c.into_iter-list-iterator.ensures.into_iter_gives.0)
          (begins g.R.Look.kept g.R.Look.page_state g.R.Look.words b b.volume.value c.in_ok-root.root c.args.room.now c.finish.new.room c.requires.builds c.in_ok-root.ensures.ok c.in_ok-root.ensures.fewest);
      len = search rules;
    }

pub build-requires-clause-fit : goal.build-requires-clause-fit
build-requires-clause-fit g c =
    let b = c.args.self in
    let at = c.loop-list in
    let left = into_iter_items c.next.new.self in
    let f = subst (λ ks. IsFinishing g.R.Look.kept g.R.Look.page_state g.R.Look.words b b.volume.value c.in_ok-root.root at.entries.items at.at ks c.args.room.now at.room) c.in-Some.ensures.steps.0 at.invariant.finishes in
    list_short g.R.Look.kept g.R.Look.page_state g.R.Look.words b b.volume.value c.in_ok-root.root at.entries.items at.at c.in-Some.list left c.args.room.now at.room at.room f

pub set_root-requires : goal.set_root-requires
set_root-requires g c =
    let b = c.args.self in
    let at = c.loop-list in
    let left = into_iter_items c.next.new.self in
    let f = subst (λ ks. IsFinishing g.R.Look.kept g.R.Look.page_state g.R.Look.words b b.volume.value c.in_ok-root.root at.entries.items at.at ks c.args.room.now at.room) c.in-Some.ensures.steps.0 at.invariant.finishes in
    at_within g.R.Look.kept g.R.Look.page_state g.R.Look.words b b.volume.value c.in_ok-root.root at.entries.items at.at c.in-Some.list left c.args.room.now at.room at.room f

pub overflow_add-at : goal.overflow_add-at
overflow_add-at g c =
    let b = c.args.self in
    let at = c.loop-list in
    let left = into_iter_items c.next.new.self in
    let f = subst (λ ks. IsFinishing g.R.Look.kept g.R.Look.page_state g.R.Look.words b b.volume.value c.in_ok-root.root at.entries.items at.at ks c.args.room.now at.room) c.in-Some.ensures.steps.0 at.invariant.finishes in
    let few : at.at < 32 = at_few g.R.Look.kept g.R.Look.page_state g.R.Look.words b b.volume.value c.in_ok-root.root at.entries.items at.at c.in-Some.list left c.args.room.now at.room at.room f c.requires.builds.sound in
    omega (arith, few)

pub loop-list-preserved : goal.loop-list-preserved
loop-list-preserved g c =
    let b = c.args.self in
    let at = c.loop-list in
    let left = into_iter_items c.next.new.self in
    let d : Entry = record { name = []; kind = Cstr; root = 0 } in
    let f = subst (λ ks. IsFinishing g.R.Look.kept g.R.Look.page_state g.R.Look.words b b.volume.value c.in_ok-root.root at.entries.items at.at ks c.args.room.now at.room) c.in-Some.ensures.steps.0 at.invariant.finishes in
    record {
      finishes = proceeds g.R.Look.kept g.R.Look.page_state g.R.Look.words b b.volume.value c.in_ok-root.root at.entries.items at.at c.in-Some.list left c.args.room.now at.room c.build.new.room f
          c.in_ok-tree.tree c.in_ok-tree.ensures.ok c.in_ok-tree.ensures.fewest c.set_root.new.entries.items d (c.set_root.ensures d);
      len = omega (arith, at.invariant.len, ap length c.in-Some.ensures.steps.0, c.in-Some.ensures.steps.1);
    }

pub returns-in_err-tree-clause-refused : goal.returns-in_err-tree-clause-refused
returns-in_err-tree-clause-refused g c =
    let b = c.args.self in
    let at = c.loop-list in
    let left = into_iter_items c.next.new.self in
    let s = g.R.Look.page_state c.args.room.now in
    let t = g.R.Look.page_state c.build.new.room in
    let f = subst (λ ks. IsFinishing g.R.Look.kept g.R.Look.page_state g.R.Look.words b b.volume.value c.in_ok-root.root at.entries.items at.at ks c.args.room.now at.room) c.in-Some.ensures.steps.0 at.invariant.finishes in
    no_room b b _ c.from_residual-in_err-tree.result (g.R.Room.full c.build.new.room) (IsShortFor c.in-Some.list (g.R.Look.page_state at.room) t)
    (IsTooLarge (with_next b.volume.value c.args.next) (pages_held (g.R.Look.words c.args.room.now) b) s t) c.args.room.now c.build.new.room
    (no_index g.R.Look.kept g.R.Look.page_state g.R.Look.words b b.volume.value c.in_ok-root.root at.entries.items at.at c.in-Some.list left c.args.room.now at.room c.build.new.room f c.args.next) (search rules)

pub store_version-requires-clause-taken : goal.store_version-requires-clause-taken
store_version-requires-clause-taken g c = subst (λ x. IsTrue (is_taken x)) (sym c.loop-list.invariant.finishes.page) refl

pub store_version-requires-clause-named : goal.store_version-requires-clause-named
store_version-requires-clause-named g c = c.loop-list.invariant.finishes.named

pub returns-clause-ok : goal.returns-clause-ok
returns-clause-ok g c =
    let b = c.args.self in
    let at = c.loop-list in
    let empty : into_iter_items at.list-iterator ≡ [] = nothing_left _ (sym at.invariant.len ∙ c.in-None.ensures.steps.0) in
    let f = subst (λ ks. IsFinishing g.R.Look.kept g.R.Look.page_state g.R.Look.words b b.volume.value c.in_ok-root.root at.entries.items at.at ks c.args.room.now at.room) empty at.invariant.finishes in
    subst (IsVersion (g.R.Look.page_state c.store_version.new.room) (g.R.Look.words c.store_version.new.room) b.page) (sym c.set_next.ensures)
    (stored g.R.Look.kept g.R.Look.page_state g.R.Look.words b b.volume.value c.in_ok-root.root at.entries.items at.at c.args.room.now at.room c.store_version.new.room f c.args.next c.requires.builds.sound
    c.store_version.ensures.contents c.store_version.ensures.page_state c.store_version.ensures.others (omega (arith, c.requires.builds.next)) (omega arith) c.store_version.ensures.page)

pub returns-clause-hand : goal.returns-clause-hand
returns-clause-hand g c =
    let b = c.args.self in
    let at = c.loop-list in
    let empty : into_iter_items at.list-iterator ≡ [] = nothing_left _ (sym at.invariant.len ∙ c.in-None.ensures.steps.0) in
    let f = subst (λ ks. IsFinishing g.R.Look.kept g.R.Look.page_state g.R.Look.words b b.volume.value c.in_ok-root.root at.entries.items at.at ks c.args.room.now at.room) empty at.invariant.finishes in
    stored_hand g.R.Look.kept g.R.Look.page_state g.R.Look.words b b.volume.value c.in_ok-root.root at.entries.items at.at c.args.room.now at.room c.store_version.new.room f c.args.next c.requires.builds.sound
    c.store_version.ensures.contents c.store_version.ensures.page_state c.store_version.ensures.others
