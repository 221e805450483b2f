use Rattle.std.proofs.Common.{ℕ, ap, sym, subst, ◌∙◌, rules, []}
use Rattle.be_tree_reading.proofs.Frame.{unchanged_trans}
use Rattle.be_volume.specs.Volume.{steps}
use Rattle.be_volume.proofs.StepLemmas.{is_accepted}
use Rattle.be_paged.specs.Changes.{Changes}
use Rattle.be_paged_reading.specs.Page.{Contents, contents}
use Rattle.be_paged_reading.specs.Version.{Encodes}
use Rattle.be_paged.proofs.Applying.Applied.{page_stays, applied}
use Rattle.be_paged.proofs.Applying.Composing.{changes_since, start_after}
use Rattle.be_paged.proofs.Sizes.Stopping.{few_at_end, few_at_stop, few_unchanged}
use Rattle.be_tree.specs.Counting.{HasInHand}
use Rattle.be_pages.specs.declared.room.PageState.{PageState}
use Rattle.be_paged.specs.Stops.{TakesFew}
use Rattle.be_tree.proofs.Shape.Parts.{on_err}
use Rattle.be_paged.proofs.writes.apply_into.Goals as goal

pub edit_all-requires-clause-asked : goal.edit_all-requires-clause-asked
edit_all-requires-clause-asked g c = c.refusal.ensures.asked

pub replace_version-requires-clause-in_use : goal.replace_version-requires-clause-in_use
replace_version-requires-clause-in_use g c =
    let before = contents c.fill_version.new.version in
    let after = contents c.edit_all.new.version in
    let same = unchanged_trans g.R.Look.kept g.R.Look.page_state g.R.Look.words c.args.room.now c.fill_version.new.look c.refusal.new.look c.fill_version.ensures.unchanged c.refusal.ensures.unchanged in
    let change = changes_since g.R.Look.kept g.R.Look.page_state g.R.Look.words before after c.args.room.now c.refusal.new.look c.edit_all.new.room same c.in_ok-edit_all.ensures.changes in
    page_stays g.R.Look.kept g.R.Look.page_state g.R.Look.words c.args.room.now c.edit_all.new.room c.args.version_page after g.volume c.requires.1.0
    (subst (λ (d : Contents). Changes {K = g.R.Look.Kept} g.R.Look.kept g.R.Look.page_state g.R.Look.words d after c.args.room.now c.edit_all.new.room) c.fill_version.ensures.contents change)

pub returns-clause-ok : goal.returns-clause-ok
returns-clause-ok g c =
    let before = contents c.fill_version.new.version in
    let after = contents c.edit_all.new.version in
    let version = c.requires.1.0 in
    let same = unchanged_trans g.R.Look.kept g.R.Look.page_state g.R.Look.words c.args.room.now c.fill_version.new.look c.refusal.new.look c.fill_version.ensures.unchanged c.refusal.ensures.unchanged in
    let change = changes_since g.R.Look.kept g.R.Look.page_state g.R.Look.words before after c.args.room.now c.refusal.new.look c.edit_all.new.room same c.in_ok-edit_all.ensures.changes in
    let ok = is_accepted (steps g.volume c.args.ops.now) (sym c.refusal.ensures.answer ∙ c.in_default.is) in
    let read = subst (λ (w : ℕ → ℕ → ℕ). Encodes w before g.volume) (sym same.words) (subst (λ (d : Contents). Encodes (g.R.Look.words c.args.room.now) d g.volume) (sym c.fill_version.ensures.contents) version.encodes) in
    let reached = c.in_ok-edit_all.ensures.steps g.volume read version.sound ok in
    applied g.R.Look.kept g.R.Look.page_state g.R.Look.words c.args.room.now c.edit_all.new.room c.args.version_page after g.volume version
    (subst (λ (d : Contents). Changes {K = g.R.Look.Kept} g.R.Look.kept g.R.Look.page_state g.R.Look.words d after c.args.room.now c.edit_all.new.room) c.fill_version.ensures.contents change)
    c.in_ok-page.page c.replace_version.new.room reached.made c.args.ops.now c.edit_all.new.dones.items reached.stepped reached.encodes reached.sound
    c.in_ok-page.ensures.swaps c.in_ok-page.ensures.contents c.in_ok-page.ensures.page c.in_ok-page.ensures.taken
    (λ lies. c.in_ok-edit_all.ensures.stays g.volume read version.sound lies ∙ ap (λ (d : Contents). d.entries) c.fill_version.ensures.contents)

pub returns-in_err-page-clause-err : goal.returns-in_err-page-clause-err
returns-in_err-page-clause-err g c =
    let before = contents c.fill_version.new.version in
    let after = contents c.edit_all.new.version in
    let same = unchanged_trans g.R.Look.kept g.R.Look.page_state g.R.Look.words c.args.room.now c.fill_version.new.look c.refusal.new.look c.fill_version.ensures.unchanged c.refusal.ensures.unchanged in
    let change = changes_since g.R.Look.kept g.R.Look.page_state g.R.Look.words before after c.args.room.now c.refusal.new.look c.edit_all.new.room same c.in_ok-edit_all.ensures.changes in
    let a = is_accepted (steps g.volume c.args.ops.now) (sym c.refusal.ensures.answer ∙ c.in_default.is) in
    let k = start_after g.R.Look.kept g.R.Look.page_state g.R.Look.words before after c.args.room.now c.edit_all.new.room c.replace_version.new.room change c.in_err-page.ensures.refused.0 in
    search (rules, k, a)

pub returns-in-Some-clause-few : goal.returns-in-Some-clause-few
returns-in-Some-clause-few g c =
    let same = unchanged_trans g.R.Look.kept g.R.Look.page_state g.R.Look.words c.args.room.now c.fill_version.new.look c.refusal.new.look c.fill_version.ensures.unchanged c.refusal.ensures.unchanged in
    few_unchanged g.volume c.args.ops.now (g.R.Look.page_state c.args.room.now) (g.R.Look.page_state c.refusal.new.look) same.page_state

pub returns-in_err-edit_all-clause-few : goal.returns-in_err-edit_all-clause-few
returns-in_err-edit_all-clause-few g c =
    let before = contents c.fill_version.new.version in
    let version = c.requires.1.0 in
    let same = unchanged_trans g.R.Look.kept g.R.Look.page_state g.R.Look.words c.args.room.now c.fill_version.new.look c.refusal.new.look c.fill_version.ensures.unchanged c.refusal.ensures.unchanged in
    let ok = is_accepted (steps g.volume c.args.ops.now) (sym c.refusal.ensures.answer ∙ c.in_default.is) in
    let read = subst (λ (w : ℕ → ℕ → ℕ). Encodes w before g.volume) (sym same.words) (subst (λ (d : Contents). Encodes (g.R.Look.words c.args.room.now) d g.volume) (sym c.fill_version.ensures.contents) version.encodes) in
    let k : TakesFew g.volume c.args.ops.now (g.R.Look.page_state c.args.room.now) (g.R.Look.page_state c.edit_all.new.room) =
    λ most indices high stays lt none.
    few_at_stop g.R.Look.kept g.R.Look.page_state g.R.Look.words most indices high before c.refusal.new.look c.edit_all.new.room (c.in_err-edit_all.ensures.refused.2 g.volume most indices read version.sound ok stays) lt
    (subst (λ (s : ℕ → PageState). HasInHand s []) (sym same.page_state) none)
    in
    on_err _ k

pub returns-in_err-page-clause-few : goal.returns-in_err-page-clause-few
returns-in_err-page-clause-few g c =
    let before = contents c.fill_version.new.version in
    let after = contents c.edit_all.new.version in
    let version = c.requires.1.0 in
    let same = unchanged_trans g.R.Look.kept g.R.Look.page_state g.R.Look.words c.args.room.now c.fill_version.new.look c.refusal.new.look c.fill_version.ensures.unchanged c.refusal.ensures.unchanged in
    let change = changes_since g.R.Look.kept g.R.Look.page_state g.R.Look.words before after c.args.room.now c.refusal.new.look c.edit_all.new.room same c.in_ok-edit_all.ensures.changes in
    let ok = is_accepted (steps g.volume c.args.ops.now) (sym c.refusal.ensures.answer ∙ c.in_default.is) in
    let read = subst (λ (w : ℕ → ℕ → ℕ). Encodes w before g.volume) (sym same.words) (subst (λ (d : Contents). Encodes (g.R.Look.words c.args.room.now) d g.volume) (sym c.fill_version.ensures.contents) version.encodes) in
    let reached = c.in_ok-edit_all.ensures.steps g.volume read version.sound ok in
    on_err _ (few_at_end g.R.Look.kept g.R.Look.page_state g.R.Look.words g.volume reached.made c.args.ops.now c.edit_all.new.dones.items before after c.args.room.now c.edit_all.new.room c.replace_version.new.room change reached.encodes reached.stepped c.in_err-page.ensures.refused.2)
