use Rattle.std.proofs.Common.{◌≡◌, ◌⊎◌, ◌∙◌, None, Some, subst, sym, inl, inr, rules}
use Rattle.be_paged_building.specs.Building.{IsNoRoom, IsTooLarge, pages_held}
use Rattle.be_paged_building.specs.Errors.{FinishError}
use Rattle.be_paged_building.specs.Given.{with_next}
use Rattle.be_paged_reading.specs.Page.{reach}
use Rattle.be_paged_reading.specs.Version.{IsVersion}
use Rattle.be_store_building.specs.Building.{Building, IsSpent}
use Rattle.be_store_building.specs.FirstPages.{NoneFree, state_in}
use Rattle.be_store_building.proofs.Calls.{passed, spends}
use Rattle.be_store_building.proofs.Encoding.{encodes}
use Rattle.be_table.specs.Reading.{word_of_page}
use Rattle.be_table.specs.Setting.{pages_below}
use Rattle.be_table.specs.Versions.{EncodesVolume}
use Rattle.be_tree.specs.Counting.{HasInHand}
use Rattle.be_store_building.proofs.builder.StoreBuilder.finish.Goals as goal

pub returns-in_err-page-clause-err : goal.returns-in_err-page-clause-err
returns-in_err-page-clause-err c =
    let b = c.self.inside in
    let none : b.failed ≡ None = search rules in
    let whole = c.self.invariant.whole none in
    let e = c.in_err-page.field-0.0 in
    let left = c.finish.new.room in
    let volume = b.volume.volume.value in
    let more = with_next volume c.args.next in
    let held = pages_held (word_of_page b.pages.words.items) b.volume in
    let why : FinishError volume c.args.next e ⊎ IsSpent b.limits.pages more e = elim c.in_err-page.ensures.refused [
      | inl declines ↦ inl declines.0
      | inr room ↦ inr (spends left b.limits.pages more held (state_in b.pages.states.items) (c.finish.ensures.kept ∙ c.self.invariant.pages) whole.hand e room)
    ] in
    passed c.from_residual.result e _ (search rules)
    (subst (λ (old : Building). (old.failed ≡ Some e) ⊎ ((old.failed ≡ None) × (FinishError old.volume c.args.next e ⊎ IsSpent old.limits.pages (with_next old.volume c.args.next) e))) c.self.view_is (inr (none, why)))

pub open_with-requires-clause-encoded : goal.open_with-requires-clause-encoded
open_with-requires-clause-encoded c =
    let b = c.self.inside in
    let none : b.failed ≡ None = search rules in
    let whole = c.self.invariant.whole none in
    let left = c.finish.new.room in
    let volume = c.in_ok-page.volume.value in
    let words = word_of_page left.words.items in
    let first : c.in_ok-page.page ≡ 0 = c.if-page-ne0.false in
    let version : IsVersion (state_in left.states.items) words 0 volume = subst (λ p. IsVersion (state_in left.states.items) words p volume) first c.in_ok-page.ensures.ok in
    let hand : HasInHand (state_in left.states.items) (reach words 0) = subst (λ p. HasInHand (state_in left.states.items) (reach words p)) first (c.in_ok-page.ensures.hand whole.hand) in
    subst (λ ws. EncodesVolume (pages_below c.in-Some-used.used) (word_of_page ws) 0 volume) (sym c.words.ensures.words)
    (encodes left.states.items c.in-Some-used.used c.in-Some-used.ensures.taken c.in-Some-used.ensures.free words volume version hand)
