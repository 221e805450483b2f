use Rattle.std.proofs.Common.{ℕ, sym, subst, refl, arith, IsTrue}
use Rattle.be_pages.specs.PagePool.{places}
use Rattle.be_pages.specs.Pages.{is_kept}
use Rattle.be_pages.specs.VecRoom.{page_state_in, pool_word}
use Rattle.be_pages.specs.declared.room.PageState.{PageState}
use Rattle.be_volume.specs.Volume.{empty}
use Rattle.be_paged_reading.specs.Version.{IsVersion}
use Rattle.be_paged.proofs.StayingVersion.{version_kept}
use Rattle.be_paged_test_tools.proofs.writing.room_of.Goals as goal

pub returns-clause-version : goal.returns-clause-version
returns-clause-version c =
    let s = λ (q : ℕ). page_state_in (places c.loop-i.room.pool) q in
    let kept = λ (q : ℕ). page_state_in (places c.keep.new.self.pool) q in
    let w = λ (q i : ℕ). pool_word c.loop-i.room.words.items q i in
    let page = c.in_ok-page.page in
    let used = subst (λ (x : PageState). IsTrue (is_kept x)) (sym c.loop-i.invariant.filled) refl in
    let first = c.first_page-words.ensures s w page used (λ i lt. c.loop-i.invariant.written i (omega (arith, lt, c.loop-i-test.false))) in
    subst (λ (x : ℕ → ℕ → ℕ). IsVersion kept x page empty) (sym c.keep.ensures.words) (version_kept s kept w c.keep.ensures.page_state page empty first)
