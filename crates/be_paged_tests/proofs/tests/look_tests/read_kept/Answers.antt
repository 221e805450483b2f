use Rattle.std.proofs.Common.{ℕ, sym, subst}
use Rattle.be_pages.specs.PagePool.{places}
use Rattle.be_pages.specs.VecRoom.{page_state_in, pool_word}
use Rattle.be_paged_reading.specs.Version.{IsVersion}
use Rattle.be_paged.proofs.StayingVersion.{version_kept}
use Rattle.be_paged_tests.proofs.tests.look_tests.read_kept.Goals as goal

pub expect_look-requires : goal.expect_look-requires
expect_look-requires c =
    let s = λ (q : ℕ). page_state_in (places c.args.room.pool) q in
    let w = λ (q i : ℕ). pool_word c.args.room.words.items q i in
    let kept = λ (q : ℕ). page_state_in (places c.keep.new.self.pool) q in
    record { version = subst (λ (x : ℕ → ℕ → ℕ). IsVersion kept x c.args.page c.args.copy.now) (sym c.keep.ensures.words) (version_kept s kept w c.keep.ensures.page_state c.args.page c.args.copy.now c.requires.version) }
