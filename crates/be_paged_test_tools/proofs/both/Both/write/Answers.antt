use Rattle.std.proofs.Common.{ℕ, ap, sym, subst, ◌∙◌}
use Rattle.be_pages.specs.PagePool.{places}
use Rattle.be_pages.specs.VecRoom.{page_state_in, pool_word}
use Rattle.be_tree_reading.specs.Forest.{IsUndone}
use Rattle.be_volume.specs.Volume.{State}
use Rattle.be_paged_reading.specs.Version.{IsVersion}
use Rattle.be_paged.proofs.StayingVersion.{version_stays, version_kept}
use Rattle.be_paged_test_tools.proofs.Since.{one_made, refused_start, kept_start, undone_start}
use Rattle.be_paged_test_tools.proofs.both.Both.write.Goals as goal

pub invariant_of-result : goal.invariant_of-result
invariant_of-result c =
    let s = λ (q : ℕ). page_state_in (places c.apply_pages.new.room.pool) q in
    let w = λ (q i : ℕ). pool_word c.apply_pages.new.room.words.items q i in
    let kept = λ (q : ℕ). page_state_in (places c.keep.new.self.pool) q in
    let page = c.in-Ok.page in
    let applied = c.in-Ok.ensures.ok in
    let made = one_made applied.stepped c.in_ok-accepts-in-Ok.ensures.1 in
    let volume = subst (λ (x : State). IsVersion s w page x) made applied.version in (
      subst (λ (x : ℕ → ℕ → ℕ). IsVersion kept x page c.accepts.new.plain) (sym c.keep.ensures.words) (version_kept s kept w c.keep.ensures.page_state page c.accepts.new.plain volume),
      kept_start s kept c.keep.ensures.page_state,
    )

pub invariant_of-result-in-Err : goal.invariant_of-result-in-Err
invariant_of-result-in-Err c =
    let start = λ (q : ℕ). page_state_in (places c.self.inside.room.pool) q in
    let s = λ (q : ℕ). page_state_in (places c.apply_pages.new.room.pool) q in
    let undone = λ (q : ℕ). page_state_in (places c.undo.new.self.pool) q in
    let v = λ (q i : ℕ). pool_word c.self.inside.room.words.items q i in
    let w = λ (q i : ℕ). pool_word c.undo.new.self.words.items q i in
    let keeps = refused_start _ _ _ _ _ c.in-Err.ensures.err in
    let was : IsUndone start undone v w = record {
      page_state = λ q. c.undo.ensures.page_state q ∙ keeps.undone q;
      same_words = λ q from. ap (λ (x : ℕ → ℕ → ℕ). x q) c.undo.ensures.words ∙ keeps.words q from;
    } in (
      subst (λ (x : State). IsVersion undone w c.self.inside.page x) (sym c.in_ok-refuses-in-Err.ensures)
          (version_stays start undone v w c.self.invariant.1 was c.self.inside.page c.self.inside.plain c.self.invariant.0),
      undone_start s undone c.undo.ensures.page_state,
    )
