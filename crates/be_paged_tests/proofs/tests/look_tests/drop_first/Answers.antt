use Rattle.std.proofs.Common.{ℕ, [], ◌∷◌, ap, sym, subst, ◌∙◌}
use Rattle.be_pages.specs.PagePool.{places}
use Rattle.be_pages.specs.Pages.{after_undo}
use Rattle.be_pages.specs.VecRoom.{page_state_in, pool_word}
use Rattle.be_tree_reading.specs.Forest.{IsUndone}
use Rattle.be_tree_reading.proofs.Frame.{swaps_start}
use Rattle.be_volume.specs.Volume.{State, steps}
use Rattle.be_volume.specs.declared.ops.Op.TheVariants.{Drop}
use Rattle.be_paged_reading.specs.Version.{IsVersion}
use Rattle.be_paged.proofs.StayingVersion.{version_stays}
use Rattle.be_paged_test_tools.proofs.Since.{one_made}
use Rattle.be_paged_tests.proofs.tests.look_tests.drop_first.Goals as goal

pub returns-in_ok-accepts-in-Ok-clause-before : goal.returns-in_ok-accepts-in-Ok-clause-before
returns-in_ok-accepts-in-Ok-clause-before c =
    let start = λ (q : ℕ). page_state_in (places c.args.room.pool) q in
    let before = λ (q : ℕ). after_undo (page_state_in (places c.apply_pages.new.room.pool) q) in
    let v = λ (q i : ℕ). pool_word c.args.room.words.items q i in
    let w = λ (q i : ℕ). pool_word c.apply_pages.new.room.words.items q i in
    let keeps = swaps_start _ _ _ _ _ _ _ c.in-Ok.ensures.ok.swaps in
    let was : IsUndone start before v w = record { page_state = λ q. keeps.undone q; same_words = λ q from. keeps.words q from } in
    version_stays start before v w c.requires.start was c.args.page c.args.original.now c.requires.version

pub returns-in_ok-accepts-in-Ok-clause-version : goal.returns-in_ok-accepts-in-Ok-clause-version
returns-in_ok-accepts-in-Ok-clause-version c =
    let s = λ (q : ℕ). page_state_in (places c.apply_pages.new.room.pool) q in
    let w = λ (q i : ℕ). pool_word c.apply_pages.new.room.words.items q i in
    let applied = c.in-Ok.ensures.ok in
    let made = one_made applied.stepped (ap (λ (x : State). steps x (Drop 1 ∷ [])) (sym c.requires.same) ∙ c.in_ok-accepts-in-Ok.ensures.1) in
    subst (λ (x : State). IsVersion s w c.in-Ok.new_page x) made applied.version
