use Rattle.std.proofs.Common.{◌≡◌, ℕ, None, subst, sym, refl, rules}
use Rattle.std.specs.Prelude.{IfErr, OnOk}
use Rattle.be_paged_building.specs.Building.{MayBeIndex}
use Rattle.be_paged_building.specs.Errors.{IndexError}
use Rattle.be_paged_building.specs.Given.{with_index}
use Rattle.be_store_building.specs.Building.{Building, Refuses, given}
use Rattle.be_store_building.specs.FirstPages.{state_in}
use Rattle.be_store_building.specs.Inside.{IsWhole}
use Rattle.be_store_building.proofs.Calls.{accepted, declined, either, on_err, on_ok, refused, still, whole_still}
use Rattle.be_store_building.proofs.Errors.{index_mild, memory_last}
use Rattle.be_store_building.proofs.Volumes.{index_numbered}
use Rattle.be_table.specs.Reading.{word_of_page}
use Rattle.be_tree.specs.Counting.{HasInHand}
use Rattle.be_value.specs.declared.refusals.Refusal.TheVariants.{OutOfMemory}
use Rattle.be_volume_state.specs.Rebuilding.{IsNumbered}
use Rattle.be_store_building.proofs.builder.StoreBuilder.index.Goals as goal

pub invariant_of-self : goal.invariant_of-self
invariant_of-self c =
    let b = c.self.inside in
    let none : b.failed ≡ None = search rules in
    let whole = c.self.invariant.whole none in
    let answer = c.index-answer.result in
    let now = c.index-answer.new.self in
    let said = c.index-answer.ensures in
    let s = state_in b.pages.states.items in
    let w = word_of_page b.pages.words.items in
    record {
      limits = c.self.invariant.limits;
      pages = c.self.invariant.pages;
      numbered = either answer (IsNumbered now.volume.value)
          (on_ok answer _ _ (IsNumbered now.volume.value) said.volume said.volume (λ is again. subst IsNumbered (sym is) (index_numbered b.volume.volume.value c.args.name.now c.args.kind c.self.invariant.numbered)))
          (on_err answer _ (IsNumbered now.volume.value) said.same (λ same. subst IsNumbered (sym same) c.self.invariant.numbered));
      whole = still answer c.failure-self-inside.result (IsWhole b.pages now) c.failure-self-inside.ensures
          (on_ok answer _ _ (IsWhole b.pages now) said.ok said.held (λ builds held. record { builds = (builds s w whole.builds).1; hand = subst (HasInHand s) (sym (held w)) whole.hand }))
          (declined b.volume now _ _ answer s s (IsWhole b.pages now) memory_last (λ same kept. whole_still b.pages b.pages b.volume now whole same refl) (said.refused s w whole.builds));
    }

pub returns-clause-ok : goal.returns-clause-ok
returns-clause-ok c =
    let b = c.self.inside in
    let none : b.failed ≡ None = search rules in
    let whole = c.self.invariant.whole none in
    let answer = c.index-answer.result in
    let said = c.index-answer.ensures in
    let volume = b.volume.volume.value in
    let left : Building = record { limits = b.limits; volume = c.index-answer.new.self.volume.value; failed = c.failure-self-inside.result } in
    subst (λ (old : Building). OnOk answer ((old.failed ≡ None) × MayBeIndex old.volume c.args.name.now c.args.kind × (left ≡ given old (with_index old.volume c.args.name.now c.args.kind)))) c.self.view_is
    (on_ok answer _ _ _ said.ok (accepted answer c.failure-self-inside.result b.limits c.index-answer.new.self.volume.value (with_index volume c.args.name.now c.args.kind) c.failure-self-inside.ensures said.volume)
    (λ may is. (none, (may (state_in b.pages.states.items) (word_of_page b.pages.words.items) whole.builds).0, is)))

pub returns-clause-err : goal.returns-clause-err
returns-clause-err c =
    let b = c.self.inside in
    let none : b.failed ≡ None = search rules in
    let whole = c.self.invariant.whole none in
    let answer = c.index-answer.result in
    let volume = b.volume.volume.value in
    let said = c.index-answer.ensures in
    let s = state_in b.pages.states.items in
    subst (λ (old : Building). IfErr answer (Refuses (IndexError old.volume c.args.name.now c.args.kind) (λ e. e ≡ OutOfMemory) old
    (record { limits = b.limits; volume = c.index-answer.new.self.volume.value; failed = c.failure-self-inside.result }))) c.self.view_is
    (refused b.volume c.index-answer.new.self (IndexError volume c.args.name.now c.args.kind) (λ e. e ≡ OutOfMemory) (λ e. e ≡ OutOfMemory) answer b.failed c.failure-self-inside.result b.limits volume
    c.index-answer.new.self.volume.value s s none (index_mild volume c.args.name.now c.args.kind) memory_last (λ e memory. memory) c.failure-self-inside.ensures said.same
    (said.refused s (word_of_page b.pages.words.items) whole.builds))
