use Rattle.std.proofs.Common.{◌≡◌, ◌∙◌, ℕ, None, subst, sym, rules}
use Rattle.std.specs.Prelude.{IfErr}
use Rattle.be_paged_building.specs.Building.{IsNoRoom, IsTooLarge, pages_held}
use Rattle.be_paged_building.specs.Errors.{NodeError}
use Rattle.be_paged_building.specs.Given.{with_node}
use Rattle.be_store_building.specs.Building.{Building, IsSpent, Refuses}
use Rattle.be_store_building.specs.FirstPages.{NoneFree, state_in}
use Rattle.be_store_building.specs.Inside.{IsWhole}
use Rattle.be_store_building.proofs.Calls.{declined, either, on_err, on_ok, refused, spends, still, whole_still}
use Rattle.be_store_building.proofs.Errors.{node_mild, room_last}
use Rattle.be_store_building.proofs.Volumes.{node_numbered}
use Rattle.be_table.specs.Reading.{word_of_page}
use Rattle.be_volume_state.specs.Rebuilding.{IsNumbered}
use Rattle.be_store_building.proofs.builder.StoreBuilder.node.Goals as goal

pub invariant_of-self : goal.invariant_of-self
invariant_of-self c =
    let b = c.self.inside in
    let none : b.failed ≡ None = search rules in
    let whole = c.self.invariant.whole none in
    let answer = c.node-answer.result in
    let now = c.node-answer.new.self in
    let said = c.node-answer.ensures in
    record {
      limits = c.self.invariant.limits;
      pages = said.kept ∙ c.self.invariant.pages;
      numbered = either answer (IsNumbered now.volume.value)
          (on_ok answer _ _ (IsNumbered now.volume.value) said.may said.volume (λ may is. subst IsNumbered (sym is) (node_numbered b.volume.volume.value c.args.node c.self.invariant.numbered may)))
          (on_err answer _ (IsNumbered now.volume.value) said.same (λ same. subst IsNumbered (sym same) c.self.invariant.numbered));
      whole = still answer c.failure-self-inside.result (IsWhole c.node-answer.new.room now) c.failure-self-inside.ensures
          (on_ok answer _ _ (IsWhole c.node-answer.new.room now) said.ok said.hand (λ builds hand. record { builds = builds; hand = hand whole.hand }))
          (declined b.volume now _ _ answer b.pages c.node-answer.new.room (IsWhole c.node-answer.new.room now) (λ e. room_last _ _ e) (λ same kept. whole_still b.pages c.node-answer.new.room b.volume now whole same kept) said.refused);
    }

pub returns-clause-err : goal.returns-clause-err
returns-clause-err c =
    let b = c.self.inside in
    let none : b.failed ≡ None = search rules in
    let whole = c.self.invariant.whole none in
    let answer = c.node-answer.result in
    let left = c.node-answer.new.room in
    let volume = b.volume.volume.value in
    let said = c.node-answer.ensures in
    let held = pages_held (word_of_page b.pages.words.items) b.volume in
    subst (λ (old : Building). IfErr answer (Refuses (NodeError old.volume c.args.node) (IsSpent old.limits.pages (with_node old.volume c.args.node)) old
    (record { limits = b.limits; volume = c.node-answer.new.self.volume.value; failed = c.failure-self-inside.result }))) c.self.view_is
    (refused b.volume c.node-answer.new.self (NodeError volume c.args.node)
    (IsNoRoom (λ least. (least ≡ 0) × NoneFree left.states.items) (IsTooLarge (with_node volume c.args.node) held (state_in b.pages.states.items) (state_in left.states.items)))
    (IsSpent b.limits.pages (with_node volume c.args.node)) answer b.failed c.failure-self-inside.result b.limits volume c.node-answer.new.self.volume.value b.pages left none
    (node_mild volume c.args.node) (λ e. room_last _ _ e) (spends left b.limits.pages (with_node volume c.args.node) held (state_in b.pages.states.items) (said.kept ∙ c.self.invariant.pages) whole.hand)
    c.failure-self-inside.ensures said.same said.refused)
