use Rattle.std.proofs.Common.{◌≡◌, ◌∙◌, ℕ, ◌+◌, ◌-◌, None, subst, sym, rules, arith}
use Rattle.std.specs.Prelude.{IfErr, OnOk}
use Rattle.be_paged_building.specs.Building.{IsNoRoom, IsTooLarge, MayHave, pages_held}
use Rattle.be_paged_building.specs.Errors.{AttributeError}
use Rattle.be_paged_building.specs.Given.{with_held}
use Rattle.be_store_building.specs.Building.{Building, IsSpent, Refuses, given, last_node}
use Rattle.be_store_building.specs.FirstPages.{NoneFree, state_in}
use Rattle.be_store_building.specs.Inside.{IsWhole}
use Rattle.be_store_building.proofs.Calls.{accepted, declined, either, on_err, on_ok, refused, spends, still, whole_still}
use Rattle.be_store_building.proofs.Errors.{attribute_mild, room_last}
use Rattle.be_store_building.proofs.Volumes.{held_numbered}
use Rattle.be_table.specs.Reading.{word_of_page}
use Rattle.be_volume_state.specs.Rebuilding.{IsNumbered}
use Rattle.be_store_building.proofs.builder.StoreBuilder.attribute.Goals as goal

pub invariant_of-self : goal.invariant_of-self
invariant_of-self c =
    let b = c.self.inside in
    let none : b.failed ≡ None = search rules in
    let whole = c.self.invariant.whole none in
    let answer = c.attribute-answer.result in
    let now = c.attribute-answer.new.self in
    let left = c.attribute-answer.new.room in
    let said = c.attribute-answer.ensures in
    record {
      limits = c.self.invariant.limits;
      pages = said.kept ∙ c.self.invariant.pages;
      numbered = either answer (IsNumbered now.volume.value)
          (on_ok answer _ _ (IsNumbered now.volume.value) said.may said.volume
          (λ may is. subst IsNumbered (sym is) (held_numbered b.volume.volume.value b.volume.node c.args.name.now c.args.value.now c.args.held c.self.invariant.numbered may)))
          (on_err answer _ (IsNumbered now.volume.value) said.same (λ same. subst IsNumbered (sym same) c.self.invariant.numbered));
      whole = still answer c.failure-self-inside.result (IsWhole left now) c.failure-self-inside.ensures
          (on_ok answer _ _ (IsWhole left now) said.ok said.hand (λ builds hand. record { builds = builds; hand = hand whole.hand }))
          (declined b.volume now _ _ answer b.pages left (IsWhole left now) (λ e. room_last _ _ e) (λ same kept. whole_still b.pages left b.volume now whole same kept) said.refused);
    }

pub returns-clause-ok : goal.returns-clause-ok
returns-clause-ok c =
    let b = c.self.inside in
    let none : b.failed ≡ None = search rules in
    let whole = c.self.invariant.whole none in
    let answer = c.attribute-answer.result in
    let said = c.attribute-answer.ensures in
    let volume = b.volume.volume.value in
    let last : b.volume.node ≡ last_node volume = omega (arith, whole.builds.next) in
    let left : Building = record { limits = b.limits; volume = c.attribute-answer.new.self.volume.value; failed = c.failure-self-inside.result } in
    subst (λ (old : Building). OnOk answer ((old.failed ≡ None) × MayHave old.volume (last_node old.volume) c.args.name.now c.args.value.now c.args.held
    × (left ≡ given old (with_held old.volume (last_node old.volume) c.args.name.now c.args.value.now c.args.held)))) c.self.view_is
    (subst (λ n. OnOk answer ((b.failed ≡ None) × MayHave volume n c.args.name.now c.args.value.now c.args.held
    × (left ≡ record { limits = b.limits; volume = with_held volume n c.args.name.now c.args.value.now c.args.held; failed = None }))) last
    (on_ok answer _ _ _ said.may (accepted answer c.failure-self-inside.result b.limits c.attribute-answer.new.self.volume.value (with_held volume b.volume.node c.args.name.now c.args.value.now c.args.held)
    c.failure-self-inside.ensures said.volume) (λ may is. (none, may, is))))

pub returns-clause-err : goal.returns-clause-err
returns-clause-err c =
    let b = c.self.inside in
    let none : b.failed ≡ None = search rules in
    let whole = c.self.invariant.whole none in
    let answer = c.attribute-answer.result in
    let left = c.attribute-answer.new.room in
    let volume = b.volume.volume.value in
    let said = c.attribute-answer.ensures in
    let last : b.volume.node ≡ last_node volume = omega (arith, whole.builds.next) in
    let held = pages_held (word_of_page b.pages.words.items) b.volume in
    let more = with_held volume b.volume.node c.args.name.now c.args.value.now c.args.held in
    let now : Building = record { limits = b.limits; volume = c.attribute-answer.new.self.volume.value; failed = c.failure-self-inside.result } in
    subst (λ (old : Building). IfErr answer (Refuses (AttributeError old.volume (last_node old.volume) c.args.name.now c.args.value.now c.args.held)
    (IsSpent old.limits.pages (with_held old.volume (last_node old.volume) c.args.name.now c.args.value.now c.args.held)) old now)) c.self.view_is
    (subst (λ n. IfErr answer (Refuses (AttributeError volume n c.args.name.now c.args.value.now c.args.held)
    (IsSpent b.limits.pages (with_held volume n c.args.name.now c.args.value.now c.args.held)) (record { limits = b.limits; volume = volume; failed = b.failed }) now)) last
    (refused b.volume c.attribute-answer.new.self (AttributeError volume b.volume.node c.args.name.now c.args.value.now c.args.held)
    (IsNoRoom (λ least. (least ≡ 0) × NoneFree left.states.items) (IsTooLarge more held (state_in b.pages.states.items) (state_in left.states.items)))
    (IsSpent b.limits.pages more) answer b.failed c.failure-self-inside.result b.limits volume c.attribute-answer.new.self.volume.value b.pages left none
    (attribute_mild volume b.volume.node c.args.name.now c.args.value.now c.args.held) (λ e. room_last _ _ e)
    (spends left b.limits.pages more held (state_in b.pages.states.items) (said.kept ∙ c.self.invariant.pages) whole.hand) c.failure-self-inside.ensures said.same said.refused))
