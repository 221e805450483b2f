use Rattle.std.proofs.Common.{ℕ, ◌≤◌, List, length, sym, ap, subst, ◌∙◌, refl}
use Rattle.std.specs.BTreeMap.{is_at}
use Rattle.std.specs.BTreeSet.{contains}
use Rattle.std.specs.List.{list_any}
use Rattle.std.specs.Cmp.{nat_cmp_total}
use Rattle.std.specs.FinMap as map
use Rattle.std.specs.FinMap.{FinMap, nat_cmp-IsAntisymmetric}
use Rattle.std.specs.Ordering.{nat_cmp}
use Rattle.std.specs.declared.option.Option.{Option}
use Rattle.be_value.specs.declared.values.Value.{Value}
use Rattle.be_volume.specs.Maps.{name_cmp}
use Rattle.be_volume.specs.PairKeys.{AreKeysOf}
use Rattle.be_volume.proofs.KeyLemmas.{kept_with, Gains, gone, put_again, taken_back, of_some, of_err, of_ok}
use Rattle.be_volume.proofs.MapLemmas.{inserted, removed}
use Rattle.be_volume.proofs.pairs.Pairs.insert.Goals as goal

pub invariant_of-self-in_default : goal.invariant_of-self-in_default
invariant_of-self-in_default c =
    let M : FinMap nat_cmp Value → Type 0 = λ m. AreKeysOf m (contains name_cmp c.self.inside.keys) in
    let G : Option (List ℕ) → Type 0 = λ o. Gains o (contains name_cmp c.self.inside.keys) (contains name_cmp c.self.inside.keys) in
    subst M (sym (inserted nat_cmp_total nat_cmp-IsAntisymmetric c.self.inside.values.entries c.insert.new.self.entries c.args.node c.args.value c.in_ok-insert.ensures.updates.0))
    (kept_with (map.from_entries c.self.inside.values.entries) (contains name_cmp c.self.inside.keys) c.self.invariant c.args.node c.ranges.node.fits c.args.value
    (ap (λ m. map.get m c.args.node) (c.self.view_is ∙ c.remove.ensures) ∙ gone c.args.self.now c.args.node c.args.value)
    (contains name_cmp c.self.inside.keys) (subst G (sym c.in_default.is ∙ c.of-key.ensures.key) (λ q. refl))
    (λ k e. of_some (λ b. length b ≤ 264) c.of-key.result c.of-key.ensures.short k (c.of-key.ensures.key ∙ e)))

pub returns-in_default : goal.returns-in_default
returns-in_default c = inserted nat_cmp_total nat_cmp-IsAntisymmetric c.self.inside.values.entries c.insert.new.self.entries c.args.node c.args.value c.in_ok-insert.ensures.updates.0
    ∙ ap (λ m. map.insert m c.args.node c.args.value) (c.self.view_is ∙ c.remove.ensures) ∙ put_again c.args.self.now c.args.node c.args.value

pub invariant_of-self-then-is_err : goal.invariant_of-self-then-is_err
invariant_of-self-then-is_err c =
    let M : FinMap nat_cmp Value → Type 0 = λ m. AreKeysOf m (contains name_cmp c.insert-2.new.self) in
    let K : List (List ℕ) → Type 0 = λ ks. AreKeysOf (map.from_entries {R = nat_cmp} c.self.inside.values.entries) (λ k. list_any (is_at (name_cmp k)) ks) in
    subst M (sym (removed nat_cmp_total nat_cmp-IsAntisymmetric c.insert.new.self.entries c.remove-then-is_err.new.self.entries c.args.node c.remove-then-is_err.ensures.updates.0
    ∙ ap (λ m. map.remove m c.args.node) (inserted nat_cmp_total nat_cmp-IsAntisymmetric c.self.inside.values.entries c.insert.new.self.entries c.args.node c.args.value c.in_ok-insert.ensures.updates.0)
    ∙ taken_back (map.from_entries c.self.inside.values.entries) c.args.node c.args.value (ap (λ m. map.get m c.args.node) (c.self.view_is ∙ c.remove.ensures) ∙ gone c.args.self.now c.args.node c.args.value)))
    (subst K (sym (of_err c.insert-2.result c.insert-2.ensures.err (sym c.is_err.ensures.value ∙ c.if-is_err.true))) c.self.invariant)

pub invariant_of-self-else-is_err : goal.invariant_of-self-else-is_err
invariant_of-self-else-is_err c =
    let M : FinMap nat_cmp Value → Type 0 = λ m. AreKeysOf m (contains name_cmp c.insert-2.new.self) in
    let G : Option (List ℕ) → Type 0 = λ o. Gains o (contains name_cmp c.self.inside.keys) (contains name_cmp c.insert-2.new.self) in
    subst M (sym (inserted nat_cmp_total nat_cmp-IsAntisymmetric c.self.inside.values.entries c.insert.new.self.entries c.args.node c.args.value c.in_ok-insert.ensures.updates.0))
    (kept_with (map.from_entries c.self.inside.values.entries) (contains name_cmp c.self.inside.keys) c.self.invariant c.args.node c.ranges.node.fits c.args.value
    (ap (λ m. map.get m c.args.node) (c.self.view_is ∙ c.remove.ensures) ∙ gone c.args.self.now c.args.node c.args.value)
    (contains name_cmp c.insert-2.new.self)
    (subst G (sym c.in-Some.is ∙ c.of-key.ensures.key) (of_ok c.insert-2.result c.insert-2.ensures.updates (sym c.is_err.ensures.value ∙ c.if-is_err.false)).0)
    (λ k e. of_some (λ b. length b ≤ 264) c.of-key.result c.of-key.ensures.short k (c.of-key.ensures.key ∙ e)))

pub returns : goal.returns
returns c = inserted nat_cmp_total nat_cmp-IsAntisymmetric c.self.inside.values.entries c.insert.new.self.entries c.args.node c.args.value c.in_ok-insert.ensures.updates.0
    ∙ ap (λ m. map.insert m c.args.node c.args.value) (c.self.view_is ∙ c.remove.ensures) ∙ put_again c.args.self.now c.args.node c.args.value
