use Rattle.std.proofs.Common.{ℕ, List, sym, ap, subst, ◌∙◌, refl, Some}
use Rattle.std.specs.BTreeSet.{contains}
use Rattle.std.specs.Cmp.{nat_cmp_total}
use Rattle.std.specs.FinMap as map
use Rattle.std.specs.FinMap.{FinMap, nat_cmp-IsAntisymmetric}
use Rattle.std.specs.Ordering.{nat_cmp}
use Rattle.std.specs.declared.option.Option.{Option}
use Rattle.be_value.specs.declared.values.Value.{Value}
use Rattle.be_volume.specs.Maps.{name_cmp}
use Rattle.be_volume.specs.PairKeys.{AreKeysOf}
use Rattle.be_volume.proofs.KeyLemmas.{kept_without, Loses}
use Rattle.be_volume.proofs.MapLemmas.{get_made, removed}
use Rattle.be_volume.proofs.pairs.Pairs.remove.Goals as goal

pub returns-in_default : goal.returns-in_default
returns-in_default c = removed nat_cmp_total nat_cmp-IsAntisymmetric c.self.inside.values.entries c.remove.new.self.entries c.args.node c.remove.ensures.updates.0
    ∙ ap (λ m. map.remove m c.args.node) c.self.view_is

pub invariant_of-self-in-Some-of : goal.invariant_of-self-in-Some-of
invariant_of-self-in-Some-of c =
    let M : FinMap nat_cmp Value → Type 0 = λ m. AreKeysOf m (contains name_cmp c.remove-in-Some-of.new.self) in
    let L : Option (List ℕ) → Type 0 = λ o. Loses o (contains name_cmp c.self.inside.keys) (contains name_cmp c.remove-in-Some-of.new.self) in
    subst M (sym (removed nat_cmp_total nat_cmp-IsAntisymmetric c.self.inside.values.entries c.remove.new.self.entries c.args.node c.remove.ensures.updates.0))
    (kept_without (map.from_entries c.self.inside.values.entries) (contains name_cmp c.self.inside.keys) c.self.invariant c.args.node c.ranges.node.fits (Some c.in-Some.old)
    (get_made nat_cmp_total c.self.inside.values.entries c.args.node ∙ sym c.remove.ensures.value ∙ c.in-Some.is) (contains name_cmp c.remove-in-Some-of.new.self)
    (subst L (sym c.in-Some-of.is ∙ c.of.ensures.key) c.remove-in-Some-of.ensures.updates.0))

pub invariant_of-self-in_default-of : goal.invariant_of-self-in_default-of
invariant_of-self-in_default-of c =
    let M : FinMap nat_cmp Value → Type 0 = λ m. AreKeysOf m (contains name_cmp c.self.inside.keys) in
    let L : Option (List ℕ) → Type 0 = λ o. Loses o (contains name_cmp c.self.inside.keys) (contains name_cmp c.self.inside.keys) in
    subst M (sym (removed nat_cmp_total nat_cmp-IsAntisymmetric c.self.inside.values.entries c.remove.new.self.entries c.args.node c.remove.ensures.updates.0))
    (kept_without (map.from_entries c.self.inside.values.entries) (contains name_cmp c.self.inside.keys) c.self.invariant c.args.node c.ranges.node.fits (Some c.in-Some.old)
    (get_made nat_cmp_total c.self.inside.values.entries c.args.node ∙ sym c.remove.ensures.value ∙ c.in-Some.is) (contains name_cmp c.self.inside.keys)
    (subst L (sym c.in_default-of.is ∙ c.of.ensures.key) (λ q. refl)))

pub returns-in-Some-of : goal.returns-in-Some-of
returns-in-Some-of c = removed nat_cmp_total nat_cmp-IsAntisymmetric c.self.inside.values.entries c.remove.new.self.entries c.args.node c.remove.ensures.updates.0
    ∙ ap (λ m. map.remove m c.args.node) c.self.view_is

pub returns-in_default-of : goal.returns-in_default-of
returns-in_default-of c = removed nat_cmp_total nat_cmp-IsAntisymmetric c.self.inside.values.entries c.remove.new.self.entries c.args.node c.remove.ensures.updates.0
    ∙ ap (λ m. map.remove m c.args.node) c.self.view_is
