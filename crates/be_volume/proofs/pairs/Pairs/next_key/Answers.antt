use Rattle.std.proofs.Common.{ℕ, List, sym, ap, subst, ◌∙◌, Some}
use Rattle.std.specs.FinMap as map
use Rattle.std.specs.FinMap.{FinMap}
use Rattle.std.specs.List.{slice_get}
use Rattle.std.specs.Ordering.{nat_cmp}
use Rattle.std.specs.declared.option.Option.{Option}
use Rattle.be_value.specs.declared.values.Value.{Value}
use Rattle.be_volume.specs.PairKeys.{IsKeyOf, IsNext}
use Rattle.be_volume.proofs.KeyLemmas.{first_is_next}
use Rattle.be_volume.proofs.pairs.Pairs.next_key.Goals as goal

pub returns : goal.returns
returns c =
    let pairs : FinMap nat_cmp Value = map.from_entries c.self.inside.values.entries in
    let M : FinMap nat_cmp Value → Type 0 = λ m. IsNext (IsKeyOf m) c.args.from.now c.args.after (Some c.to_bytes.result.items) in
    let N : Option (List ℕ) → Type 0 = λ o. IsNext (IsKeyOf pairs) c.args.from.now c.args.after o in
    subst M c.self.view_is (subst N (ap (λ r. slice_get r 0) c.in_ok-next.ensures.steps ∙ ap Some (sym c.to_bytes.ensures))
    (first_is_next pairs c.self.inside.keys c.self.invariant c.args.from.now c.args.after c.start_of-start.result c.start_of-start.ensures c.range.result (c.range.ensures.in_range tt)))
