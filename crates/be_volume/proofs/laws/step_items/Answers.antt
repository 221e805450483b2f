use Rattle.be_volume.proofs.ItemLemmas.{step_items, step_indices, few_items, few_indices}
use Rattle.be_volume.proofs.laws.step_items.Goals as goal

pub returns : goal.returns
returns c = record {
  items = step_items;
  indices = step_indices;
  few = λ op. (few_items op, few_indices op);
}
