use Rattle.std.proofs.Common.{◌≡◌, Ok}
use Rattle.std.specs.declared.result.Result.{Result}
use Rattle.be_value.specs.declared.refusals.Refusal.{Refusal}
use Rattle.be_volume.specs.Reading.{index_kinds}
use Rattle.be_paged_reading.proofs.paged_whole.kinds_of.Goals as goal

same_list : {A : Type 0} (xs ys : A) → ◌≡◌ {A = Result A Refusal} (Ok xs) (Ok ys) → ys ≡ xs
same_list xs ys e = cc

pub returns-in-Ok-clause-indices : goal.returns-in-Ok-clause-indices
returns-in-Ok-clause-indices g c = λ volume version. same_list (index_kinds volume) c.in-Ok.list.items (c.in-Ok.ensures.answer volume version)
