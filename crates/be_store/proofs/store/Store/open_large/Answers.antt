use Rattle.std.proofs.Common.{[], ◌∷◌, slice_index, refl}
use Rattle.be_core.specs.Machine.{has}
use Rattle.be_table.specs.Versions.{at_start}
use Rattle.be_store.proofs.store.Store.open_large.Goals as goal

pub open_large-requires : goal.open_large-requires
open_large-requires c = c.first_page.ensures (λ q. at_start (has (0 ∷ []) q)) (λ q i. slice_index c.first_page.result i) 0 refl (λ i lt. refl)
