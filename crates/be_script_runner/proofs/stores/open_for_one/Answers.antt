use Rattle.be_store.proofs.Writes.{passed_up}
use Rattle.be_script_runner.proofs.LimitLemmas.{only_memory}
use Rattle.be_script_runner.proofs.stores.open_for_one.Goals as goal

pub returns-in_err-store-clause-refused : goal.returns-in_err-store-clause-refused
returns-in_err-store-clause-refused c =
    passed_up c.from_residual.result c.in_err-store.field-0.0 _ _ c.from_residual.ensures.1 (only_memory c.args.limits c.in_err-store.field-0.0 c.requires c.in_err-store.ensures)
