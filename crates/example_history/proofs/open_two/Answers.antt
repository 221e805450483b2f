use Rattle.example_history.proofs.Made.{first_new, second_new}
use Rattle.example_history.proofs.open_two.Goals as goal

pub returns-clause-first : goal.returns-clause-first
returns-clause-first c =
    first_new c.in_ok-store.store c.in_ok-store.passes.items c.in_ok-first.first c.in_ok-first.second c.in_ok-first.ensures c.in_ok-store.ensures.2

pub returns-clause-second : goal.returns-clause-second
returns-clause-second c =
    second_new c.in_ok-store.store c.in_ok-store.passes.items c.in_ok-first.first c.in_ok-first.second c.in_ok-first.ensures c.in_ok-store.ensures.2
