use Rattle.std.proofs.Common.{◌≡◌, ◌+◌, ℕ, List, length}
use Rattle.be_store.specs.History.{tried}
use Rattle.be_store.specs.Passes.{IsPassOf}
use Rattle.be_store.proofs.store.Store.apply_or_retry.Given as goal

abbrev pub invariant-loop-made : goal.invariant-loop-made
invariant-loop-made l = record {
  pass : IsPassOf l.self l.pass;
  tries : (writers : List ℕ) × (length writers + 1 ≡ l._made) × (l.pass.knows ≡ tried l.fn.pass.knows writers);
}
