use Rattle.std.proofs.Common.{◌≡◌, ℕ, List, inl, sym, ◌∙◌, subst, arith, map}
use Rattle.be_journal.specs.Journal.{by_pass}
use Rattle.be_store.proofs.Alone.{by_one}
use Rattle.be_table.specs.History.{AreOfPasses}
use Rattle.be_table.specs.Place.{SeatFacts}
use Rattle.be_table.specs.Steps.{Has, KeepsSeen}
use Rattle.be_table.specs.Works.{AllAt, knows_of}
use Rattle.be_script_runner.proofs.journal_runs.close_alone.Goals as goal

pub close-requires-clause-passes : goal.close-requires-clause-passes
close-requires-clause-passes c =
    subst (λ (ps : List SeatFacts). AllAt c.args.store.id ps) (sym c.in_ok-passes.ensures.passes) ((c.requires.pass.0.0, c.requires.pass.0.1), tt)

pub close-requires-clause-all : goal.close-requires-clause-all
close-requires-clause-all c k below =
    let first : c.args.pass.knows.number ≡ k = omega (arith, below, c.requires.one, c.alone.ensures.number) in
    subst (λ (ps : List SeatFacts). Has (map knows_of ps) k) (sym c.in_ok-passes.ensures.passes) (inl first)

pub returns-clause-all : goal.returns-clause-all
returns-clause-all c =
    let log = c.close.result.entries in
    let knows = c.args.pass.knows in
    let keeps = subst (λ (ps : List SeatFacts). KeepsSeen log (map knows_of ps)) c.in_ok-passes.ensures.passes c.close.ensures.passes in
    let whole : by_pass 0 log ≡ log = by_one log (subst (λ (n : ℕ). AreOfPasses n log) c.requires.one c.close.ensures.by) in
    sym whole ∙ (subst (λ (n : ℕ). by_pass n log ≡ knows.mine) c.alone.ensures.number keeps.1 ∙ sym c.alone.ensures.written)
