use Rattle.std.proofs.Common.{◌≡◌, [], length, map, slice_index_or, refl, ap, subst, arith, zero-add}
use Rattle.std.proofs.lemmas.List.{length-map}
use Rattle.be_journal.specs.Journal.{IsLegalFrom, by_pass}
use Rattle.be_table.specs.History.{AreOfPasses}
use Rattle.be_table.specs.Setting.{Setting}
use Rattle.be_table.specs.Steps.{Has}
use Rattle.be_table.specs.Versions.{CanEncodeEach}
use Rattle.be_table.specs.Works.{knows_of}
use Rattle.be_script_runner.specs.Own.{IsPartOf, operations, write_ops}
use Rattle.be_script_runner.specs.Order.{AreServedBy}
use Rattle.be_script_runner.specs.Race.{HaveReplied}
use Rattle.be_store.specs.Calls.{AreInOneTrace}
use Rattle.be_script_runner.proofs.RaceLemmas.{all_at, has_each, own_of}
use Rattle.be_script_runner.proofs.races.serve_on_new.Goals as goal

pub close-requires-clause-passes : goal.close-requires-clause-passes
close-requires-clause-passes g c = all_at c.in-Ok.store 0 (map (λ s. s.items) c.args.scripts.items) c.in_ok-passes.passes.items c.in_ok-passes.ensures.served.0.0

pub close-requires-clause-all : goal.close-requires-clause-all
close-requires-clause-all g c k below =
    let scripts = map (λ s. s.items) c.args.scripts.items in
    let count : length scripts ≡ length c.args.scripts.items = length-map c.args.scripts.items _ in
    let limit : c.in-Ok.store.limits.passes ≡ c.args.limits.passes = ap (λ (s : Setting). s.passes) c.in-Ok.ensures.0 in
    subst (Has (map knows_of c.in_ok-passes.passes.items)) (zero-add k)
    (has_each c.in-Ok.store 0 scripts c.in_ok-passes.passes.items c.in_ok-passes.ensures.served.0.0 k (omega (arith, below, count, limit, c.requires, c.args.scripts.ok.0)))

pub returns-clause-raced : goal.returns-clause-raced
returns-clause-raced g c =
    let scripts = map (λ s. s.items) c.args.scripts.items in
    let count : length scripts ≡ length c.args.scripts.items = length-map c.args.scripts.items _ in
    let limit : c.in-Ok.store.limits.passes ≡ c.args.limits.passes = ap (λ (s : Setting). s.passes) c.in-Ok.ensures.0 in
    let passes : c.in-Ok.store.limits.passes ≡ length scripts = omega (arith, count, limit, c.requires, c.args.scripts.ok.0) in
    let journal = c.close.result.entries in
    let replies = map (λ s. s.items) c.in_ok-passes.replies.items in (
      record {
        replies = replies;
        journal = journal;
        is = refl;
        replied = subst (λ (s : Setting). HaveReplied s journal 0 scripts replies) c.in-Ok.ensures.0 (c.in_ok-passes.ensures.served.0.1 journal c.close.ensures.passes);
        legal = subst (λ (s : Setting). IsLegalFrom s.volume journal) c.in-Ok.ensures.0 c.close.ensures.legal;
        by = subst (λ n. AreOfPasses n journal) passes c.close.ensures.by;
        own = λ k below. subst (λ n. IsPartOf (operations (by_pass n journal)) (write_ops (slice_index_or scripts k []))) (zero-add k)
            (own_of c.in-Ok.store 0 scripts c.in_ok-passes.passes.items journal c.in_ok-passes.ensures.served.0.0 c.close.ensures.passes k below);
        volumes = subst (λ (s : Setting). CanEncodeEach s.pages s.volume journal) c.in-Ok.ensures.0 c.close.ensures.volumes;
        passes = map knows_of c.in_ok-passes.passes.items;
        served = subst (λ (s : Setting). AreServedBy s 0 scripts (map knows_of c.in_ok-passes.passes.items) replies) c.in-Ok.ensures.0 c.in_ok-passes.ensures.served.0.2;
        order = record {
          kept = c.close.ensures.passes;
          writes = c.close.ensures.writes;
          moves = subst (λ (s : Setting). AreInOneTrace s (map knows_of c.in_ok-passes.passes.items)) c.in-Ok.ensures.0 c.close.ensures.moves;
        };
      },
      refl,
    )

pub returns-clause-legal : goal.returns-clause-legal
returns-clause-legal g c = subst (λ (s : Setting). IsLegalFrom s.volume c.close.result.entries) c.in-Ok.ensures.0 c.close.ensures.legal
