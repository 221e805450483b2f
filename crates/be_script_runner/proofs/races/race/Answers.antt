use Rattle.std.proofs.Common.{◌≡◌, ◌++◌, map, refl, rules, sym, subst}
use Rattle.std.specs.Prelude.{Err, IfErr, OnErr}
use Rattle.std.specs.Io.KnownBytes.{Appends}
use Rattle.be_journal.specs.Text.{result_text}
use Rattle.be_script_runner.specs.Race.{AreFirstTexts, RaceLeaves, replies_text}
use Rattle.be_script_runner.specs.Run.{IsFrontOf, IsLate, Wrote}
use Rattle.be_script_runner.specs.declared.faults.RunFault.TheVariants.{Limits, TooLong, Memory}
use Rattle.be_script_runner.proofs.LimitLemmas.{late_stops, no_fault, not_by}
use Rattle.be_script_runner.proofs.RaceLemmas.{nothing_raced, on_both, raced_in_part, raced_to_pass}
use Rattle.be_script_runner.proofs.RunLemmas.{always_ok, each_err, on_err, on_memory}
use Rattle.be_script_runner.proofs.races.race.Goals as goal

pub returns-then-not-are_within-clause-limits : goal.returns-then-not-are_within-clause-limits
returns-then-not-are_within-clause-limits g c = (λ _. c.are_within.ensures.bad (search rules), λ _. refl)

pub returns-then-not-are_within-clause-long : goal.returns-then-not-are_within-clause-long
returns-then-not-are_within-clause-long g c = (λ is. absurd (let e = is in cc), λ both. absurd (c.are_within.ensures.bad (search rules) both.0))

pub returns-then-is_some_too_long-clause-limits : goal.returns-then-is_some_too_long-clause-limits
returns-then-is_some_too_long-clause-limits g c = no_fault c.args.limits (Err TooLong) (c.are_within.ensures.within (search rules)) (λ is. let e = is in cc)

pub returns-then-is_some_too_long-clause-long : goal.returns-then-is_some_too_long-clause-long
returns-then-is_some_too_long-clause-long g c = (λ _. (c.are_within.ensures.within (search rules), cc), λ _. refl)

pub returns-in-Ok-clause-limits : goal.returns-in-Ok-clause-limits
returns-in-Ok-clause-limits g c =
    no_fault c.args.limits c.put_race.result (c.are_within.ensures.within (search rules)) (not_by c.put_race.result IsLate Limits (λ never. never) c.put_race.ensures.late)

pub returns-in-Err-clause-limits : goal.returns-in-Err-clause-limits
returns-in-Err-clause-limits g c =
    no_fault c.args.limits (Err c.in-Err.fault) (c.are_within.ensures.within (search rules))
    (not_by (Err c.in-Err.fault) (λ e. e ≡ Memory) Limits (λ is. let e = is in cc) c.in-Err.ensures.fault)

pub returns-in-Ok-clause-long : goal.returns-in-Ok-clause-long
returns-in-Ok-clause-long g c = (λ is. absurd (not_by c.put_race.result IsLate TooLong (λ never. never) c.put_race.ensures.late is), λ both. absurd (let some = both.1 in cc))

pub returns-in-Err-clause-long : goal.returns-in-Err-clause-long
returns-in-Err-clause-long g c = (
  λ is. absurd (not_by (Err c.in-Err.fault) (λ e. e ≡ Memory) TooLong (λ is. let e = is in cc) c.in-Err.ensures.fault is),
  λ both. absurd (let some = both.1 in cc),
)

pub returns-in-Ok-clause-ok : goal.returns-in-Ok-clause-ok
returns-in-Ok-clause-ok g c =
    let old = g.W.Write.contents c.args.writer.now in
    let new = g.W.Write.contents c.put_race.new.writer in
    let result = result_text c.in-Ok.journal.entries in
    on_both c.put_race.result c.put_race.ensures.ok c.put_race.ensures.ok (λ legal is _. (
      is.0,
      record {
        out = replies_text 0 (map (λ t. t.items) c.in-Ok.replies.items) ++ result;
        appended = subst (λ ts. Appends old new (replies_text 0 (map (λ t. t.items) ts) ++ result)) c.deref-in-Ok.ensures.value is.1;
        is = c.in-Ok.ensures.raced.0;
      },
    ))

pub returns-in-Ok-clause-fault : goal.returns-in-Ok-clause-fault
returns-in-Ok-clause-fault g c =
    let old = g.W.Write.contents c.args.writer.now in
    let new = g.W.Write.contents c.put_race.new.writer in
    let result = result_text c.in-Ok.journal.entries in
    let scripts = map (λ s. s.items) c.args.scripts.items in
    let replies = map (λ t. t.items) c.in-Ok.replies.items in
    let race = c.in-Ok.ensures.raced.0 in
    late_stops c.put_race.result c.args.limits scripts old new c.put_race.ensures.late
    (on_err c.put_race.result (raced_in_part c.args.limits scripts (replies_text 0 replies ++ result) old new race)
    (subst (λ ts. OnErr c.put_race.result (Wrote old new (IsFrontOf (replies_text 0 (map (λ t. t.items) ts) ++ result)))) c.deref-in-Ok.ensures.value c.put_race.ensures.err))
    (each_err c.put_race.result (λ e. on_memory e (raced_to_pass c.args.limits scripts replies (replies_text 0 replies ++ result) old new race c.in-Ok.ensures.raced.1))
    (subst (λ ts. IfErr c.put_race.result (λ e. e ≡ Memory → Wrote old new (AreFirstTexts (map (λ t. t.items) ts)))) c.deref-in-Ok.ensures.value c.put_race.ensures.whole))

pub returns-in-Err-clause-fault : goal.returns-in-Err-clause-fault
returns-in-Err-clause-fault g c =
    let held = g.W.Write.contents c.args.writer.now in
    let scripts = map (λ s. s.items) c.args.scripts.items in
    subst (λ e. RaceLeaves c.args.limits scripts e held held) (sym c.in-Err.ensures.fault) (nothing_raced c.args.limits scripts held)

pub returns-in-Ok-clause-reported : goal.returns-in-Ok-clause-reported
returns-in-Ok-clause-reported g c = always_ok c.put_race.result c.in-Ok.ensures.reported
