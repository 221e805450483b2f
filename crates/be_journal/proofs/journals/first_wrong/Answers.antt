use Rattle.std.proofs.Common.{◌≡◌, ◌<◌, ◌≤◌, ◌+◌, ◌*◌, sym, ap, subst, ◌∙◌, Ok, Some, arith}
use Rattle.be_volume.specs.Volume.{empty, steps}
use Rattle.be_journal.specs.Journal.{Agrees, IsFirstWrong}
use Rattle.be_journal.proofs.LegalLemmas.{replay_agreed, agree_more, front_legal, not_agreed, past}
use Rattle.be_journal.proofs.journals.first_wrong.Goals as goal

pub returns-then-not-agrees : goal.returns-then-not-agrees
returns-then-not-agrees c =
    let i = c.loop-entry.invariant in
    subst (λ place. IsFirstWrong c.args.entries.now (Some place)) (sym i.place) (
      c.loop-entry-test.true,
      front_legal empty c.args.entries.now c.loop-entry.entry-index c.loop-entry-test.true i.agree,
      not_agreed empty c.args.entries.now c.loop-entry.entry-index c.entry-item.result c.loop-entry.reached c.in_ok-next.agrees c.loop-entry-test.true c.entry-item.is i.volume
          c.in_ok-next.ensures.is c.if-not-agrees.true,
    )

pub loop-entry-preserved : goal.loop-entry-preserved
loop-entry-preserved c =
    let reported : steps c.loop-entry.reached c.entry-item.result.ops ≡ Ok (c.in_ok-next.next, c.entry-item.result.dones) = c.in_ok-next.ensures.so c.if-not-agrees.false in
    let old : c.in_ok-next.next.next ≤ c.loop-entry.reached.next + 64 = c.in_ok-next.ensures.grows in
    let bound : c.loop-entry.reached.next ≤ 1 + 64 * c.loop-entry.entry-index = c.loop-entry.invariant.bound in
    record {
      place = ap (λ n. n + 1) c.loop-entry.invariant.place;
      volume = replay_agreed empty _ _ _ _ _ c.loop-entry-test.true c.entry-item.is c.loop-entry.invariant.volume reported;
      bound = omega arith;
      agree = agree_more empty _ _ c.entry-item.result c.entry-item.is (subst (λ s. Agrees s c.entry-item.result) c.loop-entry.invariant.volume (c.in_ok-next.next, reported)) c.loop-entry.invariant.agree c.loop-entry-test.true;
    }

pub returns : goal.returns
returns c = λ i entry short e. c.loop-entry.invariant.agree i entry (past i c.loop-entry.entry-index _ c.loop-entry-test.false short) e
