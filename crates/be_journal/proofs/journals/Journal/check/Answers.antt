use Rattle.std.proofs.Common.{◌≡◌, ◌≤◌, ◌+◌, ◌*◌, length, refl, sym, ap, subst, ◌∙◌, Ok, arith}
use Rattle.be_volume.specs.Volume.{empty, steps}
use Rattle.be_journal.specs.Journal.{Log, Agrees}
use Rattle.be_journal.proofs.LegalLemmas.{replay_agreed, agree_more, differs, never, past}
use Rattle.be_journal.proofs.ReaderLemmas.{pulled}
use Rattle.be_journal.proofs.journals.Journal.check.Goals as goal

pub returns-then-not-agrees-clause-ok : goal.returns-then-not-agrees-clause-ok
returns-then-not-agrees-clause-ok c =
    let p = pulled c.args.self.now.entries c.loop.counter c.in_ok-entry.entry c.next.new.self (sym c.loop.invariant.left ∙ c.in_ok-entry.ensures.next) in (
      λ h. never h,
      λ legal. differs empty c.args.self.now.entries c.loop.counter c.in_ok-entry.entry c.loop.reached c.in_ok-next.agrees p.short p.is c.loop.invariant.volume
          c.in_ok-next.ensures.is c.if-not-agrees.true legal,
    )

pub loop-preserved : goal.loop-preserved
loop-preserved c =
    let p = pulled c.args.self.now.entries c.loop.counter c.in_ok-entry.entry c.next.new.self (sym c.loop.invariant.left ∙ c.in_ok-entry.ensures.next) in
    let reported : steps c.loop.reached c.in_ok-entry.entry.ops ≡ Ok (c.in_ok-next.next, c.in_ok-entry.entry.dones) = c.in_ok-next.ensures.so c.if-not-agrees.false in
    let old : c.in_ok-next.next.next ≤ c.loop.reached.next + 64 = c.in_ok-next.ensures.grows in
    let bound : c.loop.reached.next ≤ 1 + 64 * c.loop.counter = c.loop.invariant.bound in
    record {
      left = p.left;
      volume = replay_agreed empty _ _ _ _ _ p.short p.is c.loop.invariant.volume reported;
      bound = omega arith;
      agree = agree_more empty _ _ c.in_ok-entry.entry p.is (subst (λ s. Agrees s c.in_ok-entry.entry) c.loop.invariant.volume (c.in_ok-next.next, reported)) c.loop.invariant.agree p.short;
    }

pub returns-clause-ok : goal.returns-clause-ok
returns-clause-ok c =
    let len : c.self.inside.len ≡ length c.args.self.now.entries = c.self.invariant.len ∙ ap (λ (l : Log). length l.entries) c.self.view_is in
    let all : length c.args.self.now.entries ≤ c.loop.counter = omega (arith, len, c.loop-test.false) in (
      λ h i entry short e. c.loop.invariant.agree i entry (past i c.loop.counter (length c.args.self.now.entries) all short) e,
      λ legal. refl,
    )
