use Rattle.std.proofs.Common.{◌≡◌, ◌∙◌, true, sym, ap, subst, Ok}
use Rattle.std.specs.Cmp.Lexicographic.{pointwise}
use Rattle.be_volume.specs.Volume.{steps}
use Rattle.be_journal.proofs.DoneLemmas.{same_outcomes, own_outcomes, outcomes_of, reported}
use Rattle.be_volume.specs.contracts.ops.DonePartialEq.TheImpl.{eq-value as eq}
use Rattle.be_journal.proofs.journals.enter_if_agreed.Goals as goal

pub returns-in-Ok-clause-so : goal.returns-in-Ok-clause-so
returns-in-Ok-clause-so c = λ same.
    ap (steps c.args.volume) (sym c.as_slice.ensures) ∙ reported (λ d. d.items) c.args.volume c.in_ok-volume.volume c.as_slice.result.now c.in_ok-volume.answer c.in-Ok.dones c.in-Ok.is c.in_ok-volume.ensures.replays ∙ ap (λ dones. Ok (c.in_ok-volume.volume, dones))
    (sym c.as_slice-in-Ok.ensures.value ∙ same_outcomes _ _ (sym c.eq-agrees.ensures ∙ same) ∙ c.as_slice-in-Ok-2.ensures)

pub returns-in-Ok-clause-is : goal.returns-in-Ok-clause-is
returns-in-Ok-clause-is c = λ agrees.
    let one : Ok (c.in_ok-volume.volume, c.in-Ok.dones.items) ≡ Ok (agrees.0, c.args.entry.now.dones) =
    sym (reported (λ d. d.items) c.args.volume c.in_ok-volume.volume c.as_slice.result.now c.in_ok-volume.answer c.in-Ok.dones c.in-Ok.is c.in_ok-volume.ensures.replays) ∙ ap (steps c.args.volume) c.as_slice.ensures ∙ agrees.1 in
    let same : c.as_slice-in-Ok.result.now ≡ c.as_slice-in-Ok-2.result.now = c.as_slice-in-Ok.ensures.value ∙ ap (outcomes_of c.in-Ok.dones.items) one ∙ sym c.as_slice-in-Ok-2.ensures in
    c.eq-agrees.ensures ∙ subst (λ xs. pointwise eq.it c.as_slice-in-Ok.result.now xs ≡ true) same (own_outcomes c.as_slice-in-Ok.result.now)
