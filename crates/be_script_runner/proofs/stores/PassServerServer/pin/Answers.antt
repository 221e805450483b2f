use Rattle.std.proofs.Common.{◌≡◌, None, ap, ◌∙◌, sym, subst, length}
use Rattle.be_table.specs.declared.pass.Knowledge.{Knowledge}
use Rattle.be_store.specs.SmallMachine.{Pin}
use Rattle.be_script_runner.specs.Served.{Seated, known, seat_of}
use Rattle.be_script_runner.specs.Store.{Meanwhile, pinned}
use Rattle.be_script_runner.proofs.CallLemmas.{leads_more}
use Rattle.be_script_runner.proofs.PassLemmas.{pins_meanwhile}
use Rattle.be_script_runner.proofs.stores.PassServerServer.pin.Goals as goal

pub returns-clause-pins : goal.returns-clause-pins
returns-clause-pins c =
    let same = ap (λ (s : Seated). s.knows) c.self.view_is in
    subst (λ (a : Knowledge). Meanwhile (known a) (λ s. (known c.pin-number.new.pass.knows ≡ pinned s) × (c.pin-number.result ≡ length s.journal))) same
    (pins_meanwhile c.self.inside.pass.knows c.pin-number.new.pass.knows c.is_pass.ensures c.is_pass-2.ensures (c.pin-number.ensures.pass.0.2 ∙ sym c.self.invariant.0.0.2)
    c.pin-number.result (subst (λ (a : Knowledge). (known a).pin ≡ None) (sym same) c.requires) c.pin-number.ensures.pin)

pub returns-clause-stays : goal.returns-clause-stays
returns-clause-stays c = ap (λ (a : Knowledge). (c.self.inside.store.now, a.number, c.self.inside.first.value.knows)) c.pin-number.ensures.pin.same ∙ ap seat_of c.self.view_is

pub invariant_of-self : goal.invariant_of-self
invariant_of-self c = (
  c.pin-number.ensures.pass,
  leads_more c.self.inside.first.value.knows c.self.inside.pass.knows (Pin c.pin-number.result) c.pin-number.new.pass.knows c.self.invariant.1
      c.pin-number.ensures.pin,
)
