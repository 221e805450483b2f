-- New passes, and the steps that each call of this program makes.
use Rattle.std.proofs.Common.{◌≡◌, ℕ, List, [], ◌∷◌, ◌+◌, false, refl, sym, ap, subst}
use Rattle.std.specs.declared.result.Result.{Result}
use Rattle.std.specs.declared.result.Result.TheVariants.{Ok}
use Rattle.be_query.specs.Grammar.{Formula}
use Rattle.be_value.specs.declared.refusals.Refusal.{Refusal}
use Rattle.be_volume.specs.Query.{scan}
use Rattle.be_volume.specs.declared.ops.Done.{Done}
use Rattle.be_volume.specs.declared.ops.Op.{Op}
use Rattle.be_table.specs.Place.{Opened, SeatFacts}
use Rattle.be_table.specs.Rule.{newcomer}
use Rattle.be_table.specs.Works.{AreNew}
use Rattle.be_table.specs.declared.pass.Knowledge.{Knowledge}
use Rattle.be_store.specs.Calls.{Calls}
use Rattle.be_store.specs.History.{Accepts, Pins, Unpins}
use Rattle.be_store.specs.Passes.{HasRead, IsBetweenCalls, IsPassOf, volume_pinned}
use Rattle.be_store.specs.Views.{Nodes}
use Rattle.example_history.specs.Visits.{IsNew, asks, writes}

-- the pass k of a store that was just opened
new_pass : (t : Opened) (s : SeatFacts) (steps k : ℕ) → s.blank ≡ false → s.table ≡ t.id → s.knows ≡ newcomer t.limits steps k → IsPassOf t s × IsNew s.knows k
new_pass t s steps k filled its new =
    (((filled, its, ap (λ (x : Knowledge). x.limits) new), subst (λ (x : Knowledge). IsBetweenCalls t.limits.passes x.phase) (sym new) tt), (t.limits, steps, new))

pub first_new : (t : Opened) (items : List SeatFacts) (first second : SeatFacts) → items ≡ first ∷ second ∷ [] → AreNew t 0 items → IsPassOf t first × IsNew first.knows 0
first_new t items first second e h =
    let both : AreNew t 0 (first ∷ second ∷ []) = subst (AreNew t 0) e h in
    new_pass t first 1 0 both.0.0 both.0.1 both.0.2

pub second_new : (t : Opened) (items : List SeatFacts) (first second : SeatFacts) → items ≡ first ∷ second ∷ [] → AreNew t 0 items → IsPassOf t second × IsNew second.knows 1
second_new t items first second e h =
    let both : AreNew t 0 (first ∷ second ∷ []) = subst (AreNew t 0) e h in
    new_pass t second 2 1 both.1.0.0 both.1.0.1 both.1.0.2

pub written_once : (a z : Knowledge) (ops : List Op) (n : ℕ) (dones : List Done) → Accepts a z ops n dones → Calls a (writes a.number ops n dones) z
written_once a z ops n dones h = (z, (ops, dones, refl, h), refl)

pub asked : (a b d z : Knowledge) (query : Formula) (pin : ℕ) (nodes : List ℕ) → Pins a b pin → scan (volume_pinned b) query ≡ Ok nodes → HasRead b d → Unpins d z → Calls a (asks query pin nodes) z
asked a b d z query pin nodes pinned answer read out =
    (b, pinned, (d, (pin, pinned.pin, ap (λ (r : Result (List ℕ) Refusal). Nodes r) (sym answer), read), (z, out, refl)))
