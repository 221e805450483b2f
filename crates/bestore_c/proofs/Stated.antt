-- What calls return of the operations that rebuild a version.
use Rattle.std.proofs.Common.{◌≡◌, ◌⊎◌, ◌≤◌, ◌<◌, ℕ, List, [], ◌++◌, length, Option, Some, None, Result, Ok, Err, false, inl, inr, refl, ap, sym, subst, ◌∙◌}
use Rattle.std.proofs.lemmas.Bool.{true≢false}
use Rattle.std.specs.Prelude.{is_some}
use Rattle.be_session.specs.Fault.{fault_code}
use Rattle.be_session.specs.Operations.{AreEncoded}
use Rattle.be_session.specs.Sitting.{AtPin}
use Rattle.be_session.specs.States.{LackRoom, WaitAfter, unread, unreported, waiting}
use Rattle.be_session.specs.declared.faults.Fault.{Fault}
use Rattle.be_session.specs.declared.faults.Fault.TheVariants.{Refused}
use Rattle.be_session.specs.declared.lists.Operation.{Operation}
use Rattle.be_session.specs.declared.states.StatePlace.{StatePlace}
use Rattle.be_volume_state.specs.Rebuilding.{state_ops}
use Rattle.be_value.specs.declared.refusals.Refusal.TheVariants.{OutOfMemory}
use Rattle.be_volume.specs.Volume.{State}
use Rattle.be_volume.specs.declared.ops.Op.{Op}
use Rattle.bestore_c.proofs.Finding.{fault_in}
use Rattle.bestore_c.proofs.Lists.{put_out}
use Rattle.bestore_c.specs.Places.{over}
use Rattle.bestore_c.specs.States.{RemainsToReport, ReportsNext, ReportsState, unreported_at}
use Rattle.bestore_c.specs.declared.handle.Counts.{Counts}

-- A new place has the same operations left as its closed handle had.
pub begun : (volume : State) (o : Option StatePlace) (p : StatePlace) → is_some o ≡ false → unreported volume p ≡ state_ops volume → unreported volume p ≡ unreported_at volume o
begun volume None p closed is = is
begun volume (Some q) p closed is = absurd (true≢false closed)

-- If the list is empty, so is the rest.
none_left : (ops rest : List Op) → (ops ≡ [] → ops ++ rest ≡ []) → ops ≡ [] → rest ≡ []
none_left ops rest ends none = subst (λ (xs : List Op). xs ++ rest ≡ []) none (ends none)

short : (places : List Operation) (byte_places : List ℕ) (counts : Counts) (os : List Operation) (bs : List ℕ)
    → counts.operations ≡ length os → counts.bytes ≡ length bs → LackRoom (length places) (length byte_places) os bs
    → (length places < counts.operations) ⊎ (length byte_places < counts.bytes)
short places byte_places counts os bs many size lacks =
    elim lacks [
      | inl low ↦ inl (subst (λ n. length places < n) (sym many) low)
      | inr low ↦ inr (subst (λ n. length byte_places < n) (sym size) low)
    ]

stays : (ops rest still : List Op) (counts : Counts) (places : List Operation) (byte_places : List ℕ) (os : List Operation) (bs : List ℕ)
    → counts.operations ≡ length os → counts.bytes ≡ length bs → WaitAfter ops (length places) (length byte_places) os bs still
    → RemainsToReport ops rest counts places byte_places (still ++ rest)
stays ops rest still counts places byte_places os bs many size beyond =
    elim beyond [
      | inl fits ↦ inl (
        subst (λ n. n ≤ length places) (sym many) fits.0.0,
        subst (λ n. n ≤ length byte_places) (sym size) fits.0.1,
        ap (λ (ws : List Op). ws ++ rest) fits.1,
      )
      | inr lacks ↦ inr (short places byte_places counts os bs many size lacks.0, ap (λ (ws : List Op). ws ++ rest) lacks.1)
    ]

-- The call returned what was ready.
pub reported_ready : (volume : State) (p q : StatePlace) (counts : Counts) (places filled : List Operation) (byte_places bytes : List ℕ) (code : ℕ)
    (os : List Operation) (bs : List ℕ)
    → length (waiting p) ≤ 64 → (waiting p ≡ [] → unreported volume p ≡ []) → unread volume q ≡ unread volume p → AreEncoded os bs (waiting p)
    → WaitAfter (waiting p) (length places) (length byte_places) os bs (waiting q)
    → code ≡ 0 → counts.operations ≡ length os → filled ≡ over os places → counts.bytes ≡ length bs → bytes ≡ over bs byte_places
    → ReportsNext (unreported volume p) (unreported volume q) counts places filled byte_places bytes code
reported_ready volume p q counts places filled byte_places bytes code os bs few ends same are beyond done many put size texts =
    let ops = waiting p in
    let rest = unread volume p in
    inr (
      ops,
      rest,
      refl,
      (few, none_left ops rest ends),
      done,
      put_out ops counts places filled byte_places bytes code os bs are done many put size texts,
      subst (λ later. RemainsToReport ops rest counts places byte_places (waiting q ++ later)) (sym same)
          (stays ops rest (waiting q) counts places byte_places os bs many size beyond),
    )

-- Memory ran out, and the call returned nothing.
pub reported_none : (volume : State) (p q : StatePlace) (counts : Counts) (places filled : List Operation) (byte_places bytes : List ℕ) (code : ℕ) (e : Fault)
    → code ≡ fault_code e → e ≡ Refused OutOfMemory → unread volume q ≡ unread volume p → waiting q ≡ waiting p
    → ReportsNext (unreported volume p) (unreported volume q) counts places filled byte_places bytes code
reported_none volume p q counts places filled byte_places bytes code e is none same waits =
    inl (is ∙ ap fault_code none, ap (λ (ws : List Op). ws ++ unread volume q) waits ∙ ap (λ later. waiting p ++ later) same)

module _ (before mid still : List Op) (counts : Counts) (places filled : List Operation) (byte_places bytes : List ℕ) (code : ℕ) where
  -- The call returned the next list, at a pin.
  pub state_reported : {X : Type 0} (pin : Option ℕ) (x : X) (meant : Type 0) → AtPin {X = X} pin (Ok x) meant → mid ≡ before
      → ReportsNext mid still counts places filled byte_places bytes code → ReportsState pin before still counts places filled byte_places bytes code
  state_reported None x meant pinned same reported = cc
  state_reported (Some n) x meant pinned same reported = subst (λ l. ReportsNext l still counts places filled byte_places bytes code) same reported

  -- There was no pin, or memory ran out.
  pub state_unreported : (X : Type 0) (pin : Option ℕ) (e : Fault) → AtPin {X = X} pin (Err e) (e ≡ Refused OutOfMemory) → still ≡ before → code ≡ fault_code e
      → ReportsState pin before still counts places filled byte_places bytes code
  state_unreported X None e pinned same is = (inl (is ∙ ap (λ (r : Result X Fault). fault_code (fault_in r)) pinned), same)
  state_unreported X (Some n) e pinned same is = inl (is ∙ ap fault_code pinned, same)

  -- Memory ran out for the place itself.
  pub state_spent : (pin : Option ℕ) → still ≡ before → code ≡ 10 → ReportsState pin before still counts places filled byte_places bytes code
  state_spent None same ten = (inr ten, same)
  state_spent (Some n) same ten = inl (ten, same)
