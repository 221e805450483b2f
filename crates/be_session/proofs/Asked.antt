-- A read that fails after the check for a pin.
use Rattle.std.proofs.Common.{◌≡◌, ◌⊎◌, ℕ, List, [], Option, Some, Result, Ok, Err, ap, inl, inr, refl, subst, sym}
use Rattle.std.specs.Result.{IsErrAnd}
use Rattle.be_query.specs.View.{IsMemory}
use Rattle.be_session.specs.Sitting.{AtPin, ReadAnswers}
use Rattle.be_session.specs.Ways.{if_answered}
use Rattle.be_session.specs.declared.faults.Fault.{Fault}
use Rattle.be_session.specs.declared.faults.Fault.TheVariants.{Refused}
use Rattle.be_value.specs.declared.refusals.Refusal.{Refusal}

-- if the query returns an error, so does the call that returns a text
without_text : (e : Refusal) (meant : Result (List ℕ) Refusal) → IsMemory e (meant ≡ Err e) → IsMemory e (if_answered [] meant ≡ Err e)
without_text e meant (inl memory) = inl memory
without_text e meant (inr is) = inr (ap (if_answered []) is)

unanswered : {X : Type 0} (view : X → List ℕ) (result : Result X Fault) (e : Refusal) (meant : Result (List ℕ) Refusal) → IsErrAnd result (λ fault. fault ≡ Refused e)
    → IsMemory e (meant ≡ Err e) → ReadAnswers view result (if_answered [] meant)
unanswered view (Ok x) e meant is why = elim is [ ]
unanswered view (Err fault) e meant is why = (e, is, without_text e meant why)

pub refused : {X : Type 0} (view : X → List ℕ) (pin : Option ℕ) (number : ℕ) (result : Result X Fault) (e : Refusal) (meant : Result (List ℕ) Refusal)
    → pin ≡ Some number → IsErrAnd result (λ fault. fault ≡ Refused e) → IsMemory e (meant ≡ Err e) → AtPin pin result (ReadAnswers view result (if_answered [] meant))
refused view pin number result e meant pinned is why =
    subst (λ p. AtPin p result (ReadAnswers view result (if_answered [] meant))) (sym pinned) (unanswered view result e meant is why)
